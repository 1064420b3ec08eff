-- Entry lines that are read are the text of these lines.
use Prim.Native.Nat.{ℕ}
use mathlib.Core.Path.{◌≡◌, refl, ap₂, subst, ◌∙◌}
use mathlib.Core.List.{List, ◌∷◌, ◌++◌}
use native.Mathlib.Omega.{arith}
use lib.ListN.{drop}
use Rattle.language.specs.Grammar.{Grammar}
use Rattle.leftcorner.specs.Table.{EntryLine, E}
use Rattle.table_lines.specs.Block.{takes, read}
use Rattle.table_entries.specs.Entries.{entry_next, entries_from}
use Rattle.table_entries.proofs.NextLaws.{entry_fine}
use Rattle.table_facts.proofs.Entries.{entry_came}
use Rattle.build_book.specs.Text.{line, entry_text}
use Rattle.canonical.proofs.Line.{line_written, one_more}
use Rattle.canonical.proofs.Block.{block_written}
use Rattle.canonical.proofs.Judged.{entry_letter, entry_small}

abbrev bytes_of : EntryLine → List ℕ
bytes_of (E s γ) = line 69 (s ∷ γ)

text_more : (x : EntryLine) (l : List EntryLine) → entry_text (x ∷ l) ≡ bytes_of x ++ entry_text l
text_more (E s γ) l = refl

module _ (g : Grammar) (s : List ℕ) (states : ℕ) where
  entry_written : (at : ℕ) (l : List EntryLine) (x : EntryLine) (past : ℕ) → entry_next s g.terminals g.nonterminals g.rules states at l ≡ takes x past
      → drop at s ≡ bytes_of x ++ drop past s
  entry_written at l x past e =
      let c = entry_came g s states at l x past e in
      let ns = c.numbers in
      let f = entry_fine g.terminals g.nonterminals g.rules states l c.letter ns c.fine in
      subst (λ (y : EntryLine). drop at s ≡ bytes_of y ++ drop past s) c.made
      (line_written s at c.line_is (entry_small g.terminals g.nonterminals g.rules states l c.letter ns c.fine)
      ∙ ap₂ (λ (b : ℕ) (vs : List ℕ). line b vs ++ drop past s) (entry_letter g.terminals g.nonterminals g.rules states l c.letter ns c.fine)
      (one_more ns 0 (omega (arith, f.long)) refl))

  pub entries_written : (count at : ℕ) {es : List EntryLine} {end : ℕ} → entries_from count s g.terminals g.nonterminals g.rules states at ≡ read es end
      → drop at s ≡ entry_text es ++ drop end s
  entries_written count at e = block_written s bytes_of entry_text refl text_more (entry_next s g.terminals g.nonterminals g.rules states) entry_written count at e
