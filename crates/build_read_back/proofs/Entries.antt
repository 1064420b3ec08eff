-- The entry lines of a table read back.
use Prim.Native.Nat.{ℕ, suc, ◌≤◌}
use native.Mathlib.Omega.{arith}
use mathlib.Core.Path.{◌≡◌, refl, sym, ap, subst}
use mathlib.Core.Logic.{◌⊎◌, inl, inr}
use mathlib.Core.Bool.{Bool, true, false, or-true}
use mathlib.Core.List.{List, [], ◌∷◌, ◌++◌, map}
use borrow.Author.Tests.{le-leb}
use lib.ListN.{length}
use Rattle.language.specs.Grammar.{Grammar, concat, IsTerminal, IsNonterminal}
use Rattle.language.specs.Sentence.{In, here, there}
use Rattle.language.proofs.Member.{in_right}
use Rattle.language.proofs.Strings.{AllDeclared}
use Rattle.language.specs.WellFormed as grammar
use Rattle.range.proofs.RangeLaws.{true-within}
use Rattle.symbol.specs.Symbol.{is_declared}
use Rattle.symbol.proofs.KindLaws.{terminal_is, nonterminal_is}
use Rattle.leftcorner.specs.Table.{EntryLine, E, Table, same_string, entry_from}
use Rattle.leftcorner.proofs.ReadOff.{same_string_lem}
use Rattle.table_order.proofs.UseLaws.{EntriesFollow, follow_each}
use Rattle.table_lines.specs.Line.{all_at_most}
use Rattle.table_lines.specs.Block.{takes, read}
use Rattle.table_entries.specs.Entries.{all_declared, entry_next, entries_from}
use Rattle.table_entries.proofs.JudgeLaws.{fine}
use Rattle.table_entries.proofs.NextLaws.{entry_taken}
use Rattle.build_book.specs.Text.{line, entry_text}
use Rattle.build_book.proofs.Once.{Once, once_before, SameEntry}
use Rattle.build_book.proofs.Readable.{EntryForm, Readable}
use Rattle.build_read_back.proofs.Line.{Rest, rest_as, line_read}
use Rattle.build_read_back.proofs.Block.{all_at_most_lem, lines_full}

unless : (b : Bool) → (b ≡ true → ⊥) → b ≡ false
unless true f = absurd (f refl)
unless false f = refl

-- ---- the tests of an entry line

no_entry : (l : List EntryLine) (s : ℕ) (γ : List ℕ) (k : ℕ) → ((y : EntryLine) → In y l → SameEntry y (E s γ) → ⊥) → entry_from k l γ ≡ 0
no_entry [] s γ k f = refl
no_entry (E p δ ∷ l) s γ k f = simp (unless (same_string δ γ) (λ e. f (E p δ) here (same_string_lem δ γ e)), no_entry l s γ (suc k) (λ y m. f y (there m)))

module _ (g : Grammar) where
  declared_is : (X : ℕ) → IsTerminal g X ⊎ IsNonterminal g X → is_declared g.terminals g.nonterminals X ≡ true
  unfolding is_declared
  declared_is X (inl h) = simp (terminal_is g X h)
  declared_is X (inr h) = simp (nonterminal_is g X h, or-true)

  all_declared_lem : (γ : List ℕ) → AllDeclared g γ → all_declared g.terminals g.nonterminals γ ≡ true
  all_declared_lem [] h = refl
  all_declared_lem (X ∷ γ) h = simp (declared_is X (h X here), all_declared_lem γ (λ Y m. h Y (there m)))

-- ---- the block
abbrev line_of : EntryLine → List ℕ
line_of (E s γ) = line 69 (s ∷ γ)

text_is : (l : List EntryLine) → entry_text l ≡ concat (map line_of l)
text_is [] = refl
text_is (E s γ ∷ l) = ap (λ (z : List ℕ). line 69 (s ∷ γ) ++ z) (text_is l)

module _ (g : Grammar) (t : Table) (W : grammar.WellFormed g) (R : Readable g t) (s : List ℕ) where
  symbol_low : (X : ℕ) → IsTerminal g X ⊎ IsNonterminal g X → X ≤ 65535
  symbol_low X (inl h) = omega (arith, h.1, W.few_terminals)
  symbol_low X (inr h) = omega (arith, h.1, W.few_nonterminals)

  -- every number of a line is a number
  numbers_low : (u : ℕ) (γ : List ℕ) → EntryForm g t u γ → all_at_most 65535 (u ∷ γ) ≡ true
  numbers_low u γ f = simp (le-leb u 65535 (omega (arith, f.state.1, R.few_states)), all_at_most_lem 65535 γ (λ X n. symbol_low X (f.symbols X n)))

  line_taken : (earlier : List EntryLine) (x : EntryLine) (later : List EntryLine) → t.entries ≡ earlier ++ x ∷ later → (at past : ℕ) (w : List ℕ) → Rest s at (line_of x ++ w) → Rest s past w
      → entry_next s g.terminals g.nonterminals g.rules t.states at earlier ≡ takes x past
  line_taken earlier (E u γ) later e at past w r n =
      let f = R.entry u γ (subst (In (E u γ)) (sym e) (in_right earlier here)) in
      let o = once_before SameEntry earlier (E u γ) later (subst (Once SameEntry) e R.entries_once) in
      let a = numbers_low u γ f in
      entry_taken s g.terminals g.nonterminals g.rules t.states at earlier
      (line_read s 69 (u ∷ γ) w (omega arith) (omega arith) a r n)
      (sym (fine g.terminals g.nonterminals g.rules t.states earlier 69 (u ∷ γ) refl (omega (arith, f.some_symbol))
      (no_entry earlier u γ 1 o) (follow_each g.rules earlier u γ later (subst (EntriesFollow g.rules) e R.entries_follow)) a (omega (arith, f.short)) (true-within 1 u t.states f.state.0 f.state.1) (all_declared_lem g γ f.symbols)))

  pub entries-read : {at end : ℕ} (w : List ℕ) → Rest s at (entry_text t.entries ++ w) → Rest s end w
      → entries_from (length t.entries) s g.terminals g.nonterminals g.rules t.states at ≡ read t.entries end
  entries-read w r n =
      lines_full s line_of (entry_next s g.terminals g.nonterminals g.rules t.states) t.entries line_taken w
      (rest_as (ap (λ (z : List ℕ). z ++ w) (text_is t.entries)) r) n
