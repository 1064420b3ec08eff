-- Entry lines that are read: as many as the book's first line says, their states and symbols declared, no string twice, in order of first use.
use Prim.Native.Nat.{ℕ, ◌≤◌}
use mathlib.Core.Path.{◌≡◌, ap, subst, ◌∙◌}
use mathlib.Core.Logic.{◌⊎◌, ⊎_elim}
use mathlib.Core.List.{List, [], ◌∷◌, ◌++◌}
use mathlib.Core.Bool.{true}
use mathlib.Core.Option.{some}
use native.Mathlib.Omega.{arith}
use lib.ListN.{length, get_or, drop, length-drop}
use Rattle.language.proofs.TestLaws.{both_true}
use Rattle.language.specs.Grammar.{Grammar, at, IsTerminal, IsNonterminal}
use Rattle.language.specs.Sentence.{In, here, there}
use Rattle.symbol.specs.Symbol.{is_declared}
use Rattle.symbol.proofs.KindLaws.{is_declared_lem}
use Rattle.leftcorner.specs.Table.{EntryLine, E, string_of, entry_from}
use Rattle.leftcorner.proofs.ReadOff.{clash, entry_found}
use Rattle.table_order.proofs.UseLaws.{EntriesFollow, follow_more}
use Rattle.table_lines.specs.declared.Judgement.{Judgement}
use Rattle.table_lines.specs.Line.{line_at}
use Rattle.table_lines.specs.Block.{Outcome, takes, stops, read}
use Rattle.table_lines.proofs.BlockLaws.{lines_keep}
use Rattle.table_entries.specs.Entries.{all_declared, judge_entry, entry_next, entries_from}
use Rattle.table_entries.proofs.NextLaws.{EntryFine, entry_fine}
use Rattle.table_facts.proofs.Lines.{all_line, judged_goes, Came, judged_came, came_onward}
use Rattle.table_facts.proofs.Blocks.{block_ends, Each, each_none, each_more, Once, once_none, once_more}

abbrev pub entry_string : EntryLine → List ℕ
entry_string x = string_of (some x)

module _ (g : Grammar) (states : ℕ) where
  pub record EntryDeclared (s : ℕ) (γ : List ℕ) : Type 0 where
    pub state_in : (1 ≤ s) × (s ≤ states)
    pub some_symbol : 1 ≤ length γ
    pub few_symbols : length γ ≤ 15
    pub symbols_in : (X : ℕ) → In X γ → IsTerminal g X ⊎ IsNonterminal g X

  abbrev pub Declared : EntryLine → Type 0
  Declared (E s γ) = EntryDeclared s γ

  declared_in : {X : ℕ} {γ : List ℕ} → all_declared g.terminals g.nonterminals γ ≡ true → In X γ → IsTerminal g X ⊎ IsNonterminal g X
  declared_in {X} e (here {l = γ}) = is_declared_lem g X (both_true (is_declared g.terminals g.nonterminals X) (all_declared g.terminals g.nonterminals γ) e).0
  declared_in e (there {y = Y} {l = γ} m) = declared_in (both_true (is_declared g.terminals g.nonterminals Y) (all_declared g.terminals g.nonterminals γ) e).1 m

  fine_declared : (l : List EntryLine) (ns : List ℕ) → EntryFine g.terminals g.nonterminals g.rules states l ns → EntryDeclared (get_or ns 0 0) (drop 1 ns)
  fine_declared l ns f = record {
    state_in = (f.some_state, f.few_states);
    some_symbol = omega (arith, f.long, length-drop 1 ns);
    few_symbols = omega (arith, f.short, length-drop 1 ns);
    symbols_in = λ X m. declared_in f.declared m;
  }

-- no earlier entry has the string
new_string : (l : List EntryLine) (γ : List ℕ) → entry_from 1 l γ ≡ 0 → Each (λ y. entry_string y ≡ γ → ⊥) l
new_string l γ e = record { each = λ k {x = y} h q. other k y h q }
  where
    other : (k : ℕ) (y : EntryLine) → at l k ≡ some y → entry_string y ≡ γ → ⊥
    other k (E s δ) h q = let r = entry_found l γ 0 k s (h ∙ ap (λ (α : List ℕ). some (E s α)) q) in omega (arith, e, r.3)

module _ (g : Grammar) (s : List ℕ) (states : ℕ) where
  abbrev next : ℕ → List EntryLine → Outcome EntryLine
  next = entry_next s g.terminals g.nonterminals g.rules states

  abbrev judged_as : List EntryLine → ℕ → List ℕ → Judgement
  judged_as = judge_entry g.terminals g.nonterminals g.rules states

  abbrev made_of : ℕ → List ℕ → EntryLine
  made_of letter ns = E (get_or ns 0 0) (drop 1 ns)

  pub entry_came : (at : ℕ) (l : List EntryLine) (x : EntryLine) (past : ℕ) → next at l ≡ takes x past → Came s at (judged_as l) made_of x past
  unfolding entry_next
  entry_came at l x past =
      all_line (λ o. o ≡ takes x past → Came s at (judged_as l) made_of x past) (line_at s at) (judged_came s at (judged_as l) made_of) (λ q. clash cc)

  entry_goes : (at : ℕ) (l : List EntryLine) → next at l ≡ stops → ⊥
  unfolding entry_next
  entry_goes at l =
      all_line (λ o. o ≡ stops → ⊥) (line_at s at) (λ letter ns past e. judged_goes (judged_as l letter ns) at (made_of letter ns) past) (λ q. clash cc)

  abbrev Kept : List EntryLine → Type 0
  Kept l = Each (Declared g states) l × Once entry_string l × EntriesFollow g.rules l

  entry_kept : (at : ℕ) (l : List EntryLine) (x : EntryLine) (past : ℕ) → Kept l → next at l ≡ takes x past → Kept (l ++ x ∷ [])
  entry_kept at l x past h e =
      let c = entry_came at l x past e in
      let f = entry_fine g.terminals g.nonterminals g.rules states l c.letter c.numbers c.fine in
      subst (λ (y : EntryLine). Kept (l ++ y ∷ [])) c.made (
        each_more (Declared g states) h.0 (fine_declared g states l c.numbers f),
        once_more entry_string h.1 (new_string l (drop 1 c.numbers) f.new),
        follow_more g.rules l (get_or c.numbers 0 0) (drop 1 c.numbers) h.2 f.in_order,
      )

  module _ (count at : ℕ) {es : List EntryLine} {end : ℕ} (e : entries_from count s g.terminals g.nonterminals g.rules states at ≡ read es end) where
    kept : Kept es
    kept = lines_keep Kept next entry_kept count at [] (each_none (Declared g states), once_none entry_string, tt) es end e

    pub entries_declared : Each (Declared g states) es
    entries_declared = kept.0

    pub entries_once : Once entry_string es
    entries_once = kept.1

    pub entries_follow : EntriesFollow g.rules es
    entries_follow = kept.2

    pub entries_counted : length es ≡ count
    entries_counted =
        ⊎_elim (λ h. omega (arith, h.0)) (λ q. absurd (entry_goes end es q))
        (block_ends next (λ at l x past q. came_onward (entry_came at l x past q)) count at [] e)
