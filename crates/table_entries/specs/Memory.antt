-- Entry lines in memory: their strings as items behind the rules, their states by entry number, and what the next line must follow.
use Rattle.std.specs.Prelude.{ℕ, zero, suc, ◌+◌, ◌*◌, ◌≤◌, ◌≡◌, List, [], ◌∷◌, Bool, false, ◌||◌, eqb, length, get_or, drop}
use Rattle.std.proofs.Math.Option.{some}
use Rattle.std.proofs.lemmas.List.Edits.{sets}
use Rattle.language.specs.Grammar.{Grammar, Rule, at, concat}
use Rattle.language.specs.WellFormed.{WellFormed}
use Rattle.leftcorner.specs.Table.{EntryLine, E, state_of}
use Rattle.items.specs.Layout.{entry_rows, EntryIn, Holds, Shaped}
use Rattle.table_order.specs.Order.{first_use, group_lines}
use Rattle.table_lines.specs.Image.{image, flag}

abbrev pub strings_of : List EntryLine → List (List ℕ)
strings_of [] = []
strings_of (E s γ ∷ l) = γ ∷ strings_of l

-- the state of an entry, by the number of its line
abbrev pub state_at : List EntryLine → ℕ → ℕ
state_at l zero = 0
state_at l (suc k) = state_of (at l k)

-- q is the state of an entry
abbrev pub is_entry_state : List EntryLine → ℕ → Bool
is_entry_state [] q = false
is_entry_state (E s γ ∷ l) q = eqb s q || is_entry_state l q

-- the item table m with these entries behind its rules
unfoldable pub with_entries : List ℕ → ℕ → List EntryLine → List ℕ
with_entries m rules l = sets m (suc rules * 64) (concat (entry_rows (strings_of l)))

-- row after row, m holds the strings of these entries behind the rules
pub record Rows (m : List ℕ) (rules : ℕ) (l : List EntryLine) : Type 0 where
  pub row_in : (k : ℕ) {s : ℕ} {γ : List ℕ} → at l k ≡ some (E s γ) → EntryIn m (suc (rules + k)) γ

-- m holds the rules of g
pub record RulesIn (g : Grammar) (m : List ℕ) (rules : ℕ) : Type 0 where
  pub formed : WellFormed g
  pub holds : Holds m rules g

pub record HoldsRules (m : List ℕ) (rules : ℕ) : Type 0 where
  pub grammar : Grammar
  pub rules_in : RulesIn grammar m rules

-- the first use of the last of the lines
abbrev pub use_of_last : List Rule → List EntryLine → ℕ
use_of_last rs [] = 0
use_of_last rs (E s γ ∷ []) = first_use rs γ
use_of_last rs (x ∷ y ∷ l) = use_of_last rs (y ∷ l)

-- the first use of the last line of a group after the first line; 0 where there is none
abbrev pub last_use : List Rule → List EntryLine → ℕ
last_use rs l = use_of_last rs (group_lines rs (drop 1 l))

-- m holds so many entries behind the rules, and `last` the first use that binds the next one
pub record HoldsEntries (m : List ℕ) (rules entries : ℕ) (last : List ℕ) : Type 0 where
  pub grammar : Grammar
  pub rules_in : RulesIn grammar m rules
  pub lines : List EntryLine
  pub count_is : length lines ≡ entries
  pub rows : Rows m rules lines
  pub last_is : last ≡ last_use grammar.rules lines ∷ []

-- from row i on nothing is stored
abbrev pub Empty : List ℕ → ℕ → Type 0
Empty m i = (j : ℕ) → i * 64 ≤ j → get_or m j 0 ≡ 0

-- memory with these entry lines read: items, entry states, and the states named so far; m was the item table without them
pub record EntryMemory (m : List ℕ) (rules a b : ℕ) (l : List EntryLine) (items states named : List ℕ) : Type 0 where
  pub items_are : items ≡ with_entries m rules l
  pub states_are : states ≡ image a (state_at l)
  pub named_are : named ≡ image b (λ q. flag (is_entry_state l q))
  pub shaped : Shaped items (rules + length l)
  pub rows : Rows items rules l
  pub empty : Empty items (suc (rules + length l))
