-- A grammar and its entry strings in memory, before any state is known.
use Rattle.std.specs.Prelude.{ℕ, zero, suc, ◌≡◌, refl, List, [], length}
use Rattle.std.proofs.Common.{ap, ◌∙◌}
use Rattle.language.specs.Grammar.{Grammar, at}
use Rattle.language.specs.WellFormed as language
use Rattle.leftcorner.specs.Table.{EntryLine, Table, entry_at}
use Rattle.build_states.specs.Strings.{entry_strings, entry_lines}
use Rattle.build_states.specs.States.{alone}
use Rattle.memory.specs.Memory.{HoldsItems}

pub record HoldsGrammar (items : List ℕ) (rules strings : ℕ) (g : Grammar) : Type 0 where
  pub formed : language.WellFormed g
  pub rows : HoldsItems items g (alone g [])
  pub rule_count : length g.rules ≡ rules
  pub string_count : length (entry_strings g) ≡ strings

-- the rows of items depend on the entries of a table alone
pub rows_over : {items : List ℕ} {g : Grammar} (t u : Table) → t.entries ≡ u.entries → HoldsItems items g t → HoldsItems items g u
rows_over t u e h = record { rule_row = h.rule_row; entry_row = λ k s q. h.entry_row k s (same k ∙ q) }
  where
    same : (k : ℕ) → entry_at t k ≡ entry_at u k
    same zero = refl
    same (suc k) = ap (λ (l : List EntryLine). at l k) e

-- so any table with the grammar's entries will do
pub holds_grammar : {items : List ℕ} {rules strings : ℕ} {g : Grammar} (t : Table) → language.WellFormed g → t.entries ≡ entry_lines 1 (entry_strings g) → HoldsItems items g t
    → length g.rules ≡ rules → length (entry_strings g) ≡ strings → HoldsGrammar items rules strings g
holds_grammar {g = g} t w e h rc sc = record { formed = w; rows = rows_over t (alone g []) e h; rule_count = rc; string_count = sc }
