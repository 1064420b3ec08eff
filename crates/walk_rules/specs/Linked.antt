-- The rules as the walker reads them, against the grammar and the table.
use Rattle.std.specs.Prelude.{ℕ, ◌+◌, ◌≡◌, List, map, length}
use Rattle.std.proofs.Math.Option.{some}
use Rattle.language.specs.Grammar.{Grammar, Rule, rule_at}
use Rattle.language.specs.Listing.{is_unit}
use Rattle.leftcorner.specs.Table.{Table, group_entries, automaton}
use Rattle.walk_tables.specs.Memory.{figure_of, memory_grammar, entry_state}
use Rattle.walk_tables.specs.Memory as memory

-- row i holds what an announce of rule i needs: the states to pop, the left side, and the states of its groups' entries
pub record Linked (rules : List ℕ) (start : ℕ) (g : Grammar) (t : Table) : Type 0 where
  pub pops_is : (i : ℕ) {r : Rule} → rule_at g i ≡ some r → figure_of rules i 0 ≡ length r.before
  pub left_is : (i : ℕ) {r : Rule} → rule_at g i ≡ some r → 64 + figure_of rules i 1 ≡ r.left
  pub pushes : (i : ℕ) {r : Rule} → rule_at g i ≡ some r
      → map (entry_state start) (memory.group_entries rules i (figure_of rules i 3)) ≡ map (automaton g t).enter (group_entries g t i)
  pub units_is : (i : ℕ) → is_unit (rule_at (memory_grammar rules) i) ≡ is_unit (rule_at g i)
