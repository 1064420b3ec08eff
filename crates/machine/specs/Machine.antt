-- A machine in memory that makes the steps of a table's automaton. Of two books that are accepted this is all that a walk has to know.
use Rattle.std.specs.Prelude.{ℕ, ◌≤◌, ◌<◌, ◌≡◌, List, [], ◌∷◌, Result, Ok, Err}
use Rattle.language.specs.Grammar.{Grammar}
use Rattle.language.specs.Listing.{units_in}
use Rattle.leftcorner.specs.Machine.{Event, on, step, start}
use Rattle.leftcorner.specs.Table.{Table, automaton}
use Rattle.reply.specs.declared.Refusal.{Refusal}
use Rattle.walk_tables.specs.Memory.{memory_grammar, memory_automaton}
use Rattle.table.specs.Book.{Reading, whole, rejected}
use Rattle.walk_tables.specs.declared.Machine.{Machine}

-- every state of a stack fits a byte
abbrev pub AllLow : List ℕ → Type 0
AllLow [] = Unit {0}
AllLow (q ∷ l) = (q < 256) × AllLow l

pub record Drives (g : Grammar) (t : Table) (mem : Machine) : Type 0 where
  pub terminals_is : mem.terminals ≡ g.terminals
  pub few_terminals : g.terminals ≤ 63
  -- the memory makes the table's steps
  pub steps : (S : List ℕ) (c : ℕ) → AllLow S → c < 64
      → step (memory_grammar mem.rules) (memory_automaton mem) S c ≡ step g (automaton g t) S c
  -- from the same state, and along stacks for which this holds
  pub start_is : (automaton g t).enter 1 ≡ mem.start
  pub start_low : AllLow (start g (automaton g t))
  pub stays_low : (S : List ℕ) (c : ℕ) (e : Event) (U : List ℕ) → step g (automaton g t) S c ≡ on e U → AllLow S → AllLow U
  -- and counts the table's units
  pub units_is : (l : List ℕ) → units_in (memory_grammar mem.rules) l ≡ units_in g l

-- what loading both books comes to, by their reading
abbrev pub MachineIs : Reading → Result (Unit {0}) Refusal → Machine → Type 0
MachineIs (whole g t) r mem = (r ≡ Ok tt) × Drives g t mem
MachineIs (rejected why) r mem = r ≡ Err why
