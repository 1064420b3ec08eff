-- What one step of the walk over a machine in memory is: the theory's step from the same stack on the same code, for any start.
use Rattle.std.specs.Prelude.{ℕ, List, length, drop}
use Rattle.language.specs.First.{next}
use Rattle.leftcorner.specs.Machine.{step}
use Rattle.walk_tables.specs.declared.Machine.{Machine}
use Rattle.walk_tables.specs.Memory.{memory_grammar, memory_automaton}
use Rattle.walk_stack.specs.Stack.{tops}
use Rattle.walk_steps.specs.declared.Position.{Position}
use Rattle.walk_steps.specs.declared.Turn.{Turn}
use Rattle.walk_steps.specs.Turn.{Turned, with_cells}

abbrev pub Advances : Machine → List ℕ → List ℕ → List ℕ → Position → Turn → List ℕ → List ℕ → Type 0
Advances mem tokens stack listing p t stack' listing' =
    (start : ℕ) → Turned (memory_grammar mem.rules) (memory_automaton (with_cells mem mem.kinds mem.values start)) (length stack) (length listing) tokens stack listing p
    (step (memory_grammar mem.rules) (memory_automaton (with_cells mem mem.kinds mem.values start)) (tops stack p.height) (next (drop p.taken tokens) 0))
    stack' listing' t
