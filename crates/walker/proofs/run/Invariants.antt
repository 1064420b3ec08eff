-- The position stands in memory, and the walk of the theory goes on from it. The measure bounds the steps that are left.
use lib.ListN.{length}
use Rattle.walk_tables.specs.Memory.{memory_grammar}
use Rattle.walk_steps.specs.Turn.{Stands, steps_left}
use Rattle.walker.proofs.RunLaws.{Going}
use Rattle.walker.proofs.run.Given as goal

abbrev pub invariant-loop-next : goal.invariant-loop-next
invariant-loop-next l = Stands (memory_grammar l.machine.rules) (length l.initial.stack) (length l.initial.listing) l.tokens l.stack l.listing l.p
    × Going l.machine (length l.initial.stack) (length l.initial.listing) l.tokens l.stack l.listing l.p

abbrev pub decreases-loop-next : goal.decreases-loop-next
decreases-loop-next l = steps_left (length l.initial.stack) (length l.initial.listing) l.tokens l.p
