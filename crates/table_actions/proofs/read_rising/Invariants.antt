-- So many lines are read, and at most as many as the book has bytes are in the block.
use Rattle.table_actions.specs.Memory.{ActionMemory}
use Rattle.table_actions.specs.Actions.{action_next, actions_from}
use Rattle.table_lines.proofs.BlockLaws.{Loop}
use Rattle.table_lines.specs.Image.{image, flag}
use mathlib.Core.Bool.{Bool}
use mathlib.Core.Path.{◌≡◌}
use Prim.Native.Nat.{ℕ, ◌-◌}
use lib.ListN.{length}
use Rattle.table_actions.proofs.read_rising.Given as goal

abbrev pub invariant-loop-k : goal.invariant-loop-k
invariant-loop-k v =
    (e : ℕ → Bool) → v.initial.named ≡ image (length v.initial.named) (λ q. flag (e q))
    → Loop (actions_from v.s v.t v.n v.rules v.states v.initial.at) (action_next v.s v.t v.n v.rules v.states) (length v.s - v.k) v.at v.k
    (λ l. ActionMemory e (length v.initial.kinds) (length v.initial.values) (length v.initial.gotos) (length v.initial.named) l v.kinds v.values v.gotos v.named v.last)
