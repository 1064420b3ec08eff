-- The lines passed are those of the item.
use mathlib.Core.Path.{◌≡◌}
use Rattle.memory.specs.Memory.{item_at, dot_at}
use Rattle.kernel_lines.proofs.LinkLaws.{Passed}
use Rattle.check_items.proofs.only_item.Given as goal

abbrev pub invariant-loop-p : goal.invariant-loop-p
invariant-loop-p l = Passed (λ m. (item_at l.kernels m ≡ l.i) × (dot_at l.kernels m ≡ 0)) l.kernels l.q l.lines l.p

abbrev pub decreases-loop-p : goal.decreases-loop-p
decreases-loop-p l = l.p
