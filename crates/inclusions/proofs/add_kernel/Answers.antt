use Rattle.closure.proofs.AddingLaws.{lines_start, lines_more, lines_all}
use Rattle.inclusions.proofs.AskLaws.{line_item}
use Prim.Native.Nat.{◌-◌}
use native.Mathlib.Omega.{arith}
use Rattle.inclusions.proofs.add_kernel.Goals as goal

pub loop-next-init : goal.loop-next-init
loop-next-init c = lines_start _ c.last_line-next.ensures.0

pub loop-next-preserved : goal.loop-next-preserved
loop-next-preserved c =
    lines_more c.loop-next.invariant (λ e. omega (arith, e))
    (line_item (c.loop-next.next - 1) c.item_of-item.ensures.0 c.dot_of-dot.ensures.0 c.add_item.ensures)
    c.line_before-next.ensures.0

pub returns : goal.returns
returns c = lines_all c.loop-next.invariant (omega arith)
