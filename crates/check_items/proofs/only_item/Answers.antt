use native.Mathlib.Omega.{arith}
use Rattle.kernel_lines.proofs.LinkLaws.{passed_start, passed_more}
use Rattle.check_items.proofs.only_item.Goals as goal

pub loop-p-init : goal.loop-p-init
loop-p-init c = passed_start c.last_line-p.ensures.0

pub loop-p-preserved : goal.loop-p-preserved
loop-p-preserved c = passed_more c.loop-p.invariant (λ e. omega (arith, e)) (c.is_of.ensures.yes c.if-not-is_of.false) c.line_before-p.ensures.0
