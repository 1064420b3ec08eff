use Rattle.kernel_lines.proofs.LinkLaws.{passed_start, passed_more}
use native.Mathlib.Omega.{arith}
use Rattle.check_targets.proofs.find_stray.Goals as goal

pub loop-p-init : goal.loop-p-init
loop-p-init c = passed_start c.last_line-p.ensures.0

pub loop-p-preserved : goal.loop-p-preserved
loop-p-preserved c = passed_more c.loop-p.invariant (λ e. omega (arith, e)) (c.line_came.ensures.yes c.if-not-line_came.false) c.line_before-p.ensures.0
