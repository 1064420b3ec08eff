use Rattle.closure.proofs.AddingLaws.{lines_start, lines_more, lines_all}
use native.Mathlib.Omega.{arith}
use Rattle.inclusions.proofs.add_lines.Goals as goal

pub loop-p-init : goal.loop-p-init
loop-p-init c = lines_start _ c.last_line-p.ensures.0

pub loop-p-preserved : goal.loop-p-preserved
loop-p-preserved c = lines_more c.loop-p.invariant (λ e. omega (arith, e)) c.add_line.ensures c.line_before-p.ensures.0

pub returns : goal.returns
returns c = lines_all c.loop-p.invariant (omega arith)
