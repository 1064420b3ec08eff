use native.Mathlib.Omega.{arith}
use Rattle.kernel_lines.proofs.LinkLaws.{passed_start, passed_more}
use Rattle.check_missing.proofs.MissingLaws.{missing_code}
use Rattle.check_missing.proofs.find_asked.Goals as goal

pub loop-p-init : goal.loop-p-init
loop-p-init c = passed_start c.last_line-p.ensures.0

pub returns-in-At : goal.returns-in-At
returns-in-At c =
    let o = c.loop-p.invariant in
    let h = c.find_code.ensures.found _ c.in-At.is in
    missing_code (omega (arith, o.low)) (o.here (λ e. omega (arith, e))) h.1 h.2 h.3

pub loop-p-preserved : goal.loop-p-preserved
loop-p-preserved c =
    passed_more c.loop-p.invariant (λ e. omega (arith, e))
    (λ d l o. c.find_code.ensures.none c.in_default.is d (omega arith) l o)
    c.line_before-p.ensures.0
