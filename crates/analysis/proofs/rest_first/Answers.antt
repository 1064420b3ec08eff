use native.Mathlib.Omega.{arith}
use Rattle.fixpoint.proofs.PassLaws.{set_on}
use Rattle.analysis.proofs.AddLaws.{dot_stop, dot_more, dot_end}
use Rattle.analysis.proofs.rest_first.Goals as goal

pub returns-then-nul-x-eq0 : goal.returns-then-nul-x-eq0
returns-then-nul-x-eq0 c =
    dot_stop _ _ _ _ _ _ _ _ _ (omega arith)
    c.symbol_of-x.ensures.0 c.loop-j.invariant c.add_codes.ensures
    c.if-nul-x-eq0.true

pub loop-j-preserved : goal.loop-j-preserved
loop-j-preserved c =
    dot_more _ _ _ _ _ _ _ _ _ (omega arith)
    c.symbol_of-x.ensures.0 c.loop-j.invariant
    c.add_codes.ensures (set_on c.if-nul-x-eq0.false)

pub returns : goal.returns
returns c = dot_end _ _ _ _ _ _ _ _ (omega arith) c.loop-j.invariant
