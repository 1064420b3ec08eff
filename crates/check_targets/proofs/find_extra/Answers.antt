use native.Mathlib.Omega.{arith}
use Rattle.fixpoint.proofs.PassLaws.{from_more}
use Rattle.check_targets.proofs.find_extra.Goals as goal

pub returns-in-At : goal.returns-in-At
returns-in-At c = λ lines rules. record { is = (c.loop-x.auto.x, omega arith, c.find_extra_at.ensures.found _ c.in-At.is) }

pub loop-x-preserved : goal.loop-x-preserved
loop-x-preserved c = from_more _ 1 c.loop-x.x c.loop-x.invariant (c.find_extra_at.ensures.none c.in_default.is)
