use native.Mathlib.Omega.{arith}
use Rattle.walk_stack.proofs.StackLaws.{push_step}
use Rattle.walk_stack.proofs.push_more.Goals as goal

pub loop-j-preserved : goal.loop-j-preserved
loop-j-preserved c = let l = c.loop-j in
    let a = c.args in
    λ S e. push_step a.machine.now.rules l.stack S a.rule a.height l.j c.figure.result c.figure.ensures (omega arith) (l.invariant S e)
