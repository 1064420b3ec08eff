use mathlib.Core.Logic.{inl}
use native.Mathlib.Omega.{arith}
use Rattle.walk_stack.proofs.StackLaws.{tops-length}
use Rattle.walk_steps.proofs.MoveLaws.{move_shift}
use Rattle.walk_steps.proofs.TurnLaws.{shift_on, ends_short}
use Rattle.walk_steps.proofs.shift.Goals as goal

pub returns-then-stack-p : goal.returns-then-stack-p
returns-then-stack-p c = let a = c.args in
    λ g m n k listing s.
    ends_short g m n k a.tokens.now a.stack.now listing a.p (shift_on a.next _ a.p.code c.if-p-eq-END.false)
    (inl (omega (arith, tops-length a.stack.now a.p.height, c.if-stack-p.true, s.stack_long)))

pub returns : goal.returns
returns c = let a = c.args in
    λ g m n k listing s.
    move_shift g m n k a.tokens.now a.stack.now listing a.p a.next c.code_at.result s
    c.if-p-eq-END.false (omega (arith, c.if-stack-p.false)) c.code_at.ensures
