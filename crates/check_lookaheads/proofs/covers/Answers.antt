use native.Mathlib.Omega.{arith}
use Rattle.fixpoint.proofs.PassLaws.{is_no, set_on}
use Rattle.check_lookaheads.proofs.covers.Goals as goal

pub returns-then-lookaheads-l-eq0 : goal.returns-then-lookaheads-l-eq0
returns-then-lookaheads-l-eq0 c =
    is_no _ (λ h. (h.covered c.loop-c.c (omega arith) (set_on c.if-included-l-ne0.true)).nonzero c.if-lookaheads-l-eq0.true)
