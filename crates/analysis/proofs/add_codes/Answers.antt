use native.Mathlib.Omega.{arith}
use Rattle.fixpoint.proofs.PassLaws.{set_on}
use Rattle.analysis.proofs.AddLaws.{row_set, row_skip}
use Rattle.analysis.proofs.add_codes.Goals as goal
use Rattle.analysis.proofs.add_codes.Goals.{then-from-start-ne0, else-from-start-ne0}

pub loop-c-preserved : goal.loop-c-preserved
loop-c-preserved c =
    let a = c.loop-c.invariant in
    elim c.if-from-start-ne0.branch [
      | then-from-start-ne0 w ↦ row_set _ _ _ _ w.flags-is (omega (arith, a.long)) (set_on w.if-from-start-ne0.true) a
      | else-from-start-ne0 w ↦ row_skip _ _ _ _ w.flags-is w.if-from-start-ne0.false a
    ]
