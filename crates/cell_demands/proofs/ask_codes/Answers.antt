use Rattle.cell_demands.proofs.DemandLaws.{asking_then, wants_code, codes_skip, codes_more}
use native.Mathlib.Omega.{arith}
use Rattle.fixpoint.proofs.PassLaws.{set_on}
use Rattle.cell_demands.proofs.ask_codes.Goals as goal
use Rattle.cell_demands.proofs.ask_codes.Goals.{then-from-start-ne0, else-from-start-ne0}

pub loop-c-preserved : goal.loop-c-preserved
loop-c-preserved c =
    let o = c.loop-c.invariant in
    elim c.if-from-start-ne0.branch [
      | then-from-start-ne0 w ↦ rw (w.asked-is, w.others-is) (
        asking_then o.0 (wants_code (omega arith) (omega arith) (set_on w.if-from-start-ne0.true)) w.ask.ensures.asking,
        codes_more _ w.ask.ensures o.1,
      )
      | else-from-start-ne0 w ↦ rw (w.asked-is, w.others-is) (o.0, codes_skip _ w.if-from-start-ne0.false o.1)
    ]
