use mathlib.Core.Path.{refl}
use native.Mathlib.Omega.{arith}
use Rattle.build_lookaheads.proofs.PassLaws.{states_skip, states_more}
use Rattle.build_lookaheads.proofs.ask_states.Goals as goal
use Rattle.build_lookaheads.proofs.ask_states.Goals.{then-changed-p-ne0, else-changed-p-ne0}

pub loop-p-preserved : goal.loop-p-preserved
loop-p-preserved c =
    let o = c.loop-p in
    elim c.if-changed-p-ne0.branch [
      | then-changed-p-ne0 w ↦ rw w.asked-is (states_more o.invariant o.auto.p (omega arith) refl w.ask_state.ensures)
      | else-changed-p-ne0 w ↦ rw w.asked-is (states_skip o.invariant w.if-changed-p-ne0.false refl)
    ]
