use mathlib.Core.Path.{refl}
use native.Mathlib.Omega.{arith}
use Rattle.fixpoint.proofs.PassLaws.{set_on}
use Rattle.build_lookaheads.proofs.PassLaws.{merging_skip, merging_add}
use Rattle.build_lookaheads.proofs.add_flags.Goals as goal
use Rattle.build_lookaheads.proofs.add_flags.Goals.{then-from-y-ne0+then-flags-y-eq0, else-from-y-ne0, else-from-y-ne0-via-then-from-y-ne0+else-flags-y-eq0, else-from-y-ne0-via-else-from-y-ne0}

pub loop-y-preserved : goal.loop-y-preserved
loop-y-preserved c =
    let o = c.loop-y.invariant in
    elim c.if-from-y-ne0.branch [
      | then-from-y-ne0+then-flags-y-eq0 w ↦
          rw (w.flags-is, w.changed-is, w.added-is)
          (merging_add o (set_on w.if-from-y-ne0.true) w.if-flags-y-eq0.true (omega arith) w.state_of-s.ensures.0
          (omega (arith, w.state_of-s.ensures.1, c.requires.lines_in_bounds.2)) refl refl)
      | else-from-y-ne0 w ↦
          rw (w.flags-is, w.changed-is, w.added-is)
          (merging_skip o (elim w.else-from-y-ne0.branch [
            | else-from-y-ne0-via-then-from-y-ne0+else-flags-y-eq0 v ↦ λ _. set_on v.if-flags-y-eq0.false
            | else-from-y-ne0-via-else-from-y-ne0 v ↦ λ on. absurd (on.nonzero v.if-from-y-ne0.false)
          ]))
    ]
