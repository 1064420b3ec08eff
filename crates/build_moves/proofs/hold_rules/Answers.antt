use native.Mathlib.Omega.{arith}
use Rattle.build_moves.proofs.NumberLaws.{starts_skip, starts_more}
use Rattle.build_moves.proofs.hold_rules.Goals as goal
use Rattle.build_moves.proofs.hold_rules.Goals.{then-is_present, else-is_present}

pub loop-i-preserved : goal.loop-i-preserved
loop-i-preserved c =
    let o = c.loop-i.invariant in
    elim c.if-is_present.branch [
      | then-is_present w ↦ starts_more _ _ c.loop-i.auto.i (c.is_present.ensures.yes w.if-is_present.true) w.held-is (omega arith) o
      | else-is_present w ↦ rw w.held-is (starts_skip _ _ (c.is_present.ensures.no w.if-is_present.false) o)
    ]
