use native.Mathlib.Omega.{arith}
use lib.Seq.{length-take-le}
use Rattle.build_moves.proofs.PickLaws.{pick_start, pick_skip, pick_more}
use Rattle.build_moves.proofs.pick_moves.Goals as goal
use Rattle.build_moves.proofs.pick_moves.Goals.{then-c-x, else-c-x}

pub loop-c-init : goal.loop-c-init
loop-c-init c = pick_start _ _ _ _

pub loop-c-preserved : goal.loop-c-preserved
loop-c-preserved c =
    let o = c.loop-c.invariant in
    elim c.if-c-x.branch [
      | then-c-x w ↦ rw (w.sets-is, w.len-is) (pick_more _ _ _ o c.loop-c-test.true w.if-c-x.true (omega (arith, length-take-le c.args.n c.args.moved.now c.requires.0)))
      | else-c-x w ↦ rw (w.sets-is, w.len-is) (pick_skip _ _ _ o c.loop-c-test.true w.if-c-x.false)
    ]
