use mathlib.Core.Path.{sym, ◌∙◌}
use native.Mathlib.Omega.{arith}
use mathlib.Core.Logic.{inl, inr}
use Rattle.fixpoint.proofs.PassLaws.{set_on}
use Rattle.build_moves.proofs.MovedLaws.{none_below, below_skip, list_more}
use Rattle.build_moves.proofs.list_moved.Goals as goal
use Rattle.build_moves.proofs.list_moved.Goals.{then-s-ne0, else-s-ne0}

pub loop-x-init : goal.loop-x-init
loop-x-init c = (omega arith, sym (none_below _ _))

pub loop-x-preserved-then-held-x-eq0 : goal.loop-x-preserved-then-held-x-eq0
loop-x-preserved-then-held-x-eq0 c = let o = c.loop-x in (omega arith, o.invariant.1 ∙ sym (below_skip _ _ o.x (inl c.if-held-x-eq0.true)))

pub loop-x-preserved : goal.loop-x-preserved
loop-x-preserved c =
    let o = c.loop-x in
    elim c.if-s-ne0.branch [
      | then-s-ne0 w ↦ rw (w.moved-is, w.n-is) (
        omega arith,
        list_more _ _ o.moved o.n o.x o.invariant.1 (omega arith) (set_on c.if-held-x-eq0.false) c.symbol_after-s.ensures.0 w.if-s-ne0.true,
      )
      | else-s-ne0 w ↦ rw (w.moved-is, w.n-is) (omega arith, o.invariant.1 ∙ sym (below_skip _ _ o.x (inr (sym c.symbol_after-s.ensures.0 ∙ w.if-s-ne0.false))))
    ]
