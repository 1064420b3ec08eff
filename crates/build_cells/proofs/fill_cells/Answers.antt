use native.Mathlib.Omega.{arith}
use Rattle.build_cells.proofs.CellLaws.{filling_more}
use Rattle.build_cells.proofs.TableLaws.{filled_conflict, filled_all}
use Rattle.build_cells.proofs.fill_cells.Goals as goal

pub loop-q-preserved : goal.loop-q-preserved
loop-q-preserved c =
    let o = c.loop-q in
    let t = c.if-not-complete_state.false in
    λ g entries H. let d = c.complete_state.ensures.decides g entries _ H in filling_more H o.auto.q (o.invariant g entries H) (d.0.yes t) (d.1 t)

pub returns-then-not-complete_state-clause-filled : goal.returns-then-not-complete_state-clause-filled
returns-then-not-complete_state-clause-filled c =
    let o = c.loop-q in
    λ g entries gotos H M.
    filled_conflict H _ _ _ _ o.auto.q (omega arith) (o.invariant g entries H)
    (λ a. (c.complete_state.ensures.decides g entries _ H).0.no c.if-not-complete_state.true a)

pub returns-clause-filled : goal.returns-clause-filled
returns-clause-filled c = λ g entries gotos H M. filled_all H (omega arith) (omega arith) M (c.loop-q.invariant g entries H)
