use native.Mathlib.Omega.{arith}
use Rattle.build_kernel_sets.proofs.LeaveLaws.{one_of, joined_low, leaves_full, leaving_more, leaves_end}
use Rattle.build_kernel_sets.proofs.leave_state.Goals as goal

pub store_next-requires-clause-q_bound : goal.store_next-requires-clause-q_bound
store_next-requires-clause-q_bound c = (c.requires.q_bound.0, c.loop-x-test.true, omega (arith, joined_low c.visit_symbol-visit.ensures, c.if-found-gt255.false))

pub loop-x-preserved : goal.loop-x-preserved
loop-x-preserved c =
    leaving_more _ c.loop-x.invariant c.loop-x-test.true c.visit_symbol-visit.ensures c.loop-x.auto.x
    c.if-found-gt255.false c.if-end-gt1023.false c.store_next.ensures

pub returns-then-found-gt255 : goal.returns-then-found-gt255
returns-then-found-gt255 c = leaves_full _ c.loop-x.invariant c.loop-x-test.true c.visit_symbol-visit.ensures (one_of c.then-found-gt255.either)

pub returns-after-loop-x : goal.returns-after-loop-x
returns-after-loop-x c = leaves_end _ c.loop-x-test.false c.loop-x.invariant
