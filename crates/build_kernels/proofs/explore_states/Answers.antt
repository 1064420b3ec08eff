use mathlib.Core.Path.{refl}
use Prim.Native.Nat.{ℕ, ◌+◌, ◌≤◌}
use native.Mathlib.Omega.{arith}
use lib.ListN.{length, get_or, length-replicate}
use borrow.Author.Rules.{rules}
use Rattle.build_kernel_sets.proofs.PartLaws.{part_numbered}
use Rattle.build_kernel_sets.proofs.SetLaws.{start_low}
use Rattle.build_kernel_sets.proofs.LeaveLaws.{one_of, leaves_grow}
use Rattle.build_kernels.proofs.ExploreLaws.{exploring_start, exploring_more, explored_full, explored_end}
use Rattle.build_kernels.proofs.explore_states.Goals as goal

pub loop-q-init : goal.loop-q-init
loop-q-init c =
    let p = c.requires in
    record { low = omega arith; moved_long = length-replicate {A = ℕ} 4096 0; sets_long = refl; exploring = exploring_start p.rules_bound.1 p.seeded p.blank }

pub offset_bounds-sets-starts : goal.offset_bounds-sets-starts
offset_bounds-sets-starts c =
    let o = c.loop-q in
    let b = o.invariant.exploring.bounds in
    let h : get_or o.starts o.q 0 ≤ length o.sets = omega (arith, b.rise o.q c.loop-q-test.true, start_low b (o.q + 1) (omega arith), b.room) in
    search rules

pub slice_bounds-kernel-end : goal.slice_bounds-kernel-end
slice_bounds-kernel-end c =
    let o = c.loop-q in
    let b = o.invariant.exploring.bounds in
    let low = b.rise o.q c.loop-q-test.true in
    let high = start_low b (o.q + 1) (omega arith) in
    let room = b.room in
    search rules

pub list_moves-n-requires-clause-numbered : goal.list_moves-n-requires-clause-numbered
list_moves-n-requires-clause-numbered c =
    let o = c.loop-q in
    let e = o.invariant.exploring in
    part_numbered o.sets o.size.lines _ _ _ (start_low e.bounds (o.q + 1) (omega arith)) e.bounds.room e.numbered

pub loop-q-preserved : goal.loop-q-preserved
loop-q-preserved c =
    let i = c.loop-q.invariant in
    let e = c.leave_state-size in record {
      low = omega (arith, leaves_grow e.ensures);
      moved_long = search rules;
      sets_long = search rules;
      exploring = exploring_more c.requires.rules_bound.1 i.exploring c.loop-q-test.true c.list_moves-n.ensures.lists_moves e.ensures c.if-size-gt255.false c.if-size-gt1023.false;
    }

pub returns-then-size-gt255 : goal.returns-then-size-gt255
returns-then-size-gt255 c =
    explored_full c.requires.rules_bound.1 c.loop-q.invariant.exploring c.loop-q-test.true c.list_moves-n.ensures.lists_moves c.leave_state-size.ensures
    (one_of c.then-size-gt255.either)

pub returns-after-loop-q : goal.returns-after-loop-q
returns-after-loop-q c = explored_end c.requires.rules_bound.1 c.loop-q.invariant.low c.loop-q-test.false c.loop-q.invariant.exploring
