use Prim.Native.Nat.{◌+◌, ◌≤◌}
use native.Mathlib.Omega.{arith}
use borrow.Author.Count.{below_more}
use lib.ListN.{length, get_or}
use borrow.Author.Rules.{rules}
use Rattle.std.proofs.lemmas.Bool.Decides.{Decides-eqb}
use Rattle.std.proofs.lemmas.Slice.Eq.{slice_eq-Decides}
use Rattle.build_kernel_sets.proofs.SetLaws.{start_low, set_found, set_missing}
use Rattle.build_kernel_sets.proofs.find_set.Goals as goal

pub offset_bounds-sets-starts : goal.offset_bounds-sets-starts
offset_bounds-sets-starts c =
    let b = c.requires.bounds in
    let p = c.loop-p.p in
    let h : get_or c.args.starts.now p 0 ≤ length c.args.sets.now = omega (arith, b.rise p c.loop-p-test.true, start_low b (p + 1) (omega arith), b.room) in
    search rules

pub slice_bounds-eq-end : goal.slice_bounds-eq-end
slice_bounds-eq-end c =
    let b = c.requires.bounds in
    let low = b.rise c.loop-p.p c.loop-p-test.true in
    let high = start_low b (c.loop-p.p + 1) (omega arith) in
    search rules

pub returns-then-eq-clause-finds_set : goal.returns-then-eq-clause-finds_set
returns-then-eq-clause-finds_set c = set_found _ _ _ _ c.loop-p.p c.loop-p-test.true ((slice_eq-Decides Decides-eqb _ _ _ c.eq.ensures).0 c.if-eq.true)

pub loop-p-preserved : goal.loop-p-preserved
loop-p-preserved c = below_more _ _ c.loop-p.invariant (λ e. cc (c.if-eq.false, (slice_eq-Decides Decides-eqb _ _ _ c.eq.ensures).1 e))

pub returns-clause-finds_set : goal.returns-clause-finds_set
returns-clause-finds_set c = set_missing _ _ _ _ (λ k h. c.loop-p.invariant k (omega arith))
