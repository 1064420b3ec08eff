use Prim.Native.Nat.{ℕ, ◌+◌, ◌*◌, ◌<◌}
use mathlib.Core.Path.{◌≡◌, refl, subst}
use mathlib.Core.List.{List}
use native.Mathlib.Omega.{arith}
use borrow.Author.Count.{below_more, below_none}
use Rattle.fixpoint.specs.Flags.{On}
use Rattle.fixpoint.specs.Rows.{cell}
use Rattle.fixpoint.proofs.CountLaws.{zeros_le}
use Rattle.fixpoint.proofs.PassLaws.{pass_start, pass_more, pass_add, set_on, not_off}
use Rattle.analysis.specs.InMemory.{Copied, old, copy}
use Rattle.analysis.proofs.merge_row.Goals as goal
use Rattle.analysis.proofs.merge_row.Goals.{then-flags-from-ne0+then-flags-to-eq0, else-flags-from-ne0, else-flags-from-ne0-via-then-flags-from-ne0+else-flags-to-eq0, else-flags-from-ne0-via-else-flags-from-ne0}

-- row `from` is not changed, or is the same row
own_row : (fs : List ℕ) (from to c y : ℕ) → c < 64 → y ≡ cell from c → Copied fs from to y → On fs (cell from c)
own_row fs from to c y l e (old on) = subst (On fs) e on
own_row fs from to c y l e (copy b h on) = subst (λ (x : ℕ). On fs (cell from x)) (same to from b c h l e) on
  where
    same : (p q b c : ℕ) → b < 64 → c < 64 → p * 64 + b ≡ q * 64 + c → b ≡ c
    same p q b c h l e = omega arith

pub loop-c-init : goal.loop-c-init
loop-c-init c = pass_start _ c.requires.flags_len (λ y on. old on) (λ _. below_none _)

pub overflow_add-added : goal.overflow_add-added
overflow_add-added c = omega (arith, c.loop-c.invariant.count, zeros_le c.args.flags.now, c.requires.flags_len)

pub loop-c-preserved : goal.loop-c-preserved
loop-c-preserved c =
    let p = c.loop-c.invariant in
    let k = c.loop-c.c in
    let from = c.args.from in
    let to = c.args.to in
    elim c.if-flags-from-ne0.branch [
      | then-flags-from-ne0+then-flags-to-eq0 w ↦
          pass_add _ _ (cell to k) w.flags-is w.added-is p (omega arith) w.if-flags-to-eq0.true (copy k (omega arith)
          (own_row c.args.flags.now from to k (cell from k) (omega arith) refl (p.only (cell from k) (set_on w.if-flags-from-ne0.true))))
      | else-flags-from-ne0 w ↦ pass_more _ _ w.flags-is w.added-is p (λ d. below_more _ k d (elim w.else-flags-from-ne0.branch [
        | else-flags-from-ne0-via-then-flags-from-ne0+else-flags-to-eq0 v ↦ λ on. set_on v.if-flags-to-eq0.false
        | else-flags-from-ne0-via-else-flags-from-ne0 v ↦ λ on. not_off on refl v.if-flags-from-ne0.false
      ]))
    ]
