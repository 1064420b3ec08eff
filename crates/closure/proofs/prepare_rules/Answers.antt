use Prim.Native.Nat.{ℕ}
use native.Mathlib.Omega.{arith}
use mathlib.Core.Bool.{true, true≢false}
use mathlib.Core.Path.{◌≡◌, sym, ◌∙◌}
use Rattle.analysis.specs.Adds.{Adds}
use Rattle.closure.proofs.PrepareLaws.{through_set, through_kept, filled_more}
use Rattle.closure.proofs.prepare_rules.Goals as goal
use Rattle.closure.proofs.prepare_rules.Goals.{then-rest_first, else-rest_first}

pub loop-i-preserved : goal.loop-i-preserved
loop-i-preserved c =
    let v = c.loop-i.invariant in
    let r = c.rest_first.ensures in
    let i = c.loop-i.i in
    let a : Adds (λ (y : ℕ). (c.rest_first.result ≡ true) × (y ≡ i)) c.loop-i.through c.if-rest_first.through =
    elim c.if-rest_first.branch [
      | then-rest_first w ↦ through_set i w.if-rest_first.true w.through-is (omega (arith, v.1))
      | else-rest_first w ↦ through_kept i (λ e. true≢false (sym e ∙ w.if-rest_first.false)) w.through-is
    ] in
    (r.long ∙ v.0, a.long ∙ v.1, filled_more _ _ _ _ c.requires.rules_le_count.2 i v.2 r a)
