use Prim.Native.Nat.{◌-◌}
use mathlib.Core.Path.{◌≡◌, refl}
use native.Mathlib.Omega.{arith}
use Rattle.fixpoint.proofs.CountLaws.{keep_set}
use Rattle.kernel_lines.proofs.LinkLaws.{passed_start, passed_more, passed_map}
use Rattle.moves.proofs.MoveLaws.{flagged_start, flagged_more, line_moves, on_line}
use Rattle.moves.proofs.flag_lines.Goals as goal

pub loop-p-init : goal.loop-p-init
loop-p-init c = (flagged_start c.requires.q_bound.1, passed_start c.last_line-p.ensures.0)

pub loop-p-preserved : goal.loop-p-preserved
loop-p-preserved c = let o = c.loop-p in
    let x = c.symbol_after-x.ensures in
    let i = c.item_of-i.ensures.0 in
    let k = c.dot_of-k.ensures.0 in
    let n : o.p ≡ 0 → ⊥ = λ e. omega (arith, e) in (
      flagged_more o.invariant.0 refl x.1 (line_moves (omega (arith, o.invariant.1.low)) (o.invariant.1.here n) i k x.0),
      passed_more (passed_map (λ m h. keep_set o.moves c.symbol_after-x.result (omega (arith, o.invariant.0.long, x.1)) _ h) o.invariant.1) n
          (on_line _ c.args.kernels.now o.moves (o.p - 1) o.invariant.0.long x.1 i k x.0) c.line_before-p.ensures.0,
    )
