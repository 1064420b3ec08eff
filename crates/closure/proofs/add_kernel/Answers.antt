use Prim.Native.Nat.{◌-◌}
use native.Mathlib.Omega.{arith}
use Rattle.closure.proofs.KernelLaws.{line_before, line_follows}
use Rattle.closure.proofs.AddingLaws.{lines_start, lines_more, lines_all}
use Rattle.closure.proofs.add_kernel.Goals as goal

pub loop-p-init : goal.loop-p-init
loop-p-init c = (lines_start _ c.last_line-p.ensures.0, lines_start _ c.last_line-p.ensures.0)

pub loop-p-preserved : goal.loop-p-preserved
loop-p-preserved c =
    let v = c.loop-p.invariant in
    let kernels = c.args.kernels.now in
    let l = c.loop-p.p - 1 in
    let ei = c.item_of-i.ensures.0 in
    let ek = c.dot_of-k.ensures.0 in
    let a = c.add_item.ensures in (
      lines_more v.0 (λ e. omega (arith, e)) (line_before _ kernels l ei ek a.adds) c.line_before-p.ensures.0,
      lines_more v.1 (λ e. omega (arith, e)) (line_follows _ kernels l ei ek _ _ _ _ a.adds_2) c.line_before-p.ensures.0,
    )

pub returns : goal.returns
returns c = let v = c.loop-p.invariant in record { adds = lines_all v.0 (omega arith); adds_2 = lines_all v.1 (omega arith) }
