use Rattle.cell_demands.proofs.DemandLaws.{asking_none, met_kept, asking_then}
use Rattle.cells.proofs.AskLaws.{line_asks, of_line}
use Prim.Native.Nat.{◌-◌}
use native.Mathlib.Omega.{arith}
use Rattle.kernel_lines.proofs.LinkLaws.{passed_start, passed_more, passed_all, passed_map}
use Rattle.cells.proofs.ask_lines.Goals as goal

pub loop-p-init : goal.loop-p-init
loop-p-init c = (passed_start c.last_line-p.ensures.0, asking_none _ _)

pub loop-p-preserved : goal.loop-p-preserved
loop-p-preserved c =
    let o = c.loop-p.invariant in
    let a = line_asks c.args.kernels.now (c.loop-p.p - 1) c.item_of-i.ensures.0 c.dot_of-k.ensures.0 c.ask_item.ensures in (
      passed_more (passed_map (λ m h d v w. met_kept a.asking (h d v w)) o.0) (λ e. omega (arith, e)) a.met c.line_before-p.ensures.0,
      asking_then o.1 (of_line _ _ (omega (arith, o.0.low)) (o.0.here (λ e. omega (arith, e)))) a.asking,
    )

pub returns : goal.returns
returns c = let o = c.loop-p.invariant in record { asking = o.1; met = λ d v w. passed_all o.0 (omega arith) w.line w.low w.state d v w.asks }
