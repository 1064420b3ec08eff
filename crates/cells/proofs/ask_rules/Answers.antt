use Rattle.cell_demands.proofs.DemandLaws.{met_kept, asking_then}
use native.Mathlib.Omega.{arith}
use Rattle.fixpoint.proofs.PassLaws.{from_more}
use Rattle.cells.proofs.ask_rules.Goals as goal
use Rattle.cells.proofs.ask_rules.Goals.{then-is_present, else-is_present}

pub loop-i-preserved : goal.loop-i-preserved
loop-i-preserved c =
    let o = c.loop-i.invariant in
    elim c.if-is_present.branch [
      | then-is_present w ↦
          let a = w.ask_rule.ensures in
          let p = c.is_present.ensures.yes w.if-is_present.true in
          rw (w.asked-is, w.others-is) (
            asking_then o.0 (λ d v x. record { rule = c.loop-i.i; above = omega arith; below = omega arith; present_rule = p; asks = x }) a.asking,
            from_more _ 1 c.loop-i.i (λ j u l e d v x. met_kept a.asking (o.1 j u l e d v x)) (λ _. a.met),
          )
      | else-is_present w ↦
          rw (w.asked-is, w.others-is) (o.0, from_more _ 1 c.loop-i.i o.1 (λ p. absurd (c.is_present.ensures.no w.if-is_present.false p)))
    ]

pub returns : goal.returns
returns c = let o = c.loop-i.invariant in record { asking = o.0; met = λ d v w. o.1 w.rule w.above (omega (arith, w.below)) w.present_rule d v w.asks }
