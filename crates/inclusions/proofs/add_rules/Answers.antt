use Rattle.closure.proofs.AddingLaws.{adding_then, adds_all}
use native.Mathlib.Omega.{arith}
use Rattle.fixpoint.proofs.PassLaws.{from_more}
use Rattle.inclusions.proofs.add_rules.Goals as goal
use Rattle.inclusions.proofs.add_rules.Goals.{then-is_present, else-is_present}

pub loop-i-preserved : goal.loop-i-preserved
loop-i-preserved c =
    let o = c.loop-i.invariant in
    let i = c.loop-i.i in
    elim c.if-is_present.branch [
      | then-is_present w ↦
          let h = c.is_present.ensures.yes w.if-is_present.true in
          let a = w.add_rule.ensures in
          rw w.asked-is (
            adding_then o.0 (λ y x. record { rule = i; above = c.loop-i.auto.i; below = omega arith; here = h; asks = x }) a,
            from_more _ 1 i (λ j l m p y x. a.kept y (o.1 j l m p y x)) (λ p. a.every),
          )
      | else-is_present w ↦
          rw w.asked-is (o.0, from_more _ 1 i o.1 (λ p. absurd (c.is_present.ensures.no w.if-is_present.false p)))
    ]

pub returns : goal.returns
returns c = let o = c.loop-i.invariant in adds_all o.0 (λ y h. o.1 h.rule h.above (omega (arith, h.below)) h.here y h.asks)
