use mathlib.Core.Path.{refl}
use native.Mathlib.Omega.{arith}
use Rattle.fixpoint.proofs.PassLaws.{from_more}
use Rattle.fixpoint.proofs.CountLaws.{keep_set}
use Rattle.moves.proofs.MoveLaws.{flagged_more, rule_moves, on_rule}
use Rattle.moves.proofs.flag_rules.Goals as goal
use Rattle.moves.proofs.flag_rules.Goals.{then-is_present, else-is_present}

pub loop-i-preserved : goal.loop-i-preserved
loop-i-preserved c =
    let o = c.loop-i in
    let long = o.invariant.0.long in
    elim c.if-is_present.branch [
      | then-is_present w ↦
          let x = w.symbol_after-x.ensures in
          rw w.moves-is (
            flagged_more o.invariant.0 refl x.1 (rule_moves (omega arith) (omega arith) (c.is_present.ensures.yes w.if-is_present.true) x.0),
            from_more _ 1 o.i (λ j a b h. keep_set o.moves w.symbol_after-x.result (omega (arith, long, x.1)) _ (o.invariant.1 j a b h))
                (λ h. on_rule _ o.moves o.i long x.1 x.0),
          )
      | else-is_present w ↦
          rw w.moves-is (o.invariant.0, from_more _ 1 o.i o.invariant.1 (λ p. absurd (c.is_present.ensures.no w.if-is_present.false p)))
    ]
