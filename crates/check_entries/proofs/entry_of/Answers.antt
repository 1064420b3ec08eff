use mathlib.Core.Path.{refl}
use native.Mathlib.Omega.{arith}
use Rattle.fixpoint.proofs.PassLaws.{from_more}
use Rattle.check_entries.proofs.entry_of.Goals as goal

pub same_part-requires : goal.same_part-requires
same_part-requires c =
    record { shaped = c.requires.shaped; i_le_count = (omega (arith, c.requires.i_le_rules.0), omega arith, c.requires.i_le_rules.3) }

pub returns-then-same_part : goal.returns-then-same_part
returns-then-same_part c =
    record {
      low = omega arith;
      none = λ z. absurd (omega (arith, z, c.loop-k.auto.k));
      some = λ f. c.same_part.ensures.yes c.if-same_part.true;
    }

pub loop-k-preserved : goal.loop-k-preserved
loop-k-preserved c = let o = c.loop-k in from_more _ 1 o.k o.invariant (c.same_part.ensures.no c.if-same_part.false)

pub returns-else-same_part : goal.returns-else-same_part
returns-else-same_part c =
    let o = c.loop-k in
    record {
      low = omega arith;
      none = λ z m a b. from_more _ 1 o.k o.invariant (c.same_part.ensures.no c.if-same_part.false) m a (omega (arith, b));
      some = λ f. absurd (f refl);
    }
