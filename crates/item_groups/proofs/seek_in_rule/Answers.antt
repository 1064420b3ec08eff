use native.Mathlib.Omega.{arith}
use Rattle.item_groups.proofs.UseLaws.{seeking_found, seeking_more, seeking_ends}
use Rattle.item_groups.proofs.seek_in_rule.Goals as goal

pub returns-then-is_part-clause-seeks : goal.returns-then-is_part-clause-seeks
returns-then-is_part-clause-seeks c =
    let o = c.loop-from in
    λ g r formed row.
    seeking_found formed row (o.invariant.seeking g r formed row) (omega arith) c.group_end-to.ensures c.is_part.ensures c.if-is_part.true

pub loop-from-preserved : goal.loop-from-preserved
loop-from-preserved c =
    let o = c.loop-from in record {
      few = omega (arith, c.group_end-to.ensures.past);
      fits = omega arith;
      seeking = λ g r formed row.
          seeking_more formed row (o.invariant.seeking g r formed row) (omega arith) c.group_end-to.ensures
          c.is_part.ensures c.if-is_part.false;
    }

pub returns-clause-seeks : goal.returns-clause-seeks
returns-clause-seeks c =
    λ g r formed row. seeking_ends formed row (c.loop-from.invariant.seeking g r formed row) (omega arith)
