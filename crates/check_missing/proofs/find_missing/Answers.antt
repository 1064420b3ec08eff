use native.Mathlib.Omega.{arith}
use Rattle.check_lookaheads.specs.Sources.{lookaheads_all}
use Rattle.check_missing.proofs.MissingLaws.{still, fine, below_more}
use Rattle.check_missing.proofs.find_missing.Goals as goal

pub returns-in_default-clause-missing_is : goal.returns-in_default-clause-missing_is
returns-in_default-clause-missing_is c = λ g t G U.
    still (c.find_goal-goal.ensures.missing_is g t _ _ _ _ _ _ _ _ c.requires.table_room.some_strings G.held) c.in_default.is

pub loop-p-preserved : goal.loop-p-preserved
loop-p-preserved c = λ g t G U.
    below_more g t _ (c.loop-p.invariant g t G U) (fine (c.find_from-missing.ensures.missing_is g t _ G U) c.in-Nothing-missing.is)

pub returns-clause-missing_is : goal.returns-clause-missing_is
returns-clause-missing_is c = λ g t G U. record {
  is = lookaheads_all g t _ G.held.fits.form (omega (arith, G.state_count)) _
      (c.loop-p.invariant g t G U) (fine (c.find_goal-goal.ensures.missing_is g t _ _ _ _
      c.args.nullable.now c.args.first.now _ c.args.totals.codes c.requires.table_room.some_strings
      G.held)
      c.in-Nothing.is);
}
