-- Nothing off the mark; at the mark one rule, if there is room.
use mathlib.Core.Path.{refl}
use native.Mathlib.Omega.{arith}
use borrow.Author.Tests.{eq-eqb, ne_eqb}
use Rattle.generate_steps.proofs.PutLaws.{put_none, put_one}
use Rattle.generate_steps.proofs.put_rule.Goals as goal

pub returns-then-k-mark : goal.returns-then-k-mark
returns-then-k-mark c = rw (ne_eqb c.args.k c.args.mark c.if-k-mark.true) (put_none _ _ c.requires.rules_in_bounds, refl, refl)

pub returns-then-listing-place : goal.returns-then-listing-place
returns-then-listing-place c = rw (eq-eqb c.args.k c.args.mark c.if-k-mark.false) (omega arith)

pub returns : goal.returns
returns c = rw (eq-eqb c.args.k c.args.mark c.if-k-mark.false) (put_one _ _ _ c.if-listing-place.false, refl, refl)
