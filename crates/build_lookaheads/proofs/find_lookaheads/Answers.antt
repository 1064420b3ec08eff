use Rattle.build_lookaheads.proofs.FindLaws.{passing_start, passing_more, found_all}
use mathlib.Core.Path.{refl}
use native.Mathlib.Omega.{arith}
use lib.ListN.{length}
use Rattle.build_lookaheads.proofs.find_lookaheads.Goals as goal

pub passes-init : goal.passes-init
passes-init c = passing_start _ refl refl c.requires.states_bound.0

pub passes-preserved : goal.passes-preserved
passes-preserved c = passing_more c.passes.invariant c.requires.sourced.ready.few_codes c.make_pass-added.ensures

pub returns : goal.returns
returns c =
    λ g S.
    found_all c.passes.invariant c.requires.sourced.ready.few_codes c.make_pass-added.ensures
    (length c.args.lookaheads.now) refl c.clear.ensures c.add_lines.ensures
    (omega (arith, c.if-added-eq0.true)) g S
