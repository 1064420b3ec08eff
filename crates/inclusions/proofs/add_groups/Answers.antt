use Rattle.inclusions.proofs.AskLaws.{groups_start, groups_more, groups_all}
use mathlib.Core.Path.{refl}
use native.Mathlib.Omega.{arith}
use Rattle.inclusions.proofs.add_groups.Goals as goal

pub loop-a-init : goal.loop-a-init
loop-a-init c = groups_start _ c.mark_of-a.ensures.0

pub loop-a-preserved : goal.loop-a-preserved
loop-a-preserved c =
    groups_more c.loop-a.invariant (omega (arith, c.length_of-n.ensures.0)) c.group_end-b.ensures refl refl c.add_group.ensures

pub returns : goal.returns
returns c = groups_all c.loop-a.invariant (omega (arith, c.length_of-n.ensures.0))
