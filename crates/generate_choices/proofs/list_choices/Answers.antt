use Rattle.std.proofs.Common.{◌+◌, ◌<◌, arith}
use Rattle.generate_choices.proofs.StoredLaws.{below_le, below_more, none_stored, one_stored, all_stored}
use Rattle.generate_choices.proofs.list_choices.Goals as goal

pub loop-x-init : goal.loop-x-init
loop-x-init c = (omega arith, none_stored c.args.items.now c.args.rules c.args.choices.now 0)

pub store_choices-at-requires : goal.store_choices-at-requires
store_choices-at-requires c =
    let room = below_more c.args.items.now c.loop-x.x 1 c.args.rules in
    let most = below_le c.args.items.now (c.loop-x.x + 1) 1 c.args.rules in
    record { shaped = c.requires.shaped; in_bounds = (omega (arith, c.requires.in_bounds.0), omega (arith, c.loop-x.invariant.0, room, most, c.requires.shaped.1), omega (arith, c.requires.in_bounds.1)) }

pub loop-x-preserved : goal.loop-x-preserved
loop-x-preserved c =
    let low : c.loop-x.x < 128 = omega (arith, c.requires.in_bounds.1) in (
      omega (arith, c.store_choices-at.ensures.value, c.loop-x.invariant.0, below_more c.args.items.now c.loop-x.x 1 c.args.rules),
      one_stored c.args.items.now c.args.rules c.args.choices.now c.loop-x.choices c.store_choices-at.new.choices c.loop-x.x c.loop-x.at c.loop-x.invariant.1 low c.store_choices-at.ensures.value c.store_choices-at.ensures.stored c.store_choices-at.ensures.keeps,
    )

pub returns : goal.returns
returns c =
    let few = below_le c.args.items.now c.loop-x.x 1 c.args.rules in
    λ g e h n.
    all_stored c.args.items.now c.args.rules c.args.choices.now c.loop-x.choices c.loop-x.x c.loop-x.at c.loop-x.invariant.1 (omega (arith, c.loop-x.invariant.0, few, c.requires.shaped.1))
    (omega (arith, c.requires.in_bounds.0)) g e h (omega (arith, n))
