-- Three bytes and a run of rules are stored for x.
use Rattle.std.proofs.Common.{◌≡◌, ◌+◌, ◌-◌, length, set, arith, length-set}
use Rattle.generate_heights.specs.Rows.{rows_of}
use Rattle.generate_choices.proofs.StoredLaws.{keeps_of, stored_of}
use Rattle.generate_choices.proofs.store_choices.Goals as goal

pub bounds-choices-x-2 : goal.bounds-choices-x-2
bounds-choices-x-2 c =
    let listed = c.list_rules-next.new.choices in
    omega (arith, length-set listed (128 + c.args.x) c.args.at, c.list_rules-next.auto.choices, c.requires.in_bounds.0, c.requires.in_bounds.2)

pub bounds-choices-x-3 : goal.bounds-choices-x-3
bounds-choices-x-3 c =
    let listed = c.list_rules-next.new.choices in
    omega (arith, length-set (set listed (128 + c.args.x) c.args.at) (256 + c.args.x) (c.list_rules-next.result - c.args.at), length-set listed (128 + c.args.x) c.args.at, c.list_rules-next.auto.choices, c.requires.in_bounds.0, c.requires.in_bounds.2)

pub returns : goal.returns
returns c =
    let listed = c.list_rules-next.new.choices in
    let count : c.list_rules-next.result - c.args.at ≡ length (rows_of c.args.items.now c.args.x 1 c.args.rules) = omega (arith, c.list_rules-next.ensures.value) in record {
      value = c.list_rules-next.ensures.value;
      stored = stored_of c.args.items.now c.args.rules c.args.choices.now listed c.args.x c.args.at (c.list_rules-next.result - c.args.at) c.shortest_rule-shortest.result c.list_rules-next.ensures.choices_after
          c.requires.in_bounds.0 c.requires.in_bounds.1 c.requires.in_bounds.2 count c.shortest_rule-shortest.ensures.value;
      keeps = keeps_of c.args.items.now c.args.rules c.args.choices.now listed c.args.x c.args.at (c.list_rules-next.result - c.args.at) c.shortest_rule-shortest.result c.list_rules-next.ensures.choices_after;
    }
