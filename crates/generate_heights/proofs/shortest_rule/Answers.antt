use Prim.Native.Nat.{◌+◌}
use mathlib.Core.Path.{sym, ap, ◌∙◌}
use native.Mathlib.Omega.{arith}
use lib.ListN.{get_or}
use Rattle.generate_loads.specs.Load.{first}
use Rattle.generate_heights.specs.Heights.{lower_in}
use Rattle.generate_heights.proofs.RowLaws.{rest, rest_start, rest_skip, rest_take, rest_none, first_yes, first_no}
use Rattle.generate_heights.proofs.ShortestLaws.{first-shortest}
use Rattle.generate_heights.proofs.shortest_rule.Goals as goal
use Rattle.generate_heights.proofs.shortest_rule.Goals.{else-left_of-x-via-then-left_of-x+else-all_lower, else-left_of-x-via-else-left_of-x}

pub loop-rule-init : goal.loop-rule-init
loop-rule-init c =
    let items = c.args.items.now in
    ap (first (lower_in items c.args.heights.now (get_or c.args.heights.now c.args.x 0))) (rest_start items c.args.x c.args.rules)

pub returns-then-all_lower : goal.returns-then-all_lower
returns-then-all_lower c =
    let items = c.args.items.now in
    let p = lower_in items c.args.heights.now (get_or c.args.heights.now c.args.x 0) in
    let of-x = sym c.left_of.ensures.0 ∙ c.if-left_of-x.true in
    let found = c.loop-rule.invariant
    ∙ (ap (first p) (rest_take items c.args.x c.args.rules c.loop-rule.rule (omega arith) of-x)
    ∙ first_yes p c.loop-rule.rule (rest items c.args.x c.args.rules (c.loop-rule.rule + 1)) (sym c.all_lower.ensures ∙ c.if-all_lower.true)) in
    record { upper_bound = omega arith; value = λ g e h n. sym found ∙ first-shortest items c.args.rules c.args.heights.now g e h c.args.x n }

pub loop-rule-preserved : goal.loop-rule-preserved
loop-rule-preserved c =
    let items = c.args.items.now in
    let i = c.loop-rule.rule in
    let p = lower_in items c.args.heights.now (get_or c.args.heights.now c.args.x 0) in
    c.loop-rule.invariant
    ∙ elim c.else-left_of-x.branch [
      | else-left_of-x-via-then-left_of-x+else-all_lower w ↦
          ap (first p) (rest_take items c.args.x c.args.rules i (omega arith) (sym c.left_of.ensures.0 ∙ w.if-left_of-x.true))
          ∙ first_no p i (rest items c.args.x c.args.rules (i + 1)) (sym w.all_lower.ensures ∙ w.if-all_lower.false)
      | else-left_of-x-via-else-left_of-x w ↦
          ap (first p) (rest_skip items c.args.x c.args.rules i (omega arith) (λ e. w.if-left_of-x.false (c.left_of.ensures.0 ∙ e)))
    ]

pub returns : goal.returns
returns c =
    let items = c.args.items.now in
    let p = lower_in items c.args.heights.now (get_or c.args.heights.now c.args.x 0) in
    let none = c.loop-rule.invariant ∙ ap (first p) (rest_none items c.args.x c.args.rules c.loop-rule.rule (omega arith)) in
    record { upper_bound = omega arith; value = λ g e h n. sym none ∙ first-shortest items c.args.rules c.args.heights.now g e h c.args.x n }
