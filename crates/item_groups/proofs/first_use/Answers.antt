use Prim.Native.Nat.{◌+◌}
use native.Mathlib.Omega.{arith}
use Rattle.item_groups.proofs.UseLaws.{Passed, rules_found, rules_more, rules_end}
use Rattle.language.specs.Grammar.{Grammar}
use Rattle.language.specs.WellFormed.{WellFormed}
use Rattle.items.specs.Layout.{Holds}
use Rattle.item_groups.proofs.first_use.Goals as goal
use Rattle.item_groups.proofs.first_use.Goals.{In-Passed}

pub returns-in-Found : goal.returns-in-Found
returns-in-Found c =
    let o = c.loop-i in
    λ g formed holds.
    rules_found formed holds _ o.next o.i o.auto.i c.loop-i-test.true (o.invariant.passed g formed holds)
    c.seek_in_rule.ensures.seeks c.in-Found.is

-- rule i passed too
passed-too : (c : In-Passed) (g : Grammar) → WellFormed g → Holds c.args.items.now c.args.rules g → Passed g c.args.string.now (c.loop-i.i + 1) c.in-Passed.k
passed-too c g formed holds =
    let o = c.loop-i in
    rules_more formed holds _ o.next o.i o.auto.i c.loop-i-test.true (o.invariant.passed g formed holds)
    c.seek_in_rule.ensures.seeks c.in-Passed.is

pub loop-i-preserved : goal.loop-i-preserved
loop-i-preserved c = record {
  few = omega (arith, c.seek_in_rule.ensures.by_index _ c.in-Passed.is);
  passed = passed-too (goal.at.loop-i-preserved c).In-Passed;
}

pub returns-in-Passed : goal.returns-in-Passed
returns-in-Passed c =
    λ g formed holds. rules_end formed holds _ (omega arith) (omega arith) (passed-too (goal.at.returns-in-Passed c).In-Passed g formed holds)
