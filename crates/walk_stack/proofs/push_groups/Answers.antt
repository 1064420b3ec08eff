use mathlib.Core.Path.{sym, ap, ◌∙◌}
use Prim.Native.Nat.{ℕ}
use native.Mathlib.Omega.{arith}
use Rattle.walk_stack.proofs.StackLaws.{push_two, push_three}
use Rattle.walk_stack.specs.Stack.{tops, groups_over}
use Rattle.walk_stack.proofs.push_groups.Goals as goal

pub returns-then-groups-eq2-clause-height_after : goal.returns-then-groups-eq2-clause-height_after
returns-then-groups-eq2-clause-height_after c = let a = c.args in
    let two = c.if-groups-eq2.true in
    push_two a.machine.now.rules a.stack.now a.rule a.base.height c.figure-first.result c.figure-second.result 0 c.figure-first.ensures c.figure-second.ensures
    (omega (arith, c.requires.1, two))
    ∙ sym (ap (λ (g : ℕ). groups_over a.machine.now.rules a.rule g (tops a.stack.now a.base.height)) two)

pub returns-then-groups-eq3-clause-height_after : goal.returns-then-groups-eq3-clause-height_after
returns-then-groups-eq3-clause-height_after c = let a = c.args in
    let three = c.if-groups-eq3.true in
    push_three a.machine.now.rules a.stack.now a.rule a.base.height c.figure-first.result c.figure-second.result c.figure-third.result
    c.figure-first.ensures c.figure-second.ensures c.figure-third.ensures (omega (arith, c.requires.1, three))
    ∙ sym (ap (λ (g : ℕ). groups_over a.machine.now.rules a.rule g (tops a.stack.now a.base.height)) three)

pub returns-clause-height_after : goal.returns-clause-height_after
returns-clause-height_after c = let a = c.args in
    c.push_more.ensures (tops a.stack.now a.base.height)
    (push_three a.machine.now.rules a.stack.now a.rule a.base.height c.figure-first.result c.figure-second.result c.figure-third.result
    c.figure-first.ensures c.figure-second.ensures c.figure-third.ensures
    (omega (arith, c.requires.1, c.if-groups-eq3.false, c.if-groups-eq2.false, c.if-groups-eq1.false, c.if-groups-eq0.false)))
