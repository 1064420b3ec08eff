use mathlib.Core.Logic.{inl, inr}
use mathlib.Core.List.{◌∷◌, []}
use mathlib.Core.Path.{ap, ◌∙◌}
use Prim.Native.Nat.{◌%◌, ℕ}
use native.Mathlib.Omega.{arith}
use lib.ListN.{take, drop, length-append, length-drop}
use lib.Seq.{length-take-le}
use Rattle.walk_tables.specs.Memory.{figure_of, memory_grammar, memory_automaton}
use Rattle.walk_steps.specs.Turn.{with_cells}
use Rattle.walk_stack.specs.Stack.{tops, rule_over}
use Rattle.walk_stack.proofs.StackLaws.{tops-length, rule_length}
use Rattle.walk_steps.proofs.MoveLaws.{move_announce}
use Rattle.walk_steps.proofs.TurnLaws.{positive, ends_wrong, ends_short}
use Rattle.walk_steps.proofs.TellLaws.{told_wrong, told_on}
use Rattle.walk_steps.proofs.announce.Goals as goal

pub returns-then-p-pops : goal.returns-then-p-pops
returns-then-p-pops c = let a = c.args in
    λ kinds values start n k tokens s.
    let mem = with_cells a.machine.now kinds values start in
    ends_wrong (memory_grammar mem.rules) (memory_automaton mem) n k tokens a.stack.now a.listing.now a.p
    (told_wrong mem a.rule (positive _ c.if-rule-eq0.false) (omega (arith, c.ranges.rule)) _
    (omega (arith, tops-length a.stack.now a.p.height, c.if-p-pops.true, c.figure-pops.ensures)))

pub returns-then-listing-p : goal.returns-then-listing-p
returns-then-listing-p c = let a = c.args in
    λ kinds values start n k tokens s.
    let mem = with_cells a.machine.now kinds values start in
    ends_short (memory_grammar mem.rules) (memory_automaton mem) n k tokens a.stack.now a.listing.now a.p
    (told_on mem a.rule (positive _ c.if-rule-eq0.false) (omega (arith, c.ranges.rule)) _
    (omega (arith, tops-length a.stack.now a.p.height, c.if-p-pops.false, c.figure-pops.ensures)))
    (inr (omega (
      arith,
      length-append (take a.p.listed a.listing.now) (a.rule ∷ []),
      length-take-le a.p.listed a.listing.now (omega (arith, s.room, s.listing_long)),
      s.room,
      s.listing_long,
      c.if-listing-p.true,
    )))

pub returns-then-stack-base : goal.returns-then-stack-base
returns-then-stack-base c = let a = c.args in
    let S = tops a.stack.now a.p.height in
    λ kinds values start n k tokens s.
    let mem = with_cells a.machine.now kinds values start in
    ends_short (memory_grammar mem.rules) (memory_automaton mem) n k tokens a.stack.now a.listing.now a.p
    (told_on mem a.rule (positive _ c.if-rule-eq0.false) (omega (arith, c.ranges.rule)) _
    (omega (arith, tops-length a.stack.now a.p.height, c.if-p-pops.false, c.figure-pops.ensures)))
    (inl (omega (
      arith,
      rule_length mem.gotos mem.rules a.rule (figure_of mem.rules a.rule 3) (drop (figure_of mem.rules a.rule 0) S),
      length-drop (figure_of mem.rules a.rule 0) S,
      tops-length a.stack.now a.p.height,
      c.figure-pops.ensures,
      c.figure-groups.ensures,
      c.uncovered-base.ensures.height_value,
      c.if-stack-base.true,
      c.if-p-pops.false,
      s.stack_long,
    )))

pub returns : goal.returns
returns c = let a = c.args in
    let base = c.uncovered-base in
    let pushed = c.push_rule-top in
    λ kinds values start n k tokens s.
    let mem = with_cells a.machine.now kinds values start in
    move_announce mem n k tokens a.stack.now a.listing.now a.p a.rule c.figure-pops.result
    c.figure-groups.result (c.figure-unit.result % 2) pushed.result.height pushed.result.state pushed.new.stack s
    (positive _ c.if-rule-eq0.false) (omega (arith, c.ranges.rule))
    c.figure-pops.ensures (omega (arith, c.if-p-pops.false)) c.figure-groups.ensures (ap (λ (x : ℕ). x % 2) c.figure-unit.ensures)
    (omega (arith, c.if-listing-p.false)) (omega (arith, base.ensures.height_value, c.if-stack-base.false))
    (omega (arith, base.ensures.height_value, pushed.ensures.height_value))
    pushed.auto.stack
    (pushed.ensures.height_after ∙ ap (λ (h : ℕ). rule_over mem.gotos mem.rules a.rule c.figure-groups.result (tops a.stack.now h)) base.ensures.height_value)
    pushed.ensures.top
