use mathlib.Core.Path.{sym, refl, ◌∙◌}
use native.Mathlib.Omega.{arith}
use lib.ListN.{take, length}
use lib.Seq.{length-take-le}
use Rattle.walk_tables.specs.Memory.{memory_grammar, memory_automaton}
use Rattle.walk_tables.specs.declared.Cell.TheVariants.{Shift, Announce, Pop, Empty}
use Rattle.walk_stack.proofs.StackLaws.{tops_top}
use Rattle.walk_steps.specs.Turn.{with_cells}
use Rattle.walk_steps.specs.declared.Turn.TheVariants.{Wrong}
use Rattle.walk_steps.proofs.TurnLaws.{ends_wrong, units_few}
use Rattle.walker.proofs.StepLaws.{turned_by}
use Rattle.walker.proofs.advance.Goals as goal

pub announce-requires : goal.announce-requires
announce-requires c = let a = c.args in
    let s = c.requires in (
      s.high,
      omega (arith, s.counted, units_few (memory_grammar a.machine.now.rules) (take a.p.listed a.listing.now), length-take-le a.p.listed a.listing.now s.room),
      s.top_is ∙ sym (tops_top a.stack.now a.p.height s.started),
    )

pub returns-in-Shift : goal.returns-in-Shift
returns-in-Shift c start = let a = c.args in
    let mem = with_cells a.machine.now a.machine.now.kinds a.machine.now.values start in
    turned_by mem _ _ _ _ _ _ (Shift c.in-Shift.next) c.shift.new.stack a.listing.now c.shift.result c.requires (sym c.in-Shift.is ∙ c.step_at-step.ensures.0)
    (c.shift.ensures (memory_grammar mem.rules) (memory_automaton mem) _ _ a.listing.now c.requires)

pub returns-in-Announce : goal.returns-in-Announce
returns-in-Announce c start = let a = c.args in
    let mem = with_cells a.machine.now a.machine.now.kinds a.machine.now.values start in
    turned_by mem _ _ _ _ _ _ (Announce c.in-Announce.rule) c.announce.new.stack c.announce.new.listing c.announce.result c.requires
    (sym c.in-Announce.is ∙ c.step_at-step.ensures.0)
    (c.announce.ensures mem.kinds mem.values start (length a.stack.now) (length a.listing.now) a.tokens.now c.requires)

pub returns-in-Pop : goal.returns-in-Pop
returns-in-Pop c start = let a = c.args in
    let mem = with_cells a.machine.now a.machine.now.kinds a.machine.now.values start in
    turned_by mem _ _ _ _ _ _ (Pop c.in-Pop.symbols) a.stack.now a.listing.now c.pop.result c.requires (sym c.in-Pop.is ∙ c.step_at-step.ensures.0)
    (c.pop.ensures (memory_grammar mem.rules) (memory_automaton mem) _ _ a.tokens.now a.listing.now c.requires)

pub returns-in-Empty : goal.returns-in-Empty
returns-in-Empty c start = let a = c.args in
    let mem = with_cells a.machine.now a.machine.now.kinds a.machine.now.values start in
    turned_by mem _ _ _ _ _ _ Empty a.stack.now a.listing.now Wrong c.requires (sym c.in-Empty.is ∙ c.step_at-step.ensures.0)
    (ends_wrong (memory_grammar mem.rules) (memory_automaton mem) (length a.stack.now) (length a.listing.now) a.tokens.now a.stack.now a.listing.now a.p refl)
