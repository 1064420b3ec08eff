-- `checker::load_tables` meets its contract. Assumes nothing.
use mathlib.Core.Path.{◌≡◌, subst, ◌∙◌}
use mathlib.Core.Bool.{true}
use Rattle.table.specs.Book.{Reading}
use Rattle.table.specs.Memory.{slices, has_room, reply_of, Holds}
use Rattle.table.proofs.IntoLaws.{has_room_lem, Alike, holds_alike, AllZero, holds_zero}
use Rattle.checker.proofs.LoadLaws.{refused_by, accepted_by, promised}
use Rattle.checker.proofs.load_tables.Goals as goal
use Rattle.checker.proofs.load_tables.Goals.{After-check_books-checked, After-clear_all, Start}

by-clause : {A B C : Type 0} → A × (B × C) → record { value : A; holds : B; loaded : C }
by-clause h = record { value = h.0; holds = h.1.0; loaded = h.1.1 }

alike : (c : After-check_books-checked) → Alike (slices c.check_books-checked.new.items c.check_books-checked.new.entry_states c.check_books-checked.new.kernels c.check_books-checked.new.lookaheads c.check_books-checked.new.kinds c.check_books-checked.new.values c.check_books-checked.new.gotos c.check_books-checked.new.named) (slices c.args.items.now c.args.entry_states.now c.args.kernels.now c.args.lookaheads.now c.args.kinds.now c.args.values.now c.args.gotos.now c.args.named.now)
alike c =
    record {
      items_same = c.check_books-checked.auto.items;
      states_same = c.check_books-checked.auto.entry_states;
      kernels_same = c.check_books-checked.auto.kernels;
      lookaheads_same = c.check_books-checked.auto.lookaheads;
      kinds_same = c.check_books-checked.auto.kinds;
      values_same = c.check_books-checked.auto.values;
      gotos_same = c.check_books-checked.auto.gotos;
      named_same = c.check_books-checked.auto.named;
    }

zero : (c : After-clear_all) → AllZero (slices c.check_books-checked.new.items c.check_books-checked.new.entry_states c.check_books-checked.new.kernels c.check_books-checked.new.lookaheads c.check_books-checked.new.kinds c.check_books-checked.new.values c.check_books-checked.new.gotos c.check_books-checked.new.named) (slices c.clear_all.new.items c.clear_all.new.entry_states c.clear_all.new.kernels c.clear_all.new.lookaheads c.clear_all.new.kinds c.clear_all.new.values c.clear_all.new.gotos c.clear_all.new.named)
zero c =
    record {
      items_zero = c.clear_all.ensures.after;
      states_zero = c.clear_all.ensures.entry_states_after;
      kernels_zero = c.clear_all.ensures.kernels_after;
      lookaheads_zero = c.clear_all.ensures.lookaheads_after;
      kinds_zero = c.clear_all.ensures.kinds_after;
      values_zero = c.clear_all.ensures.values_after;
      gotos_zero = c.clear_all.ensures.gotos_after;
      named_zero = c.clear_all.ensures.named_after;
    }

room : (c : Start) → has_room (slices c.args.items.now c.args.entry_states.now c.args.kernels.now c.args.lookaheads.now c.args.kinds.now c.args.values.now c.args.gotos.now c.args.named.now) ≡ true
room c = has_room_lem (slices c.args.items.now c.args.entry_states.now c.args.kernels.now c.args.lookaheads.now c.args.kinds.now c.args.values.now c.args.gotos.now c.args.named.now) c.requires

pub shape_of-items-in-Refused : goal.shape_of-items-in-Refused
shape_of-items-in-Refused c = c.clear_all.auto.items ∙ (alike (goal.at.shape_of-items-in-Refused c).After-check_books-checked).items_same

pub shape_of-entry_states-in-Refused : goal.shape_of-entry_states-in-Refused
shape_of-entry_states-in-Refused c = c.clear_all.auto.entry_states ∙ (alike (goal.at.shape_of-entry_states-in-Refused c).After-check_books-checked).states_same

pub shape_of-kernels-in-Refused : goal.shape_of-kernels-in-Refused
shape_of-kernels-in-Refused c = c.clear_all.auto.kernels ∙ (alike (goal.at.shape_of-kernels-in-Refused c).After-check_books-checked).kernels_same

pub shape_of-lookaheads-in-Refused : goal.shape_of-lookaheads-in-Refused
shape_of-lookaheads-in-Refused c = c.clear_all.auto.lookaheads ∙ (alike (goal.at.shape_of-lookaheads-in-Refused c).After-check_books-checked).lookaheads_same

pub shape_of-kinds-in-Refused : goal.shape_of-kinds-in-Refused
shape_of-kinds-in-Refused c = c.clear_all.auto.kinds ∙ (alike (goal.at.shape_of-kinds-in-Refused c).After-check_books-checked).kinds_same

pub shape_of-values-in-Refused : goal.shape_of-values-in-Refused
shape_of-values-in-Refused c = c.clear_all.auto.values ∙ (alike (goal.at.shape_of-values-in-Refused c).After-check_books-checked).values_same

pub shape_of-gotos-in-Refused : goal.shape_of-gotos-in-Refused
shape_of-gotos-in-Refused c = c.clear_all.auto.gotos ∙ (alike (goal.at.shape_of-gotos-in-Refused c).After-check_books-checked).gotos_same

pub shape_of-named-in-Refused : goal.shape_of-named-in-Refused
shape_of-named-in-Refused c = c.clear_all.auto.named ∙ (alike (goal.at.shape_of-named-in-Refused c).After-check_books-checked).named_same

pub returns-in-Refused : goal.returns-in-Refused
returns-in-Refused c =
    let a = c.args in
    let h = holds_zero (refused_by a.grammar.now a.book.now c.check_books-checked.ensures.verdict_value c.in-Refused.is) (zero (goal.at.returns-in-Refused c).After-clear_all) in
    by-clause (promised {b = (slices c.args.items.now c.args.entry_states.now c.args.kernels.now c.args.lookaheads.now c.args.kinds.now c.args.values.now c.args.gotos.now c.args.named.now)} {a = (slices c.clear_all.new.items c.clear_all.new.entry_states c.clear_all.new.kernels c.clear_all.new.lookaheads c.clear_all.new.kinds c.clear_all.new.values c.clear_all.new.gotos c.clear_all.new.named)} (room (goal.at.returns-in-Refused c).Start) (h.0, holds_alike (alike (goal.at.returns-in-Refused c).After-check_books-checked) h.1))

pub shape_of-items : goal.shape_of-items
shape_of-items c = (alike (goal.at.shape_of-items c).After-check_books-checked).items_same

pub shape_of-entry_states : goal.shape_of-entry_states
shape_of-entry_states c = (alike (goal.at.shape_of-entry_states c).After-check_books-checked).states_same

pub shape_of-kernels : goal.shape_of-kernels
shape_of-kernels c = (alike (goal.at.shape_of-kernels c).After-check_books-checked).kernels_same

pub shape_of-lookaheads : goal.shape_of-lookaheads
shape_of-lookaheads c = (alike (goal.at.shape_of-lookaheads c).After-check_books-checked).lookaheads_same

pub shape_of-kinds : goal.shape_of-kinds
shape_of-kinds c = (alike (goal.at.shape_of-kinds c).After-check_books-checked).kinds_same

pub shape_of-values : goal.shape_of-values
shape_of-values c = (alike (goal.at.shape_of-values c).After-check_books-checked).values_same

pub shape_of-gotos : goal.shape_of-gotos
shape_of-gotos c = (alike (goal.at.shape_of-gotos c).After-check_books-checked).gotos_same

pub shape_of-named : goal.shape_of-named
shape_of-named c = (alike (goal.at.shape_of-named c).After-check_books-checked).named_same

pub returns : goal.returns
returns c =
    let a = c.args in
    let e = c.check_books-checked.ensures in
    let q = accepted_by a.grammar.now a.book.now e.verdict_value c.in_default.is in
    by-clause (promised {b = (slices c.args.items.now c.args.entry_states.now c.args.kernels.now c.args.lookaheads.now c.args.kinds.now c.args.values.now c.args.gotos.now c.args.named.now)} {a = (slices c.check_books-checked.new.items c.check_books-checked.new.entry_states c.check_books-checked.new.kernels c.check_books-checked.new.lookaheads c.check_books-checked.new.kinds c.check_books-checked.new.values c.check_books-checked.new.gotos c.check_books-checked.new.named)} (room (goal.at.returns c).Start)
    (subst (λ (x : Reading). (c.check_books-checked.result.answer ≡ reply_of x) × Holds x (slices c.args.items.now c.args.entry_states.now c.args.kernels.now c.args.lookaheads.now c.args.kinds.now c.args.values.now c.args.gotos.now c.args.named.now) (slices c.check_books-checked.new.items c.check_books-checked.new.entry_states c.check_books-checked.new.kernels c.check_books-checked.new.lookaheads c.check_books-checked.new.kinds c.check_books-checked.new.values c.check_books-checked.new.gotos c.check_books-checked.new.named)) q (e.answer_value, e.holds)))
