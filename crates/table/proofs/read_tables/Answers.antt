-- `table::read_tables` meets its contract. Assumes nothing.
use Rattle.table.proofs.IntoLaws.{cleared_read, cleared_refused, short_holds, room_holds, wiped_now}
use Rattle.table.specs.Book.{tables_of}
use Rattle.table.specs.Memory.{slices}
use mathlib.Core.Path.{sym, ◌∙◌}
use Rattle.table.proofs.read_tables.Goals as goal

by-clause : {A B : Type 0} → A × B → record { value : A; holds : B }
by-clause h = record { value = h.0; holds = h.1 }

pub shape_of-items-then-not-room : goal.shape_of-items-then-not-room
shape_of-items-then-not-room c = c.clear_all.auto.items

pub shape_of-entry_states-then-not-room : goal.shape_of-entry_states-then-not-room
shape_of-entry_states-then-not-room c = c.clear_all.auto.entry_states

pub shape_of-kernels-then-not-room : goal.shape_of-kernels-then-not-room
shape_of-kernels-then-not-room c = c.clear_all.auto.kernels

pub shape_of-lookaheads-then-not-room : goal.shape_of-lookaheads-then-not-room
shape_of-lookaheads-then-not-room c = c.clear_all.auto.lookaheads

pub shape_of-kinds-then-not-room : goal.shape_of-kinds-then-not-room
shape_of-kinds-then-not-room c = c.clear_all.auto.kinds

pub shape_of-values-then-not-room : goal.shape_of-values-then-not-room
shape_of-values-then-not-room c = c.clear_all.auto.values

pub shape_of-gotos-then-not-room : goal.shape_of-gotos-then-not-room
shape_of-gotos-then-not-room c = c.clear_all.auto.gotos

pub shape_of-named-then-not-room : goal.shape_of-named-then-not-room
shape_of-named-then-not-room c = c.clear_all.auto.named

pub returns-then-not-room : goal.returns-then-not-room
returns-then-not-room c = let a = c.args in
    let e = c.clear_all.ensures in
    by-clause (short_holds (tables_of a.grammar.now a.book.now) (sym c.has_room-room.ensures ∙ c.if-not-room.true) c.read_short.ensures
    (record {
      items_zero = e.after;
      states_zero = e.entry_states_after;
      kernels_zero = e.kernels_after;
      lookaheads_zero = e.lookaheads_after;
      kinds_zero = e.kinds_after;
      values_zero = e.values_after;
      gotos_zero = e.gotos_after;
      named_zero = e.named_after;
    }))

pub read_cleared-answer-requires : goal.read_cleared-answer-requires
read_cleared-answer-requires c = let a = c.args in
    let e = c.clear_all.ensures in
    let b = slices a.items.now a.entry_states.now a.kernels.now a.lookaheads.now a.kinds.now a.values.now a.gotos.now a.named.now in
    wiped_now b (sym c.has_room-room.ensures ∙ c.if-not-room.false)
    (record {
      items_zero = e.after;
      states_zero = e.entry_states_after;
      kernels_zero = e.kernels_after;
      lookaheads_zero = e.lookaheads_after;
      kinds_zero = e.kinds_after;
      values_zero = e.values_after;
      gotos_zero = e.gotos_after;
      named_zero = e.named_after;
    })

pub shape_of-items-in-Refused : goal.shape_of-items-in-Refused
shape_of-items-in-Refused c = c.clear_all-in-Refused.auto.items ∙ (c.read_cleared-answer.auto.items ∙ c.clear_all.auto.items)

pub shape_of-entry_states-in-Refused : goal.shape_of-entry_states-in-Refused
shape_of-entry_states-in-Refused c = c.clear_all-in-Refused.auto.entry_states ∙ (c.read_cleared-answer.auto.entry_states ∙ c.clear_all.auto.entry_states)

pub shape_of-kernels-in-Refused : goal.shape_of-kernels-in-Refused
shape_of-kernels-in-Refused c = c.clear_all-in-Refused.auto.kernels ∙ (c.read_cleared-answer.auto.kernels ∙ c.clear_all.auto.kernels)

pub shape_of-lookaheads-in-Refused : goal.shape_of-lookaheads-in-Refused
shape_of-lookaheads-in-Refused c = c.clear_all-in-Refused.auto.lookaheads ∙ (c.read_cleared-answer.auto.lookaheads ∙ c.clear_all.auto.lookaheads)

pub shape_of-kinds-in-Refused : goal.shape_of-kinds-in-Refused
shape_of-kinds-in-Refused c = c.clear_all-in-Refused.auto.kinds ∙ (c.read_cleared-answer.auto.kinds ∙ c.clear_all.auto.kinds)

pub shape_of-values-in-Refused : goal.shape_of-values-in-Refused
shape_of-values-in-Refused c = c.clear_all-in-Refused.auto.values ∙ (c.read_cleared-answer.auto.values ∙ c.clear_all.auto.values)

pub shape_of-gotos-in-Refused : goal.shape_of-gotos-in-Refused
shape_of-gotos-in-Refused c = c.clear_all-in-Refused.auto.gotos ∙ (c.read_cleared-answer.auto.gotos ∙ c.clear_all.auto.gotos)

pub shape_of-named-in-Refused : goal.shape_of-named-in-Refused
shape_of-named-in-Refused c = c.clear_all-in-Refused.auto.named ∙ (c.read_cleared-answer.auto.named ∙ c.clear_all.auto.named)

pub returns-in-Refused : goal.returns-in-Refused
returns-in-Refused c = let a = c.args in
    let e = c.clear_all.ensures in
    let s = c.read_cleared-answer.auto in
    let z = c.clear_all-in-Refused.ensures in
    by-clause (room_holds (tables_of a.grammar.now a.book.now) (sym c.has_room-room.ensures ∙ c.if-not-room.false)
    (cleared_refused c.read_cleared-answer.ensures c.in-Refused.is
    (record {
      items_zero = e.after;
      states_zero = e.entry_states_after;
      kernels_zero = e.kernels_after;
      lookaheads_zero = e.lookaheads_after;
      kinds_zero = e.kinds_after;
      values_zero = e.values_after;
      gotos_zero = e.gotos_after;
      named_zero = e.named_after;
    })
    (record {
      items_same = s.items;
      states_same = s.entry_states;
      kernels_same = s.kernels;
      lookaheads_same = s.lookaheads;
      kinds_same = s.kinds;
      values_same = s.values;
      gotos_same = s.gotos;
      named_same = s.named;
    })
    (record {
      items_zero = z.after;
      states_zero = z.entry_states_after;
      kernels_zero = z.kernels_after;
      lookaheads_zero = z.lookaheads_after;
      kinds_zero = z.kinds_after;
      values_zero = z.values_after;
      gotos_zero = z.gotos_after;
      named_zero = z.named_after;
    })))

pub shape_of-items : goal.shape_of-items
shape_of-items c = c.read_cleared-answer.auto.items ∙ c.clear_all.auto.items

pub shape_of-entry_states : goal.shape_of-entry_states
shape_of-entry_states c = c.read_cleared-answer.auto.entry_states ∙ c.clear_all.auto.entry_states

pub shape_of-kernels : goal.shape_of-kernels
shape_of-kernels c = c.read_cleared-answer.auto.kernels ∙ c.clear_all.auto.kernels

pub shape_of-lookaheads : goal.shape_of-lookaheads
shape_of-lookaheads c = c.read_cleared-answer.auto.lookaheads ∙ c.clear_all.auto.lookaheads

pub shape_of-kinds : goal.shape_of-kinds
shape_of-kinds c = c.read_cleared-answer.auto.kinds ∙ c.clear_all.auto.kinds

pub shape_of-values : goal.shape_of-values
shape_of-values c = c.read_cleared-answer.auto.values ∙ c.clear_all.auto.values

pub shape_of-gotos : goal.shape_of-gotos
shape_of-gotos c = c.read_cleared-answer.auto.gotos ∙ c.clear_all.auto.gotos

pub shape_of-named : goal.shape_of-named
shape_of-named c = c.read_cleared-answer.auto.named ∙ c.clear_all.auto.named

pub returns : goal.returns
returns c = let a = c.args in
    let e = c.clear_all.ensures in
    by-clause (room_holds (tables_of a.grammar.now a.book.now) (sym c.has_room-room.ensures ∙ c.if-not-room.false)
    (cleared_read c.read_cleared-answer.ensures c.in_default.is
    (record {
      items_zero = e.after;
      states_zero = e.entry_states_after;
      kernels_zero = e.kernels_after;
      lookaheads_zero = e.lookaheads_after;
      kinds_zero = e.kinds_after;
      values_zero = e.values_after;
      gotos_zero = e.gotos_after;
      named_zero = e.named_after;
    })))
