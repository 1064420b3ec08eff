-- Both books are read and the tables checked.
use mathlib.Core.Path.{◌≡◌, sym, ◌∙◌}
use mathlib.Core.Bool.{true}
use native.Mathlib.Omega.{arith}
use Rattle.table.specs.Book.{tables_of}
use Rattle.table.specs.Memory.{slices, has_room, reply_of, Holds}
use Rattle.table.proofs.IntoLaws.{has_room_lem, Alike}
use Rattle.checker.proofs.LoadLaws.{BooksRead, with_room, books_read, not_read, read_sized, read_given, read_low, read_goal, read_checked}
use Rattle.checker.proofs.check_books.Goals as goal
use Rattle.checker.proofs.check_books.Goals.{After-read_tables-answer, In-Read, Start}

alike : (c : After-read_tables-answer) → Alike (slices c.read_tables-answer.new.items c.read_tables-answer.new.entry_states c.read_tables-answer.new.kernels c.read_tables-answer.new.lookaheads c.read_tables-answer.new.kinds c.read_tables-answer.new.values c.read_tables-answer.new.gotos c.read_tables-answer.new.named) (slices c.args.items.now c.args.entry_states.now c.args.kernels.now c.args.lookaheads.now c.args.kinds.now c.args.values.now c.args.gotos.now c.args.named.now)
alike c =
    record {
      items_same = c.read_tables-answer.auto.items;
      states_same = c.read_tables-answer.auto.entry_states;
      kernels_same = c.read_tables-answer.auto.kernels;
      lookaheads_same = c.read_tables-answer.auto.lookaheads;
      kinds_same = c.read_tables-answer.auto.kinds;
      values_same = c.read_tables-answer.auto.values;
      gotos_same = c.read_tables-answer.auto.gotos;
      named_same = c.read_tables-answer.auto.named;
    }

-- ---- both books were read
room : (c : Start) → has_room (slices c.args.items.now c.args.entry_states.now c.args.kernels.now c.args.lookaheads.now c.args.kinds.now c.args.values.now c.args.gotos.now c.args.named.now) ≡ true
room c = has_room_lem (slices c.args.items.now c.args.entry_states.now c.args.kernels.now c.args.lookaheads.now c.args.kinds.now c.args.values.now c.args.gotos.now c.args.named.now) c.requires

-- `room` at a later place
room-at : (c : After-read_tables-answer) → has_room (slices c.args.items.now c.args.entry_states.now c.args.kernels.now c.args.lookaheads.now c.args.kinds.now c.args.values.now c.args.gotos.now c.args.named.now) ≡ true
room-at c = has_room_lem (slices c.args.items.now c.args.entry_states.now c.args.kernels.now c.args.lookaheads.now c.args.kinds.now c.args.values.now c.args.gotos.now c.args.named.now) c.requires

answered :
    (c : After-read_tables-answer)
    → (c.read_tables-answer.result ≡ reply_of (tables_of c.args.grammar.now c.args.book.now))
    × Holds (tables_of c.args.grammar.now c.args.book.now) (slices c.args.items.now c.args.entry_states.now c.args.kernels.now c.args.lookaheads.now c.args.kinds.now c.args.values.now c.args.gotos.now c.args.named.now) (slices c.read_tables-answer.new.items c.read_tables-answer.new.entry_states c.read_tables-answer.new.kernels c.read_tables-answer.new.lookaheads c.read_tables-answer.new.kinds c.read_tables-answer.new.values c.read_tables-answer.new.gotos c.read_tables-answer.new.named)
answered c = with_room {b = (slices c.args.items.now c.args.entry_states.now c.args.kernels.now c.args.lookaheads.now c.args.kinds.now c.args.values.now c.args.gotos.now c.args.named.now)} {a = (slices c.read_tables-answer.new.items c.read_tables-answer.new.entry_states c.read_tables-answer.new.kernels c.read_tables-answer.new.lookaheads c.read_tables-answer.new.kinds c.read_tables-answer.new.values c.read_tables-answer.new.gotos c.read_tables-answer.new.named)} (tables_of c.args.grammar.now c.args.book.now) (room-at c) (c.read_tables-answer.ensures.value, c.read_tables-answer.ensures.holds)

-- `room` at a later place
room-at-2 : (c : In-Read) → has_room (slices c.args.items.now c.args.entry_states.now c.args.kernels.now c.args.lookaheads.now c.args.kinds.now c.args.values.now c.args.gotos.now c.args.named.now) ≡ true
room-at-2 c = has_room_lem (slices c.args.items.now c.args.entry_states.now c.args.kernels.now c.args.lookaheads.now c.args.kinds.now c.args.values.now c.args.gotos.now c.args.named.now) c.requires

-- `answered` at a later place
answered-at :
    (c : In-Read)
    → (c.read_tables-answer.result ≡ reply_of (tables_of c.args.grammar.now c.args.book.now))
    × Holds (tables_of c.args.grammar.now c.args.book.now) (slices c.args.items.now c.args.entry_states.now c.args.kernels.now c.args.lookaheads.now c.args.kinds.now c.args.values.now c.args.gotos.now c.args.named.now) (slices c.read_tables-answer.new.items c.read_tables-answer.new.entry_states c.read_tables-answer.new.kernels c.read_tables-answer.new.lookaheads c.read_tables-answer.new.kinds c.read_tables-answer.new.values c.read_tables-answer.new.gotos c.read_tables-answer.new.named)
answered-at c = with_room {b = (slices c.args.items.now c.args.entry_states.now c.args.kernels.now c.args.lookaheads.now c.args.kinds.now c.args.values.now c.args.gotos.now c.args.named.now)} {a = (slices c.read_tables-answer.new.items c.read_tables-answer.new.entry_states c.read_tables-answer.new.kernels c.read_tables-answer.new.lookaheads c.read_tables-answer.new.kinds c.read_tables-answer.new.values c.read_tables-answer.new.gotos c.read_tables-answer.new.named)} (tables_of c.args.grammar.now c.args.book.now) (room-at-2 c) (c.read_tables-answer.ensures.value, c.read_tables-answer.ensures.holds)

load :
    (c : In-Read)
    → BooksRead c.args.grammar.now c.args.book.now
    (slices c.args.items.now c.args.entry_states.now c.args.kernels.now c.args.lookaheads.now c.args.kinds.now c.args.values.now c.args.gotos.now c.args.named.now) (slices c.read_tables-answer.new.items c.read_tables-answer.new.entry_states c.read_tables-answer.new.kernels c.read_tables-answer.new.lookaheads c.read_tables-answer.new.kinds c.read_tables-answer.new.values c.read_tables-answer.new.gotos c.read_tables-answer.new.named) c.in-Read.counts
load c =
    let h = answered-at c in
    books_read c.args.grammar.now c.args.book.now h.0 h.1 c.in-Read.is

pub shape_of-items-in_default : goal.shape_of-items-in_default
shape_of-items-in_default c = (alike (goal.at.shape_of-items-in_default c).After-read_tables-answer).items_same

pub shape_of-entry_states-in_default : goal.shape_of-entry_states-in_default
shape_of-entry_states-in_default c = (alike (goal.at.shape_of-entry_states-in_default c).After-read_tables-answer).states_same

pub shape_of-kernels-in_default : goal.shape_of-kernels-in_default
shape_of-kernels-in_default c = (alike (goal.at.shape_of-kernels-in_default c).After-read_tables-answer).kernels_same

pub shape_of-lookaheads-in_default : goal.shape_of-lookaheads-in_default
shape_of-lookaheads-in_default c = (alike (goal.at.shape_of-lookaheads-in_default c).After-read_tables-answer).lookaheads_same

pub shape_of-kinds-in_default : goal.shape_of-kinds-in_default
shape_of-kinds-in_default c = (alike (goal.at.shape_of-kinds-in_default c).After-read_tables-answer).kinds_same

pub shape_of-values-in_default : goal.shape_of-values-in_default
shape_of-values-in_default c = (alike (goal.at.shape_of-values-in_default c).After-read_tables-answer).values_same

pub shape_of-gotos-in_default : goal.shape_of-gotos-in_default
shape_of-gotos-in_default c = (alike (goal.at.shape_of-gotos-in_default c).After-read_tables-answer).gotos_same

pub shape_of-named-in_default : goal.shape_of-named-in_default
shape_of-named-in_default c = (alike (goal.at.shape_of-named-in_default c).After-read_tables-answer).named_same

pub returns-in_default : goal.returns-in_default
returns-in_default c =
    let a = c.args in
    let h = answered (goal.at.returns-in_default c).After-read_tables-answer in
    record { answer_value = h.0; holds = h.1; verdict_value = c.as_reply.ensures ∙ not_read a.grammar.now a.book.now h.0 c.in_default.is }

pub overflow_add-count : goal.overflow_add-count
overflow_add-count c =
    let S = read_sized (load (goal.at.overflow_add-count c).In-Read) (room-at-2 (goal.at.overflow_add-count c).In-Read) in
    omega (arith, S.few_rules, S.few_strings)

pub overflow_add-codes : goal.overflow_add-codes
overflow_add-codes c =
    omega (arith, (read_low (load (goal.at.overflow_add-codes c).In-Read)).0)

pub check_table-verdict-requires : goal.check_table-verdict-requires
check_table-verdict-requires c =
    let low = read_low (load (goal.at.check_table-verdict-requires c).In-Read) in
    record { table_room = read_sized (load (goal.at.check_table-verdict-requires c).In-Read) (room-at-2 (goal.at.check_table-verdict-requires c).In-Read); le_codes = (omega arith, omega (arith, low.0), low.1) }

pub shape_of-items : goal.shape_of-items
shape_of-items c = (alike (goal.at.shape_of-items c).After-read_tables-answer).items_same

pub shape_of-entry_states : goal.shape_of-entry_states
shape_of-entry_states c = (alike (goal.at.shape_of-entry_states c).After-read_tables-answer).states_same

pub shape_of-kernels : goal.shape_of-kernels
shape_of-kernels c = (alike (goal.at.shape_of-kernels c).After-read_tables-answer).kernels_same

pub shape_of-lookaheads : goal.shape_of-lookaheads
shape_of-lookaheads c = (alike (goal.at.shape_of-lookaheads c).After-read_tables-answer).lookaheads_same

pub shape_of-kinds : goal.shape_of-kinds
shape_of-kinds c = (alike (goal.at.shape_of-kinds c).After-read_tables-answer).kinds_same

pub shape_of-values : goal.shape_of-values
shape_of-values c = (alike (goal.at.shape_of-values c).After-read_tables-answer).values_same

pub shape_of-gotos : goal.shape_of-gotos
shape_of-gotos c = (alike (goal.at.shape_of-gotos c).After-read_tables-answer).gotos_same

pub shape_of-named : goal.shape_of-named
shape_of-named c = (alike (goal.at.shape_of-named c).After-read_tables-answer).named_same

pub returns : goal.returns
returns c =
    let l = load (goal.at.returns c).In-Read in
    let h = answered-at (goal.at.returns c).In-Read in
    record { answer_value = sym c.in-Read.is ∙ h.0; holds = h.1; verdict_value = read_checked l (c.check_table-verdict.ensures l.grammar l.table (read_given l (room-at (goal.at.returns c).After-read_tables-answer)) (read_goal l)) }
