-- `table_entries::read_entry` meets its contract. Assumes nothing.
use Rattle.table_lines.specs.Block.{taken, turned}
use Rattle.table_lines.specs.Line.{line_at}
use Rattle.table_lines.proofs.HeldLaws.{Whole, whole_read, broken_read, held_count, held_at, numbers_take}
use Rattle.table_entries.specs.Entries.{judge_entry}
use Rattle.table_entries.specs.Memory.{Rows, RulesIn, last_use}
use Rattle.table_entries.proofs.MemoryLaws.{memory_more}
use Rattle.table_entries.proofs.OrderLaws.{in_order_is, groups_small, rules_held}
use Rattle.table_entries.proofs.NextLaws.{entry_broken, entry_refused, entry_kept, EntryFine, entry_fine, fine_fits, fine_low}
use Rattle.table_entries.proofs.CapLaws.{rows_small}
use Rattle.items.specs.Layout.{entry_row}
use Rattle.language.specs.Grammar.{Grammar}
use Rattle.leftcorner.specs.Table.{EntryLine}
use Rattle.table_order.specs.Order.{first_use}
use lib.Seq.{sets}
use lib.ListN.{drop, length, get_or, set, replicate}
use mathlib.Core.List.{List, [], ◌∷◌}
use mathlib.Core.Path.{◌≡◌, sym, ap, ◌∙◌}
use Prim.Native.Nat.{ℕ, ◌+◌, ◌*◌}
use native.Mathlib.Omega.{arith}
use borrow.Author.Rules.{rules}
use Rattle.table_entries.proofs.read_entry.Goals as goal
use Rattle.table_entries.proofs.read_entry.Goals.{After-judge_entry-judgement, In-Whole, In_default-judgement}

-- the line that was read
line_read : (c : In-Whole) → let a = c.args in Whole (line_at a.s.now a.at) c.in-Whole.letter c.in-Whole.p c.in-Whole.next c.read_line.new.numbers
line_read c = whole_read _ (replicate 67 0) c.read_line.new.numbers (sym c.in-Whole.is ∙ c.read_line.ensures.value) c.read_line.ensures.stores (search rules)

room : (c : In-Whole) → length c.read_line.new.numbers ≡ 67
room c = search rules

-- the rules and lines that memory holds, by which the line is judged
abbrev HeldAt : (c : After-judge_entry-judgement) → Grammar → List EntryLine → Type 0
HeldAt c g l = let a = c.args in
    RulesIn g a.items.now a.rules × (length l ≡ a.entries) × Rows a.items.now a.rules l × (a.last.now ≡ last_use g.rules l ∷ [])

-- `line_read` at a later place
line_read-at : (c : After-judge_entry-judgement) → let a = c.args in Whole (line_at a.s.now a.at) c.in-Whole.letter c.in-Whole.p c.in-Whole.next c.read_line.new.numbers
line_read-at c = whole_read _ (replicate 67 0) c.read_line.new.numbers (sym c.in-Whole.is ∙ c.read_line.ensures.value) c.read_line.ensures.stores (search rules)

-- the first use of its string
used-at : (c : After-judge_entry-judgement) (g : Grammar) (l : List EntryLine) → HeldAt c g l
    → c.use_of-used.result ≡ first_use g.rules (drop 1 (line_read-at c).numbers)
used-at c g l h = let w = line_read-at c in c.use_of-used.ensures g w.numbers h.0 w.held.numbers

-- the judgement
judged-at : (c : After-judge_entry-judgement) (g : Grammar) (l : List EntryLine) → HeldAt c g l → let a = c.args in
    c.judge_entry-judgement.result ≡ judge_entry a.t a.n g.rules a.states l c.in-Whole.letter (line_read-at c).numbers
judged-at c g l h = let w = line_read-at c in
    c.judge_entry-judgement.ensures g.rules l w.numbers h.1 h.2 w.held
    (in_order_is g.rules l (drop 1 w.numbers) c.may_follow-in_order.ensures (used-at c g l h) (ap (λ (m : List ℕ). get_or m 0 0) h.3))

-- `line_read` at a later place
line_read-at-2 : (c : In_default-judgement) → let a = c.args in Whole (line_at a.s.now a.at) c.in-Whole.letter c.in-Whole.p c.in-Whole.next c.read_line.new.numbers
line_read-at-2 c = whole_read _ (replicate 67 0) c.read_line.new.numbers (sym c.in-Whole.is ∙ c.read_line.ensures.value) c.read_line.ensures.stores (search rules)

-- `HeldAt` at a later place
abbrev HeldAt-at : (c : In_default-judgement) → Grammar → List EntryLine → Type 0
HeldAt-at c g l = let a = c.args in
    RulesIn g a.items.now a.rules × (length l ≡ a.entries) × Rows a.items.now a.rules l × (a.last.now ≡ last_use g.rules l ∷ [])

-- `used-at` at a later place
used-at-at : (c : In_default-judgement) (g : Grammar) (l : List EntryLine) → HeldAt-at c g l
    → c.use_of-used.result ≡ first_use g.rules (drop 1 (line_read-at-2 c).numbers)
used-at-at c g l h = let w = line_read-at-2 c in c.use_of-used.ensures g w.numbers h.0 w.held.numbers

-- `judged-at` at a later place
judged-at-at : (c : In_default-judgement) (g : Grammar) (l : List EntryLine) → HeldAt-at c g l → let a = c.args in
    c.judge_entry-judgement.result ≡ judge_entry a.t a.n g.rules a.states l c.in-Whole.letter (line_read-at-2 c).numbers
judged-at-at c g l h = let w = line_read-at-2 c in
    c.judge_entry-judgement.ensures g.rules l w.numbers h.1 h.2 w.held
    (in_order_is g.rules l (drop 1 w.numbers) c.may_follow-in_order.ensures (used-at-at c g l h) (ap (λ (m : List ℕ). get_or m 0 0) h.3))

-- it is fine after the lines that memory holds
fine-at : (c : In_default-judgement) → let k = c.requires.holds_entries in
    EntryFine c.args.t c.args.n k.grammar.rules c.args.states k.lines (line_read-at-2 c).numbers
fine-at c = let k = c.requires.holds_entries in
    let w = line_read-at-2 c in
    entry_fine _ _ _ _ k.lines _ w.numbers (sym (judged-at-at c k.grammar k.lines (k.rules_in, k.count_is, k.rows, k.last_is)) ∙ c.in_default-judgement.is)

pub returns-in_default : goal.returns-in_default
returns-in_default c = λ g m a b l r q h. rw (entry_broken _ _ _ _ _ _ l (broken_read _ (sym c.in_default.is ∙ c.read_line.ensures.value))) turned

pub use_of-used-requires : goal.use_of-used-requires
use_of-used-requires c =
    let p = c.requires in
    let k = p.holds_entries in
    record { shaped = p.shaped; rules_le = (omega arith, omega (arith, k.rules_in.formed.few_rules, k.rules_in.holds.count), search rules) }

pub bounds-last-0 : goal.bounds-last-0
bounds-last-0 c =
    let one : length c.args.last.now ≡ 1 = ap length c.requires.holds_entries.last_is in
    search rules

pub returns-in-Faulty : goal.returns-in-Faulty
returns-in-Faulty c = λ g m a b l r q h.
    rw (entry_refused _ _ _ _ _ _ l (groups_small r.formed) (rows_small h.0.rows h.0.shaped) (line_read-at (goal.at.returns-in-Faulty c).After-judge_entry-judgement).line_is
    (sym (judged-at (goal.at.returns-in-Faulty c).After-judge_entry-judgement g l (rules_held h.0 r, q, h.0.rows, h.1)) ∙ c.in-Faulty.is)) turned

pub overflow_add-rules-2 : goal.overflow_add-rules-2
overflow_add-rules-2 c = record { fits = omega (arith, c.requires.s_len_bound) }

pub overflow_add-rules-3 : goal.overflow_add-rules-3
overflow_add-rules-3 c = record { fits = omega (arith, c.requires.s_len_bound) }

pub overflow_mul-rules : goal.overflow_mul-rules
overflow_mul-rules c = record { fits = omega (arith, c.requires.s_len_bound) }

pub store_row-requires : goal.store_row-requires
store_row-requires c = let f = fine-at (goal.at.store_row-requires c).In_default-judgement in
    let w = line_read-at-2 (goal.at.store_row-requires c).In_default-judgement in
    let p = c.requires in record { le_count = (omega (arith, held_count w.held, f.long), omega (arith, held_count w.held, f.short), search rules, omega (arith, p.s_len_bound)); by_index = (λ k l. omega (arith, held_at w.held k (omega (arith, held_count w.held, l)) (omega (arith, held_count w.held, l, f.short)), fine_low _ _ p.s_len_bound.1 p.s_len_bound.2 p.s_len_bound.3 f k)); by_index_2 = (λ j l d. p.empty j l) }

pub overflow_add-entries : goal.overflow_add-entries
overflow_add-entries c = record { fits = omega (arith, c.requires.s_len_bound) }

pub put-requires : goal.put-requires
put-requires c =
    let f = fine-at (goal.at.put-requires c).In_default-judgement in
    let w = line_read-at-2 (goal.at.put-requires c).In_default-judgement in
    omega (arith, held_at w.held 0 (omega (arith, f.long)) (search rules), f.few_states, c.requires.s_len_bound)

pub bounds-last-0-2 : goal.bounds-last-0-2
bounds-last-0-2 c =
    let one : length c.args.last.now ≡ 1 = ap length c.requires.holds_entries.last_is in
    search rules

pub bounds-last-0-3 : goal.bounds-last-0-3
bounds-last-0-3 c =
    let one : length c.args.last.now ≡ 1 = ap length c.requires.holds_entries.last_is in
    search rules

pub returns : goal.returns
returns c = λ g m a b l r q h.
    let w = line_read-at (goal.at.returns c).After-judge_entry-judgement in
    let p = c.requires in
    let i = c.args in
    let held : HeldAt (goal.at.returns c).After-judge_entry-judgement g l = (rules_held h.0 r, q, h.0.rows, h.1) in
    let fine = sym (judged-at (goal.at.returns c).After-judge_entry-judgement g l held) ∙ c.in_default-judgement.is in
    let f = entry_fine _ _ g.rules _ l _ w.numbers fine in
    let first = sym (held_at w.held 0 (omega (arith, f.long)) (omega (arith, room (goal.at.returns c).In-Whole))) in
    rw (entry_kept _ _ _ _ _ _ l (groups_small r.formed) (rows_small h.0.rows h.0.shaped) w.line_is fine)
    (taken (
      memory_more h.0 _ _ (fine_fits _ _ p.s_len_bound.1 p.s_len_bound.2 f) (omega (arith, p.entries_in_bounds, q))
          (c.store_row.ensures
          ∙ (ap (λ (z : List ℕ). sets i.items.now ((i.rules + i.entries + 1) * 64) (entry_row (drop 1 z))) (numbers_take w.held.numbers (omega (arith, held_count w.held, f.short, room (goal.at.returns c).In-Whole)))
          ∙ ap (λ (k : ℕ). sets i.items.now ((i.rules + k + 1) * 64) (entry_row (drop 1 w.numbers))) (sym q)))
          (c.put.ensures
          ∙ (ap (λ (k : ℕ). set i.entry_states.now (k + 1) (get_or c.read_line.new.numbers 0 0)) (sym q)
          ∙ ap (λ (x : ℕ). set i.entry_states.now (length l + 1) x) first))
          (c.put-2.ensures ∙ ap (λ (x : ℕ). set i.named.now x 1) first),
      ap (λ (x : List ℕ). set x 0 c.bind_next.result) h.1
          ∙ ap (λ (u : ℕ). u ∷ []) (c.bind_next.ensures g.rules l _ _ q (ap (λ (x : List ℕ). get_or x 0 0) h.1) (used-at (goal.at.returns c).After-judge_entry-judgement g l held)),
    ))
