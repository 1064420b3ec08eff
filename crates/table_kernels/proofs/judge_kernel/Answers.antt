use mathlib.Core.Path.{sym, ◌∙◌}
use native.Mathlib.Omega.{arith}
use borrow.Author.Rules.{rules}
use Rattle.range.proofs.RangeLaws.{within-true}
use Rattle.items.specs.Layout.{length_at}
use Rattle.table_kernels.proofs.JudgeLaws.{too_short, falling, out_of_order, too_large, too_many, no_state, no_item, no_dot, no_codes, fine}
use Rattle.table_kernels.proofs.judge_kernel.Goals as goal

pub returns-then-p-lt4 : goal.returns-then-p-lt4
returns-then-p-lt4 c = λ l ns q m h.
    too_short c.args.t c.args.states c.args.items (length_at c.args.m.now) q m h c.requires.numbers_len.0 c.requires.numbers_len.1
    c.if-p-lt4.true

pub returns-then-not-p : goal.returns-then-not-p
returns-then-not-p c = λ l ns q m h.
    falling c.args.t c.args.states c.args.items (length_at c.args.m.now) q m h c.requires.numbers_len.0 c.requires.numbers_len.1
    c.if-p-lt4.false (search rules)

pub returns-then-not-is_after : goal.returns-then-not-is_after
returns-then-not-is_after c = λ l ns q m h.
    out_of_order c.args.t c.args.states c.args.items (length_at c.args.m.now) q m h c.requires.numbers_len.0 c.requires.numbers_len.1
    c.if-p-lt4.false (search rules) (sym c.is_after.ensures ∙ c.if-not-is_after.true)

pub returns-then-p-gt65535 : goal.returns-then-p-gt65535
returns-then-p-gt65535 c = λ l ns q m h.
    too_large c.args.t c.args.states c.args.items (length_at c.args.m.now) q m h c.requires.numbers_len.0 c.requires.numbers_len.1
    c.if-p-lt4.false (search rules) (sym c.is_after.ensures ∙ c.if-not-is_after.false) c.if-p-gt65535.true

pub returns-then-lines-ge1023 : goal.returns-then-lines-ge1023
returns-then-lines-ge1023 c = λ l ns q m h.
    too_many c.args.t c.args.states c.args.items (length_at c.args.m.now) q m h c.requires.numbers_len.0 c.requires.numbers_len.1
    c.if-p-lt4.false (search rules) (sym c.is_after.ensures ∙ c.if-not-is_after.false) c.if-p-gt65535.false (omega arith)

pub returns-then-not-in_range : goal.returns-then-not-in_range
returns-then-not-in_range c = λ l ns q m h.
    no_state c.args.t c.args.states c.args.items (length_at c.args.m.now) q m h c.requires.numbers_len.0 c.requires.numbers_len.1
    c.if-p-lt4.false (search rules) (sym c.is_after.ensures ∙ c.if-not-is_after.false) c.if-p-gt65535.false (omega arith) (sym c.in_range.ensures ∙ c.if-not-in_range.true)

pub returns-then-not-in_range-2 : goal.returns-then-not-in_range-2
returns-then-not-in_range-2 c = λ l ns q m h.
    no_item c.args.t c.args.states c.args.items (length_at c.args.m.now) q m h c.requires.numbers_len.0 c.requires.numbers_len.1
    c.if-p-lt4.false (search rules) (sym c.is_after.ensures ∙ c.if-not-is_after.false) c.if-p-gt65535.false (omega arith) (sym c.in_range.ensures ∙ c.if-not-in_range.false) (sym c.in_range-2.ensures ∙ c.if-not-in_range-2.true)

pub length_of-requires : goal.length_of-requires
length_of-requires c = record { shaped = c.requires.shaped; i_le = omega (arith, within-true _ _ _ (sym c.in_range-2.ensures ∙ c.if-not-in_range-2.false)) }

pub returns-then-length_of-numbers : goal.returns-then-length_of-numbers
returns-then-length_of-numbers c = λ l ns q m h.
    no_dot c.args.t c.args.states c.args.items (length_at c.args.m.now) q m h c.requires.numbers_len.0 c.requires.numbers_len.1
    c.if-p-lt4.false (search rules) (sym c.is_after.ensures ∙ c.if-not-is_after.false) c.if-p-gt65535.false (omega arith) (sym c.in_range.ensures ∙ c.if-not-in_range.false) (sym c.in_range-2.ensures ∙ c.if-not-in_range-2.false) (omega (arith, c.length_of.ensures.0, c.if-length_of-numbers.true))

pub returns-then-not-is_lookahead : goal.returns-then-not-is_lookahead
returns-then-not-is_lookahead c = λ l ns q m h.
    no_codes c.args.t c.args.states c.args.items (length_at c.args.m.now) q m h c.requires.numbers_len.0 c.requires.numbers_len.1
    c.if-p-lt4.false (search rules) (sym c.is_after.ensures ∙ c.if-not-is_after.false) c.if-p-gt65535.false (omega arith) (sym c.in_range.ensures ∙ c.if-not-in_range.false) (sym c.in_range-2.ensures ∙ c.if-not-in_range-2.false) (omega (arith, c.length_of.ensures.0, c.if-length_of-numbers.false)) (sym c.is_lookahead.ensures ∙ c.if-not-is_lookahead.true)

pub returns : goal.returns
returns c = λ l ns q m h.
    fine c.args.t c.args.states c.args.items (length_at c.args.m.now) q m h c.requires.numbers_len.0 c.requires.numbers_len.1
    c.if-p-lt4.false (search rules) (sym c.is_after.ensures ∙ c.if-not-is_after.false) c.if-p-gt65535.false (omega arith) (sym c.in_range.ensures ∙ c.if-not-in_range.false) (sym c.in_range-2.ensures ∙ c.if-not-in_range-2.false) (omega (arith, c.length_of.ensures.0, c.if-length_of-numbers.false)) (sym c.is_lookahead.ensures ∙ c.if-not-is_lookahead.false)
