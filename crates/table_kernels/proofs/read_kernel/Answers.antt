-- `table_kernels::read_kernel` meets its contract. Assumes nothing.
use Rattle.table_kernels.proofs.NextLaws.{code_low, none_comes, kernel_broken, kernel_other, kernel_refused, kernel_kept, KernelFine, with_fine, key_small, fine_short}
use Rattle.table_kernels.proofs.MemoryLaws.{kernel_more, figures_by, triple_by, flags_by}
use Rattle.table_lines.proofs.CapLaws.{at_most}
use Rattle.table_lines.proofs.HeldLaws.{Whole, whole_read, broken_read, held_count, held_at, numbers_take}
use Rattle.table_lines.specs.Block.{taken, turned}
use Rattle.table_lines.specs.Line.{line_at}
use Rattle.items.specs.Layout.{length_at}
use lib.ListN.{drop, get_or, replicate}
use mathlib.Core.Path.{sym, ap, ◌∙◌}
use Prim.Native.Nat.{◌≤◌, ◌<◌}
use native.Mathlib.Omega.{arith}
use borrow.Author.Rules.{rules}
use Rattle.table_kernels.proofs.read_kernel.Goals as goal
use Rattle.table_kernels.proofs.read_kernel.Goals.{In-Whole, In_default-judgement}

-- the line that was read
line_read : (c : In-Whole) → let a = c.args in Whole (line_at a.s.now a.at) c.in-Whole.letter c.in-Whole.p c.in-Whole.next c.read_line.new.numbers
line_read c = whole_read _ (replicate 67 0) c.read_line.new.numbers (sym c.in-Whole.is ∙ c.read_line.ensures.value) c.read_line.ensures.stores (search rules)

-- `line_read` at a later place
line_read-at : (c : In_default-judgement) → let a = c.args in Whole (line_at a.s.now a.at) c.in-Whole.letter c.in-Whole.p c.in-Whole.next c.read_line.new.numbers
line_read-at c = whole_read _ (replicate 67 0) c.read_line.new.numbers (sym c.in-Whole.is ∙ c.read_line.ensures.value) c.read_line.ensures.stores (search rules)

-- it is fine after the lines that memory holds
fine-at : (c : In_default-judgement) → let a = c.args in
    KernelFine a.t a.states a.items (length_at a.m.now) c.requires.holds_last.lines (line_read-at c).numbers
fine-at c = let k = c.requires.holds_last in
    let w = line_read-at c in
    with_fine _ _ _ _ _ k.lines w.numbers (sym (c.judge_kernel-judgement.ensures k.lines w.numbers k.count_is k.last_is w.held) ∙ c.in_default-judgement.is) w.held.rises

-- so its figures are small
low-at : (c : In_default-judgement) → let m = c.read_line.new.numbers in
    (c.args.lines < 1023) × (get_or m 0 0 ≤ 255) × (get_or m 1 0 ≤ 255) × (get_or m 2 0 ≤ 15)
low-at c = let p = c.requires in
    let w = line_read-at c in
    let f = fine-at c in (
      omega (arith, f.few, p.holds_last.count_is),
      omega (arith, held_at w.held 0 (omega (arith, f.long)) (search rules), f.state_in.1, p.s_len_bound.2),
      omega (arith, held_at w.held 1 (omega (arith, f.long)) (search rules), f.item_in.1, p.s_len_bound.3),
      omega (arith, held_at w.held 2 (omega (arith, f.long)) (search rules), f.dot_in, p.shaped.lengths _ f.item_in.1),
    )

pub returns-in_default : goal.returns-in_default
returns-in_default c = λ a b l q h. rw (kernel_broken _ _ _ _ _ _ l (broken_read _ (sym c.in_default.is ∙ c.read_line.ensures.value))) (none_comes _ l _ (c.no_kernel.ensures l q) h)

pub returns-then-letter-ne75 : goal.returns-then-letter-ne75
returns-then-letter-ne75 c = λ a b l q h.
    let w = line_read (goal.at.returns-then-letter-ne75 c).In-Whole in
    rw (kernel_other _ _ _ _ _ _ l h.last_is w.line_is w.rises c.if-letter-ne75.true) (none_comes _ l _ (c.no_kernel-then-letter-ne75.ensures l q) h)

pub returns-in-Faulty : goal.returns-in-Faulty
returns-in-Faulty c = λ a b l q h.
    let w = line_read (goal.at.returns-in-Faulty c).In-Whole in
    rw (kernel_refused _ _ _ _ _ _ l h.last_is w.line_is w.rises c.if-letter-ne75.false (sym (c.judge_kernel-judgement.ensures l w.numbers q h.last_is w.held) ∙ c.in-Faulty.is)) turned

pub store_figures-requires : goal.store_figures-requires
store_figures-requires c = let b = low-at (goal.at.store_figures-requires c).In_default-judgement in (omega (arith, b.0), omega (arith, b.1), omega (arith, b.2), omega (arith, b.3))

pub overflow_mul-lines : goal.overflow_mul-lines
overflow_mul-lines c = record { fits = omega (arith, (low-at (goal.at.overflow_mul-lines c).In_default-judgement).0) }

pub store_codes-requires : goal.store_codes-requires
store_codes-requires c = let f = fine-at (goal.at.store_codes-requires c).In_default-judgement in
    let w = line_read-at (goal.at.store_codes-requires c).In_default-judgement in
    let p = c.requires in record { le_count = (omega (arith, f.long, held_count w.held), omega (arith, fine_short p.s_len_bound.1 f, held_count w.held), omega (arith, (low-at (goal.at.store_codes-requires c).In_default-judgement).0)); by_index = (λ k l d. omega (arith, held_at w.held k (omega (arith, d, held_count w.held)) (omega (arith, d, fine_short p.s_len_bound.1 f, held_count w.held)), code_low p.s_len_bound.1 f k l)) }

pub keep_triple-requires : goal.keep_triple-requires
keep_triple-requires c = c.requires.s_len_bound.4

pub returns : goal.returns
returns c = λ a b l q h.
    let w = line_read (goal.at.returns c).In-Whole in
    let p = c.requires in
    let g = c.args in
    let j = sym (c.judge_kernel-judgement.ensures l w.numbers q h.last_is w.held) ∙ c.in_default-judgement.is in
    let f = with_fine _ g.t g.states g.items (length_at g.m.now) l w.numbers j w.held.rises in
    let n0 = sym (held_at w.held 0 (omega (arith, f.long)) (search rules)) in
    let n1 = sym (held_at w.held 1 (omega (arith, f.long)) (search rules)) in
    let n2 = sym (held_at w.held 2 (omega (arith, f.long)) (search rules)) in
    rw (kernel_kept _ _ _ _ _ _ l h.last_is w.line_is w.rises c.if-letter-ne75.false j)
    (taken (kernel_more h _ _ _ (drop 3 w.numbers) (key_small w.numbers f.small)
    (λ k. omega (arith, at_most _ (drop 3 w.numbers) f.codes_in_lem k, p.s_len_bound.1))
    (c.store_figures.ensures ∙ figures_by g.kernels.now (sym q) n0 n1 n2)
    (c.store_codes.ensures ∙ flags_by g.lookaheads.now (sym q) (ap (drop 3) (numbers_take w.held.numbers (omega (arith, fine_short p.s_len_bound.1 f, held_count w.held)))))
    (c.keep_triple.ensures ∙ triple_by n0 n1 n2)))
