-- `table_head::read_head` meets its contract. Assumes nothing.
use Rattle.table_head.proofs.HeadLaws.{head_capped}
use Rattle.table_lines.proofs.HeldLaws.{Whole, whole_read, broken_read, held_count, held_at}
use Rattle.table_lines.specs.Line.{line_at}
use borrow.Author.Tests.{eq-eqb, ne_eqb}
use mathlib.Core.Path.{sym, ◌∙◌}
use native.Mathlib.Omega.{arith}
use lib.ListN.{length, replicate}
use borrow.Author.Rules.{rules}
use Rattle.table_head.proofs.read_head.Goals as goal
use Rattle.table_head.proofs.read_head.Goals.{In-Whole}

-- the line that was read
line_read : (c : In-Whole) → Whole (line_at c.args.s.now 0) c.in-Whole.letter c.in-Whole.p c.in-Whole.next c.read_line.new.numbers
line_read c = whole_read _ (replicate 67 0) c.read_line.new.numbers (sym c.in-Whole.is ∙ c.read_line.ensures.value) c.read_line.ensures.stores (search rules)

pub returns-in_default : goal.returns-in_default
returns-in_default c = rw head_capped (c.refuse_head.ensures ∙ simp (broken_read (line_at c.args.s.now 0) (sym c.in_default.is ∙ c.read_line.ensures.value)))

pub returns-then-letter-ne84 : goal.returns-then-letter-ne84
returns-then-letter-ne84 c = let w = line_read (goal.at.returns-then-letter-ne84 c).In-Whole in rw head_capped (c.refuse_head-then-letter-ne84.ensures ∙ simp (w.line_is, ne_eqb _ 84 c.if-letter-ne84.true))

pub returns-then-p-ne2 : goal.returns-then-p-ne2
returns-then-p-ne2 c = let w = line_read (goal.at.returns-then-p-ne2 c).In-Whole in
    rw head_capped (c.refuse_head-then-p-ne2.ensures ∙ simp (w.line_is, eq-eqb _ 84 c.if-letter-ne84.false, ne_eqb (length w.numbers) 2 (λ z. c.if-p-ne2.true (held_count w.held ∙ z))))

pub returns-then-not-in_range : goal.returns-then-not-in_range
returns-then-not-in_range c = let w = line_read (goal.at.returns-then-not-in_range c).In-Whole in
    let e = sym (held_count w.held) ∙ c.if-p-ne2.false in
    rw head_capped (c.refuse_head-then-not-in_range.ensures
    ∙ simp (
      w.line_is,
      eq-eqb _ 84 c.if-letter-ne84.false,
      eq-eqb (length w.numbers) 2 e,
      held_at w.held 0 (omega (arith, e)) (search rules),
      sym c.in_range.ensures ∙ c.if-not-in_range.true,
    ))

pub returns-then-not-in_range-2 : goal.returns-then-not-in_range-2
returns-then-not-in_range-2 c = let w = line_read (goal.at.returns-then-not-in_range-2 c).In-Whole in
    let e = sym (held_count w.held) ∙ c.if-p-ne2.false in
    rw head_capped (c.refuse_head-then-not-in_range-2.ensures
    ∙ simp (
      w.line_is,
      eq-eqb _ 84 c.if-letter-ne84.false,
      eq-eqb (length w.numbers) 2 e,
      held_at w.held 0 (omega (arith, e)) (search rules),
      held_at w.held 1 (omega (arith, e)) (search rules),
      sym c.in_range.ensures ∙ c.if-not-in_range.false,
      sym c.in_range-2.ensures ∙ c.if-not-in_range-2.true,
    ))

pub returns : goal.returns
returns c = let w = line_read (goal.at.returns c).In-Whole in
    let e = sym (held_count w.held) ∙ c.if-p-ne2.false in
    rw head_capped (simp (
      w.line_is,
      eq-eqb _ 84 c.if-letter-ne84.false,
      eq-eqb (length w.numbers) 2 e,
      held_at w.held 0 (omega (arith, e)) (search rules),
      held_at w.held 1 (omega (arith, e)) (search rules),
      sym c.in_range.ensures ∙ c.if-not-in_range.false,
      sym c.in_range-2.ensures ∙ c.if-not-in_range-2.false,
    ))
