-- The line by its tests, in the definition's order.
use Prim.Native.Nat.{ℕ, ◌≤◌}
use mathlib.Core.Path.{◌≡◌, refl, sym, ap, ◌∙◌}
use native.Mathlib.Omega.{arith}
use borrow.Author.Rules.{rules}
use lib.ListN.{length, get_or}
use Rattle.fixpoint.specs.declared.Found.{Found}
use Rattle.fixpoint.specs.Lowest.{Lowest}
use Rattle.table_lines.specs.Line.{line_at}
use Rattle.table_lines.proofs.HeldLaws.{Whole, whole_read, broken_read}
use Rattle.letters.specs.Shared.{Shared}
use Rattle.letters.specs.Letters.{unless_shared, by_line}
use Rattle.letters.proofs.LineLaws.{told, told_codes, broken-line, other_letter, other_count, too_large, above_t, second_line, by_found, each_fits}
use Rattle.letters.proofs.read_codes.Goals as goal
use Rattle.letters.proofs.read_codes.Goals.{Else-next-book, In-Whole}

line_read : (c : In-Whole) → Whole (line_at c.args.book.now 0) c.in-Whole.letter c.in-Whole.tally c.in-Whole.next c.read_line.new.numbers
line_read c =
    whole_read _ c.args.codes.now c.read_line.new.numbers (sym c.in-Whole.is ∙ c.read_line.ensures.value) c.read_line.ensures.stores (search rules)

kept-long : (c : In-Whole) → length c.read_line.new.numbers ≡ 26
kept-long c =
    let e : length c.read_line.new.numbers ≡ length c.args.codes.now = search rules in
    e ∙ c.requires.2

-- `line_read` at a later place
line_read-at : (c : Else-next-book) → Whole (line_at c.args.book.now 0) c.in-Whole.letter c.in-Whole.tally c.in-Whole.next c.read_line.new.numbers
line_read-at c =
    whole_read _ c.args.codes.now c.read_line.new.numbers (sym c.in-Whole.is ∙ c.read_line.ensures.value) c.read_line.ensures.stores (search rules)

-- `kept-long` at a later place
kept-long-at : (c : Else-next-book) → length c.read_line.new.numbers ≡ 26
kept-long-at c =
    let e : length c.read_line.new.numbers ≡ length c.args.codes.now = search rules in
    e ∙ c.requires.2

found-told : (c : Else-next-book) (found : Found) → Lowest (Shared c.read_line.new.numbers) 0 26 found
    → by_line c.args.terminals (length c.args.book.now) (line_at c.args.book.now 0) ≡ unless_shared found c.read_line.new.numbers
found-told c found h =
    by_found c.args.terminals (length c.args.book.now) (line_read-at c)
    c.if-letter-ne76.false c.if-tally-ne-LETTERS.false c.if-tally-gt65535.false (omega (arith, c.if-terminals-tally.false)) c.if-next-book.false (kept-long-at c) found h

all_fit : (c : Else-next-book) (i : ℕ) → get_or c.read_line.new.numbers i 0 ≤ 63
all_fit c =
    each_fits c.args.terminals (length c.args.book.now) (line_read-at c)
    c.if-letter-ne76.false c.if-tally-ne-LETTERS.false c.if-tally-gt65535.false (omega (arith, c.if-terminals-tally.false)) c.if-next-book.false
    (kept-long-at c) c.requires.1

pub returns-in_default : goal.returns-in_default
returns-in_default c = told (broken-line _ _ (broken_read _ (sym c.in_default.is ∙ c.read_line.ensures.value))) c.refuse.ensures

pub returns-then-letter-ne76 : goal.returns-then-letter-ne76
returns-then-letter-ne76 c = told (other_letter _ _ (line_read (goal.at.returns-then-letter-ne76 c).In-Whole) c.if-letter-ne76.true) c.refuse-then-letter-ne76.ensures

pub returns-then-tally-ne-LETTERS : goal.returns-then-tally-ne-LETTERS
returns-then-tally-ne-LETTERS c = told (other_count _ _ (line_read (goal.at.returns-then-tally-ne-LETTERS c).In-Whole) c.if-letter-ne76.false c.if-tally-ne-LETTERS.true) c.refuse-then-tally-ne-LETTERS.ensures

pub returns-then-tally-gt65535 : goal.returns-then-tally-gt65535
returns-then-tally-gt65535 c = told (too_large _ _ (line_read (goal.at.returns-then-tally-gt65535 c).In-Whole) c.if-letter-ne76.false c.if-tally-ne-LETTERS.false c.if-tally-gt65535.true) c.refuse-then-tally-gt65535.ensures

pub returns-then-terminals-tally : goal.returns-then-terminals-tally
returns-then-terminals-tally c = told (above_t _ _ (line_read (goal.at.returns-then-terminals-tally c).In-Whole) c.if-letter-ne76.false c.if-tally-ne-LETTERS.false c.if-tally-gt65535.false c.if-terminals-tally.true) c.refuse-then-terminals-tally.ensures

pub returns-then-next-book : goal.returns-then-next-book
returns-then-next-book c = told (second_line _ _ (line_read (goal.at.returns-then-next-book c).In-Whole) c.if-letter-ne76.false c.if-tally-ne-LETTERS.false c.if-tally-gt65535.false c.if-terminals-tally.false c.if-next-book.true) c.refuse-then-next-book.ensures

pub returns-in-At : goal.returns-in-At
returns-in-At c =
    let f = c.find_shared.ensures in
    told (found-told (goal.at.returns-in-At c).Else-next-book c.find_shared.result f ∙ ap (λ (y : Found). unless_shared y c.read_line.new.numbers) c.in-At.is) c.refuse-in-At.ensures

pub returns-in-Nothing : goal.returns-in-Nothing
returns-in-Nothing c =
    let f = c.find_shared.ensures in
    told_codes (found-told (goal.at.returns-in-Nothing c).Else-next-book c.find_shared.result f ∙ ap (λ (y : Found). unless_shared y c.read_line.new.numbers) c.in-Nothing.is) (refl) (all_fit (goal.at.returns-in-Nothing c).Else-next-book)
