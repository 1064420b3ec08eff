-- What the call's answers say, from those of the line.
use mathlib.Core.Path.{◌≡◌, refl, sym, ◌∙◌}
use mathlib.Core.Bool.{true}
use native.Mathlib.Omega.{arith}
use borrow.Author.Rules.{rules}
use lib.ListN.{length}
use Rattle.range.specs.Range.{within}
use Rattle.range.proofs.RangeLaws.{within-true}
use Rattle.letters.proofs.OutcomeLaws.{no_terminals, too_long_lem, refused_line, each_small, enough_room, no_room}
use Rattle.letters.proofs.read_letters.Goals as goal
use Rattle.letters.proofs.read_letters.Goals.{Else-not-in_range}

by-clause : {A B : Type 0} → A × B → record { replied : A; stored : B }
by-clause h = record { replied = h.0; stored = h.1 }

-- the number of terminals is within its limits
t-few : (c : Else-not-in_range) → within 1 c.args.terminals 63 ≡ true
t-few c = sym c.in_range.ensures ∙ c.if-not-in_range.false

pub returns-then-not-in_range : goal.returns-then-not-in_range
returns-then-not-in_range c = by-clause (no_terminals _ _ _ (sym c.in_range.ensures ∙ c.if-not-in_range.true) c.refuse.ensures c.clear.ensures)

pub returns-then-book-gt65536 : goal.returns-then-book-gt65536
returns-then-book-gt65536 c = by-clause (too_long_lem _ _ _ (t-few (goal.at.returns-then-book-gt65536 c).Else-not-in_range) c.if-book-gt65536.true c.refuse-then-book-gt65536.ensures c.clear.ensures)

pub read_codes-requires : goal.read_codes-requires
read_codes-requires c = (c.if-book-gt65536.false, (within-true 1 _ 63 (t-few (goal.at.read_codes-requires c).Else-not-in_range)).1, refl)

pub returns-then-codes-lt-LETTERS : goal.returns-then-codes-lt-LETTERS
returns-then-codes-lt-LETTERS c =
    let long : length c.clear.new.s ≡ length c.args.codes.now = search rules in
    by-clause (no_room _ _ _ (t-few (goal.at.returns-then-codes-lt-LETTERS c).Else-not-in_range) c.if-book-gt65536.false c.read_codes.ensures c.in-Accepted.is
    (omega (arith, long, c.if-codes-lt-LETTERS.true)) c.refuse-then-codes-lt-LETTERS.ensures c.clear.ensures)

pub copy_codes-requires : goal.copy_codes-requires
copy_codes-requires c =
    let k = c.args in
    let all = each_small k.terminals k.book.now (length k.codes.now) (t-few (goal.at.copy_codes-requires c).Else-not-in_range) c.if-book-gt65536.false c.read_codes.ensures c.in-Accepted.is in
    (search rules, search rules, all)

pub returns-in-Refused : goal.returns-in-Refused
returns-in-Refused c =
    by-clause (refused_line _ _ _ (t-few (goal.at.returns-in-Refused c).Else-not-in_range) c.if-book-gt65536.false c.read_codes.ensures c.in-Refused.is refl c.clear.ensures)

pub returns-else-codes-lt-LETTERS : goal.returns-else-codes-lt-LETTERS
returns-else-codes-lt-LETTERS c =
    let long : length c.clear.new.s ≡ length c.args.codes.now = search rules in
    by-clause (enough_room _ _ _ (t-few (goal.at.returns-else-codes-lt-LETTERS c).Else-not-in_range) c.if-book-gt65536.false c.read_codes.ensures c.in-Accepted.is (search rules)
    (omega (arith, long, c.if-codes-lt-LETTERS.false)) c.clear.ensures c.copy_codes.ensures)
