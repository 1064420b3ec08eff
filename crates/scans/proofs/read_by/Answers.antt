-- `scans::read_by` meets its contract. Assumes nothing.
use Prim.Native.Nat.{ℕ}
use mathlib.Core.Path.{◌≡◌, ap, ◌∙◌}
use native.Mathlib.Omega.{arith}
use borrow.Author.Rules.{rules}
use lib.ListN.{length, replicate}
use Rattle.scans.proofs.OutcomeLaws.{too_long_lem, refused_lines, enough_room, no_room}
use Rattle.scans.proofs.read_by.Goals as goal

by-clause : {A B : Type 0} → A × B → record { replied : A; stored : B }
by-clause h = record { replied = h.0; stored = h.1 }

pub returns-then-file-gt-LONGEST : goal.returns-then-file-gt-LONGEST
returns-then-file-gt-LONGEST c = by-clause (too_long_lem _ _ _ c.if-file-gt-LONGEST.true c.refuse.ensures c.clear.ensures)

pub returns-in-Accepted : goal.returns-in-Accepted
returns-in-Accepted c =
    by-clause (enough_room _ _ _ c.if-file-gt-LONGEST.false c.read_lines.ensures c.in-Accepted.is c.clear.ensures (search rules))

pub returns-in-Accepted-2 : goal.returns-in-Accepted-2
returns-in-Accepted-2 c =
    let e : length c.read_lines.new.tokens ≡ length c.args.tokens.now = search
    rules in
    by-clause (no_room _ _ _ c.if-file-gt-LONGEST.false c.read_lines.ensures c.in-Accepted.is
    (omega (arith, e, c.if-count-tokens.false)) c.refuse_file.ensures.refused
    (c.refuse_file.ensures.zeroed ∙ ap (λ (n : ℕ). replicate n 0) e))

pub returns-in-Refused : goal.returns-in-Refused
returns-in-Refused c =
    let e : length c.read_lines.new.tokens ≡ length c.args.tokens.now = search
    rules in
    by-clause (refused_lines _ _ _ c.if-file-gt-LONGEST.false c.read_lines.ensures c.in-Refused.is
    c.refuse_file-in-Refused.ensures.refused
    (c.refuse_file-in-Refused.ensures.zeroed ∙ ap (λ (n : ℕ). replicate n 0) e))
