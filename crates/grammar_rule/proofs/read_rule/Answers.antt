-- `grammar_rule::read_rule` meets its contract. Assumes nothing.
use borrow.Enum.Refused.{opened}
use mathlib.Core.Bool.{not}
use mathlib.Core.Path.{ap}
use mathlib.Core.Path.{sym, ◌∙◌}
use native.Mathlib.Omega.{arith}
use Rattle.range.proofs.TestLaws.{fails, holds}
use Rattle.grammar_rule.proofs.LineLaws.{no_letter, wrong_letter, no_left, with_left, line_broken, told, told_read, told_refused}
use Rattle.grammar_rule.proofs.read_rule.Goals as goal

by-clause : {A B : Type 0} → A × B → record { answered : A; stored : B }
by-clause h = record { answered = h.0; stored = h.1 }

pub returns-in_default : goal.returns-in_default
returns-in_default c = by-clause (told _ _ (no_letter _ _ _ _ c.read_field.ensures (opened c.in_default.in_default-own.keys2)) c.refuse.ensures)

pub returns-then-not-is_rule : goal.returns-then-not-is_rule
returns-then-not-is_rule c =
    by-clause (told _ _ (wrong_letter _ _ _ _ _ _
    (sym c.read_field.ensures ∙ c.in-Letter.is)
    (fails c.is_rule.ensures (ap not c.if-not-is_rule.true)))
    c.refuse-then-not-is_rule.ensures)

pub returns-in_default-read_field : goal.returns-in_default-read_field
returns-in_default-read_field c =
    by-clause (told _ _ (no_left _ _ _ _ _ _ (sym c.read_field.ensures ∙ c.in-Letter.is)
    (holds c.is_rule.ensures (ap not c.if-not-is_rule.false)) c.read_field-2.ensures
    (opened c.in_default-read_field.in_default-read_field-own.keys2))
    c.refuse-in_default-read_field.ensures)

pub returns-in_default-read_parts : goal.returns-in_default-read_parts
returns-in_default-read_parts c =
    by-clause (told _ _ (with_left _ _ _ _ _ _ (sym c.read_field.ensures ∙ c.in-Letter.is)
    (holds c.is_rule.ensures (ap not c.if-not-is_rule.false)) _ _
    (sym c.read_field-2.ensures ∙ c.in-Number.is)
    ∙ line_broken _ _ _ _ _ _ c.read_parts.ensures.answered c.in_default-read_parts.is)
    c.refuse-in_default-read_parts.ensures)

pub store_figures-requires : goal.store_figures-requires
store_figures-requires c =
    omega (arith, c.requires.empty_row.room, c.m-1.given)

pub returns-in-Read : goal.returns-in-Read
returns-in-Read c =
    by-clause (told_read _ _ _ _ _ _ _ _ _ (with_left _ _ _ _ _ _
    (sym c.read_field.ensures ∙ c.in-Letter.is)
    (holds c.is_rule.ensures (ap not c.if-not-is_rule.false)) _ _
    (sym c.read_field-2.ensures ∙ c.in-Number.is))
    c.read_parts.ensures.answered c.in-Complete.is c.judge.ensures
    c.requires.t_bound.1 c.read_parts.ensures.filled
    c.unit_flag.ensures c.store_figures.ensures c.in-Read.is)

pub returns-in-Refused : goal.returns-in-Refused
returns-in-Refused c =
    by-clause (told_refused _ _ _ _ _ _ _ _ _ (with_left _ _ _ _ _ _
    (sym c.read_field.ensures ∙ c.in-Letter.is)
    (holds c.is_rule.ensures (ap not c.if-not-is_rule.false)) _ _
    (sym c.read_field-2.ensures ∙ c.in-Number.is))
    c.read_parts.ensures.answered c.in-Complete.is c.judge.ensures
    c.in-Refused.is)
