use mathlib.Core.Path.{refl, sym, ◌∙◌}
use native.Mathlib.Omega.{arith}
use Rattle.grammar_header.proofs.HeaderLaws.{header_ranged}
use Rattle.grammar.proofs.BookLaws.{rejected_told, too_long_lem, no_header, no_rules, line_extra, all_lines}
use Rattle.grammar.proofs.read_lines.Goals as goal

pub returns-then-s-gt65536 : goal.returns-then-s-gt65536
returns-then-s-gt65536 c = rejected_told (too_long_lem _ c.if-s-gt65536.true) c.refuse.ensures _ _

pub read_rules-lines-requires : goal.read_rules-lines-requires
read_rules-lines-requires c =
    let r = header_ranged _ _ _ (sym c.read_header-first.ensures ∙ c.in-Read.is) in record { t_bound = (r.t_range.1, r.n_range.1); s_len_bound = c.if-s-gt65536.false; m_value = (c.requires.0, omega (arith, r.rules_range.1, c.requires.1)) }

pub returns-then-end-s : goal.returns-then-end-s
returns-then-end-s c =
    rejected_told (line_extra _ c.if-s-gt65536.false
    (sym c.read_header-first.ensures ∙ c.in-Read.is)
    c.read_rules-lines.ensures.answered c.in-Read-lines.is c.if-end-s.true)
    c.refuse-then-end-s.ensures _ _

pub returns-in-Refused : goal.returns-in-Refused
returns-in-Refused c =
    rejected_told
    (no_header _ c.if-s-gt65536.false (sym c.read_header-first.ensures ∙ c.in-Refused.is))
    refl _ _

pub returns-in-Refused-lines : goal.returns-in-Refused-lines
returns-in-Refused-lines c =
    rejected_told (no_rules _ c.if-s-gt65536.false
    (sym c.read_header-first.ensures ∙ c.in-Read.is)
    c.read_rules-lines.ensures.answered c.in-Refused-lines.is)
    refl _ _

pub returns-else-end-s : goal.returns-else-end-s
returns-else-end-s c =
    all_lines _ c.if-s-gt65536.false
    (sym c.read_header-first.ensures ∙ c.in-Read.is)
    c.read_rules-lines.ensures.answered c.in-Read-lines.is c.if-end-s.false
    c.read_rules-lines.ensures.stored
