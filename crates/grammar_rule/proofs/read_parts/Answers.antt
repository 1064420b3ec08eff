use mathlib.Core.Path.{sym, ◌∙◌}
use native.Mathlib.Omega.{arith}
use borrow.Author.Rules.{rules}
use borrow.Author.Tests.{not-true, not-false}
use Rattle.text.proofs.OnwardLaws.{onward}
use Rattle.grammar_rule.proofs.ReadLaws.{reading_start, count_low, reading_symbol, reading_mark, reading_ended, reading_broken}
use Rattle.grammar_rule.proofs.read_parts.Goals as goal

by-clause : {A B : Type 0} → A × B → record { answered : A; filled : B }
by-clause h = record { answered = h.0; filled = h.1 }

pub loop-c-init : goal.loop-c-init
loop-c-init c = (search rules, reading_start _ _ _ _ _ _ c.requires.empty_row)

pub loop-c-smaller-in-Mark : goal.loop-c-smaller-in-Mark
loop-c-smaller-in-Mark c = omega (arith, onward _ _ _ (sym c.read_field-field.ensures ∙ c.in-Mark.is))

pub loop-c-preserved-in-Mark : goal.loop-c-preserved-in-Mark
loop-c-preserved-in-Mark c =
    (search rules, reading_mark _ _ _ _ _ _ _ _ _ c.loop-c.invariant.1 (not-true _ c.loop-c-test.true) _ _ (sym c.read_field-field.ensures ∙ c.in-Mark.is) c.add_mark-p.ensures)

pub add_symbol-p-requires : goal.add_symbol-p-requires
add_symbol-p-requires c =
    omega (arith, c.requires.s_len_bound, count_low _ _ _ _ _ _ _ _ _ c.loop-c.invariant.1 (sym c.read_field-field.ensures ∙ c.in-Number.is))

pub loop-c-smaller : goal.loop-c-smaller
loop-c-smaller c = omega (arith, onward _ _ _ (sym c.read_field-field.ensures ∙ c.in-Number.is))

pub loop-c-preserved : goal.loop-c-preserved
loop-c-preserved c =
    let pre = c.requires in (
      search rules,
      reading_symbol _ _ _ _ _ _ _ _ _ c.loop-c.invariant.1 pre.t_bound.0 pre.t_bound.1 (not-true _ c.loop-c-test.true) _ _
          (sym c.read_field-field.ensures ∙ c.in-Number.is) c.add_symbol-p.ensures c.store_symbol.ensures,
    )

pub returns-in_default-field : goal.returns-in_default-field
returns-in_default-field c =
    by-clause (reading_broken _ _ _ _ _ _ _ _ _ c.loop-c.invariant.1 (not-true _ c.loop-c-test.true) c.read_field-field.ensures c.in_default.not-Mark c.in_default-field.not-Number)

pub returns : goal.returns
returns c = by-clause (reading_ended _ _ _ _ _ _ _ _ _ c.loop-c.invariant.1 (not-false _ c.loop-c-test.false))
