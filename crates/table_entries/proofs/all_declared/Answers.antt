use Rattle.table_entries.specs.Entries.{all_declared}
use Rattle.table_entries.proofs.StringLaws.{after_first}
use Rattle.table_entries.proofs.RowLaws.{declared_not, declared_end}
use mathlib.Core.Path.{sym, ap, ◌∙◌}
use Rattle.table_entries.proofs.all_declared.Goals as goal

pub returns-then-not-is_declared : goal.returns-then-not-is_declared
returns-then-not-is_declared c =
    let a = c.args in
    sym (ap (all_declared a.t a.n) (sym (after_first a.numbers.now a.count))
    ∙ (c.loop-code.invariant ∙ declared_not _ _ _ _ c.loop-code-test.true (sym c.is_declared.ensures ∙ c.if-not-is_declared.true)))

pub returns : goal.returns
returns c =
    let a = c.args in
    sym (ap (all_declared a.t a.n) (sym (after_first a.numbers.now a.count)) ∙ (c.loop-code.invariant ∙ declared_end _ _ _ _ c.loop-code-test.false))
