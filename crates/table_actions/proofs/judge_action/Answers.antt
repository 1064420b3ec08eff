use mathlib.Core.Path.{sym, ◌∙◌}
use Rattle.table_actions.proofs.JudgeLaws.{no_action, not_three, out_of_order, too_large, no_state, undeclared, fine}
use Rattle.table_actions.proofs.judge_action.Goals as goal

pub returns-then-not-is_action : goal.returns-then-not-is_action
returns-then-not-is_action c = λ l ns q m h.
    let a = c.args in
    no_action a.t a.n a.rules a.states a.letter q m h c.requires.0 c.requires.1
    (sym c.is_action.ensures ∙ c.if-not-is_action.true)

pub returns-then-p-ne3 : goal.returns-then-p-ne3
returns-then-p-ne3 c = λ l ns q m h.
    let a = c.args in
    not_three a.t a.n a.rules a.states a.letter q m h c.requires.0 c.requires.1
    (sym c.is_action.ensures ∙ c.if-not-is_action.false) c.if-p-ne3.true

pub returns-then-not-is_after : goal.returns-then-not-is_after
returns-then-not-is_after c = λ l ns q m h.
    let a = c.args in
    out_of_order a.t a.n a.rules a.states a.letter q m h c.requires.0 c.requires.1
    (sym c.is_action.ensures ∙ c.if-not-is_action.false) c.if-p-ne3.false (sym c.is_after.ensures ∙ c.if-not-is_after.true)

pub returns-then-p-gt65535 : goal.returns-then-p-gt65535
returns-then-p-gt65535 c = λ l ns q m h.
    let a = c.args in
    too_large a.t a.n a.rules a.states a.letter q m h c.requires.0 c.requires.1
    (sym c.is_action.ensures ∙ c.if-not-is_action.false) c.if-p-ne3.false (sym c.is_after.ensures ∙ c.if-not-is_after.false) c.if-p-gt65535.true

pub returns-then-not-in_range : goal.returns-then-not-in_range
returns-then-not-in_range c = λ l ns q m h.
    let a = c.args in
    no_state a.t a.n a.rules a.states a.letter q m h c.requires.0 c.requires.1
    (sym c.is_action.ensures ∙ c.if-not-is_action.false) c.if-p-ne3.false (sym c.is_after.ensures ∙ c.if-not-is_after.false) c.if-p-gt65535.false (sym c.in_range.ensures ∙ c.if-not-in_range.true)

pub returns-then-not-action_declared : goal.returns-then-not-action_declared
returns-then-not-action_declared c = λ l ns q m h.
    let a = c.args in
    undeclared a.t a.n a.rules a.states a.letter q m h c.requires.0 c.requires.1
    (sym c.is_action.ensures ∙ c.if-not-is_action.false) c.if-p-ne3.false (sym c.is_after.ensures ∙ c.if-not-is_after.false) c.if-p-gt65535.false (sym c.in_range.ensures ∙ c.if-not-in_range.false) (sym c.action_declared.ensures ∙ c.if-not-action_declared.true)

pub returns : goal.returns
returns c = λ l ns q m h.
    let a = c.args in
    fine a.t a.n a.rules a.states a.letter q m h c.requires.0 c.requires.1
    (sym c.is_action.ensures ∙ c.if-not-is_action.false) c.if-p-ne3.false (sym c.is_after.ensures ∙ c.if-not-is_after.false) c.if-p-gt65535.false (sym c.in_range.ensures ∙ c.if-not-in_range.false) (sym c.action_declared.ensures ∙ c.if-not-action_declared.false)
