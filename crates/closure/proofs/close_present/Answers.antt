use native.Mathlib.Omega.{arith}
use mathlib.Core.Path.{refl}
use Rattle.fixpoint.specs.Least.{seed, least_join, least_marks}
use Rattle.fixpoint.proofs.CountLaws.{zeros_le}
use Rattle.fixpoint.proofs.PassLaws.{pass_start, pass_more, pass_add, set_on, no_gap, from_more}
use Rattle.closure.proofs.StepLaws.{left_out, first_out, first_in, expand, all_expanded}
use Rattle.closure.proofs.close_present.Goals as goal
use Rattle.closure.proofs.close_present.Goals.{then-b-lt-CODES+then-present-b-eq0, else-b-lt-CODES, else-b-lt-CODES-via-then-b-lt-CODES+else-present-b-eq0, else-b-lt-CODES-via-else-b-lt-CODES}

pub passes-init : goal.passes-init
passes-init c = (c.requires.present_len, λ y on. seed on, λ y on. on)

pub rules-init : goal.rules-init
rules-init c = pass_start _ c.passes.invariant.0 (λ y on. seed on) (λ _ j l m. absurd (no_gap l m))

pub rules-preserved-then-not-left_in : goal.rules-preserved-then-not-left_in
rules-preserved-then-not-left_in c =
    pass_more _ _ refl refl c.rules.invariant
    (λ d. from_more _ 1 c.rules.i d (left_out _ _ (c.left_in.ensures.no (c.if-not-left_in.true))))

pub overflow_add-added : goal.overflow_add-added
overflow_add-added c =
    omega (
      arith,
      c.rules.invariant.count,
      zeros_le c.passes.present,
      c.passes.invariant.0,
    )

pub rules-preserved : goal.rules-preserved
rules-preserved c =
    let p = c.rules.invariant in
    let i = c.rules.i in
    let first = c.first_nonterminal-b.ensures in
    elim c.if-b-lt-CODES.branch [
      | then-b-lt-CODES+then-present-b-eq0 w ↦
          pass_add _ _ c.first_nonterminal-b.result w.present-is w.added-is p w.if-b-lt-CODES.true
          w.if-present-b-eq0.true
          (expand _ _ (omega arith) (omega arith) (c.left_in.ensures.yes (c.if-not-left_in.false)) (first.found w.if-b-lt-CODES.true) p.only)
      | else-b-lt-CODES w ↦
          pass_more _ _ w.present-is w.added-is p (λ d. from_more _ 1 i d (elim w.else-b-lt-CODES.branch [
            | else-b-lt-CODES-via-then-b-lt-CODES+else-present-b-eq0 v ↦ first_in _ _ (first.found v.if-b-lt-CODES.true) (set_on v.if-present-b-eq0.false)
            | else-b-lt-CODES-via-else-b-lt-CODES v ↦ first_out _ _ first v.if-b-lt-CODES.false
          ]))
    ]

pub passes-preserved : goal.passes-preserved
passes-preserved c = let p = c.rules.invariant in
    let o = c.passes.invariant in
    (p.long, λ y on. least_join _ o.1 (p.only y on), λ y on. p.kept y (o.2 y on))

pub returns : goal.returns
returns c =
    let p = c.rules.invariant in
    let o = c.passes.invariant in
    least_marks _ (λ y on. least_join _ o.1 (p.only y on)) (λ y on. p.kept y (o.2 y on))
    (all_expanded _ _ (λ j l h. p.closed c.if-added-eq0.true j l (omega arith)))
