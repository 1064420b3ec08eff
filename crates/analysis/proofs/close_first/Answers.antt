use mathlib.Core.Path.{refl}
use native.Mathlib.Omega.{arith}
use Rattle.fixpoint.specs.Flags.{On}
use Rattle.fixpoint.proofs.CountLaws.{zeros_le}
use Rattle.fixpoint.proofs.PassLaws.{pass_start, pass_call, no_gap, from_more}
use Rattle.analysis.proofs.RowLaws.{row_seed, row_join, row_marks}
use Rattle.analysis.proofs.close_first.Goals as goal

pub passes-init : goal.passes-init
passes-init c =
    let a = c.args in
    (c.requires.nullable_len.1, row_seed a.m.now a.rules (On a.nullable.now), λ y on. on)

pub rules-init : goal.rules-init
rules-init c = let a = c.args in
    pass_start _ c.passes.invariant.0 (row_seed a.m.now a.rules (On a.nullable.now)) (λ _ j l m. absurd (no_gap l m))

pub overflow_add-added : goal.overflow_add-added
overflow_add-added c =
    omega (
      arith,
      c.merge_symbols-added.ensures.count,
      c.rules.invariant.count,
      zeros_le c.passes.first,
      c.passes.invariant.0,
    )

pub rules-preserved : goal.rules-preserved
rules-preserved c =
    let a = c.args in
    let p = c.rules.invariant in
    pass_call _ _ _ refl refl p c.merge_symbols-added.ensures
    (row_join a.m.now a.rules (On a.nullable.now) p.only)
    (λ d met. from_more _ 1 c.rules.i d met)

pub passes-preserved : goal.passes-preserved
passes-preserved c =
    let a = c.args in
    let p = c.rules.invariant in
    let o = c.passes.invariant in (
      p.long,
      λ y on. row_join a.m.now a.rules (On a.nullable.now) o.1 y (p.only y on),
      λ y on. p.kept y (o.2 y on),
    )

pub returns : goal.returns
returns c =
    let a = c.args in
    let p = c.rules.invariant in
    let o = c.passes.invariant in
    row_marks a.m.now a.rules (On a.nullable.now)
    (λ y on. row_join a.m.now a.rules (On a.nullable.now) o.1 y (p.only y on))
    (λ y on. p.kept y (o.2 y on)) (λ i r. p.closed c.if-added-eq0.true i r.0 (omega (arith, r.1)))
