use Prim.Native.Nat.{ℕ, ◌≤◌}
use mathlib.Core.Path.{◌≡◌, refl, sym, subst}
use mathlib.Core.List.{List}
use native.Mathlib.Omega.{arith}
use borrow.Author.Rules.{rules}
use Rattle.items.specs.Layout.{left_at, symbol_at}
use Rattle.fixpoint.specs.Flags.{On}
use Rattle.fixpoint.specs.Least.{Least, seed, by, least_join, least_marks}
use Rattle.fixpoint.proofs.CountLaws.{zeros_le}
use Rattle.fixpoint.proofs.PassLaws.{pass_start, pass_more, pass_add, set_on, on_at, no_gap, from_more}
use Rattle.grammar_reduction.specs.InMemory.{productions_in, AllOn}
use Rattle.grammar_reduction.proofs.close_productions.Goals as goal
use Rattle.grammar_reduction.proofs.close_productions.Goals.{then-flags-left-eq0+then-all_flagged, else-flags-left-eq0, else-flags-left-eq0-via-then-flags-left-eq0+else-all_flagged, else-flags-left-eq0-via-else-flags-left-eq0}

-- a rule whose symbols are flagged gives its left side
fired : (m : List ℕ) (rules i : ℕ) (fs : List ℕ) {S : ℕ → Type 0} → 1 ≤ i → i ≤ rules → ((y : ℕ) → On fs y → Least (productions_in m rules) S y)
    → AllOn m i fs → {x : ℕ} → x ≡ left_at m i → Least (productions_in m rules) S x
fired m rules i fs {S} l h only all e =
    subst (Least (productions_in m rules) S) (sym e)
    (by i (l, h) (λ a s. subst (Least (productions_in m rules) S) s.is_it (only (symbol_at m i s.place) (all s.place s.within))))

pub passes-init : goal.passes-init
passes-init c = (c.requires.flags_len, λ y on. seed on, λ y on. on)

pub rules-init : goal.rules-init
rules-init c = pass_start _ c.passes.invariant.0 (λ y on. seed on) (λ _ j l m. absurd (no_gap l m))

pub overflow_add-added : goal.overflow_add-added
overflow_add-added c =
    omega (
      arith,
      c.rules.invariant.count,
      zeros_le c.passes.flags,
      c.passes.invariant.0,
    )

pub rules-preserved : goal.rules-preserved
rules-preserved c =
    let p = c.rules.invariant in
    let i = c.rules.i in
    let at = c.left_of-left.ensures in
    elim c.if-flags-left-eq0.branch [
      | then-flags-left-eq0+then-all_flagged w ↦
          pass_add _ _ c.left_of-left.result w.flags-is w.added-is p at.1 w.if-flags-left-eq0.true
          (fired c.args.m.now c.args.rules i c.rules.flags c.rules.auto.i (omega arith) p.only (w.all_flagged.ensures.yes w.if-all_flagged.true) at.0)
      | else-flags-left-eq0 w ↦
          pass_more _ _ w.flags-is w.added-is p (λ d. from_more _ 1 i d (elim w.else-flags-left-eq0.branch [
            | else-flags-left-eq0-via-then-flags-left-eq0+else-all_flagged v ↦ λ all. absurd (v.all_flagged.ensures.no v.if-all_flagged.false all)
            | else-flags-left-eq0-via-else-flags-left-eq0 v ↦ λ _. on_at at.0 (set_on v.if-flags-left-eq0.false)
          ]))
    ]

pub passes-preserved : goal.passes-preserved
passes-preserved c = let p = c.rules.invariant in
    let o = c.passes.invariant in
    (p.long, λ y on. least_join _ o.1 (p.only y on), λ y on. p.kept y (o.2 y on))

pub returns-then-added-eq0 : goal.returns-then-added-eq0
returns-then-added-eq0 c = let p = c.rules.invariant in
    let o = c.passes.invariant in
    least_marks _ (λ y on. least_join _ o.1 (p.only y on)) (λ y on. p.kept y (o.2 y on))
    (λ i ok ns. p.closed c.if-added-eq0.true i ok.0 (omega (arith, ok.1)) (λ k l. ns _ (record { place = k; within = l; is_it = refl })))
