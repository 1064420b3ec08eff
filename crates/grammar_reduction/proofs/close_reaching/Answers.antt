use Prim.Native.Nat.{ℕ, ◌≤◌, ◌<◌}
use mathlib.Core.Path.{◌≡◌, refl, sym, subst, ◌∙◌}
use mathlib.Core.List.{List}
use native.Mathlib.Omega.{arith}
use borrow.Author.Rules.{rules}
use borrow.Author.Count.{below_more, below_none}
use Rattle.items.specs.Layout.{left_at, length_at, symbol_at}
use Rattle.fixpoint.specs.Flags.{On}
use Rattle.fixpoint.specs.Least.{Least, seed, by, Met, least_join, least_marks}
use Rattle.fixpoint.proofs.CountLaws.{zeros_le}
use Rattle.fixpoint.proofs.PassLaws.{pass_start, pass_more, pass_add, pass_join, set_on, on_at, no_gap, from_more}
use Rattle.grammar_reduction.specs.Reaches.{Occurrence, occurs}
use Rattle.grammar_reduction.specs.InMemory.{reaching_in}
use Rattle.grammar_reduction.proofs.close_reaching.Invariants.{Through}
use Rattle.grammar_reduction.proofs.close_reaching.Goals as goal
use Rattle.grammar_reduction.proofs.close_reaching.Goals.{then-flags-x-eq0, else-flags-x-eq0}

-- a symbol of a rule whose left side is flagged
fired : (m : List ℕ) (rules i k : ℕ) {fs : List ℕ} {left x : ℕ} → 1 ≤ i → i ≤ rules → k < length_at m i → left ≡ left_at m i → On fs left
    → x ≡ symbol_at m i k → Least (reaching_in m rules) (On fs) x
fired m rules i k {fs} l h s el on e =
    subst (Least (reaching_in m rules) (On fs)) (sym e) (by (occurs i k) ((l, h), s) (λ a n. seed (on_at (el ∙ sym n) on)))

met : (m : List ℕ) (rules : ℕ) (fs : List ℕ) → ((j : ℕ) → 1 ≤ j → j ≤ rules → Through m j fs) → (c : Occurrence) → Met (reaching_in m rules) (On fs) c
met m rules fs h (occurs i k) ok ns = h i ok.0.0 ok.0.1 (ns (left_at m i) refl) k ok.1

pub passes-init : goal.passes-init
passes-init c = (c.requires.flags_len, λ y on. seed on, λ y on. on)

pub rules-init : goal.rules-init
rules-init c = pass_start _ c.passes.invariant.0 (λ y on. seed on) (λ _ j l m. absurd (no_gap l m))

pub symbols-init : goal.symbols-init
symbols-init c = let p = c.rules.invariant in
    pass_start _ p.long (λ y on. seed on) (λ e. (p.closed e, below_none _))

pub overflow_add-reached : goal.overflow_add-reached
overflow_add-reached c =
    omega (
      arith,
      c.symbols.invariant.count,
      c.rules.invariant.count,
      zeros_le c.passes.flags,
      c.passes.invariant.0,
    )

pub symbols-preserved : goal.symbols-preserved
symbols-preserved c =
    let p = c.symbols.invariant in
    let k = c.symbols.k in
    let at = c.symbol_of-x.ensures in
    elim c.if-flags-x-eq0.branch [
      | then-flags-x-eq0 w ↦
          pass_add _ _ c.symbol_of-x.result w.flags-is w.reached-is p at.1 w.if-flags-x-eq0.true
          (fired c.args.m.now c.args.rules c.rules.i k c.rules.auto.i (omega arith) (omega (arith, c.length_of-k-end.ensures.0)) c.left_of.ensures.0 (set_on c.if-flags-left_of-eq0.false) at.0)
      | else-flags-x-eq0 w ↦
          pass_more _ _ w.flags-is w.reached-is p (λ d. (d.0, below_more _ k d.1 (on_at at.0 (set_on w.if-flags-x-eq0.false))))
    ]

pub rules-preserved : goal.rules-preserved
rules-preserved c =
    let p = c.rules.invariant in
    pass_join _ _ _ refl refl p c.symbols.invariant (λ y q. least_join _ p.only q)
    (λ d. from_more _ 1 c.rules.i d.0 (λ _ k l. d.1 k (omega (arith, c.length_of-k-end.ensures.0))))

pub passes-preserved : goal.passes-preserved
passes-preserved c = let p = c.rules.invariant in
    let o = c.passes.invariant in
    (p.long, λ y on. least_join _ o.1 (p.only y on), λ y on. p.kept y (o.2 y on))

pub returns-then-reached-eq0 : goal.returns-then-reached-eq0
returns-then-reached-eq0 c =
    let p = c.rules.invariant in
    let o = c.passes.invariant in
    least_marks _ (λ y on. least_join _ o.1 (p.only y on)) (λ y on. p.kept y (o.2 y on))
    (met c.args.m.now c.args.rules c.rules.flags (λ j l h. p.closed c.if-reached-eq0.true j l (omega arith)))
