use Prim.Native.Nat.{◌+◌, ◌*◌, ◌-◌}
use native.Mathlib.Omega.{arith}
use mathlib.Core.Path.{◌≡◌, refl}
use borrow.Author.Count.{below_more, below_none}
use Rattle.items.specs.Layout.{left_at}
use Rattle.fixpoint.specs.Least.{seed, least_join, least_marks}
use Rattle.fixpoint.proofs.CountLaws.{zeros_le}
use Rattle.fixpoint.proofs.PassLaws.{pass_start, pass_more, pass_add, pass_join, set_on, no_gap, from_more}
use Rattle.closure.proofs.StepLaws.{any_kept, covered_least, absent, first_none, codeless, code_in, code_out, code_fired, all_codes, all_follow}
use Rattle.closure.proofs.close_follow.Goals as goal
use Rattle.closure.proofs.close_follow.Goals.{then-follow-b-eq0+then-fires, else-follow-b-eq0, else-follow-b-eq0-via-then-follow-b-eq0+else-fires, else-follow-b-eq0-via-else-follow-b-eq0}

pub passes-init : goal.passes-init
passes-init c = (c.requires.present_len.1, λ y on. seed on, λ y on. on, c.requires.covered)

pub rules-init : goal.rules-init
rules-init c = pass_start _ c.passes.invariant.0 (λ y on. seed on) (λ _ j l m. absurd (no_gap l m))

pub rules-preserved-then-not-left_in : goal.rules-preserved-then-not-left_in
rules-preserved-then-not-left_in c =
    let p = c.rules.invariant in
    pass_more _ _ refl refl p (λ d.
    from_more _ 1 c.rules.i d (absent _ _ _ _ _ (λ b k l on.
    covered_least _ _ _ _ _ c.requires.rules_le_count.2
    c.passes.invariant.3 (p.only (b * 64 + k) on) b k l refl)
    (c.left_in.ensures.no (c.if-not-left_in.true))))

pub rules-preserved-then-b-ge-CODES : goal.rules-preserved-then-b-ge-CODES
rules-preserved-then-b-ge-CODES c =
    pass_more _ _ refl refl c.rules.invariant
    (λ d. from_more _ 1 c.rules.i d (first_none _ _ _ _ _ c.first_nonterminal-b.ensures c.if-b-ge-CODES.true))

pub rules-preserved-then-not-any_code : goal.rules-preserved-then-not-any_code
rules-preserved-then-not-any_code c =
    pass_more _ _ refl refl c.rules.invariant (λ d.
    from_more _ 1 c.rules.i d (codeless _ _ _ _ _ (c.left_of-a.result - 64)
    (omega (arith, (c.left_in.ensures.yes (c.if-not-left_in.false)).is, c.left_of-a.ensures.0))
    (c.any_code.ensures.no (c.if-not-any_code.true))))

pub codes-init : goal.codes-init
codes-init c = let p = c.rules.invariant in
    pass_start _ p.long (λ y on. seed on) (λ e. (p.closed e, below_none _))

pub overflow_add-added : goal.overflow_add-added
overflow_add-added c =
    omega (
      arith,
      c.codes.invariant.count,
      c.rules.invariant.count,
      zeros_le c.passes.follow,
      c.passes.invariant.0,
    )

pub codes-preserved : goal.codes-preserved
codes-preserved c =
    let p = c.codes.invariant in
    let k = c.codes.c in
    let b = c.first_nonterminal-b.result in
    let a = c.left_of-a.result - 64 in
    let f = c.first_nonterminal-b.ensures.found (omega (arith, c.if-b-ge-CODES.false)) in
    let e : left_at c.args.items.now c.rules.i ≡ 64 + a = omega (
      arith,
      (c.left_in.ensures.yes (c.if-not-left_in.false)).is,
      c.left_of-a.ensures.0,
    ) in
    let any = any_kept _ _ p.kept (c.any_code.ensures.yes (c.if-not-any_code.false)) in
    elim c.if-follow-b-eq0.branch [
      | then-follow-b-eq0+then-fires w ↦
          pass_add _ _ (b * 64 + k) w.follow-is w.added-is p (omega (arith, c.if-b-ge-CODES.false, c.requires.rules_le_count.2))
          w.if-follow-b-eq0.true
          (code_fired _ _ _ _ _ a e f (omega arith) (omega arith) (omega arith) any p.only (w.fires.ensures.yes w.if-fires.true))
      | else-follow-b-eq0 w ↦
          pass_more _ _ w.follow-is w.added-is p (λ d. (
            d.0,
            below_more _ k d.1 (elim w.else-follow-b-eq0.branch [
              | else-follow-b-eq0-via-then-follow-b-eq0+else-fires v ↦ code_out _ _ _ _ _ a e f (v.fires.ensures.no v.if-fires.false)
              | else-follow-b-eq0-via-else-follow-b-eq0 v ↦ code_in _ _ _ _ _ a e f (set_on v.if-follow-b-eq0.false)
            ]),
          ))
    ]

pub rules-preserved : goal.rules-preserved
rules-preserved c =
    let p = c.rules.invariant in
    pass_join _ _ _ refl refl p c.codes.invariant (λ y q. least_join _ p.only q)
    (λ d. from_more _ 1 c.rules.i d.0 (all_codes _ _ _ _ _ (λ k l. d.1 k (omega arith))))

pub passes-preserved : goal.passes-preserved
passes-preserved c =
    let p = c.rules.invariant in
    let o = c.passes.invariant in (
      p.long,
      λ y on. least_join _ o.1 (p.only y on),
      λ y on. p.kept y (o.2 y on),
      record {
        closed = o.3.closed;
        seeded = λ b k l on.
            covered_least _ _ _ _ _ c.requires.rules_le_count.2
            o.3 (p.only (b * 64 + k) on) b k l refl;
      },
    )

pub returns : goal.returns
returns c =
    let p = c.rules.invariant in
    let o = c.passes.invariant in
    least_marks _ (λ y on. least_join _ o.1 (p.only y on)) (λ y on. p.kept y (o.2 y on))
    (all_follow _ _ _ _ _ (λ j l h. p.closed c.if-added-eq0.true j l (omega arith)))
