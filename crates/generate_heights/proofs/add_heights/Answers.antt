use Prim.Native.Nat.{ℕ, suc, ◌+◌, ◌-◌, ◌≤◌}
use mathlib.Core.Bool.{true≢false}
use mathlib.Core.List.{List}
use mathlib.Core.Path.{◌≡◌, refl, sym, subst, ◌∙◌}
use native.Mathlib.Omega.{arith}
use native.Mathlib.Numerals.{add-one}
use Rattle.generate_heights.proofs.RoundLaws.{Round, round_start, round_known, round_high, round_add, round_end}
use Rattle.generate_heights.proofs.add_heights.Goals as goal
use Rattle.generate_heights.proofs.add_heights.Goals.{then-heights-x+then-all_lower, else-heights-x, else-heights-x-via-then-heights-x+else-all_lower, else-heights-x-via-else-heights-x}

back : (h : ℕ) → 1 ≤ h → h ≡ suc (h - 1)
back h l = omega arith

pub loop-i-init : goal.loop-i-init
loop-i-init c = (
  λ g e f. round_start c.args.items.now c.args.rules g e (c.args.h - 1) c.args.h (back c.args.h c.requires.le_h.0) c.requires.le_h.1 c.args.heights.now f,
  λ _. refl,
)

pub loop-i-preserved : goal.loop-i-preserved
loop-i-preserved c =
    let items = c.args.items.now in
    let h = c.args.h in
    let high = back h c.requires.le_h.0 in
    let i = c.loop-i.i in (
      λ g e f.
          elim c.if-heights-x.branch [
            | then-heights-x+then-all_lower w ↦
                subst (λ (m : List ℕ). Round g (h - 1) h (i + 1) m) (sym w.heights-is)
                (round_add items c.args.rules g e (h - 1) h high c.requires.le_h.1 c.loop-i.heights i (c.loop-i.invariant.0 g e f) c.loop-i.auto.i (omega arith) (add-one i)
                c.left_of-x.ensures.0 (omega (arith, c.left_of-x.ensures.1)) w.if-heights-x.true (sym w.all_lower.ensures ∙ w.if-all_lower.true))
            | else-heights-x w ↦
                subst (λ (m : List ℕ). Round g (h - 1) h (i + 1) m) (sym w.heights-is)
                (elim w.else-heights-x.branch [
                  | else-heights-x-via-then-heights-x+else-all_lower v ↦
                      round_high items c.args.rules g e (h - 1) h high c.requires.le_h.1 c.loop-i.heights i (c.loop-i.invariant.0 g e f) c.loop-i.auto.i (omega arith) (add-one i)
                      (sym v.all_lower.ensures ∙ v.if-all_lower.false)
                  | else-heights-x-via-else-heights-x v ↦
                      round_known items c.args.rules g e (h - 1) h high c.requires.le_h.1 c.loop-i.heights i (c.loop-i.invariant.0 g e f) c.loop-i.auto.i (omega arith) (add-one i)
                      c.left_of-x.ensures.0 v.if-heights-x.false
                ])
          ],
      λ q.
          elim c.if-heights-x.branch [
            | then-heights-x+then-all_lower w ↦ absurd (true≢false (sym w.added-is ∙ q))
            | else-heights-x w ↦ w.heights-is ∙ c.loop-i.invariant.1 (sym w.added-is ∙ q)
          ],
    )

pub returns-clause-reached : goal.returns-clause-reached
returns-clause-reached c =
    λ g e f.
    round_end c.args.items.now c.args.rules g e (c.args.h - 1) c.args.h (back c.args.h c.requires.le_h.0) c.requires.le_h.1 c.loop-i.heights c.loop-i.i (c.loop-i.invariant.0 g e f)
    (omega arith)
