use Prim.Native.Nat.{ℕ, suc, ◌+◌, ◌-◌, ◌≤◌}
use mathlib.Core.Path.{◌≡◌, sym, subst}
use native.Mathlib.Omega.{arith}
use Rattle.generate_heights.specs.Heights.{Started, Reached}
use Rattle.generate_heights.proofs.RoundLaws.{heights_start, heights_stable, heights_end}
use Rattle.generate_heights.proofs.find_heights.Goals as goal

back : (h : ℕ) → 1 ≤ h → h ≡ suc (h - 1)
back h l = omega arith

again : (h : ℕ) → h ≡ h + 1 - 1
again h = omega arith

pub returns-then-not-add_heights : goal.returns-then-not-add_heights
returns-then-not-add_heights c =
    let first = c.start_heights.new.heights in
    let same = c.add_heights.ensures.heights_unchanged (c.if-not-add_heights.true) in
    λ g e a b.
    let before : Reached g (c.loop-h.h - 1) c.loop-h.heights = c.loop-h.invariant g e (heights_start c.args.items.now c.args.rules g e first (subst (λ (t : ℕ). Started t 128 first) (sym a) c.start_heights.ensures)) in
    heights_stable c.args.items.now c.args.rules g e (c.loop-h.h - 1) c.add_heights.new.heights (subst (Reached g (c.loop-h.h - 1)) (sym same) before)
    (subst (λ (k : ℕ). Reached g k c.add_heights.new.heights) (back c.loop-h.h c.loop-h.auto.h) (c.add_heights.ensures.reached g e before))

pub loop-h-preserved : goal.loop-h-preserved
loop-h-preserved c =
    λ g e f. subst (λ (k : ℕ). Reached g k c.add_heights.new.heights) (again c.loop-h.h) (c.add_heights.ensures.reached g e (c.loop-h.invariant g e f))

pub returns : goal.returns
returns c =
    let first = c.start_heights.new.heights in
    λ g e a b.
    let last : c.loop-h.h - 1 ≡ g.nonterminals = omega (arith, c.loop-h-test.false, b) in
    heights_end c.args.items.now c.args.rules g e c.loop-h.heights (subst (λ (k : ℕ). Reached g k c.loop-h.heights) last
    (c.loop-h.invariant g e (heights_start c.args.items.now c.args.rules g e first (subst (λ (t : ℕ). Started t 128 first) (sym a) c.start_heights.ensures))))
