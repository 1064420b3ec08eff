-- A slice's bytes as a stack, top first, under pushes and pops.
use mathlib.Core.Path.{◌≡◌, refl, ap, ◌∙◌}
use mathlib.Core.List.{List, ◌∷◌}
use Prim.Native.Nat.{ℕ, zero, suc, ◌+◌, ◌-◌, ◌≤◌, ◌<◌}
use native.Mathlib.Numerals.{add-one}
use native.Mathlib.Omega.{arith}
use lib.ListN.{length, get_or, set, drop, length-set}
use lib.Seq.{get_or-set_same, get_or-set_other}
use Rattle.language.specs.First.{next}
use Rattle.walk_tables.specs.Memory.{figure_of, goto_of}
use Rattle.walk_stack.specs.Stack.{tops, groups_over, rule_over}

pub tops_above : (s : List ℕ) (h i v : ℕ) → h ≤ i → tops (set s i v) h ≡ tops s h
tops_above s zero i v le = refl
tops_above s (suc h) i v le = rw (get_or-set_other s i h v 0 (λ e. absurd (omega (arith, e))), tops_above s h i v (omega arith))

pub tops_push : (s : List ℕ) (h v : ℕ) → h < length s → tops (set s h v) (h + 1) ≡ v ∷ tops s h
tops_push s h v lt = rw (add-one, get_or-set_same s h v 0 lt, tops_above s h h v (omega arith))

pub tops-length : (s : List ℕ) (h : ℕ) → length (tops s h) ≡ h
tops-length s zero = refl
tops-length s (suc h) = ap suc (tops-length s h)

pub tops-drop : (s : List ℕ) (k h : ℕ) → k ≤ h → drop k (tops s h) ≡ tops s (h - k)
tops-drop s zero h le = let e : h ≡ h - 0 = omega arith in ap (tops s) e
tops-drop s (suc k) zero le = absurd (omega arith)
tops-drop s (suc k) (suc h) le = let e : h - k ≡ suc h - suc k = omega arith in tops-drop s k h (omega arith) ∙ ap (tops s) e

pub tops_top : (s : List ℕ) (h : ℕ) → 0 < h → next (tops s h) 0 ≡ get_or s (h - 1) 0
tops_top s zero lt = absurd (omega arith)
tops_top s (suc h) lt = let e : h ≡ suc h - 1 = omega arith in ap (λ (i : ℕ). get_or s i 0) e

-- one group more
push_group :
    (rules s S : List ℕ) (r h j v : ℕ) → v ≡ figure_of rules r (4 + j) → h < length s → tops s h ≡ groups_over rules r j S
    → tops (set s h v) (h + 1) ≡ groups_over rules r (suc j) S
push_group rules s S r h j v e lt so = tops_push s h v lt ∙ rw (so, e)

pub push_step :
    (rules s S : List ℕ) (r h j v : ℕ) → v ≡ figure_of rules r (4 + j) → h + j < length s → tops s (h + j) ≡ groups_over rules r j S
    → tops (set s (h + j) v) (h + (j + 1)) ≡ groups_over rules r (j + 1) S
push_step rules s S r h j v e lt so =
    let n : h + (j + 1) ≡ h + j + 1 = omega arith in
    ap (tops (set s (h + j) v)) n ∙ push_group rules s S r (h + j) j v e lt so ∙ rw (add-one)

-- one, two and three groups
module _ (rules s : List ℕ) (r h u v w : ℕ) (a : u ≡ figure_of rules r 4) where
  pub push_one : h < length s → tops (set s h u) (h + 1) ≡ groups_over rules r 1 (tops s h)
  push_one lt = push_group rules s (tops s h) r h 0 u a lt refl

  pub push_two : v ≡ figure_of rules r 5 → h + 1 < length s → tops (set (set s h u) (h + 1) v) (h + 2) ≡ groups_over rules r 2 (tops s h)
  push_two b lt =
      let n : h + 2 ≡ h + 1 + 1 = omega arith in
      let l : length (set s h u) ≡ length s = simp length-set in
      ap (tops (set (set s h u) (h + 1) v)) n ∙ push_group rules (set s h u) (tops s h) r (h + 1) 1 v b (omega arith) (push_one (omega arith))

  pub push_three : v ≡ figure_of rules r 5 → w ≡ figure_of rules r 6 → h + 2 < length s
      → tops (set (set (set s h u) (h + 1) v) (h + 2) w) (h + 3) ≡ groups_over rules r 3 (tops s h)
  push_three b c lt =
      let n : h + 3 ≡ h + 2 + 1 = omega arith in
      let l : length (set (set s h u) (h + 1) v) ≡ length s = simp length-set in
      ap (tops (set (set (set s h u) (h + 1) v) (h + 2) w)) n
      ∙ push_group rules (set (set s h u) (h + 1) v) (tops s h) r (h + 2) 2 w c (omega arith) (push_two b (omega arith))

groups_length : (rules : List ℕ) (r j : ℕ) (S : List ℕ) → length (groups_over rules r j S) ≡ j + length S
groups_length rules r zero S = omega arith
groups_length rules r (suc j) S = let e : length (groups_over rules r j S) ≡ j + length S = groups_length rules r j S in omega arith

pub rule_length : (gotos rules : List ℕ) (r g : ℕ) (S : List ℕ) → length (rule_over gotos rules r g S) ≡ g + (length S + 1)
unfolding rule_over
rule_length gotos rules r g S = omega (arith, groups_length rules r g (goto_of gotos (next S 0) (figure_of rules r 1) ∷ S))
