-- Flags that the numbers of a kernel set and the rules of a closure add, one by one.
use Prim.Native.Nat.{ℕ, ◌+◌, ◌*◌, ◌-◌, ◌≤◌, ◌<◌}
use native.Mathlib.Decide.{dec_lt}
use native.Mathlib.Numerals.{add-one}
use native.Mathlib.Omega.{arith}
use mathlib.Core.Path.{◌≡◌, sym, ap, subst, ◌∙◌}
use mathlib.Core.Logic.{◌⊎◌, inl, inr}
use mathlib.Core.List.{List, [], ◌∷◌, ◌++◌}
use lib.ListN.{length, get_or, set, take}
use lib.Seq.{take-suc}
use Rattle.language.specs.Sentence.{In, here}
use Rattle.language.proofs.Member.{in_left, in_right, in_either}
use Rattle.build_states.specs.States.{item_of, dot_of}
use Rattle.items.specs.Layout.{symbol_at}
use Rattle.analysis.specs.Adds.{Adds}
use Rattle.analysis.specs.Rests.{Before}
use Rattle.analysis.proofs.AddLaws.{adds_none, adds_map, adds_then, adds_one}
use Rattle.moves.specs.Moves.{symbol_after, Present}
use Rattle.build_moves.specs.Moved.{OfNumber, StandsBefore, RuleStart}
use Rattle.build_moves.proofs.PickLaws.{in_one}
use Rattle.build_moves.proofs.MovedLaws.{after_before, before_after}

-- ---- the numbers of a kernel set, up to j

module _ (P : ℕ → ℕ → Type 0) (k : List ℕ) where
  pub numbers_more : (j : ℕ) {fs₀ fs fs' : List ℕ} → j < length k → Adds (OfNumber P (take j k)) fs₀ fs → Adds (P (get_or k j 0)) fs fs'
      → Adds (OfNumber P (take (j + 1) k)) fs₀ fs'
  numbers_more j l a b = adds_map up down (adds_then a b)
    where
      is : take (j + 1) k ≡ take j k ++ get_or k j 0 ∷ []
      is = ap (λ (n : ℕ). take n k) (add-one j) ∙ take-suc k j 0 l

      of : {x y : ℕ} → In x (take j k ++ get_or k j 0 ∷ []) → P x y → OfNumber P (take (j + 1) k) y
      of {x} m p = record { number = x; member = subst (In x) (sym is) m; holds = p }

      up : (y : ℕ) → OfNumber P (take j k) y ⊎ P (get_or k j 0) y → OfNumber P (take (j + 1) k) y
      up y (inl o) = of (in_left (get_or k j 0 ∷ []) o.member) o.holds
      up y (inr p) = of (in_right (take j k) here) p

      go : {x y : ℕ} → P x y → In x (take j k) ⊎ In x (get_or k j 0 ∷ []) → OfNumber P (take j k) y ⊎ P (get_or k j 0) y
      go {x} p (inl m) = inl (record { number = x; member = m; holds = p })
      go {x} {y} p (inr m) = inr (subst (λ (z : ℕ). P z y) (in_one m) p)

      down : (y : ℕ) → OfNumber P (take (j + 1) k) y → OfNumber P (take j k) y ⊎ P (get_or k j 0) y
      down y o = go o.holds (in_either (take j k) (subst (In o.number) is o.member))

-- ---- what one number adds

module _ (items : List ℕ) (x : ℕ) {s : ℕ} (is : s ≡ symbol_after items (item_of x) (dot_of x)) where
  symbol_of : {b : ℕ} → StandsBefore items x b → s ≡ 64 + b
  symbol_of h = is ∙ after_before items (item_of x) (dot_of x) h.before ∙ h.symbol

  pub stands_none : (fs : List ℕ) → s < 64 → Adds (StandsBefore items x) fs fs
  stands_none fs l = adds_none fs (λ b h. omega (arith, symbol_of h))

  pub stands_one : {fs fs' : List ℕ} → 64 ≤ s → fs' ≡ set fs (s - 64) 1 → s - 64 < length fs → Adds (StandsBefore items x) fs fs'
  stands_one l e lt = adds_map up down (adds_one (s - 64) e lt)
    where
      b : Before items (item_of x) (dot_of x) × (symbol_at items (item_of x) (dot_of x) ≡ symbol_after items (item_of x) (dot_of x))
      b = before_after items (item_of x) (dot_of x) (λ z. omega (arith, z))

      up : (y : ℕ) → y ≡ s - 64 → StandsBefore items x y
      up y q = record { before = b.0; symbol = omega (arith, b.1) }

      down : (y : ℕ) → StandsBefore items x y → y ≡ s - 64
      down y h = omega (arith, symbol_of h)

-- ---- the rules below i

module _ (items present : List ℕ) where
  wider : {i : ℕ} (y : ℕ) → RuleStart items present i y → RuleStart items present (i + 1) y
  wider y r = record { rule = r.rule; above = r.above; below = omega (arith, r.below); added = r.added; is = r.is }

  -- one of those below i, or i
  last : {i : ℕ} (y : ℕ) → RuleStart items present (i + 1) y → RuleStart items present i y ⊎ ((y ≡ i * 16) × Present items present i)
  last {i} y r = go (dec_lt r.rule i)
    where
      go : Dec (r.rule < i) → RuleStart items present i y ⊎ ((y ≡ i * 16) × Present items present i)
      go (yes l) = inl (record { rule = r.rule; above = r.above; below = l; added = r.added; is = r.is })
      go (no f) =
          let e : r.rule ≡ i = omega (arith, r.below) in
          inr (r.is ∙ ap (λ (n : ℕ). n * 16) e, subst (Present items present) e r.added)

  pub starts_skip : {i : ℕ} {fs₀ fs : List ℕ} → (Present items present i → ⊥) → Adds (RuleStart items present i) fs₀ fs → Adds (RuleStart items present (i + 1)) fs₀ fs
  starts_skip {i} f a = adds_map wider (λ y r. go y (last y r)) a
    where
      go : (y : ℕ) → RuleStart items present i y ⊎ ((y ≡ i * 16) × Present items present i) → RuleStart items present i y
      go y (inl r) = r
      go y (inr h) = absurd (f h.1)

  pub starts_more : {i : ℕ} {fs₀ fs fs' : List ℕ} → 1 ≤ i → Present items present i → fs' ≡ set fs (i * 16) 1 → i * 16 < length fs
      → Adds (RuleStart items present i) fs₀ fs → Adds (RuleStart items present (i + 1)) fs₀ fs'
  starts_more {i} low p e lt a = adds_map up (λ y r. down y (last y r)) (adds_then a (adds_one (i * 16) e lt))
    where
      up : (y : ℕ) → RuleStart items present i y ⊎ (y ≡ i * 16) → RuleStart items present (i + 1) y
      up y (inl r) = wider y r
      up y (inr q) = record { rule = i; above = low; below = omega arith; added = p; is = q }

      down : (y : ℕ) → RuleStart items present i y ⊎ ((y ≡ i * 16) × Present items present i) → RuleStart items present i y ⊎ (y ≡ i * 16)
      down y (inl r) = inl r
      down y (inr h) = inr h.0
