-- The lowest number of a range that has a property.
use Rattle.std.specs.Prelude.{ℕ, zero, suc, ◌+◌, ◌≤◌, ◌<◌, ◌≡◌, refl}
use Rattle.std.proofs.Common.{ap, subst, arith}
use Rattle.std.proofs.Math.Decide.{dec_lt}
use Rattle.fixpoint.specs.declared.Found.{Found}

-- r is the lowest number from `low` on and below `high` of which P holds, or nothing where there is none
abbrev pub Lowest : (ℕ → Type 0) → ℕ → ℕ → Found → Type 0
Lowest P low high (Found.At x) = (low ≤ x) × (x < high) × P x × ((k : ℕ) → low ≤ k → k < x → P k → ⊥)
Lowest P low high Found.Nothing = (k : ℕ) → low ≤ k → k < high → P k → ⊥

-- there is only one such answer
pub lowest_one : (P : ℕ → Type 0) (low high : ℕ) (r q : Found) → Lowest P low high r → Lowest P low high q → r ≡ q
lowest_one P low high (Found.At x) (Found.At y) h k = go (dec_lt x y) (dec_lt y x)
  where
    equal : (a b : ℕ) → ¬ (a < b) → ¬ (b < a) → a ≡ b
    equal a b n m = omega arith

    go : Dec (x < y) → Dec (y < x) → Found.At x ≡ Found.At y
    go (yes l) d = absurd (k.3 x h.0 l h.2)
    go (no n) (yes l) = absurd (h.3 y k.0 l k.2)
    go (no n) (no m) = ap Found.At (equal x y n m)
lowest_one P low high (Found.At x) Found.Nothing h k = absurd (k x h.0 h.1 h.2)
lowest_one P low high Found.Nothing (Found.At y) h k = absurd (h y k.0 k.1 k.2)
lowest_one P low high Found.Nothing Found.Nothing h k = refl

-- a property with the same numbers
pub lowest_map : (P Q : ℕ → Type 0) (low high : ℕ) (r : Found) → ((x : ℕ) → low ≤ x → x < high → P x → Q x) → ((x : ℕ) → low ≤ x → x < high → Q x → P x)
    → Lowest P low high r → Lowest Q low high r
lowest_map P Q low high (Found.At x) f g h = (h.0, h.1, f x h.0 h.1 h.2, λ k a b q. h.3 k a b (g k a (below k b h.1) q))
  where
    below : (k : ℕ) → k < x → x < high → k < high
    below k a b = omega arith
lowest_map P Q low high Found.Nothing f g h = λ k a b q. h k a b (g k a b q)

-- the lowest of the n numbers from `low` on, by a test
unfoldable pub pick : {A : Type 0} → Dec A → Found → Found → Found
pick (yes a) x y = x
pick (no n) x y = y

unfoldable pub lowest : {P : ℕ → Type 0} → ((x : ℕ) → Dec (P x)) → ℕ → ℕ → Found
lowest test low zero = Found.Nothing
lowest test low (suc n) = pick (test low) (Found.At low) (lowest test (suc low) n)

pub lowest_is : {P : ℕ → Type 0} (test : (x : ℕ) → Dec (P x)) (low n : ℕ) → Lowest P low (low + n) (lowest test low n)
unfolding lowest pick
lowest_is test low zero = λ k a b p. absurd (none k low a b)
  where
    none : (k low : ℕ) → low ≤ k → k < low + 0 → ⊥
    none k low a b = omega arith
lowest_is {P = P} test low (suc n) = go (test low) (lowest_is test (suc low) n)
  where
    more : (r : Found) → (P low → ⊥) → Lowest P (suc low) (suc low + n) r → Lowest P low (low + suc n) r
    more (Found.At x) f h = (omega (arith, h.0), omega (arith, h.1), h.2, λ k a b p. go' k a b p (dec_lt low k))
      where
        go' : (k : ℕ) → low ≤ k → k < x → P k → Dec (low < k) → ⊥
        go' k a b p (yes l) = h.3 k l b p
        go' k a b p (no m) = f (subst P (equal k low a m) p)
          where
            equal : (a b : ℕ) → b ≤ a → ¬ (b < a) → a ≡ b
            equal a b l m = omega arith
    more Found.Nothing f h = λ k a b p. go' k a b p (dec_lt low k)
      where
        go' : (k : ℕ) → low ≤ k → k < low + suc n → P k → Dec (low < k) → ⊥
        go' k a b p (yes l) = h k l (omega arith) p
        go' k a b p (no m) = f (subst P (equal k low a m) p)
          where
            equal : (a b : ℕ) → b ≤ a → ¬ (b < a) → a ≡ b
            equal a b l m = omega arith

    go : (d : Dec (P low)) → Lowest P (suc low) (suc low + n) (lowest test (suc low) n) → Lowest P low (low + suc n) (pick d (Found.At low) (lowest test (suc low) n))
    go (yes p) h = (omega arith, omega arith, p, λ k a b q. absurd (none k a b))
      where
        none : (k : ℕ) → low ≤ k → k < low → ⊥
        none k a b = omega arith
    go (no f) h = more (lowest test (suc low) n) f h
