-- Numbers that a list is filtered by: a range, what passes a test, and that it rises.
use Prim.Native.Nat.{ℕ, zero, suc, ◌+◌, ◌≤◌, ◌<◌}
use native.Mathlib.Omega.{arith}
use native.Mathlib.Decide.{ℕ_discrete}
use mathlib.Core.Path.{◌≡◌, refl, sym, ap, subst}
use mathlib.Core.Logic.{◌⊎◌, inl, inr}
use mathlib.Core.List.{List, [], ◌∷◌}
use lib.ListN.{length}
use Rattle.language.specs.Sentence.{In, here, there}
use Rattle.language.specs.Rising.{RisingFrom}
use Rattle.language.proofs.Member.{in_cons}
use Rattle.language.proofs.Rising.{rising_below}
use Rattle.build_states.specs.States.{range, keep_if, keep}

pub in_range : (a n x : ℕ) → a ≤ x → x < a + n → In x (range a n)
in_range a zero x l h = absurd (omega (arith, l, h))
in_range a (suc n) x l h = go (ℕ_discrete a x) (λ k. in_range (suc a) n x k (omega (arith, h)))
  where
    go : Dec (a ≡ x) → (suc a ≤ x → In x (range (suc a) n)) → In x (a ∷ range (suc a) n)
    go (yes e) rec = subst (λ (z : ℕ). In x (z ∷ range (suc a) n)) (sym e) here
    go (no f) rec = there (rec (omega (arith, l, f)))

pub range_in : (a n x : ℕ) → In x (range a n) → (a ≤ x) × (x < a + n)
range_in a zero x m = elim m [ ]
range_in a (suc n) x m = go (in_cons m) (λ k. range_in (suc a) n x k)
  where
    go : (x ≡ a) ⊎ In x (range (suc a) n) → (In x (range (suc a) n) → (suc a ≤ x) × (x < suc a + n)) → (a ≤ x) × (x < a + suc n)
    go (inl e) rec = (omega (arith, e), omega (arith, e))
    go (inr k) rec = let r = rec k in (omega (arith, r.0), omega (arith, r.1))

pub range_length : (a n : ℕ) → length (range a n) ≡ n
range_length a zero = refl
range_length a (suc n) = ap suc (range_length (suc a) n)

module _ (Φ : ℕ → Type 0) (test : (x : ℕ) → Dec (Φ x)) where
  pub keep_only : (l : List ℕ) (x : ℕ) → In x (keep Φ test l) → Φ x × In x l
  unfolding keep
  keep_only [] x m = elim m [ ]
  keep_only (y ∷ l) x m = go (test y) m (keep_only l x)
    where
      one : Φ y → (x ≡ y) ⊎ In x (keep Φ test l) → (In x (keep Φ test l) → Φ x × In x l) → Φ x × In x (y ∷ l)
      one p (inl e) rec = (subst Φ (sym e) p, subst (λ (z : ℕ). In x (z ∷ l)) e here)
      one p (inr n) rec = let r = rec n in (r.0, there r.1)

      go : (d : Dec (Φ y)) → In x (keep_if d y (keep Φ test l)) → (In x (keep Φ test l) → Φ x × In x l) → Φ x × In x (y ∷ l)
      go (yes p) n rec = one p (in_cons n) rec
      go (no f) n rec = let r = rec n in (r.0, there r.1)

  pub keep_every : {x : ℕ} {l : List ℕ} → In x l → Φ x → In x (keep Φ test l)
  unfolding keep
  keep_every {x = x} (here {l = l}) p = go (test x)
    where
      go : (d : Dec (Φ x)) → In x (keep_if d x (keep Φ test l))
      go (yes q) = here
      go (no f) = absurd (f p)
  keep_every {x = x} (there {y = y} {l = l} m) p = go (test y) (keep_every m p)
    where
      go : (d : Dec (Φ y)) → In x (keep Φ test l) → In x (keep_if d y (keep Φ test l))
      go (yes q) n = there n
      go (no f) n = n

  pub keep_rising : (a n : ℕ) → RisingFrom a (keep Φ test (range a n))
  unfolding keep
  keep_rising a zero = tt
  keep_rising a (suc n) = go (test a) (keep_rising (suc a) n)
    where
      go : (d : Dec (Φ a)) → RisingFrom (suc a) (keep Φ test (range (suc a) n)) → RisingFrom a (keep_if d a (keep Φ test (range (suc a) n)))
      go (yes p) r = (omega arith, r)
      go (no f) r = rising_below a (suc a) (keep Φ test (range (suc a) n)) (omega arith) r
