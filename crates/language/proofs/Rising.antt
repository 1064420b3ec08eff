-- Laws of rising lists.
use Prim.Native.Nat.{ℕ, suc, ◌≤◌}
use native.Mathlib.Omega.{arith}
use mathlib.Core.Path.{◌≡◌, refl, sym, ap₂}
use mathlib.Core.Logic.{◌⊎◌, inl, inr}
use mathlib.Core.List.{List, [], ◌∷◌}
use Rattle.language.specs.Rising.{RisingFrom}
use Rattle.language.specs.Sentence.{In, here, there}
use Rattle.language.proofs.Member.{in_cons}

pub rising_below : (a b : ℕ) (l : List ℕ) → a ≤ b → RisingFrom b l → RisingFrom a l
rising_below a b [] le r = tt
rising_below a b (x ∷ l) le r = (omega (arith, le, r.0), r.1)

pub rising_in : (a : ℕ) (l : List ℕ) (y : ℕ) → RisingFrom a l → In y l → a ≤ y
rising_in a [] y r m = elim m [ ]
rising_in a (x ∷ l) y r here = r.0
rising_in a (x ∷ l) y r (there m) = let z = rising_in (suc x) l y r.1 m in omega (arith, z, r.0)

-- rising lists of the same numbers are the same
pub rising_same : (a b : ℕ) (l m : List ℕ) → RisingFrom a l → RisingFrom b m → ((x : ℕ) → In x l → In x m) → ((x : ℕ) → In x m → In x l) → l ≡ m
rising_same a b [] [] r s to from = refl
rising_same a b [] (y ∷ m) r s to from = elim (from y here) [ ]
rising_same a b (x ∷ l) [] r s to from = elim (to x here) [ ]
rising_same a b (x ∷ l) (y ∷ m) r s to from =
    let z : x ≡ y = same (in_cons (to x here)) (in_cons (from y here)) in
    ap₂ (λ (n : ℕ) (k : List ℕ). n ∷ k) z
    (rising_same (suc x) (suc y) l m r.1 s.1 (λ w n. later x y l m w r.1 z n (to w (there n))) (λ w n. later y x m l w s.1 (sym z) n (from w (there n))))
  where
    same : (x ≡ y) ⊎ In x m → (y ≡ x) ⊎ In y l → x ≡ y
    same (inl e) h = e
    same (inr n) (inl e) = sym e
    same (inr n) (inr k) = absurd (omega (arith, rising_in (suc y) m x s.1 n, rising_in (suc x) l y r.1 k))

    later : (x y : ℕ) (l m : List ℕ) (w : ℕ) → RisingFrom (suc x) l → x ≡ y → In w l → In w (y ∷ m) → In w m
    later x y l m w r z n k = go (in_cons k)
      where
        go : (w ≡ y) ⊎ In w m → In w m
        go (inl e) = absurd (omega (arith, rising_in (suc x) l w r n, e, z))
        go (inr h) = h
