-- Lines in rising order. Two lists that rise and have the same members are the same.
use Prim.Native.Nat.{ℕ, ◌<◌}
use mathlib.Core.Path.{◌≡◌, refl, sym, ap, ap₂, subst, ◌∙◌}
use mathlib.Core.Logic.{◌⊎◌, inl, inr}
use mathlib.Core.List.{List, [], ◌∷◌, ◌++◌}
use mathlib.Core.Bool.{Bool, true, false, ◌&&◌, ◌||◌}
use native.Mathlib.Omega.{arith}
use borrow.Author.Tests.{ltb-true, eqb-true, lt-ltb, eq-eqb}
use lib.Dec.{ltb, eqb}
use Rattle.language.specs.Sentence.{In, here, there}
use Rattle.language.proofs.TestLaws.{both_true}
use Rattle.language.proofs.Member.{in_cons, in_right}
use Rattle.leftcorner.proofs.ReadOff.{clash}
use Rattle.table_order.specs.Order.{below, follows}

-- ---- keys
abbrev pub Below : List ℕ → List ℕ → Type 0
Below [] b = ⊥
Below (x ∷ a) [] = ⊥
Below (x ∷ a) (y ∷ b) = (x < y) ⊎ ((x ≡ y) × Below a b)

pub below_true : (a b : List ℕ) → below a b ≡ true → Below a b
below_true [] b e = clash cc
below_true (x ∷ a) [] e = clash cc
below_true (x ∷ a) (y ∷ b) e = go (ltb x y) refl e (λ h. below_true a b h)
  where
    go : (t : Bool) → ltb x y ≡ t → t || (eqb x y && below a b) ≡ true → (below a b ≡ true → Below a b) → (x < y) ⊎ ((x ≡ y) × Below a b)
    go true p e f = inl (ltb-true x y p)
    go false p e f = let h = both_true (eqb x y) (below a b) e in inr (eqb-true x y h.0, f h.1)

or_true : (b : Bool) → b || true ≡ true
or_true true = refl
or_true false = refl

pub true_below : (a b : List ℕ) → Below a b → below a b ≡ true
true_below [] b h = absurd h
true_below (x ∷ a) [] h = absurd h
true_below (x ∷ a) (y ∷ b) (inl h) = simp (lt-ltb x y h)
true_below (x ∷ a) (y ∷ b) (inr h) = simp (eq-eqb x y h.0, true_below a b h.1, or_true (ltb x y))

pub below_not : (a b : List ℕ) → Below a b → Below b a → ⊥
below_not [] b h k = h
below_not (x ∷ a) [] h k = h
below_not (x ∷ a) (y ∷ b) (inl h) (inl k) = omega arith
below_not (x ∷ a) (y ∷ b) (inl h) (inr k) = omega (arith, k.0)
below_not (x ∷ a) (y ∷ b) (inr h) (inl k) = omega (arith, h.0)
below_not (x ∷ a) (y ∷ b) (inr h) (inr k) = below_not a b h.1 k.1

below_on : (a b c : List ℕ) → Below a b → Below b c → Below a c
below_on [] b c h k = h
below_on (x ∷ a) [] c h k = absurd h
below_on (x ∷ a) (y ∷ b) [] h k = k
below_on (x ∷ a) (y ∷ b) (z ∷ c) (inl h) (inl k) = inl (omega arith)
below_on (x ∷ a) (y ∷ b) (z ∷ c) (inl h) (inr k) = inl (omega (arith, k.0))
below_on (x ∷ a) (y ∷ b) (z ∷ c) (inr h) (inl k) = inl (omega (arith, h.0))
below_on (x ∷ a) (y ∷ b) (z ∷ c) (inr h) (inr k) = inr (omega (arith, h.0, k.0), below_on a b c h.1 k.1)

-- the test of a line goes by the last line before it
pub follows_last : {A : Type 0} (key : A → List ℕ) (l : List A) (y : A) (k : List ℕ) → follows key (l ++ y ∷ []) k ≡ below (key y) k
follows_last key [] y k = refl
follows_last key (x ∷ []) y k = refl
follows_last key (x ∷ z ∷ l) y k = follows_last key (z ∷ l) y k

-- ---- lists that rise by a key
module _ {A : Type 0} (key : A → List ℕ) where
  abbrev pub Above : List ℕ → List A → Type 0
  Above k [] = Unit {0}
  Above k (y ∷ l) = Below k (key y) × Above k l

  -- each line's key is below that of every later one
  abbrev pub RisingBy : List A → Type 0
  RisingBy [] = Unit {0}
  RisingBy (x ∷ l) = Above (key x) l × RisingBy l

  above_in : (k : List ℕ) {x : A} {l : List A} → Above k l → In x l → Below k (key x)
  above_in k h here = h.0
  above_in k h (there m) = above_in k h.1 m

  pub above_all : (k : List ℕ) (l : List A) → ((x : A) → In x l → Below k (key x)) → Above k l
  above_all k [] f = tt
  above_all k (x ∷ l) f = (f x here, above_all k l (λ y m. f y (there m)))

  -- a line that follows the last line is above all of them
  pub follows_all : (l : List A) (k : List ℕ) → RisingBy l → follows key l k ≡ true → (y : A) → In y l → Below (key y) k
  follows_all [] k r e y m = elim m [ ]
  follows_all (x ∷ []) k r e y m = go (in_cons m)
    where
      go : (y ≡ x) ⊎ In y [] → Below (key y) k
      go (inl q) = subst (λ (z : A). Below (key z) k) (sym q) (below_true (key x) k e)
      go (inr n) = elim n [ ]
  follows_all (x ∷ z ∷ l) k r e y m = go (in_cons m) (follows_all (z ∷ l) k r.1 e)
    where
      go : (y ≡ x) ⊎ In y (z ∷ l) → ((w : A) → In w (z ∷ l) → Below (key w) k) → Below (key y) k
      go (inl q) f = subst (λ (w : A). Below (key w) k) (sym q) (below_on (key x) (key z) k r.0.0 (f z here))
      go (inr n) f = f y n

  above_more : (k : List ℕ) (l : List A) (x : A) → Above k l → Below k (key x) → Above k (l ++ x ∷ [])
  above_more k [] x h b = (b, tt)
  above_more k (y ∷ l) x h b = (h.0, above_more k l x h.1 b)

  pub rising_on : (l : List A) (x : A) → RisingBy l → ((y : A) → In y l → Below (key y) (key x)) → RisingBy (l ++ x ∷ [])
  rising_on [] x r f = (tt, tt)
  rising_on (y ∷ l) x r f = (above_more (key y) l x r.0 (f y here), rising_on l x r.1 (λ z m. f z (there m)))

  -- a line that follows may join
  pub rising_more : (l : List A) (x : A) → RisingBy l → follows key l (key x) ≡ true → RisingBy (l ++ x ∷ [])
  rising_more l x r e = rising_on l x r (follows_all l (key x) r e)

  -- in a list that rises each line follows those before it
  pub rising_follows : (earlier : List A) (x : A) (later : List A) → RisingBy (earlier ++ x ∷ later) → follows key earlier (key x) ≡ true
  rising_follows [] x later r = refl
  rising_follows (y ∷ []) x later r = true_below (key y) (key x) r.0.0
  rising_follows (y ∷ z ∷ l) x later r = rising_follows (z ∷ l) x later r.1

  -- its key is above that of each of them
  pub rising_once : (earlier : List A) (x : A) (later : List A) → RisingBy (earlier ++ x ∷ later) → (y : A) → In y earlier → Below (key y) (key x)
  rising_once [] x later r y m = elim m [ ]
  rising_once (z ∷ l) x later r y here = above_in (key z) r.0 (in_right l here)
  rising_once (z ∷ l) x later r y (there m) = rising_once l x later r.1 y m

  -- a line is the only one with its key
  pub rising_one : (l : List A) {x y : A} → RisingBy l → In x l → In y l → key x ≡ key y → x ≡ y
  rising_one [] r m n e = elim m [ ]
  rising_one (z ∷ l) {x} {y} r m n e = go (in_cons m) (in_cons n) (λ p q. rising_one l r.1 p q e)
    where
      go : (x ≡ z) ⊎ In x l → (y ≡ z) ⊎ In y l → (In x l → In y l → x ≡ y) → x ≡ y
      go (inl p) (inl q) f = p ∙ sym q
      go (inl p) (inr q) f = let b = subst (λ (k : List ℕ). Below k (key y)) (ap key (sym p) ∙ e) (above_in (key z) r.0 q) in absurd (below_not (key y) (key y) b b)
      go (inr p) (inl q) f = let b = subst (λ (k : List ℕ). Below k (key x)) (ap key (sym q) ∙ sym e) (above_in (key z) r.0 p) in absurd (below_not (key x) (key x) b b)
      go (inr p) (inr q) f = f p q

  -- ---- the same members
  behind : {x w : A} {l m : List A} → Above (key x) l → ((z : A) → In z (x ∷ l) → In z (x ∷ m)) → In w l → In w m
  behind {x} {w} h to n = go (in_cons (to w (there n)))
    where
      go : {m : List A} → (w ≡ x) ⊎ In w m → In w m
      go (inl e) = let b = subst (λ (z : A). Below (key x) (key z)) e (above_in (key x) h n) in absurd (below_not (key x) (key x) b b)
      go (inr k) = k

  pub rising_same : (l m : List A) → RisingBy l → RisingBy m → ((x : A) → In x l → In x m) → ((x : A) → In x m → In x l) → l ≡ m
  rising_same [] [] r s to from = refl
  rising_same [] (y ∷ m) r s to from = elim (from y here) [ ]
  rising_same (x ∷ l) [] r s to from = elim (to x here) [ ]
  rising_same (x ∷ l) (y ∷ m) r s to from = ap₂ (λ (z : A) (k : List A). z ∷ k) first (rising_same l m r.1 s.1 (λ w n. behind r.0 forth n) (λ w n. behind s.0 back n))
    where
      same : (x ≡ y) ⊎ In x m → (y ≡ x) ⊎ In y l → x ≡ y
      same (inl e) h = e
      same (inr n) (inl e) = sym e
      same (inr n) (inr k) = absurd (below_not (key y) (key x) (above_in (key y) s.0 n) (above_in (key x) r.0 k))

      first : x ≡ y
      first = same (in_cons (to x here)) (in_cons (from y here))

      forth : (z : A) → In z (x ∷ l) → In z (x ∷ m)
      forth z n = subst (λ (w : A). In z (w ∷ m)) (sym first) (to z n)

      back : (z : A) → In z (y ∷ m) → In z (y ∷ l)
      back z n = subst (λ (w : A). In z (w ∷ l)) first (from z n)
