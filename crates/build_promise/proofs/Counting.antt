-- Counting: a list in which nothing stands twice is no longer, and weighs no more, than one that has all of it.
use Prim.Native.Nat.{ℕ, ◌+◌, ◌≤◌}
use native.Mathlib.Omega.{arith}
use mathlib.Core.Path.{◌≡◌, refl, sym, subst}
use mathlib.Core.Logic.{◌⊎◌, inl, inr}
use mathlib.Core.List.{List, [], ◌∷◌, map}
use lib.ListN.{length}
use Rattle.language.specs.Sentence.{In, here, there}
use Rattle.language.proofs.Member.{in_map, without, in_without}
use Rattle.build_book.proofs.Once.{Once}
use Rattle.build_promise.specs.Kernels.{sum}

module _ {A : Type 0} where
  weight_without : (w : A → ℕ) {x : A} {l : List A} (m : In x l) → sum (map w l) ≡ w x + sum (map w (without m))
  weight_without w here = refl
  weight_without w (there {y = y} m) = omega (arith, weight_without w m)

  pub no_heavier : (w : A → ℕ) (l m : List A) → Once ◌≡◌ l → ((x : A) → In x l → In x m) → sum (map w l) ≤ sum (map w m)
  no_heavier w [] m o f = omega arith
  no_heavier w (x ∷ l) m o f =
      let i = f x here in
      omega (arith, weight_without w i, no_heavier w l (without i) o.1 (λ y n. still y (o.0 y n) (in_without i (f y (there n)))))
    where
      still : (y : A) → (x ≡ y → ⊥) → (y ≡ x) ⊎ In y (without (f x here)) → In y (without (f x here))
      still y other (inl e) = absurd (other (sym e))
      still y other (inr k) = k

  ones : (l : List A) → sum (map (λ (_ : A). 1) l) ≡ length l
  ones [] = refl
  ones (x ∷ l) = omega (arith, ones l)

  pub no_longer : (l m : List A) → Once ◌≡◌ l → ((x : A) → In x l → In x m) → length l ≤ length m
  no_longer l m o f = omega (arith, no_heavier (λ (_ : A). 1) l m o f, ones l, ones m)

-- images of different things that are told apart
pub once_map : {A B : Type 0} (R : A → A → Type 0) (S : B → B → Type 0) (f : A → B) (l : List A)
    → ((x y : A) → In x l → In y l → S (f x) (f y) → R x y) → Once R l → Once S (map f l)
once_map R S f [] back o = tt
once_map {B = B} R S f (x ∷ l) back o = (apart, once_map R S f l (λ y z m n. back y z (there m) (there n)) o.1)
  where
    apart : (b : B) → In b (map f l) → S (f x) b → ⊥
    apart b m s =
        let r = in_map f l m in
        o.0 r.0 r.1 (back x r.0 here (there r.1) (subst (λ (c : B). S (f x) c) r.2 s))
