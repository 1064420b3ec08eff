-- Laws of standing in a list.
use Prim.Native.Nat.{ℕ, zero, suc}
use mathlib.Core.Path.{◌≡◌, refl, ap}
use mathlib.Core.Logic.{◌⊎◌, inl, inr}
use mathlib.Core.List.{List, [], ◌∷◌, ◌++◌, map}
use lib.ListN.{length, drop}
use Rattle.language.specs.Grammar.{concat}
use Rattle.language.specs.Sentence.{In, here, there}

module _ {A : Type 0} where
  pub in_cons : {x y : A} {l : List A} → In x (y ∷ l) → (x ≡ y) ⊎ In x l
  in_cons here = inl refl
  in_cons (there m) = inr m

  pub in_left : {x : A} {l : List A} (m : List A) → In x l → In x (l ++ m)
  in_left m here = here
  in_left m (there n) = there (in_left m n)

  pub in_right : {x : A} (l : List A) {m : List A} → In x m → In x (l ++ m)
  in_right [] n = n
  in_right (y ∷ l) n = there (in_right l n)

  pub in_either : {x : A} (l : List A) {m : List A} → In x (l ++ m) → In x l ⊎ In x m
  in_either [] n = inr n
  in_either (y ∷ l) here = inl here
  in_either {x = x} (y ∷ l) {m = m} (there n) = go (in_either l n)
    where
      go : In x l ⊎ In x m → In x (y ∷ l) ⊎ In x m
      go (inl k) = inl (there k)
      go (inr k) = inr k

  pub in_drop : {x : A} (k : ℕ) (l : List A) → In x (drop k l) → In x l
  in_drop zero l m = m
  in_drop (suc k) [] m = m
  in_drop (suc k) (y ∷ l) m = there (in_drop k l m)

  -- the list without the one that stands there
  abbrev pub without : {x : A} {l : List A} → In x l → List A
  without (here {l = l}) = l
  without (there {y = y} m) = y ∷ without m

  pub without-length : {x : A} {l : List A} (m : In x l) → suc (length (without m)) ≡ length l
  without-length here = refl
  without-length (there m) = ap suc (without-length m)

  pub in_without : {x y : A} {l : List A} (m : In x l) → In y l → (y ≡ x) ⊎ In y (without m)
  in_without here here = inl refl
  in_without here (there n) = inr n
  in_without (there m) here = inr here
  in_without {x} {y} (there {y = z} m) (there n) = later (in_without m n)
    where
      later : (y ≡ x) ⊎ In y (without m) → (y ≡ x) ⊎ In y (z ∷ without m)
      later (inl e) = inl e
      later (inr k) = inr (there k)

pub in_map : {A B : Type 0} (f : A → B) {y : B} (l : List A) → In y (map f l) → (x : A) × In x l × (y ≡ f x)
in_map f [] m = elim m [ ]
in_map f (x ∷ l) here = (x, here, refl)
in_map f (x ∷ l) (there m) = let r = in_map f l m in (r.0, there r.1, r.2)

pub in_concat : {x : ℕ} {γ : List ℕ} {γs : List (List ℕ)} → In γ γs → In x γ → In x (concat γs)
in_concat (here {l = γs}) m = in_left (concat γs) m
in_concat (there {y = δ} n) m = in_right δ (in_concat n m)

pub in_concat_right : {x : ℕ} (δs εs : List (List ℕ)) → In x (concat εs) → In x (concat (δs ++ εs))
in_concat_right [] εs m = m
in_concat_right (δ ∷ δs) εs m = in_right δ (in_concat_right δs εs m)
