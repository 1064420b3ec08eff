-- The numbers that move on one symbol, picked from a list of all that move.
use Prim.Native.Nat.{ℕ, suc, ◌+◌, ◌/◌, ◌%◌, ◌≤◌, ◌<◌}
use native.Mathlib.Numerals.{add-one}
use native.Mathlib.Omega.{arith}
use mathlib.Core.Path.{◌≡◌, refl, sym, ap, subst, ◌∙◌}
use mathlib.Core.Logic.{◌⊎◌, inl, inr}
use mathlib.Core.Bool.{Bool, true, false, cond}
use mathlib.Core.List.{List, [], ◌∷◌, ◌++◌, append_assoc, append-nil}
use borrow.Author.Tests.{eqb-true, eq-eqb, ne_eqb}
use lib.Dec.{eqb}
use lib.ListN.{length, get_or, set, take, length-append, length-set}
use lib.Seq.{take-suc, take-suc-set}
use Rattle.language.specs.Sentence.{In, here, there}
use Rattle.language.proofs.Member.{in_cons}
use Rattle.build_moves.specs.Moved.{picked}

pub in_one : {A : Type 0} {x z : A} → In x (z ∷ []) → x ≡ z
in_one here = refl
in_one (there m) = elim m [ ]

pub picked_and : (X : ℕ) (l m : List ℕ) → picked X (l ++ m) ≡ picked X l ++ picked X m
unfolding picked
picked_and X [] m = refl
picked_and X (c ∷ l) m = go (eqb (c % 128) X) (picked_and X l m)
  where
    go : (b : Bool) → picked X (l ++ m) ≡ picked X l ++ picked X m
        → cond b (c / 128 ∷ picked X (l ++ m)) (picked X (l ++ m)) ≡ cond b (c / 128 ∷ picked X l) (picked X l) ++ picked X m
    go true e = ap (λ (k : List ℕ). c / 128 ∷ k) e
    go false e = e

pub picked_none : (X : ℕ) → picked X [] ≡ []
unfolding picked
picked_none X = refl

pub picked_one : (X c : ℕ) → c % 128 ≡ X → picked X (c ∷ []) ≡ c / 128 ∷ []
unfolding picked
picked_one X c e = simp (eq-eqb (c % 128) X e)

pub picked_other : (X c : ℕ) → (c % 128 ≡ X → ⊥) → picked X (c ∷ []) ≡ []
unfolding picked
picked_other X c f = simp (ne_eqb (c % 128) X f)

pub in_picked : (X : ℕ) (l : List ℕ) {y : ℕ} → In y (picked X l) → (c : ℕ) × In c l × (c % 128 ≡ X) × (y ≡ c / 128)
unfolding picked
in_picked X [] m = elim m [ ]
in_picked X (c ∷ l) {y} m = go (eqb (c % 128) X) refl m (λ n. in_picked X l n)
  where
    Found : List ℕ → Type 0
    Found l = (c : ℕ) × In c l × (c % 128 ≡ X) × (y ≡ c / 128)

    first : c % 128 ≡ X → (y ≡ c / 128) ⊎ In y (picked X l) → (In y (picked X l) → Found l) → Found (c ∷ l)
    first q (inl e) rec = (c, here, q, e)
    first q (inr n) rec = let r = rec n in (r.0, there r.1, r.2, r.3)

    go : (b : Bool) → eqb (c % 128) X ≡ b → In y (cond b (c / 128 ∷ picked X l) (picked X l)) → (In y (picked X l) → Found l) → Found (c ∷ l)
    go true e n rec = first (eqb-true (c % 128) X e) (in_cons n) rec
    go false e n rec = let r = rec n in (r.0, there r.1, r.2, r.3)

pub picked_in : {X c : ℕ} {l : List ℕ} → In c l → c % 128 ≡ X → In (c / 128) (picked X l)
unfolding picked
picked_in {X} {c} (here {l = l}) e = subst (λ (b : Bool). In (c / 128) (cond b (c / 128 ∷ picked X l) (picked X l))) (sym (eq-eqb (c % 128) X e)) here
picked_in {X} {c} (there {y = d} {l = l} m) e = go (eqb (d % 128) X) (picked_in m e)
  where
    go : (b : Bool) → In (c / 128) (picked X l) → In (c / 128) (cond b (d / 128 ∷ picked X l) (picked X l))
    go true n = there n
    go false n = n

-- ---- as they are stored, after j of the list

pub record Picking (moved sets₀ sets : List ℕ) (at x j r : ℕ) : Type 0 where
  pub long : length sets ≡ length sets₀
  pub few : r ≤ j
  pub count : r ≡ length (picked x (take j moved))
  pub is : take (at + r) sets ≡ take at sets₀ ++ picked x (take j moved)

module _ (moved : List ℕ) (at x : ℕ) where
  pub pick_start : (sets : List ℕ) → Picking moved sets sets at x 0 0
  pick_start sets =
      let z : at + 0 ≡ at = omega arith in
      record {
        long = refl;
        few = omega arith;
        count = ap length (sym (picked_none x));
        is = ap (λ (n : ℕ). take n sets) z ∙ sym (ap (λ (l : List ℕ). take at sets ++ l) (picked_none x) ∙ append-nil (take at sets));
      }

  one_more : (j : ℕ) → j < length moved → picked x (take (j + 1) moved) ≡ picked x (take j moved) ++ picked x (get_or moved j 0 ∷ [])
  one_more j l = ap (picked x) (ap (λ (n : ℕ). take n moved) (add-one j) ∙ take-suc moved j 0 l) ∙ picked_and x (take j moved) (get_or moved j 0 ∷ [])

  module _ {sets₀ sets : List ℕ} {j r : ℕ} (p : Picking moved sets₀ sets at x j r) (l : j < length moved) where
    pub pick_skip : (get_or moved j 0 % 128 ≡ x → ⊥) → Picking moved sets₀ sets at x (j + 1) r
    pick_skip f = record {
      long = p.long;
      few = omega (arith, p.few);
      count = p.count ∙ ap length (sym same);
      is = p.is ∙ ap (λ (m : List ℕ). take at sets₀ ++ m) (sym same);
    }
      where
        same : picked x (take (j + 1) moved) ≡ picked x (take j moved)
        same = one_more j l ∙ ap (λ (m : List ℕ). picked x (take j moved) ++ m) (picked_other x (get_or moved j 0) f) ∙ append-nil (picked x (take j moved))

    pub pick_more : get_or moved j 0 % 128 ≡ x → at + r < length sets → Picking moved sets₀ (set sets (at + r) (get_or moved j 0 / 128)) at x (j + 1) (r + 1)
    pick_more e lt = record {
      long = length-set sets (at + r) (get_or moved j 0 / 128) ∙ p.long;
      few = omega (arith, p.few);
      count = omega (arith, p.count, ap length more, length-append (picked x (take j moved)) (get_or moved j 0 / 128 ∷ []));
      is = ap (λ (n : ℕ). take n (set sets (at + r) (get_or moved j 0 / 128))) next ∙ take-suc-set sets (at + r) (get_or moved j 0 / 128) lt
          ∙ ap (λ (m : List ℕ). m ++ get_or moved j 0 / 128 ∷ []) p.is ∙ append_assoc (take at sets₀) (picked x (take j moved)) (get_or moved j 0 / 128 ∷ [])
          ∙ ap (λ (m : List ℕ). take at sets₀ ++ m) (sym more);
    }
      where
        next : at + (r + 1) ≡ suc (at + r)
        next = omega arith

        more : picked x (take (j + 1) moved) ≡ picked x (take j moved) ++ get_or moved j 0 / 128 ∷ []
        more = one_more j l ∙ ap (λ (m : List ℕ). picked x (take j moved) ++ m) (picked_one x (get_or moved j 0) e)
