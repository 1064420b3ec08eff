-- Groups in memory: each ends where the next begins.
use Prim.Native.Nat.{ℕ, zero, suc, ◌+◌, ◌-◌, ◌≤◌, ◌<◌}
use mathlib.Core.Path.{◌≡◌, refl, sym, ap, subst, ◌∙◌}
use mathlib.Core.Bool.{Bool, true, false, cond}
use mathlib.Core.List.{List}
use native.Mathlib.Decide.{ℕ_discrete, dec_lt}
use native.Mathlib.Omega.{arith}
use borrow.Author.Tests.{eq-eqb, ne_eqb}
use lib.Dec.{eqb}
use Rattle.items.specs.Layout.{length_at, start_at}
use Rattle.item_groups.specs.Groups.{GroupEnd}
use Rattle.inclusions.specs.Groups.{begin_from, group_end, group_from}

module _ (items : List ℕ) (i : ℕ) where
  begin_is : (a n k : ℕ) → a < k → k + n ≡ length_at items i → ((x : ℕ) → a < x → x < k → start_at items i x ≡ 0) → GroupEnd items i a (begin_from items i k n)
  unfolding begin_from
  begin_is a zero k l e f = record { past = l; within = omega arith; inside = f; edge = λ m. absurd (omega arith) }
  begin_is a (suc n) k l e f = go (ℕ_discrete (start_at items i k) 0) (λ h. begin_is a n (suc k) (omega arith) (omega arith) h)
    where
      more : start_at items i k ≡ 0 → (x : ℕ) → a < x → x < suc k → Dec (x < k) → start_at items i x ≡ 0
      more z x u v (yes m) = f x u m
      more z x u v (no m) = subst (λ (y : ℕ). start_at items i y ≡ 0) (let w : k ≡ x = omega arith in w) z

      go : Dec (start_at items i k ≡ 0) → (((x : ℕ) → a < x → x < suc k → start_at items i x ≡ 0) → GroupEnd items i a (begin_from items i (suc k) n))
          → GroupEnd items i a (cond (eqb (start_at items i k) 0) (begin_from items i (suc k) n) k)
      go (yes z) rec = subst (λ (b : Bool). GroupEnd items i a (cond b (begin_from items i (suc k) n) k)) (sym (eq-eqb (start_at items i k) 0 z))
          (rec (λ x u v. more z x u v (dec_lt x k)))
      go (no z) rec = subst (λ (b : Bool). GroupEnd items i a (cond b (begin_from items i (suc k) n) k)) (sym (ne_eqb (start_at items i k) 0 z))
          (record { past = l; within = omega arith; inside = f; edge = λ m w. z w })

  pub end_is : (a : ℕ) → a < length_at items i → GroupEnd items i a (group_end items i a)
  unfolding group_end
  end_is a l = begin_is a (length_at items i - suc a) (suc a) (omega arith) (omega arith) (λ x u v. absurd (omega arith))

  one_end : {a b d : ℕ} → GroupEnd items i a b → GroupEnd items i a d → b ≡ d
  one_end {a} {b} {d} u v = go (dec_lt b d) (dec_lt d b)
    where
      go : Dec (b < d) → Dec (d < b) → b ≡ d
      go (yes l) e = absurd (u.edge (omega (arith, v.within)) (v.inside b u.past l))
      go (no f) (yes l) = absurd (v.edge (omega (arith, u.within)) (u.inside d v.past l))
      go (no f) (no h) = omega arith

  -- the end that is found
  pub end_found : {a b : ℕ} → a < length_at items i → GroupEnd items i a b → b ≡ group_end items i a
  end_found l u = one_end u (end_is _ l)

  from_later : (a n k : ℕ) → a ≤ k → a ≤ begin_from items i k n
  unfolding begin_from
  from_later a zero k l = l
  from_later a (suc n) k l = go (eqb (start_at items i k) 0) (from_later a n (suc k) (omega arith))
    where
      go : (b : Bool) → a ≤ begin_from items i (suc k) n → a ≤ cond b (begin_from items i (suc k) n) k
      go true h = h
      go false h = l

  end_later : (a : ℕ) → a ≤ group_end items i a
  unfolding group_end
  end_later a = from_later a (length_at items i - suc a) (suc a) (omega arith)

  group_later : (a j : ℕ) → a ≤ group_from items i a j
  unfolding group_from
  group_later a zero = omega arith
  group_later a (suc j) = omega (arith, end_later a, group_later (group_end items i a) j)

  pub group_next : (a j : ℕ) → group_from items i a (suc j) ≡ group_end items i (group_from items i a j)
  unfolding group_from
  group_next a zero = refl
  group_next a (suc j) = group_next (group_end items i a) j

  pub group_add : (a m j : ℕ) → group_from items i a (m + j) ≡ group_from items i (group_from items i a m) j
  unfolding group_from
  group_add a zero j = ap (group_from items i a) (let z : 0 + j ≡ j = omega arith in z)
  group_add a (suc m) j = ap (group_from items i a) (let z : suc m + j ≡ suc (m + j) = omega arith in z) ∙ group_add (group_end items i a) m j

  -- groups begin one after the other
  pub group_order : (a m n : ℕ) → m ≤ n → group_from items i a m ≤ group_from items i a n
  group_order a m n l =
      subst (λ (k : ℕ). group_from items i a m ≤ group_from items i a k) (let z : m + (n - m) ≡ n = omega arith in z)
      (subst (λ (k : ℕ). group_from items i a m ≤ k) (sym (group_add a m (n - m))) (group_later (group_from items i a m) (n - m)))
