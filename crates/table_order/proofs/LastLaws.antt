-- What the last key tells of the next line, by its numbers as they are and as memory keeps them.
use Prim.Native.Nat.{ℕ, zero, suc, min, ◌≤◌, ◌<◌}
use mathlib.Core.Path.{◌≡◌, refl, sym, ap, subst, ◌∙◌}
use mathlib.Core.List.{List, [], ◌∷◌, ◌++◌}
use mathlib.Core.Bool.{Bool, ◌||◌}
use native.Mathlib.Decide.{dec_le}
use native.Mathlib.Omega.{arith}
use borrow.Author.Tests.{lt-ltb, ne_eqb}
use lib.Dec.{eqb}
use lib.ListN.{length, get_or, replicate, length-append}
use Rattle.table_order.specs.Order.{below, follows}
use Rattle.table_order.specs.Last.{is_after, LastIs}
use Rattle.table_order.proofs.OrderLaws.{follows_last}
use Rattle.table_order.proofs.KeyLaws.{below_first}

-- ---- numbers as memory keeps them, with 65536 for every one above 65535
below_capped : (a b c : List ℕ) → ((j : ℕ) → get_or a j 0 ≤ 65535) → length b ≡ length c → ((j : ℕ) → get_or c j 0 ≡ min (get_or b j 0) 65536) → below a c ≡ below a b
below_capped [] b c h n e = refl
below_capped (x ∷ a) [] [] h n e = refl
below_capped (x ∷ a) [] (z ∷ c) h n e = absurd (omega (arith, n))
below_capped (x ∷ a) (y ∷ b) [] h n e = absurd (omega (arith, n))
below_capped (x ∷ a) (y ∷ b) (z ∷ c) h n e =
    go (dec_le y 65535) (below_capped a b c (λ j. h (suc j)) (omega (arith, n)) (λ j. e (suc j)))
  where
    go : Dec (y ≤ 65535) → below a c ≡ below a b → below (x ∷ a) (z ∷ c) ≡ below (x ∷ a) (y ∷ b)
    go (yes l) r = let f : z ≡ y = omega (arith, e 0, l) in simp (f, r)
    go (no f) r = simp (lt-ltb x z (omega (arith, e 0, f, h 0)), lt-ltb x y (omega (arith, f, h 0)))

-- ---- the last key
module _ {A : Type 0} {key : A → List ℕ} {last : List ℕ} {l : List A} (h : LastIs key last l) where
  pub follows_capped : (k m : List ℕ) → length k ≡ length m → ((j : ℕ) → get_or m j 0 ≡ min (get_or k j 0) 65536) → follows key l m ≡ follows key l k
  follows_capped k m n e = h.tests m ∙ (ap (λ (b : Bool). eqb (length l) 0 || b) (below_capped last k m h.low n e) ∙ sym (h.tests k))

  -- a line whose numbers begin with the key k
  pub follows_by : {lines : ℕ} → length l ≡ lines → (k numbers : List ℕ) → length last ≤ length k → length last ≤ length numbers
      → ((j : ℕ) → j < length last → get_or k j 0 ≡ get_or numbers j 0) → follows key l k ≡ is_after lines last numbers
  follows_by n k numbers a b e = h.tests k ∙ (ap (λ (c : Bool). eqb (length l) 0 || c) (below_first last k numbers e a b) ∙ ap (λ (i : ℕ). eqb i 0 || below last numbers) n)

pub last_none : {A : Type 0} {key : A → List ℕ} {last : List ℕ} → ((j : ℕ) → get_or last j 0 ≤ 65535) → LastIs key last []
last_none low = record { low = low; tests = λ k. refl }

pub last_more : {A : Type 0} {key : A → List ℕ} (l : List A) (x : A) {last : List ℕ} → last ≡ key x → ((j : ℕ) → get_or (key x) j 0 ≤ 65535) → LastIs key last (l ++ x ∷ [])
last_more {key = key} l x {last} e low = record {
  low = λ j. subst (λ (m : List ℕ). get_or m j 0 ≤ 65535) (sym e) (low j);
  tests = λ k.
      follows_last key l x k
      ∙ (ap (λ (m : List ℕ). below m k) (sym e)
      ∙ ap (λ (b : Bool). b || below last k) (sym (ne_eqb (length (l ++ x ∷ [])) 0 (λ z. omega (arith, z, length-append l (x ∷ []))))));
}

pub zeros_low : (n j : ℕ) → get_or (replicate n 0) j 0 ≤ 65535
zeros_low zero j = omega arith
zeros_low (suc n) zero = omega arith
zeros_low (suc n) (suc j) = zeros_low n j
