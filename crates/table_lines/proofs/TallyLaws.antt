-- What a tally tells of the numbers.
use Prim.Native.Nat.{ℕ, ◌+◌, ◌≤◌, ◌<◌, max}
use mathlib.Core.Path.{◌≡◌, refl, sym, ap, ◌∙◌}
use mathlib.Core.List.{List, [], ◌∷◌, ◌++◌}
use mathlib.Core.Bool.{Bool, true, false, ◌&&◌, ◌||◌}
use native.Mathlib.Omega.{arith}
use borrow.Author.Tests.{le-leb, lt-leb, leb-true, leb-false, le-ltb, ltb-true, ltb-false}
use lib.Dec.{ltb, leb}
use lib.ListN.{length, drop, length-append}
use Rattle.language.proofs.TestLaws.{both_true}
use Rattle.digits.specs.Exact.{exact_at}
use Rattle.table_lines.specs.declared.Tally.{Tally}
use Rattle.table_lines.specs.Line.{all_at_most, rising_from, rising, cap, caps}
use Rattle.table_lines.specs.Tally.{largest_of, last_from, tally, keeps_rising, add_number}
use Rattle.table_lines.proofs.CapLaws.{caps_snoc}

-- ---- one number more
largest_snoc : (l : List ℕ) (v : ℕ) → max (largest_of l) v ≡ largest_of (l ++ v ∷ [])
largest_snoc [] v = omega arith
largest_snoc (u ∷ l) v = omega (arith, largest_snoc l v)

pub last_snoc : (u : ℕ) (l : List ℕ) (v : ℕ) → last_from u (l ++ v ∷ []) ≡ v
last_snoc u [] v = refl
last_snoc u (w ∷ l) v = last_snoc w l v

pub tally_none : record { count = 0; largest = 0; last = 0; rising = true } ≡ tally []
unfolding tally
tally_none = refl

pub tally_snoc : (l : List ℕ) (n : ℕ) → add_number (tally l) (cap n) (rising (drop 3 (l ++ n ∷ []))) ≡ tally (l ++ n ∷ [])
unfolding tally add_number
tally_snoc l n =
    same (sym (length-append l (n ∷ []))) (largest_snoc (caps l) (cap n) ∙ ap largest_of (sym (caps_snoc l n)))
    (sym (last_snoc 0 (caps l) (cap n)) ∙ ap (last_from 0) (sym (caps_snoc l n)))
  where
    same : {a b c d e f : ℕ} {r : Bool} → a ≡ b → c ≡ d → e ≡ f
        → ◌≡◌ {A = Tally} (record { count = a; largest = c; last = e; rising = r }) (record { count = b; largest = d; last = f; rising = r })
    same p q r = cc

pub count_is : (l : List ℕ) → (tally l).count ≡ length l
unfolding tally
count_is l = refl

pub count_add : (p : Tally) (v : ℕ) (r : Bool) → (add_number p v r).count ≡ p.count + 1
unfolding add_number
count_add p v r = refl

rising_after : (u : ℕ) (l : List ℕ) (n : ℕ) → rising_from u (l ++ n ∷ []) ≡ ltb (last_from u l) n && rising_from u l
rising_after u [] n = refl
rising_after u (v ∷ l) n = ap (λ (b : Bool). ltb u v && b) (rising_after v l n) ∙ swap (ltb u v) (ltb (last_from v l) n) (rising_from v l)
  where
    swap : (a b c : Bool) → a && (b && c) ≡ b && (a && c)
    swap true true c = refl
    swap true false c = refl
    swap false true c = refl
    swap false false c = refl

rising_more : (l : List ℕ) (n : ℕ) → rising (drop 3 (l ++ n ∷ [])) ≡ (ltb (length l) 4 || ltb (last_from 0 l) n) && rising (drop 3 l)
rising_more [] n = refl
rising_more (a ∷ []) n = refl
rising_more (a ∷ b ∷ []) n = refl
rising_more (a ∷ b ∷ c ∷ []) n = refl
rising_more (a ∷ b ∷ c ∷ d ∷ l) n =
    rising_after d l n ∙ ap (λ (t : Bool). (t || ltb (last_from d l) n) && rising_from d l) (sym (le-ltb (length (a ∷ b ∷ c ∷ d ∷ l)) 4 (omega arith)))

-- the code's test is that of the numbers as they are
pub keeps_is : (s l : List ℕ) (prior at : ℕ) → (0 < length l → exact_at s prior ≡ last_from 0 l)
    → keeps_rising s (tally l) prior at ≡ rising (drop 3 (l ++ exact_at s at ∷ []))
unfolding keeps_rising tally
keeps_is s l prior at h = go (ltb (length l) 4) refl ∙ sym (rising_more l (exact_at s at))
  where
    go : (t : Bool) → ltb (length l) 4 ≡ t
        → (ltb (length l) 4 || ltb (exact_at s prior) (exact_at s at)) && rising (drop 3 l) ≡ (ltb (length l) 4 || ltb (last_from 0 l) (exact_at s at)) && rising (drop 3 l)
    go true e = simp e
    go false e = ap (λ (u : ℕ). (ltb (length l) 4 || ltb u (exact_at s at)) && rising (drop 3 l)) (h (omega (arith, ltb-false (length l) 4 e)))

-- the last number as memory keeps it
pub caps_last : (u : ℕ) (l : List ℕ) → last_from (cap u) (caps l) ≡ cap (last_from u l)
caps_last u [] = refl
caps_last u (v ∷ l) = caps_last v l

-- ---- the largest number
pub largest_is : (l : List ℕ) (m : ℕ) → leb (largest_of l) m ≡ all_at_most m l
largest_is [] m = le-leb 0 m (omega arith)
largest_is (v ∷ l) m = of_max v (largest_of l) ∙ ap (λ (b : Bool). leb v m && b) (largest_is l m)
  where
    of_max : (a b : ℕ) → leb (max a b) m ≡ leb a m && leb b m
    of_max a b = go (leb a m) (leb b m) refl refl
      where
        go : (x y : Bool) → leb a m ≡ x → leb b m ≡ y → leb (max a b) m ≡ x && y
        go true true p q = let h : a ≤ m = leb-true a m p in let k : b ≤ m = leb-true b m q in le-leb (max a b) m (omega arith)
        go true false p q = let k : m < b = leb-false b m q in lt-leb (max a b) m (omega arith)
        go false y p q = let k : m < a = leb-false a m p in lt-leb (max a b) m (omega arith)

-- ---- of numbers that rise the last is the largest
rising_above : (u v : ℕ) (l : List ℕ) → rising_from u (v ∷ l) ≡ true → (u < v) × (rising_from v l ≡ true)
rising_above u v l e = let a = both_true (ltb u v) (rising_from v l) e in (ltb-true u v a.0, a.1)

last_largest : (u : ℕ) (l : List ℕ) → rising_from u l ≡ true → (m : ℕ) → leb (last_from u l) m ≡ leb u m && all_at_most m l
last_largest u [] e m = and_true (leb u m)
  where
    and_true : (b : Bool) → b ≡ b && true
    and_true true = refl
    and_true false = refl
last_largest u (v ∷ l) e m =
    let a = rising_above u v l e in
    last_largest v l a.1 m ∙ implied (leb u m) (leb v m) (all_at_most m l) (λ t. le-leb u m (omega (arith, a.0, leb-true v m t)))
  where
    implied : (x y z : Bool) → (y ≡ true → x ≡ true) → y && z ≡ x && (y && z)
    implied true y z f = refl
    implied false true z f = absurd (let w : ◌≡◌ {A = ℕ} 0 1 = cc (f refl) in omega arith)
    implied false false z f = refl

pub last_is : (ns : List ℕ) → 4 ≤ length ns → rising (drop 3 ns) ≡ true → (m : ℕ) → leb (last_from 0 ns) m ≡ all_at_most m (drop 3 ns)
last_is [] h e m = absurd (omega arith)
last_is (a ∷ []) h e m = absurd (omega arith)
last_is (a ∷ b ∷ []) h e m = absurd (omega arith)
last_is (a ∷ b ∷ c ∷ []) h e m = absurd (omega arith)
last_is (a ∷ b ∷ c ∷ d ∷ l) h e m = last_largest d l e m

-- numbers that rise to m are not many
rising_few : (u : ℕ) (l : List ℕ) (m : ℕ) → rising_from u l ≡ true → all_at_most m l ≡ true → u ≤ m → u + length l ≤ m
rising_few u [] m e s h = omega arith
rising_few u (v ∷ l) m e s h =
    let b = both_true (leb v m) (all_at_most m l) s in
    let a = rising_above u v l e in
    omega (arith, a.0, rising_few v l m a.1 b.1 (leb-true v m b.0))

pub rising_short : (l : List ℕ) (m : ℕ) → rising l ≡ true → all_at_most m l ≡ true → length l ≤ m + 1
rising_short [] m e s = omega arith
rising_short (v ∷ l) m e s = let b = both_true (leb v m) (all_at_most m l) s in omega (arith, rising_few v l m e b.1 (leb-true v m b.0))
