-- How a number goes on at the next byte.
use Prim.Native.Nat.{ℕ, ◌+◌, ◌-◌, ◌*◌, ◌≤◌, ◌<◌}
use mathlib.Core.Path.{◌≡◌, refl}
use mathlib.Core.List.{List, [], ◌∷◌}
use native.Mathlib.Decide.{dec_lt}
use native.Mathlib.Omega.{arith}
use lib.ListN.{length, get_or, drop}
use Rattle.text.specs.declared.Class.{Class}
use Rattle.text.specs.declared.Class.TheVariants as class
use Rattle.text.specs.Field.{class_of, on_digit}
use Rattle.text.proofs.Bytes.{here, past}
use Rattle.text.proofs.ClassLaws.{digit_range}
use Rattle.digits.specs.Exact.{exact_from}
use Rattle.digits.specs.Compare.{digit_of, digit_at}

-- a number only grows
pub exact_grows : (l : List ℕ) (v : ℕ) → v ≤ exact_from v l
unfolding exact_from
exact_grows [] v = omega arith
exact_grows (b ∷ l) v = go (class_of b) (exact_grows l (v * 10 + (b - 48)))
  where
    go : (k : Class) → v * 10 + (b - 48) ≤ exact_from (v * 10 + (b - 48)) l → v ≤ on_digit k (exact_from (v * 10 + (b - 48)) l) v
    go class.Digit h = omega (arith, h)
    go class.Letter h = omega arith
    go class.Mark h = omega arith
    go class.Other h = omega arith

module _ (s : List ℕ) (i : ℕ) where
  pub digit_past : length s ≤ i → digit_at s i ≡ 10
  unfolding digit_at
  digit_past h = simp (past s i h)

  -- a digit stands in the book
  digit_inside : digit_at s i < 10 → i < length s
  digit_inside d = go (dec_lt i (length s))
    where
      go : Dec (i < length s) → i < length s
      go (yes h) = h
      go (no f) = absurd (omega (arith, d, digit_past (omega arith)))

  pub digit_in : {d : ℕ} → d ≡ digit_at s i → d ≤ 9 → i < length s
  digit_in e h = digit_inside (omega (arith, e, h))

  pub exact_more : (v : ℕ) → digit_at s i < 10 → exact_from v (drop i s) ≡ exact_from (v * 10 + digit_at s i) (drop (i + 1) s)
  unfolding exact_from digit_at
  exact_more v d = let e = here s i (digit_inside d) in rw e (go (class_of (get_or s i 0)) (rw e at d))
    where
      go : (k : Class) → on_digit k (get_or s i 0 - 48) 10 < 10
          → on_digit k (exact_from (v * 10 + (get_or s i 0 - 48)) (drop (i + 1) s)) v ≡ exact_from (v * 10 + on_digit k (get_or s i 0 - 48) 10) (drop (i + 1) s)
      go class.Digit d = refl
      go class.Letter d = absurd (omega arith)
      go class.Mark d = absurd (omega arith)
      go class.Other d = absurd (omega arith)

  pub exact_ended : (v : ℕ) → 10 ≤ digit_at s i → exact_from v (drop i s) ≡ v
  unfolding exact_from digit_at
  exact_ended v d = go (drop i s) d
    where
      go : (l : List ℕ) → 10 ≤ digit_of l → exact_from v l ≡ v
      go [] d = refl
      go (b ∷ l) d = by (class_of b) refl d
        where
          by : (k : Class) → class_of b ≡ k → 10 ≤ on_digit k (b - 48) 10 → on_digit k (exact_from (v * 10 + (b - 48)) l) v ≡ v
          by class.Digit e d = absurd (omega (arith, d, (digit_range b e).1))
          by class.Letter e d = refl
          by class.Mark e d = refl
          by class.Other e d = refl
