-- The digits of a number: one below 10, and one more for each step by ten.
use Prim.Native.Nat.{ℕ, ◌+◌, ◌-◌, ◌*◌, ◌/◌, ◌%◌, ◌≤◌, ◌<◌}
use mathlib.Core.Path.{◌≡◌, refl, sym, ap, ◌∙◌}
use mathlib.Core.List.{[], ◌∷◌, ◌++◌, append_assoc}
use mathlib.Core.Bool.{Bool, true, false}
use native.Mathlib.Omega.{arith}
use borrow.Author.Tests.{lt-ltb, le-ltb, ltb-true, ltb-false}
use lib.Dec.{ltb}
use Rattle.text.specs.Digits.{lead, digits}

-- p stands for a digit of the numbers from p on
pub lead_none : (p v : ℕ) → v < p → lead p v ≡ []
unfolding lead
lead_none p v h = simp (lt-ltb v p h)

pub lead_some : (p v : ℕ) → p ≤ v → lead p v ≡ (48 + v / p % 10) ∷ []
unfolding lead
lead_some p v h = simp (le-ltb v p h)

-- a place further up is the same digit of a number with one digit more
lead_shift : (p q v w : ℕ) → (v < p → w < q) → (p ≤ v → q ≤ w) → (p ≤ v → w / q ≡ v / p) → lead q w ≡ lead p v
lead_shift p q v w f g h = go (ltb v p) refl
  where
    go : (t : Bool) → ltb v p ≡ t → lead q w ≡ lead p v
    go true e = let l = ltb-true v p e in lead_none q w (f l) ∙ sym (lead_none p v l)
    go false e = let l = ltb-false v p e in lead_some q w (g l) ∙ (ap (λ (n : ℕ). (48 + n % 10) ∷ []) (h l) ∙ sym (lead_some p v l))

pub digits_one : (v : ℕ) → v ≤ 9 → digits v ≡ (48 + v) ∷ []
unfolding digits
digits_one v h =
    rw (lead_none 10000 v (omega arith), lead_none 1000 v (omega arith), lead_none 100 v (omega arith), lead_none 10 v (omega arith))
    (ap (λ (n : ℕ). (48 + n) ∷ []) (omega arith))

-- the number v with the digit b behind it
pub digits_more : (v b w : ℕ) → 1 ≤ v → v ≤ 9999 → 48 ≤ b → b ≤ 57 → w ≡ v * 10 + (b - 48) → digits w ≡ digits v ++ b ∷ []
unfolding digits
digits_more v b w l h f g e =
    rw (
      lead_shift 1000 10000 v w (λ n. omega arith) (λ n. omega arith) (λ n. omega arith),
      lead_shift 100 1000 v w (λ n. omega arith) (λ n. omega arith) (λ n. omega arith),
      lead_shift 10 100 v w (λ n. omega arith) (λ n. omega arith) (λ n. omega arith),
      lead_some 10 w (omega arith),
      lead_none 10000 v (omega arith),
    )
    (ends (omega arith) (omega arith))
  where
    ends : w / 10 % 10 ≡ v % 10 → 48 + w % 10 ≡ b
        → lead 1000 v ++ (lead 100 v ++ (lead 10 v ++ (((48 + w / 10 % 10) ∷ []) ++ ((48 + w % 10) ∷ []))))
        ≡ (lead 1000 v ++ (lead 100 v ++ (lead 10 v ++ ((48 + v % 10) ∷ [])))) ++ b ∷ []
    ends p q = rw (p, q) (simp append_assoc)
