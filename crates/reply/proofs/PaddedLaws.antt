-- A list in a slice that held zeros.
use Prim.Native.Nat.{ℕ, zero, suc, ◌+◌, ◌-◌, ◌≤◌}
use mathlib.Core.Path.{◌≡◌, ap, ◌∙◌}
use mathlib.Core.List.{List, ◌++◌}
use native.Mathlib.Omega.{arith}
use lib.ListN.{length, drop, replicate, length-replicate}
use lib.Seq.{sets, sets-eq}
use Rattle.reply.specs.Reply.{padded}

pub drop_zeros : (i n : ℕ) → drop i (replicate {A = ℕ} n 0) ≡ replicate (n - i) 0
drop_zeros zero n = let e : n ≡ n - 0 = omega arith in ap (λ (k : ℕ). replicate k 0) e
drop_zeros (suc i) zero = let e : 0 ≡ 0 - suc i = omega arith in ap (λ (k : ℕ). replicate k 0) e
drop_zeros (suc i) (suc n) = let e : n - i ≡ suc n - suc i = omega arith in drop_zeros i n ∙ ap (λ (k : ℕ). replicate k 0) e

-- written at its start
pub put_zeros : (l : List ℕ) (n : ℕ) → length l ≤ n → sets (replicate n 0) 0 l ≡ padded n l
unfolding padded
put_zeros l n h =
    let e : 0 + length l ≡ length l = omega arith in
    sets-eq l (replicate n 0) 0 (omega (arith, length-replicate {A = ℕ} n 0))
    ∙ ap (λ (z : List ℕ). l ++ z) (ap (λ (k : ℕ). drop k (replicate {A = ℕ} n 0)) e ∙ drop_zeros (length l) n)
