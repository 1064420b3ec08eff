-- Which state's each kernel line is, and the how manieth of them.
use Prim.Native.Nat.{ℕ, zero, suc, ◌+◌, ◌-◌, ◌≤◌, ◌<◌}
use native.Mathlib.Decide.{dec_lt}
use native.Mathlib.Omega.{arith}
use mathlib.Core.Path.{◌≡◌}
use mathlib.Core.List.{List, [], ◌∷◌}
use lib.ListN.{length, get_or}
use Rattle.build_states.specs.States.{Kernel, total}
use Rattle.build_kernels.specs.Discovered.{first_line}

pub record Place (ks : List Kernel) (l : ℕ) : Type 0 where
  pub state : ℕ
  pub index : ℕ
  pub state_low : state < length ks
  pub index_low : index < length (get_or ks state [])
  pub is : l ≡ first_line ks state + index

place_first : (k : Kernel) (ks : List Kernel) (l : ℕ) → l < length k → Place (k ∷ ks) l
place_first k ks l h = record { state = 0; index = l; state_low = omega arith; index_low = h; is = omega arith }

place_later : (k : Kernel) (ks : List Kernel) (l : ℕ) → length k ≤ l → Place ks (l - length k) → Place (k ∷ ks) l
place_later k ks l h w = record {
  state = suc w.state;
  index = w.index;
  state_low = let z = w.state_low in omega (arith, z);
  index_low = w.index_low;
  is = let z = w.is in omega (arith, z, h);
}

pub place_of : (ks : List Kernel) (l : ℕ) → l < total ks → Place ks l
place_of [] l h = absurd (omega (arith, h))
place_of (k ∷ ks) l h = go (dec_lt l (length k)) (λ m. place_of ks (l - length k) m)
  where
    go : Dec (l < length k) → (l - length k < total ks → Place ks (l - length k)) → Place (k ∷ ks) l
    go (yes n) rec = place_first k ks l n
    go (no n) rec = place_later k ks l (omega (arith, n)) (rec (omega (arith, h, n)))

pub place_low : (ks : List Kernel) (p j : ℕ) → p < length ks → j < length (get_or ks p []) → first_line ks p + j < total ks
place_low [] p j l h = absurd (omega (arith, l))
place_low (k ∷ ks) zero j l h = omega (arith, h)
place_low (k ∷ ks) (suc p) j l h = let z = place_low ks p j (omega (arith, l)) h in omega (arith, z)
