-- A string as the numbers of a line, from the second on.
use Prim.Native.Nat.{ℕ, zero, suc, ◌+◌, ◌≤◌, ◌<◌}
use mathlib.Core.Path.{◌≡◌, refl, sym, ap, ◌∙◌}
use mathlib.Core.List.{List, ◌∷◌}
use native.Mathlib.Decide.{ℕ_discrete, dec_lt}
use native.Mathlib.Numerals.{add-one}
use native.Mathlib.Omega.{arith}
use lib.ListN.{length, get_or, set, take, drop, length-take, length-drop, replicate, get_or-eq_default}
use lib.Seq.{get_or-set_same, get_or-set_other, get_or-take}
use Rattle.items.specs.Layout.{symbol_at}
use Rattle.items.proofs.StoreLaws.{read_zeros}
use Rattle.table_lines.specs.Block.{Numbers}
use Rattle.table_lines.proofs.HeldLaws.{numbers_take}
use Rattle.table_entries.proofs.StringLaws.{symbol_at_lem}
use Rattle.item_groups.specs.Groups.{PartIs}
use Rattle.build_entries.specs.Memory.{Fitting}

pub zeros_low : (n k : ℕ) → get_or {A = ℕ} (replicate n 0) k 0 < 128
zeros_low n k = omega (arith, read_zeros n k)

-- one more number is stored
pub low_set : (m : List ℕ) (i v : ℕ) → i < length m → ((k : ℕ) → get_or m k 0 < 128) → v < 128 → (k : ℕ) → get_or (set m i v) k 0 < 128
low_set m i v room low l k = go (ℕ_discrete k i)
  where
    go : Dec (k ≡ i) → get_or (set m i v) k 0 < 128
    go (yes e) = rw e (omega (arith, get_or-set_same m i v 0 room))
    go (no f) = omega (arith, get_or-set_other m i k v 0 f, low k)

-- the string that is loaded
pub part_string : {items : List ℕ} {i from n : ℕ} {γ : List ℕ} → PartIs items i from n γ → (m : List ℕ) → n + 1 ≤ length m
    → ((j : ℕ) → j < n → get_or m (j + 1) 0 ≡ symbol_at items i (from + j)) → drop 1 (take (n + 1) m) ≡ γ
part_string {n = n} {γ = γ} p m room same = ap (drop 1) (numbers_take numbers room)
  where
    at : (k : ℕ) → k < suc (length γ) → get_or m k 0 ≡ get_or (get_or m 0 0 ∷ γ) k 0
    at zero l = refl
    at (suc k) l = ap (λ (j : ℕ). get_or m j 0) (sym (add-one k)) ∙ (same k (omega (arith, p.width)) ∙ p.symbols k (omega (arith, p.width)))

    numbers : Numbers (get_or m 0 0 ∷ γ) (n + 1) m
    numbers = record { count_is = omega (arith, p.width); number_is = λ k a b. at k a }

-- ---- numbers that are symbols
module _ (m : List ℕ) (count : ℕ) (low : (k : ℕ) → get_or m k 0 < 128) where
  low_take : (k : ℕ) → get_or (take count m) k 0 < 128
  low_take k = go (dec_lt k count)
    where
      go : Dec (k < count) → get_or (take count m) k 0 < 128
      go (yes l) = omega (arith, get_or-take count m k 0 l, low k)
      go (no f) = omega (arith, get_or-eq_default (take count m) 0 {n = k} (omega (arith, length-take count m)))

  pub string_fits : count ≤ 16 → Fitting (drop 1 (take count m))
  string_fits l = record {
    short = omega (arith, length-drop 1 (take count m), length-take count m);
    low = λ k. omega (arith, symbol_at_lem (take count m) k, low_take (k + 1));
  }

pub numbers_held : (m : List ℕ) (count : ℕ) → count ≤ length m → Numbers (take count m) count m
numbers_held m count l = record {
  count_is = omega (arith, length-take count m);
  number_is = λ k a b. sym (get_or-take count m k 0 (omega (arith, a, length-take count m)));
}
