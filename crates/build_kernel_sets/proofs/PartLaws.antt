-- Parts of a list of numbers.
use Prim.Native.Nat.{ℕ, zero, suc, ◌+◌, ◌-◌, ◌≤◌, ◌<◌}
use native.Mathlib.Omega.{arith}
use mathlib.Core.Path.{◌≡◌, sym, ap, subst, ◌∙◌}
use mathlib.Core.List.{List, [], ◌∷◌, ◌++◌}
use lib.ListN.{length, get_or, take, drop, length-take, length-drop}
use lib.Seq.{take-take, take_at, drop_at, take-length, length-take-le, ext_get_or, get_or-take, get_or-drop}
use Rattle.language.specs.Sentence.{In, here, there}
use Rattle.build_moves.specs.Moved.{Numbered}
use Rattle.language.proofs.Member.{in_drop}
use Rattle.build_kernel_sets.specs.Sets.{part}

pub part_length : (sets : List ℕ) (a b : ℕ) → b ≤ length sets → length (part sets a b) ≡ b - a
part_length sets a b l = omega (arith, length-take (b - a) (drop a sets), length-drop a sets)

-- a part depends on what stands before its end alone
pub part_of_take : (n : ℕ) (sets : List ℕ) (a b : ℕ) → b ≤ n → n ≤ length sets → part (take n sets) a b ≡ part sets a b
part_of_take n sets a b l r =
    ext_get_or 0 (part (take n sets) a b) (part sets a b) (part_length (take n sets) a b (omega (arith, length-take-le n sets r)) ∙ sym (part_length sets a b (omega (arith, l, r)))) same
  where
    same : (i : ℕ) → i < length (part (take n sets) a b) → get_or (part (take n sets) a b) i 0 ≡ get_or (part sets a b) i 0
    same i h =
        let low : i < b - a = omega (arith, h, part_length (take n sets) a b (omega (arith, length-take-le n sets r))) in
        get_or-take (b - a) (drop a (take n sets)) i 0 low ∙ get_or-drop a (take n sets) i 0 ∙ get_or-take n sets (a + i) 0 (omega (arith, low, l))
        ∙ sym (get_or-take (b - a) (drop a sets) i 0 low ∙ get_or-drop a sets i 0)

pub part_same : (sets₀ sets : List ℕ) (n a b : ℕ) → b ≤ n → n ≤ length sets₀ → n ≤ length sets → take n sets ≡ take n sets₀ → part sets a b ≡ part sets₀ a b
part_same sets₀ sets n a b l r₀ r e = sym (part_of_take n sets a b l r) ∙ ap (λ (m : List ℕ). part m a b) e ∙ part_of_take n sets₀ a b l r₀

pub part_numbered : (sets : List ℕ) (n a b count : ℕ) → b ≤ n → n ≤ length sets → Numbered count (take n sets) → Numbered count (part sets a b)
part_numbered sets n a b count l r h x m =
    h x (in_drop a (take n sets) (in_take (b - a) (drop a (take n sets)) (subst (In x) (sym (part_of_take n sets a b l r)) m)))
  where
    in_take : {x : ℕ} (k : ℕ) (l : List ℕ) → In x (take k l) → In x l
    in_take zero l m = elim m [ ]
    in_take (suc k) [] m = m
    in_take (suc k) (y ∷ l) here = here
    in_take (suc k) (y ∷ l) (there m) = there (in_take k l m)

-- ---- numbers that were stored behind others

module _ (sets₀ sets m : List ℕ) (n r : ℕ) (room : n ≤ length sets₀) (within : n + r ≤ length sets) (count : r ≡ length m) (is : take (n + r) sets ≡ take n sets₀ ++ m) where
  pub stored_front : take n sets ≡ take n sets₀
  stored_front = sym (take-take n (n + r) sets (omega arith)) ∙ ap (take n) is ∙ take_at (take n sets₀) m n (length-take-le n sets₀ room)

  pub stored_back : part sets n (n + r) ≡ m
  stored_back =
      let z : n + r - n ≡ length m = omega arith in
      sym (part_of_take (n + r) sets n (n + r) (omega arith) within) ∙ ap (λ (l : List ℕ). part l n (n + r)) is
      ∙ ap (take (n + r - n)) (drop_at (take n sets₀) m n (length-take-le n sets₀ room)) ∙ ap (λ (k : ℕ). take k m) z ∙ take-length m
