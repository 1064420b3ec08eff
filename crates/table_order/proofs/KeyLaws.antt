-- Keys compared in memory, figure by figure.
use Prim.Native.Nat.{ℕ, suc, ◌<◌, ◌≤◌}
use mathlib.Core.Path.{◌≡◌, refl}
use mathlib.Core.List.{List, [], ◌∷◌}
use native.Mathlib.Omega.{arith}
use lib.ListN.{length, get_or}
use Rattle.table_order.specs.Order.{below}

-- only as many figures of b count as a has
pub below_first : (a b c : List ℕ) → ((k : ℕ) → k < length a → get_or b k 0 ≡ get_or c k 0) → length a ≤ length b → length a ≤ length c → below a b ≡ below a c
below_first [] b c h n m = refl
below_first (x ∷ a) [] c h n m = absurd (omega arith)
below_first (x ∷ a) (y ∷ b) [] h n m = absurd (omega arith)
below_first (x ∷ a) (y ∷ b) (z ∷ c) h n m =
    let e : y ≡ z = h 0 (omega arith) in
    let f = below_first a b c (λ k l. h (suc k) (omega (arith, l))) (omega arith) (omega arith) in
    simp (e, f)
