-- Items in memory: where their dots stand, and what stands behind.
use Rattle.std.specs.Prelude.{ℕ, zero, suc, ◌+◌, ◌-◌, ◌<◌, ◌≤◌, ◌≡◌, List, [], ◌∷◌}
use Rattle.std.proofs.Common.{add-one, arith, sym, ap, ◌∙◌}
use Rattle.items.specs.Layout.{length_at, mark_at, symbol_at}

-- item i's dot k stands before a symbol, and not at its recognition point
pub record Before (m : List ℕ) (i k : ℕ) : Type 0 where
  pub within : k < length_at m i
  pub unmarked : mark_at m i ≡ k → ⊥

unfoldable pub symbols_from : List ℕ → ℕ → ℕ → ℕ → List ℕ
symbols_from m i k zero = []
symbols_from m i k (suc n) = symbol_at m i k ∷ symbols_from m i (suc k) n

-- the symbols of item i from dot k on
unfoldable pub rest_at : List ℕ → ℕ → ℕ → List ℕ
rest_at m i k = symbols_from m i k (length_at m i - k)

pub rest_none : (m : List ℕ) (i k : ℕ) → length_at m i ≤ k → rest_at m i k ≡ []
unfolding rest_at symbols_from
rest_none m i k l = let e : length_at m i - k ≡ 0 = omega arith in ap (symbols_from m i k) e

pub rest_more : (m : List ℕ) (i k : ℕ) → k < length_at m i → rest_at m i k ≡ symbol_at m i k ∷ rest_at m i (k + 1)
unfolding rest_at symbols_from
rest_more m i k l =
    let e : length_at m i - k ≡ suc (length_at m i - (k + 1)) = omega arith in
    ap (symbols_from m i k) e ∙ ap (λ (j : ℕ). symbol_at m i k ∷ symbols_from m i j (length_at m i - (k + 1))) (sym (add-one k))
