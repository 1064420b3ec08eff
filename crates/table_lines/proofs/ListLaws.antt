-- Lists that grow at their end, by position.
use Prim.Native.Nat.{ℕ, zero, suc, ◌<◌}
use mathlib.Core.Path.{◌≡◌, refl, ap}
use mathlib.Core.List.{List, [], ◌∷◌, ◌++◌}
use mathlib.Core.Option.{some, none}
use native.Mathlib.Omega.{arith}
use lib.ListN.{length}
use Rattle.language.specs.Grammar.{at}

module _ {A : Type 0} where
  pub at_last : (l : List A) (x : A) → at (l ++ x ∷ []) (length l) ≡ some x
  at_last [] x = refl
  at_last (y ∷ l) x = at_last l x

  -- the others stay where they are
  pub at_front : (l : List A) (x : A) (k : ℕ) → (k ≡ length l → ⊥) → at (l ++ x ∷ []) k ≡ at l k
  at_front [] x zero f = absurd (f refl)
  at_front [] x (suc k) f = refl
  at_front (y ∷ l) x zero f = refl
  at_front (y ∷ l) x (suc k) f = at_front l x k (λ e. f (ap suc e))

  pub at_end : (l : List A) → at l (length l) ≡ none
  at_end [] = refl
  at_end (y ∷ l) = at_end l

  pub at_behind : (l : List A) (k : ℕ) → length l < k → at l k ≡ none
  at_behind [] k h = refl
  at_behind (y ∷ l) zero h = absurd (omega arith)
  at_behind (y ∷ l) (suc k) h = at_behind l k (omega arith)
