-- Cells and gotos, and what a line changes of them.
use Prim.Native.Nat.{ℕ, ◌+◌, ◌*◌, ◌-◌, ◌/◌, ◌%◌, ◌≤◌, ◌<◌}
use mathlib.Core.Path.{◌≡◌, refl, ap}
use mathlib.Core.Logic.{inl, inr}
use mathlib.Core.List.{List, [], ◌∷◌, ◌++◌}
use mathlib.Core.Bool.{Bool, true, false, cond, ◌&&◌}
use mathlib.Core.Option.{Option, some, none}
use native.Mathlib.Omega.{arith}
use borrow.Author.Tests.{eq-eqb, eqb-true}
use lib.Dec.{eqb}
use Rattle.language.specs.Sentence.{In, here, there}
use Rattle.language.proofs.TestLaws.{both_true}
use Rattle.leftcorner.specs.Table.{Action, ActionLine, L, action_for, goto_state}
use Rattle.table_order.specs.Order.{action_key}
use Rattle.table_order.proofs.OrderLaws.{Below}
use Rattle.table_actions.specs.Memory.{cell_at, goto_at}

abbrev same : ℕ → ℕ → ℕ → ℕ → Bool
same p Y q X = eqb p q && eqb Y X

same_eq : (p Y q X : ℕ) → same p Y q X ≡ true → (p ≡ q) × (Y ≡ X)
same_eq p Y q X e = let a = both_true (eqb p q) (eqb Y X) e in (eqb-true p q a.0, eqb-true Y X a.1)

pub same_no : (p Y q X : ℕ) → ((p ≡ q) × (Y ≡ X) → ⊥) → same p Y q X ≡ false
same_no p Y q X f = go (same p Y q X) refl
  where
    go : (b : Bool) → same p Y q X ≡ b → same p Y q X ≡ false
    go true e = absurd (f (same_eq p Y q X e))
    go false e = e

-- ---- the action of a state and symbol, with one line more
pub action_here : (l : List ActionLine) (q X : ℕ) (x : Action) → action_for l q X ≡ none → action_for (l ++ L q X x ∷ []) q X ≡ some x
action_here [] q X x e = simp (eq-eqb q q refl, eq-eqb X X refl)
action_here (L p Y y ∷ l) q X x e = go (same p Y q X) e (action_here l q X x)
  where
    go : (b : Bool) → cond b (some y) (action_for l q X) ≡ none → (action_for l q X ≡ none → action_for (l ++ L q X x ∷ []) q X ≡ some x)
        → cond b (some y) (action_for (l ++ L q X x ∷ []) q X) ≡ some x
    go true e f = let z : ◌≡◌ {A = ℕ} 0 1 = cc in absurd (omega arith)
    go false e f = f e

pub action_other : (l : List ActionLine) (q X : ℕ) (x : Action) (p Y : ℕ) → ((q ≡ p) × (X ≡ Y) → ⊥) → action_for (l ++ L q X x ∷ []) p Y ≡ action_for l p Y
action_other [] q X x p Y f = simp (same_no q X p Y f)
action_other (L o Z z ∷ l) q X x p Y f = ap (cond (same o Z p Y) (some z)) (action_other l q X x p Y f)

-- a state and symbol above those of all lines have no action
pub action_none : (l : List ActionLine) (q X : ℕ) → ((y : ActionLine) → In y l → Below (action_key y) (q ∷ X ∷ [])) → action_for l q X ≡ none
action_none [] q X f = refl
action_none (L p Y y ∷ l) q X f = simp (same_no p Y q X (λ e. apart (f (L p Y y) here) e), action_none l q X (λ z m. f z (there m)))
  where
    apart : Below (p ∷ Y ∷ []) (q ∷ X ∷ []) → (p ≡ q) × (Y ≡ X) → ⊥
    apart (inl a) e = omega (arith, a, e.0)
    apart (inr (z, inl a)) e = omega (arith, a, e.1)
    apart (inr (z, inr w)) e = w.1

-- ---- where they stand
module _ (q X : ℕ) (few : q ≤ 255) where
  pub cell_back : (f : Option Action → ℕ) (l : List ActionLine) → X < 64 → cell_at f l (q * 64 + X) ≡ f (action_for l q X)
  unfolding cell_at
  cell_back f l b = let e : (q * 64 + X) / 64 ≡ q = omega arith in let d : (q * 64 + X) % 64 ≡ X = omega arith in simp (e, d)

  pub goto_back : (l : List ActionLine) → 64 ≤ X → X < 128 → goto_at l (q * 64 + (X - 64)) ≡ goto_state (action_for l q X)
  unfolding goto_at
  goto_back l a b = let e : (q * 64 + (X - 64)) / 64 ≡ q = omega arith in let d : 64 + (q * 64 + (X - 64)) % 64 ≡ X = omega arith in simp (e, d)
