-- The action lines of cells, and the cells that are found by them.
use Prim.Native.Nat.{ℕ, zero, suc, ◌+◌, ◌≤◌, ◌<◌}
use mathlib.Core.Path.{◌≡◌, refl, sym, ap, ap₂, subst, ◌∙◌}
use mathlib.Core.Bool.{Bool, true, false, cond, ◌&&◌}
use mathlib.Core.List.{List, [], ◌∷◌}
use mathlib.Core.Option.{Option, some, none}
use native.Mathlib.Decide.{ℕ_discrete}
use native.Mathlib.Omega.{arith}
use borrow.Author.Tests.{eqb-true, eq-eqb}
use lib.Dec.{eqb}
use Rattle.language.specs.Sentence.{In, here, there}
use Rattle.leftcorner.specs.Table.{Action, ActionLine, action_for}
use Rattle.build_states.specs.States.{range}
use Rattle.build_states.proofs.Lists.{range_in}
use Rattle.build_book.specs.Built.{line_if, actions_on, actions_of}

-- the lines of cells that hold the same
on_same : (c d : ℕ → ℕ → Option Action) (q : ℕ) (xs : List ℕ) (l : List ActionLine) → ((X : ℕ) → In X xs → c q X ≡ d q X) → actions_on c q xs l ≡ actions_on d q xs l
on_same c d q [] l h = refl
on_same c d q (X ∷ xs) l h = ap₂ (λ o m. line_if q X o m) (h X here) (on_same c d q xs l (λ Y m. h Y (there m)))

pub of_same : (c d : ℕ → ℕ → Option Action) (qs : List ℕ) → ((q X : ℕ) → In q qs → In X (range 0 128) → c q X ≡ d q X) → actions_of c qs ≡ actions_of d qs
of_same c d [] h = refl
of_same c d (q ∷ qs) h =
    ap (actions_on c q (range 0 128)) (of_same c d qs (λ p X m n. h p X (there m) n)) ∙ on_same c d q (range 0 128) (actions_of d qs) (λ X m. h q X here m)

-- ---- what is found

-- a line with another state or symbol is passed over
line_other : (q X : ℕ) (o : Option Action) (l : List ActionLine) (p Y : ℕ) → (q ≡ p → X ≡ Y → ⊥) → action_for (line_if q X o l) p Y ≡ action_for l p Y
line_other q X none l p Y f = refl
line_other q X (some x) l p Y f = ap (λ (b : Bool). cond b (some x) (action_for l p Y)) (apart (eqb q p) (eqb X Y) (λ d e. f (eqb-true q p d) (eqb-true X Y e)))
  where
    apart : (a b : Bool) → (a ≡ true → b ≡ true → ⊥) → a && b ≡ false
    apart false b g = refl
    apart true false g = refl
    apart true true g = absurd (g refl refl)

line_here : (q X : ℕ) (o : Option Action) (l : List ActionLine) → action_for l q X ≡ none → action_for (line_if q X o l) q X ≡ o
line_here q X none l e = e
line_here q X (some x) l e = ap (λ (b : Bool). cond b (some x) (action_for l q X)) (ap₂ ◌&&◌ (eq-eqb q q refl) (eq-eqb X X refl))

module _ (cells : ℕ → ℕ → Option Action) where
  on_other : (q : ℕ) (xs : List ℕ) (l : List ActionLine) (p Y : ℕ) → ((X : ℕ) → In X xs → q ≡ p → X ≡ Y → ⊥) → action_for (actions_on cells q xs l) p Y ≡ action_for l p Y
  on_other q [] l p Y f = refl
  on_other q (X ∷ xs) l p Y f = line_other q X (cells q X) (actions_on cells q xs l) p Y (f X here) ∙ on_other q xs l p Y (λ Z m. f Z (there m))

  on_here : (q a n : ℕ) (l : List ActionLine) (Y : ℕ) → a ≤ Y → Y < a + n → action_for l q Y ≡ none → action_for (actions_on cells q (range a n) l) q Y ≡ cells q Y
  on_here q a zero l Y h k e = absurd (omega (arith, h, k))
  on_here q a (suc n) l Y h k e = go (ℕ_discrete a Y) (λ m. on_here q (suc a) n l Y m (omega (arith, k)) e)
    where
      more : List ActionLine
      more = actions_on cells q (range (suc a) n) l

      go : Dec (a ≡ Y) → (suc a ≤ Y → action_for more q Y ≡ cells q Y) → action_for (line_if q a (cells q a) more) q Y ≡ cells q Y
      go (yes s) rec =
          subst (λ (Z : ℕ). action_for (line_if q a (cells q a) more) q Z ≡ cells q Z) s
          (line_here q a (cells q a) more (on_other q (range (suc a) n) l q a (λ X m u v. let r = (range_in (suc a) n X m).0 in omega (arith, r, v)) ∙ subst (λ (Z : ℕ). action_for l q Z ≡ none) (sym s) e))
      go (no f) rec = line_other q a (cells q a) more q Y (λ u v. f v) ∙ rec (omega (arith, h, f))

  of_none : (a n p Y : ℕ) → p < a → action_for (actions_of cells (range a n)) p Y ≡ none
  of_none a zero p Y h = refl
  of_none a (suc n) p Y h = on_other a (range 0 128) (actions_of cells (range (suc a) n)) p Y (λ X m u v. omega (arith, h, u)) ∙ of_none (suc a) n p Y (omega (arith, h))

  -- a cell of these states is found by its line
  pub of_here : (a n q Y : ℕ) → a ≤ q → q < a + n → Y < 128 → action_for (actions_of cells (range a n)) q Y ≡ cells q Y
  of_here a zero q Y h k l = absurd (omega (arith, h, k))
  of_here a (suc n) q Y h k l = go (ℕ_discrete a q) (λ m. of_here (suc a) n q Y m (omega (arith, k)) l)
    where
      more : List ActionLine
      more = actions_of cells (range (suc a) n)

      go : Dec (a ≡ q) → (suc a ≤ q → action_for more q Y ≡ cells q Y) → action_for (actions_on cells a (range 0 128) more) q Y ≡ cells q Y
      go (yes s) rec =
          subst (λ (p : ℕ). action_for (actions_on cells a (range 0 128) more) p Y ≡ cells p Y) s
          (on_here a 0 128 more Y (omega arith) (omega (arith, l)) (of_none (suc a) n a Y (omega arith)))
      go (no f) rec = on_other a (range 0 128) more q Y (λ X m u v. f u) ∙ rec (omega (arith, h, f))

  -- so the lines are those of the cells that are found
  pub lines_found : (n : ℕ) → actions_of cells (range 1 n) ≡ actions_of (action_for (actions_of cells (range 1 n))) (range 1 n)
  lines_found n =
      of_same cells (action_for (actions_of cells (range 1 n))) (range 1 n)
      (λ q X m k. let a = range_in 1 n q m in let b = range_in 0 128 X k in sym (of_here 1 n q X a.0 a.1 (omega (arith, b.1))))
