-- The rules of a nonterminal in memory: going along them, and that they are those of the grammar.
use Prim.Native.Nat.{ℕ, suc, ◌+◌, ◌-◌, ◌≤◌, ◌<◌}
use mathlib.Core.Path.{◌≡◌, refl, sym, ap, ap₂, ◌∙◌}
use mathlib.Core.Bool.{Bool, true, false, cond}
use mathlib.Core.List.{List, [], ◌∷◌}
use mathlib.Core.Option.{some}
use native.Mathlib.Omega.{arith}
use lib.ListN.{length}
use lib.Dec.{eqb}
use borrow.Author.Tests.{eq-eqb, ne_eqb}
use Rattle.language.specs.Grammar.{Grammar, Rule, at}
use Rattle.items.specs.Layout.{Holds, left_at}
use Rattle.generate_loads.specs.Load.{rules_from, rules_of, first}
use Rattle.generate_heights.specs.Rows.{rows_of}

-- the rules of X from i on
unfoldable pub rest : List ℕ → ℕ → ℕ → ℕ → List ℕ
rest items X rules i = rows_of items X i (rules + 1 - i)

pub rest_start : (items : List ℕ) (X rules : ℕ) → rows_of items X 1 rules ≡ rest items X rules 1
unfolding rest
rest_start items X rules = ap (rows_of items X 1) (less rules)
  where
    less : (n : ℕ) → n ≡ n + 1 - 1
    less n = omega arith

pub rest_none : (items : List ℕ) (X rules i : ℕ) → rules < i → rest items X rules i ≡ []
unfolding rest
rest_none items X rules i h = ap (rows_of items X i) (none rules i h)
  where
    none : (n i : ℕ) → n < i → n + 1 - i ≡ 0
    none n i h = omega arith

at_row : (items : List ℕ) (X i k : ℕ) → 1 ≤ k → rows_of items X i k ≡ rows_of items X i (suc (k - 1))
at_row items X i k h = ap (rows_of items X i) (back k h)
  where
    back : (k : ℕ) → 1 ≤ k → k ≡ suc (k - 1)
    back k h = omega arith

next_row : (items : List ℕ) (X rules i : ℕ) → rows_of items X (suc i) (rules + 1 - i - 1) ≡ rows_of items X (i + 1) (rules + 1 - (i + 1))
next_row items X rules i = rw (one i, less rules i) refl
  where
    one : (n : ℕ) → n + 1 ≡ suc n
    one n = omega arith

    less : (n i : ℕ) → n + 1 - i - 1 ≡ n + 1 - (suc i)
    less n i = omega arith

pub rest_skip : (items : List ℕ) (X rules i : ℕ) → i ≤ rules → (left_at items i ≡ X → ⊥) → rest items X rules i ≡ rest items X rules (i + 1)
unfolding rest
rest_skip items X rules i h f =
    let skip : rows_of items X i (suc (rules + 1 - i - 1)) ≡ rows_of items X (suc i) (rules + 1 - i - 1) = simp (ne_eqb (left_at items i) X f) in
    at_row items X i (rules + 1 - i) (omega arith) ∙ (skip ∙ next_row items X rules i)

pub rest_take : (items : List ℕ) (X rules i : ℕ) → i ≤ rules → left_at items i ≡ X → rest items X rules i ≡ i ∷ rest items X rules (i + 1)
unfolding rest
rest_take items X rules i h e =
    let keep : rows_of items X i (suc (rules + 1 - i - 1)) ≡ i ∷ rows_of items X (suc i) (rules + 1 - i - 1) = simp (eq-eqb (left_at items i) X e) in
    at_row items X i (rules + 1 - i) (omega arith) ∙ (keep ∙ ap (λ (l : List ℕ). i ∷ l) (next_row items X rules i))

pub first_yes : (p : ℕ → Bool) (i : ℕ) (l : List ℕ) → p i ≡ true → first p (i ∷ l) ≡ i
first_yes p i l e = simp e

pub first_no : (p : ℕ → Bool) (i : ℕ) (l : List ℕ) → p i ≡ false → first p (i ∷ l) ≡ first p l
first_no p i l e = simp e

-- ---- against the grammar
rows_from : (items : List ℕ) (X i : ℕ) (rs : List Rule) → ((k : ℕ) (r : Rule) → at rs k ≡ some r → left_at items (i + k) ≡ r.left) → rules_from X i rs ≡ rows_of items X i (length rs)
rows_from items X i [] h = refl
rows_from items X i (r ∷ rs) h =
    ap₂ (λ (a : ℕ) (l : List ℕ). cond (eqb a X) (i ∷ l) l) (sym (h 0 r refl) ∙ ap (left_at items) (zero_more i))
    (rows_from items X (suc i) rs (λ k q e. ap (left_at items) (one_more i k) ∙ h (suc k) q e))
  where
    zero_more : (n : ℕ) → n + 0 ≡ n
    zero_more n = omega arith

    one_more : (n k : ℕ) → suc n + k ≡ n + suc k
    one_more n k = omega arith

pub rows_are : (items : List ℕ) (rules : ℕ) (g : Grammar) (X : ℕ) → Holds items rules g → rules_of g X ≡ rows_of items X 1 rules
rows_are items rules g X h =
    rows_from items X 1 g.rules (λ k r e. ap (left_at items) (one_and k) ∙ (h.rule_in (suc k) e).left_is) ∙ ap (rows_of items X 1) h.count
  where
    one_and : (n : ℕ) → 1 + n ≡ suc n
    one_and n = omega arith
