-- Laws of the tests along a list, and of the rules of a nonterminal.
use Prim.Native.Nat.{ℕ, zero, suc, ◌+◌, ◌≤◌}
use mathlib.Core.Path.{◌≡◌, refl, sym, ap, subst, ◌∙◌}
use mathlib.Core.Logic.{◌⊎◌, inl, inr}
use mathlib.Core.Bool.{Bool, true, false, cond, ◌||◌}
use mathlib.Core.List.{List, [], ◌∷◌}
use mathlib.Core.Option.{some}
use native.Mathlib.Omega.{arith}
use lib.Dec.{eqb}
use borrow.Author.Tests.{eqb-true, eq-eqb}
use Rattle.language.specs.Grammar.{Grammar, Rule, at, rule_at, IsNonterminal}
use Rattle.language.specs.Sentence.{In, here, there}
use Rattle.language.specs.Tests.{all, any}
use Rattle.language.proofs.Member.{in_cons}
use Rattle.language.proofs.TestLaws.{both_true}
use Rattle.language.proofs.GrammarLaws.{not_there}
use Rattle.symbol.specs.Symbol.{is_terminal}
use Rattle.symbol.proofs.KindLaws.{is_terminal_lem}
use Rattle.generate_loads.specs.Load.{rules_from, rules_of, first}

-- a test that comes out both ways
pub clash : {A : Type 0} {b : Bool} → b ≡ true → b ≡ false → A
clash t f = let z : ◌≡◌ {A = ℕ} 0 1 = ap (λ (b : Bool). cond b 0 1) (sym t ∙ f) in absurd (omega arith)

pub nonterminal_false : (g : Grammar) (X : ℕ) → g.terminals ≤ 63 → IsNonterminal g X → is_terminal g.terminals X ≡ false
nonterminal_false g X t n = go (is_terminal g.terminals X) refl
  where
    go : (b : Bool) → is_terminal g.terminals X ≡ b → b ≡ false
    go true e = absurd (omega (arith, (is_terminal_lem g X e).1, t, n.0))
    go false e = refl

-- ---- all, any, first
pub all_in : (p : ℕ → Bool) (l : List ℕ) → all p l ≡ true → (a : ℕ) → In a l → p a ≡ true
all_in p [] e a none = elim none [ ]
all_in p (X ∷ l) e a here = (both_true (p X) (all p l) e).0
all_in p (X ∷ l) e a (there m) = all_in p l (both_true (p X) (all p l) e).1 a m

pub in_all : (p : ℕ → Bool) (l : List ℕ) → ((a : ℕ) → In a l → p a ≡ true) → all p l ≡ true
in_all p [] h = refl
in_all p (X ∷ l) h = simp (h X here, in_all p l (λ a m. h a (there m)))

pub in_any : (p : ℕ → Bool) (l : List ℕ) (a : ℕ) → In a l → p a ≡ true → any p l ≡ true
in_any p [] a none e = elim none [ ]
in_any p (X ∷ l) a here e = simp e
in_any p (X ∷ l) a (there m) e = go (p X) (in_any p l a m e)
  where
    go : (b : Bool) → any p l ≡ true → b || any p l ≡ true
    go true r = refl
    go false r = r

pub any-first : (p : ℕ → Bool) (l : List ℕ) → any p l ≡ true → In (first p l) l × (p (first p l) ≡ true)
any-first p [] e = clash e refl
any-first p (X ∷ l) e = go (p X) refl e (any-first p l)
  where
    go : (b : Bool) → p X ≡ b → b || any p l ≡ true → (any p l ≡ true → In (first p l) l × (p (first p l) ≡ true))
        → In (cond b X (first p l)) (X ∷ l) × (p (cond b X (first p l)) ≡ true)
    go true q r f = (here, q)
    go false q r f = let h = f r in (there h.0, h.1)

-- ---- the rules of X
add_zero : (n : ℕ) → n + 0 ≡ n
add_zero n = omega arith

next : (m n : ℕ) → m + suc n ≡ suc m + n
next m n = omega arith

from_in : (X i : ℕ) (rs : List Rule) (a : ℕ) → In a (rules_from X i rs) → (k : ℕ) × (a ≡ i + k) × ((r : Rule) × (at rs k ≡ some r) × (r.left ≡ X))
from_in X i [] a m = elim m [ ]
from_in X i (r ∷ rs) a m = go (eqb r.left X) refl m (λ n. from_in X (suc i) rs a n)
  where
    Found : ℕ → List Rule → Type 0
    Found n l = (k : ℕ) × (a ≡ n + k) × ((q : Rule) × (at l k ≡ some q) × (q.left ≡ X))

    behind : Found (suc i) rs → Found i (r ∷ rs)
    behind h = (suc h.0, omega (arith, h.1), h.2)

    pick : eqb r.left X ≡ true → (In a (rules_from X (suc i) rs) → Found (suc i) rs) → (a ≡ i) ⊎ In a (rules_from X (suc i) rs) → Found i (r ∷ rs)
    pick q f (inl e) = (0, omega (arith, e), (r, refl, eqb-true r.left X q))
    pick q f (inr n) = behind (f n)

    go : (b : Bool) → eqb r.left X ≡ b → In a (cond b (i ∷ rules_from X (suc i) rs) (rules_from X (suc i) rs))
        → (In a (rules_from X (suc i) rs) → Found (suc i) rs) → Found i (r ∷ rs)
    go true q n f = pick q f (in_cons n)
    go false q n f = behind (f n)

pub rules_in : (g : Grammar) (X i : ℕ) → In i (rules_of g X) → (r : Rule) × (rule_at g i ≡ some r) × (r.left ≡ X)
rules_in g X i m =
    let h = from_in X 1 g.rules i m in
    let e : i ≡ suc h.0 = omega (arith, h.1) in
    (h.2.0, ap (rule_at g) e ∙ h.2.1, h.2.2)

in_from : (X i : ℕ) (rs : List Rule) (k : ℕ) {r : Rule} → at rs k ≡ some r → r.left ≡ X → In (i + k) (rules_from X i rs)
in_from X i [] k e h = not_there e
in_from X i (q ∷ rs) zero {r = r} e h =
    let s : q ≡ r = cc in
    let t : eqb q.left X ≡ true = eq-eqb q.left X (ap (λ (x : Rule). x.left) s ∙ h) in
    rw (t, add_zero i) here
in_from X i (q ∷ rs) (suc k) e h = go (eqb q.left X) (in_from X (suc i) rs k e h)
  where
    go : (b : Bool) → In (suc i + k) (rules_from X (suc i) rs) → In (i + suc k) (cond b (i ∷ rules_from X (suc i) rs) (rules_from X (suc i) rs))
    go true m = rw (next i k) (there m)
    go false m = rw (next i k) m

pub in_rules : (g : Grammar) (X i : ℕ) {r : Rule} → rule_at g i ≡ some r → r.left ≡ X → In i (rules_of g X)
in_rules g X zero e h = not_there e
in_rules g X (suc i) e h = subst (λ (n : ℕ). In n (rules_of g X)) (one_and i) (in_from X 1 g.rules i e h)
  where
    one_and : (n : ℕ) → 1 + n ≡ suc n
    one_and n = omega arith

-- of the rules that pass, the first has the lowest number
first_from : (p : ℕ → Bool) (X i : ℕ) (rs : List Rule) (j : ℕ) → In j (rules_from X i rs) → p j ≡ true → first p (rules_from X i rs) ≤ j
first_from p X i [] j m t = elim m [ ]
first_from p X i (r ∷ rs) j m t = go (eqb r.left X) m (λ n. first_from p X (suc i) rs j n t)
  where
    low : In j (rules_from X i (r ∷ rs)) → i ≤ j
    low n = let h = from_in X i (r ∷ rs) j n in omega (arith, h.1)

    pick : (b : Bool) → p i ≡ b → In j (i ∷ rules_from X (suc i) rs) → (In j (rules_from X (suc i) rs) → first p (rules_from X (suc i) rs) ≤ j)
        → cond b i (first p (rules_from X (suc i) rs)) ≤ j
    pick true q n f = low m
    pick false q n f = later (in_cons n)
      where
        later : (j ≡ i) ⊎ In j (rules_from X (suc i) rs) → first p (rules_from X (suc i) rs) ≤ j
        later (inl e) = clash t (ap p e ∙ q)
        later (inr k) = f k

    go : (b : Bool) → In j (cond b (i ∷ rules_from X (suc i) rs) (rules_from X (suc i) rs)) → (In j (rules_from X (suc i) rs) → first p (rules_from X (suc i) rs) ≤ j)
        → first p (cond b (i ∷ rules_from X (suc i) rs) (rules_from X (suc i) rs)) ≤ j
    go true n f = pick (p i) refl n f
    go false n f = f n

pub first_least : (p : ℕ → Bool) (g : Grammar) (X j : ℕ) → In j (rules_of g X) → p j ≡ true → first p (rules_of g X) ≤ j
first_least p g X j m t = first_from p X 1 g.rules j m t
