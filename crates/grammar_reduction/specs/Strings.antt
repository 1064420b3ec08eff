-- Tests of strings, and lists of what a grammar has, for the decisions.
use Prim.Native.Nat.{ℕ, zero, suc, ◌+◌, ◌≤◌}
use Rattle.std.specs.Prelude.{◌≡◌, refl, ◌⊎◌}
use Rattle.std.proofs.Common.{sym, inl, inr}
use Rattle.std.proofs.Math.Path.{subst}
use mathlib.Core.List.{List, [], ◌∷◌}
use Rattle.std.proofs.Math.Option.{some}
use Rattle.std.proofs.Math.Decide.{ℕ_discrete}
use native.Mathlib.Omega.{arith}
use Rattle.language.specs.Grammar.{Rule, right, at}
use Rattle.language.specs.Sentence.{In, here, there}
use Rattle.language.proofs.GrammarLaws.{not_there}
use Rattle.fixpoint.proofs.Tests.{map?, both?, either?}
use Rattle.fixpoint.specs.Each.{Each}

-- every symbol of a string
pub on_each : {D : ℕ → Type 0} {X : ℕ} {β : List ℕ} → D X → ((a : ℕ) → In a β → D a) → (a : ℕ) → In a (X ∷ β) → D a
on_each p f a here = p
on_each p f a (there m) = f a m

unfoldable pub each? : (D : ℕ → Type 0) → ((x : ℕ) → Dec (D x)) → (β : List ℕ) → Dec ((a : ℕ) → In a β → D a)
each? D test [] = yes (λ a m. elim m [ ])
each? D test (X ∷ β) = map? (λ h. on_each h.0 h.1) (λ f. (f X here, λ a m. f a (there m))) (both? (test X) (each? D test β))

-- numbers n to 1
unfoldable pub numbers : ℕ → List ℕ
numbers zero = []
numbers (suc n) = suc n ∷ numbers n

pub numbers_all : (n : ℕ) (Q : ℕ → Type 0) → Each Q (numbers n) → (i : ℕ) → 1 ≤ i → i ≤ n → Q i
unfolding numbers
numbers_all zero Q h i l m = absurd (omega arith)
numbers_all (suc n) Q h i l m = go (ℕ_discrete i (suc n)) (λ k. numbers_all n Q h.1 i l k)
  where
    go : Dec (i ≡ suc n) → (i ≤ n → Q i) → Q i
    go (yes e) f = subst Q (sym e) h.0
    go (no d) f = f (omega arith)

-- X stands in a string
pub in_cons : {X Y : ℕ} {β : List ℕ} → In X (Y ∷ β) → (X ≡ Y) ⊎ In X β
in_cons here = inl refl
in_cons (there m) = inr m

pub cons_in : {X Y : ℕ} {β : List ℕ} → (X ≡ Y) ⊎ In X β → In X (Y ∷ β)
cons_in {X} {Y} {β} (inl e) = subst (λ (Z : ℕ). In X (Z ∷ β)) e here
cons_in (inr m) = there m

unfoldable pub in? : (X : ℕ) (β : List ℕ) → Dec (In X β)
in? X [] = no (λ m. elim m [ ])
in? X (Y ∷ β) = map? cons_in in_cons (either? (ℕ_discrete X Y) (in? X β))

-- pairs of a rule's number and a symbol of its right side, by a function of both
module _ {A : Type 0} (f : ℕ → ℕ → A) where
  unfoldable pub occurrences_in : ℕ → List ℕ → List A → List A
  occurrences_in i [] rest = rest
  occurrences_in i (X ∷ β) rest = f i X ∷ occurrences_in i β rest

  -- of rules numbered from i on
  unfoldable pub occurrences : ℕ → List Rule → List A
  occurrences i [] = []
  occurrences i (r ∷ rs) = occurrences_in i (right r) (occurrences (suc i) rs)

  module _ (Q : A → Type 0) where
    in_front : (i : ℕ) (β : List ℕ) (rest : List A) → Each Q (occurrences_in i β rest) → (X : ℕ) → In X β → Q (f i X)
    unfolding occurrences_in
    in_front i [] rest h X m = elim m [ ]
    in_front i (Y ∷ β) rest h X here = h.0
    in_front i (Y ∷ β) rest h X (there m) = in_front i β rest h.1 X m

    behind : (i : ℕ) (β : List ℕ) (rest : List A) → Each Q (occurrences_in i β rest) → Each Q rest
    unfolding occurrences_in
    behind i [] rest h = h
    behind i (Y ∷ β) rest h = behind i β rest h.1

    pub occurrences_all : (i : ℕ) (rs : List Rule) → Each Q (occurrences i rs) → (k : ℕ) {r : Rule} → at rs k ≡ some r → (X : ℕ) → In X (right r) → Q (f (i + k) X)
    unfolding occurrences
    occurrences_all i [] h k e X m = not_there e
    occurrences_all i (q ∷ rs) h zero {r = r} e X m =
        let s : r ≡ q = cc in
        subst (λ (n : ℕ). Q (f n X)) (plus_zero i) (in_front i (right q) (occurrences (suc i) rs) h X (subst (λ (p : Rule). In X (right p)) s m))
      where
        plus_zero : (n : ℕ) → n ≡ n + 0
        plus_zero n = omega arith
    occurrences_all i (q ∷ rs) h (suc k) e X m =
        subst (λ (n : ℕ). Q (f n X)) (next i k) (occurrences_all (suc i) rs (behind i (right q) (occurrences (suc i) rs) h) k e X m)
      where
        next : (a b : ℕ) → suc a + b ≡ a + suc b
        next a b = omega arith
