-- Nullable symbols, what begins with a code, and first(β, σ) by rules, as tests.
use Prim.Native.Nat.{ℕ, zero, suc, ◌≤◌, ◌<◌}
use mathlib.Core.Path.{◌≡◌, refl, sym, subst}
use mathlib.Core.List.{List, [], ◌∷◌}
use mathlib.Core.Option.{Option, some, none}
use native.Mathlib.Nat.{not-suc-le-zero}
use native.Mathlib.Decide.{ℕ_discrete, dec_lt}
use native.Mathlib.Omega.{arith}
use borrow.Author.Count.{below_more}
use lib.ListN.{length, get_or}
use Rattle.language.specs.Grammar.{Grammar, Rule, rule_at}
use Rattle.language.proofs.GrammarLaws.{rule_range}
use Rattle.language.specs.Nullable.{Nullable, AllIn, Starts}
use Rattle.fixpoint.proofs.Tests.{map?, both?, either?}
use Rattle.fixpoint.specs.Each.{Each}
use Rattle.fixpoint.proofs.Decision.{decide}
use Rattle.grammar_reduction.specs.Reaches.{Occurrence, occurs}
use Rattle.grammar_reduction.specs.Reduced.{derived?, terminal?}
use Rattle.analysis.specs.ByRules.{Below, right_of, NoSeed, starting, Itself, BeginsByRules, FirstByRules}
use Rattle.analysis.proofs.RuleSets.{rules_nullable, nullable_rules}

module _ (N : ℕ → Type 0) (null? : (x : ℕ) → Dec (N x)) where
  next_below : (α : List ℕ) (k : ℕ) → Below N α k → N (get_or α k 0) → Below N α (suc k)
  next_below α k f p j l = below_more (λ (i : ℕ). N (get_or α i 0)) k f p j (omega arith)

  unfoldable pub below? : (α : List ℕ) (k : ℕ) → Dec (Below N α k)
  unfolding next_below
  below? α zero = yes (λ j l. absurd (not-suc-le-zero l))
  below? α (suc k) = map? (λ h. next_below α k h.0 h.1) (λ f. ((λ j l. f j (omega arith)), f k (omega arith))) (both? (below? α k) (null? (get_or α k 0)))

  unfoldable pub all_in? : (β : List ℕ) → Dec (AllIn N β)
  all_in? [] = yes tt
  all_in? (X ∷ β) = both? (null? X) (all_in? β)

  unfoldable pub starts? : (F : ℕ → Type 0) → ((x : ℕ) → Dec (F x)) → (β : List ℕ) → Dec (Starts N F β)
  starts? F test [] = no (λ h. h)
  starts? F test (X ∷ β) = either? (test X) (both? (null? X) (starts? F test β))

-- places of a rule, and of the rules 1 to i
unfoldable pub places_in : ℕ → ℕ → List Occurrence → List Occurrence
places_in i zero rest = rest
places_in i (suc k) rest = occurs i k ∷ places_in i k rest

module _ (Q : Occurrence → Type 0) where
  in_front : (i n : ℕ) (rest : List Occurrence) → Each Q (places_in i n rest) → (k : ℕ) → k < n → Q (occurs i k)
  unfolding places_in
  in_front i zero rest h k l = absurd (not-suc-le-zero l)
  in_front i (suc n) rest h k l = below_more (λ (j : ℕ). Q (occurs i j)) n (in_front i n rest h.1) h.0 k (omega arith)

  behind : (i n : ℕ) (rest : List Occurrence) → Each Q (places_in i n rest) → Each Q rest
  unfolding places_in
  behind i zero rest h = h
  behind i (suc n) rest h = behind i n rest h.1

module _ (g : Grammar) where
  unfoldable pub places : ℕ → List Occurrence
  places zero = []
  places (suc i) = places_in (suc i) (length (right_of (rule_at g (suc i)))) (places i)

  places_rules : (Q : Occurrence → Type 0) (n : ℕ) → Each Q (places n) → (i : ℕ) → i ≤ n → (k : ℕ) → k < length (right_of (rule_at g i)) → Q (occurs i k)
  unfolding places
  places_rules Q zero h zero l k m = absurd (not-suc-le-zero m)
  places_rules Q zero h (suc i) l k m = absurd (not-suc-le-zero l)
  places_rules Q (suc n) h i l k m = go (ℕ_discrete i (suc n)) (λ p. places_rules Q n (behind Q (suc n) (length (right_of (rule_at g (suc n)))) (places n) h) i p k m)
    where
      go : Dec (i ≡ suc n) → (i ≤ n → Q (occurs i k)) → Q (occurs i k)
      go (yes e) f =
          subst (λ (j : ℕ). Q (occurs j k)) (sym e)
          (in_front Q (suc n) (length (right_of (rule_at g (suc n)))) (places n) h k (subst (λ (j : ℕ). k < length (right_of (rule_at g j))) e m))
      go (no d) f = f (omega arith)

  -- a place stands in a rule
  in_rules : (i k : ℕ) (q : Option Rule) → rule_at g i ≡ q → k < length (right_of q) → i ≤ length g.rules
  in_rules i k none e l = absurd (not-suc-le-zero l)
  in_rules i k (some r) e l = (rule_range g i e).1

  pub places_all : (N : ℕ → Type 0) (Q : Occurrence → Type 0) → Each Q (places (length g.rules)) → (c : Occurrence) → (starting g N).ok c → Q c
  places_all N Q h (occurs i k) ok = places_rules Q (length g.rules) h i (in_rules i k (rule_at g i) refl ok.0) k ok.0

  unfoldable pub nullable? : (X : ℕ) → Dec (Nullable g X)
  nullable? X = map? (rules_nullable g) (nullable_rules g) (derived? g NoSeed (λ x. no (λ h. h)) X)

  unfoldable pub place? : (D : ℕ → Type 0) → ((x : ℕ) → Dec (D x)) → (c : Occurrence)
      → Dec ((starting g (Nullable g)).ok c × ((a : ℕ) → (starting g (Nullable g)).needs c a → D a))
  place? D test (occurs i k) =
      let α = right_of (rule_at g i) in
      map? (λ h. (h.0, λ a n. subst D (sym n) h.1)) (λ h. (h.0, h.1 (get_or α k 0) refl))
      (both? (both? (dec_lt k (length α)) (below? (Nullable g) nullable? α k)) (test (get_or α k 0)))

  unfoldable pub begins? : (X c : ℕ) → Dec (BeginsByRules g X c)
  begins? X c =
      decide (starting g (Nullable g)) (Itself g c) ℕ_discrete (λ x. both? (ℕ_discrete x c) (terminal? g c)) (places (length g.rules))
      (places_all (Nullable g)) place? X

  unfoldable pub first? : (β : List ℕ) (d c : ℕ) → Dec (FirstByRules g β d c)
  first? β d c = either? (starts? (Nullable g) nullable? (λ X. BeginsByRules g X c) (λ X. begins? X c) β) (both? (all_in? (Nullable g) nullable? β) (ℕ_discrete c d))
