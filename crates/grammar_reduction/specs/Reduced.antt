-- A grammar is reduced when each of its nonterminals is productive and reachable. Document 01, 'Replies' 5 and 6, by tests.
use Rattle.std.specs.Prelude.{ℕ, zero, suc, ◌+◌, ◌≡◌, refl, length}
use Rattle.std.proofs.Common.{sym, subst, arith}
use Rattle.std.proofs.Math.Option.{Option, some, none}
use Rattle.std.proofs.Math.Decide.{ℕ_discrete, dec_le}
use Rattle.language.specs.Grammar.{Grammar, Rule, right, rule_at, IsTerminal, IsNonterminal}
use Rattle.language.specs.Sentence.{In, Productive, Reachable, AllProductive}
use Rattle.language.proofs.GrammarLaws.{not_there, rule_range}
use Rattle.fixpoint.specs.declared.Found.{Found}
use Rattle.fixpoint.proofs.Tests.{map?, both?, not?, not_not}
use Rattle.fixpoint.specs.Least.{Least}
use Rattle.fixpoint.specs.Lowest.{Lowest, lowest, lowest_is}
use Rattle.fixpoint.specs.Each.{Each}
use Rattle.fixpoint.proofs.Decision.{decide}
use Rattle.grammar_reduction.specs.Strings.{each?, in?, numbers, numbers_all, occurrences, occurrences_all}
use Rattle.grammar_reduction.specs.Derives.{left_of, productions, rules_productive, productive_rules}
use Rattle.grammar_reduction.specs.Reaches.{Occurrence, occurs, reaching, rules_reachable, reachable_rules}

module _ (g : Grammar) where
  -- whether all symbols of a rule's right side are in a set
  unfoldable pub whole? : (D : ℕ → Type 0) → ((x : ℕ) → Dec (D x)) → (i : ℕ) (o : Option Rule) → rule_at g i ≡ o
      → Dec (((r : Rule) × (rule_at g i ≡ some r)) × ((a : ℕ) → ((r : Rule) × (rule_at g i ≡ some r) × In a (right r)) → D a))
  whole? D test i none e = no (λ h. clash h.0.0 h.0.1)
    where
      clash : (r : Rule) → rule_at g i ≡ some r → ⊥
      clash r h = let z : ◌≡◌ {A = ℕ} 0 1 = cc in omega arith
  whole? D test i (some r) e =
      map? (λ f. ((r, e), λ a n. f a (subst (λ (q : Rule). In a (right q)) (same n.0 n.1) n.2))) (λ h a m. h.1 a (r, e, m)) (each? D test (right r))
    where
      same : (q : Rule) → rule_at g i ≡ some q → q ≡ r
      same q h = cc

  unfoldable pub terminal? : (x : ℕ) → Dec (IsTerminal g x)
  terminal? x = both? (dec_le 1 x) (dec_le x g.terminals)

  -- what the rules give from seeds that are decided
  unfoldable pub derived? : (S : ℕ → Type 0) → ((x : ℕ) → Dec (S x)) → (X : ℕ) → Dec (Least (productions g) S X)
  derived? S seed? X =
      decide (productions g) S ℕ_discrete seed? (numbers (length g.rules))
      (λ Q h i ok. let l = rule_range g i ok.1 in numbers_all (length g.rules) Q h i l.0 l.1)
      (λ D test i. whole? D test i (rule_at g i) refl) X

  unfoldable pub productive? : (X : ℕ) → Dec (Productive g X)
  productive? X = map? (rules_productive g) (productive_rules g) (derived? (IsTerminal g) terminal? X)

  -- reply 5's place: the lowest nonterminal that derives no string of terminals
  unfoldable pub lowest_unproductive : Found
  lowest_unproductive = lowest (λ X. not? (productive? X)) 64 g.nonterminals

  pub lowest_unproductive_lem : Lowest (λ X. Productive g X → ⊥) 64 (64 + g.nonterminals) lowest_unproductive
  unfolding lowest_unproductive
  lowest_unproductive_lem = lowest_is (λ X. not? (productive? X)) 64 g.nonterminals

  -- whether a rule's left side is in a set, and X on its right side
  unfoldable pub reaches? : (D : ℕ → Type 0) → ((x : ℕ) → Dec (D x)) → (i X : ℕ) (o : Option Rule) → rule_at g i ≡ o
      → Dec (((r : Rule) × (rule_at g i ≡ some r) × In X (right r)) × ((a : ℕ) → a ≡ left_of (rule_at g i) → D a))
  reaches? D test i X none e = no (λ h. clash h.0.0 h.0.1)
    where
      clash : (r : Rule) → rule_at g i ≡ some r → ⊥
      clash r h = let z : ◌≡◌ {A = ℕ} 0 1 = cc in omega arith
  reaches? D test i X (some r) e =
      map? (λ h. ((r, e, h.0), λ a n. subst D (sym n) h.1))
      (λ h. (subst (λ (q : Rule). In X (right q)) (same h.0.0 h.0.1) h.0.2, h.1 (left_of (rule_at g i)) refl))
      (both? (in? X (right r)) (test (left_of (rule_at g i))))
    where
      same : (q : Rule) → rule_at g i ≡ some q → q ≡ r
      same q h = cc

  pub occurs_all : (Q : Occurrence → Type 0) → Each Q (occurrences occurs 1 g.rules) → (c : Occurrence) → (reaching g).ok c → Q c
  occurs_all Q h (occurs zero X) ok = not_there ok.1
  occurs_all Q h (occurs (suc k) X) ok =
      subst (λ (n : ℕ). Q (occurs n X)) (one_more k) (occurrences_all occurs Q 1 g.rules h k ok.1 X ok.2)
    where
      one_more : (n : ℕ) → 1 + n ≡ suc n
      one_more n = omega arith

  unfoldable pub occurs? : (D : ℕ → Type 0) → ((x : ℕ) → Dec (D x)) → (c : Occurrence) → Dec ((reaching g).ok c × ((a : ℕ) → (reaching g).needs c a → D a))
  occurs? D test (occurs i X) = reaches? D test i X (rule_at g i) refl

  unfoldable pub reachable? : (X : ℕ) → Dec (Reachable g X)
  reachable? X =
      map? (rules_reachable g) (reachable_rules g)
      (decide (reaching g) (λ (x : ℕ). x ≡ g.goal) ℕ_discrete (λ x. ℕ_discrete x g.goal) (occurrences occurs 1 g.rules) occurs_all occurs? X)

  -- reply 6's place: the lowest nonterminal that is not reached from the goal
  unfoldable pub lowest_unreachable : Found
  lowest_unreachable = lowest (λ X. not? (reachable? X)) 64 g.nonterminals

  pub lowest_unreachable_lem : Lowest (λ X. Reachable g X → ⊥) 64 (64 + g.nonterminals) lowest_unreachable
  unfolding lowest_unreachable
  lowest_unreachable_lem = lowest_is (λ X. not? (reachable? X)) 64 g.nonterminals

  abbrev pub AllReachable : Type 0
  AllReachable = (X : ℕ) → IsNonterminal g X → Reachable g X

  none_lacks : (P : ℕ → Type 0) (test : (X : ℕ) → Dec (P X)) (r : Found) → r ≡ Found.Nothing → Lowest (λ X. P X → ⊥) 64 (64 + g.nonterminals) r
      → (X : ℕ) → IsNonterminal g X → P X
  none_lacks P test Found.Nothing e h X n = not_not (test X) (h X n.0 (omega (arith, n.1)))
  none_lacks P test (Found.At x) e h X n = let z : ◌≡◌ {A = ℕ} 0 1 = cc in absurd (omega arith)

  lacks_none : (P : ℕ → Type 0) (r : Found) → ((X : ℕ) → IsNonterminal g X → P X) → Lowest (λ X. P X → ⊥) 64 (64 + g.nonterminals) r → r ≡ Found.Nothing
  lacks_none P Found.Nothing f h = refl
  lacks_none P (Found.At x) f h = absurd (h.2 (f x (h.0, omega (arith, h.1))))

  -- nothing is found exactly when there is no such nonterminal
  pub none_unproductive : lowest_unproductive ≡ Found.Nothing → AllProductive g
  none_unproductive e = none_lacks (Productive g) productive? lowest_unproductive e lowest_unproductive_lem

  pub all_productive : AllProductive g → lowest_unproductive ≡ Found.Nothing
  all_productive h = lacks_none (Productive g) lowest_unproductive h lowest_unproductive_lem

  pub none_unreachable : lowest_unreachable ≡ Found.Nothing → AllReachable
  none_unreachable e = none_lacks (Reachable g) reachable? lowest_unreachable e lowest_unreachable_lem

  pub all_reachable : AllReachable → lowest_unreachable ≡ Found.Nothing
  all_reachable h = lacks_none (Reachable g) lowest_unreachable h lowest_unreachable_lem
