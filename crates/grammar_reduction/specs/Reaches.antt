-- Reachable symbols by rules, for tests: the least set that holds the goal, and each symbol of a rule whose left side it holds.
use Rattle.std.specs.Prelude.{ℕ, ◌≡◌, refl}
use Rattle.std.proofs.Common.{sym, ap, subst, ◌∙◌}
use Rattle.std.proofs.Math.Option.{some}
use Rattle.language.specs.Grammar.{Grammar, Rule, right, rule_at}
use Rattle.language.specs.Sentence.{In, Reachable, from_goal, from_rule}
use Rattle.fixpoint.specs.Least.{Clauses, Least, seed, by, least_every}
use Rattle.grammar_reduction.specs.Derives.{left_of}

-- symbol X of rule i
pub data Occurrence : Type 0 where
  occurs : ℕ → ℕ → Occurrence

abbrev pub rule_of : Occurrence → ℕ
rule_of (occurs i X) = i

abbrev pub symbol_of : Occurrence → ℕ
symbol_of (occurs i X) = X

abbrev pub reaching : Grammar → Clauses Occurrence ℕ
reaching g = record {
  ok = λ c. (r : Rule) × (rule_at g (rule_of c) ≡ some r) × In (symbol_of c) (right r);
  needs = λ c a. a ≡ left_of (rule_at g (rule_of c));
  head = symbol_of;
}

module _ (g : Grammar) where
  abbrev pub ReachableByRules : ℕ → Type 0
  ReachableByRules = Least (reaching g) (λ (x : ℕ). x ≡ g.goal)

  pub rules_reachable : {X : ℕ} → ReachableByRules X → Reachable g X
  rules_reachable p =
      least_every (reaching g) (Reachable g) (λ y e. subst (Reachable g) (sym e) from_goal)
      (λ c ok ns. from_rule (rule_of c) ok.1 (subst (Reachable g) (ap left_of ok.1) (ns _ refl)) ok.2) p

  pub reachable_rules : {X : ℕ} → Reachable g X → ReachableByRules X
  reachable_rules from_goal = seed refl
  reachable_rules {X} (from_rule i {r = r} e p m) =
      by (occurs i X) (r, e, m) (λ a n. subst ReachableByRules (sym (n ∙ ap left_of e)) (reachable_rules p))
