-- A grammar that was read is well formed.
use Prim.Native.Nat.{ℕ, zero, suc}
use mathlib.Core.Path.{◌≡◌, refl, ap, subst}
use mathlib.Core.List.{List, [], ◌∷◌}
use mathlib.Core.Option.{some}
use native.Mathlib.Omega.{arith}
use lib.Dec.{ltb, eqb}
use lib.ListN.{length}
use Rattle.language.specs.Grammar.{Grammar, Rule, at, rule_at}
use Rattle.language.proofs.GrammarLaws.{not_there}
use Rattle.language.specs.WellFormed.{RuleFormed, WellFormed}
use Rattle.range.proofs.TestLaws.{all_cond}
use Rattle.grammar_header.specs.declared.Heading.{Heading}
use Rattle.grammar_header.specs.declared.HeaderLine.{HeaderLine}
use Rattle.grammar_header.specs.declared.HeaderLine.TheVariants as header
use Rattle.grammar_header.specs.Header.{header_of}
use Rattle.grammar_header.proofs.HeaderLaws.{Ranged, header_ranged}
use Rattle.grammar_rule.specs.RuleLine as line
use Rattle.grammar_rule.proofs.FormLaws.{rule_formed}
use Rattle.grammar.specs.Book.{Rules, listed, broken_off, after, on_line, rules_from, Book, accepted, rejected, grammar_with, end_of, lines_of, book_of}

-- k rules, each of them formed in g
RulesFormed : Grammar → ℕ → Rules → Type 0
RulesFormed g k (listed rs end) = (length rs ≡ k) × ((i : ℕ) (r : Rule) → at rs i ≡ some r → RuleFormed g r)
RulesFormed g k (broken_off x) = Unit {0}

formed_more : (g : Grammar) (k : ℕ) (r : Rule) → RuleFormed g r → (q : Rules) → RulesFormed g k q → RulesFormed g (suc k) (after (r ∷ []) q)
unfolding RulesFormed
formed_more g k r f (listed rs end) h = (ap suc h.0, go)
  where
    go : (i : ℕ) (q : Rule) → at (r ∷ rs) i ≡ some q → RuleFormed g q
    go zero q e = subst (RuleFormed g) (let p : r ≡ q = cc in p) f
    go (suc i) q e = h.1 i q e
formed_more g k r f (broken_off x) h = tt

lines_formed : (g : Grammar) (s : List ℕ) (k place : ℕ) → RulesFormed g k (rules_from k s g.terminals g.nonterminals place)
unfolding rules_from RulesFormed
lines_formed g s zero place = (refl, λ i r e. not_there e)
lines_formed g s (suc k) place = go (line.rule_at s g.terminals g.nonterminals place) refl (λ next. lines_formed g s k next)
  where
    go : (l : line.Line) → line.rule_at s g.terminals g.nonterminals place ≡ l
        → ((next : ℕ) → RulesFormed g k (rules_from k s g.terminals g.nonterminals next))
        → RulesFormed g (suc k) (on_line l (λ r next. after (r ∷ []) (rules_from k s g.terminals g.nonterminals next)) broken_off)
    go (line.read r next) e f = formed_more g k r (rule_formed g s place r next e) (rules_from k s g.terminals g.nonterminals next) (f next)
    go (line.refused x) e f = tt

-- ---- the rules that were listed
module _ (s : List ℕ) (h : Heading) (k place : ℕ) (rs : List Rule) (end : ℕ)
    (e : rules_from k s h.terminals h.nonterminals place ≡ listed rs end) where
  pub rules_count : length rs ≡ k
  unfolding RulesFormed
  rules_count = (subst (RulesFormed (grammar_with h []) k) e (lines_formed (grammar_with h []) s k place)).0

  pub rules_formed : (i : ℕ) {r : Rule} → at rs i ≡ some r → RuleFormed (grammar_with h rs) r
  unfolding RulesFormed
  rules_formed i {r} q =
      let f = (subst (RulesFormed (grammar_with h []) k) e (lines_formed (grammar_with h []) s k place)).1 i r q in
      record { left_declared = f.left_declared; short = f.short; declared = f.declared; filled = f.filled }

-- ---- the book
Formed : Book → Type 0
Formed (accepted g) = WellFormed g
Formed (rejected x) = Unit {0}

well_formed : (s : List ℕ) (h : Heading) → Ranged h → (place : ℕ) (rs : List Rule) (end : ℕ)
    → rules_from h.rules s h.terminals h.nonterminals place ≡ listed rs end → WellFormed (grammar_with h rs)
well_formed s h r place rs end e =
    let c : length rs ≡ h.rules = rules_count s h h.rules place rs end e in
    record {
      some_terminal = r.t_range.0;
      few_terminals = r.t_range.1;
      some_nonterminal = r.n_range.0;
      few_nonterminals = r.n_range.1;
      some_rule = omega (arith, r.rules_range.0);
      few_rules = omega (arith, r.rules_range.1);
      goal_declared = r.goal_range;
      formed = λ i {r} w. go c i w;
    }
  where
    go : length rs ≡ h.rules → (i : ℕ) {q : Rule} → rule_at (grammar_with h rs) i ≡ some q → RuleFormed (grammar_with h rs) q
    go c zero w = not_there w
    go c (suc i) w = rules_formed s h h.rules place rs end e i w

end_formed : (s : List ℕ) (h : Heading) → Ranged h → (place size : ℕ) (q : Rules) → rules_from h.rules s h.terminals h.nonterminals place ≡ q → Formed (end_of size h q)
unfolding end_of Formed
end_formed s h r place size (listed rs end) e = all_cond Formed (eqb end size) (λ x. well_formed s h r place rs end e) (λ x. tt)
end_formed s h r place size (broken_off x) e = tt

header_formed : (s : List ℕ) (l : HeaderLine) → header_of s ≡ l → Formed (lines_of s l)
unfolding lines_of Formed
header_formed s (header.Read h next) e = end_formed s h (header_ranged s h next e) next (length s) _ refl
header_formed s (header.Refused x) e = tt

book_formed : (s : List ℕ) → Formed (book_of s)
unfolding book_of Formed
book_formed s = all_cond Formed (ltb 65536 (length s)) (λ x. tt) (λ x. header_formed s (header_of s) refl)

-- t 1 to 63, n 1 to 64, 1 to 127 rules, the goal and every left side a nonterminal, at most 15 declared symbols a right side,
-- no empty group
pub accepted_formed : (s : List ℕ) (g : Grammar) → book_of s ≡ accepted g → WellFormed g
unfolding Formed
accepted_formed s g e = subst Formed e (book_formed s)
