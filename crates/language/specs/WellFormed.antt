-- What the grammar reader promises of a grammar it has read. Document 01, 'Books': the table of figures, and the declared symbols.
use Rattle.std.specs.Prelude.{ℕ, ◌≤◌, ◌≡◌, ◌⊎◌, List, [], length}
use Rattle.std.proofs.Math.Option.{some}
use Rattle.language.specs.Grammar.{Grammar, Rule, rule_at, right, IsTerminal, IsNonterminal}
use Rattle.language.specs.Sentence.{In, Declared}

-- 'left' is a nonterminal, the right side has at most 15 declared symbols, and no group is empty
pub record RuleFormed (g : Grammar) (r : Rule) : Type 0 where
  pub left_declared : IsNonterminal g r.left
  pub short : length (right r) ≤ 15
  pub declared : (X : ℕ) → In X (right r) → IsTerminal g X ⊎ IsNonterminal g X
  pub filled : (γ : List ℕ) → In γ r.groups → γ ≡ [] → ⊥

pub record WellFormed (g : Grammar) : Type 0 where
  pub some_terminal : 1 ≤ g.terminals
  pub few_terminals : g.terminals ≤ 63
  pub some_nonterminal : 1 ≤ g.nonterminals
  pub few_nonterminals : g.nonterminals ≤ 64
  pub some_rule : 1 ≤ length g.rules
  pub few_rules : length g.rules ≤ 127
  pub goal_declared : IsNonterminal g g.goal
  pub formed : (i : ℕ) {r : Rule} → rule_at g i ≡ some r → RuleFormed g r

-- its symbols are then declared
pub declared_of : {g : Grammar} → WellFormed g → Declared g
declared_of w = record {
  few_terminals = w.few_terminals;
  goal_kind = w.goal_declared;
  left_kind = λ i r e. (w.formed i e).left_declared;
  right_kind = λ i r X e m. (w.formed i e).declared X m;
}
