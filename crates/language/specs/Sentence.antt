-- Sentences, and the nonterminals that a grammar must not have. Document 01, 'Walk' and 'Replies'.
use Rattle.std.specs.Prelude.{ℕ, ◌≤◌, ◌⊎◌, ◌≡◌, List, ◌∷◌, ◌++◌}
use Rattle.std.proofs.Math.Option.{some}
use Rattle.language.specs.Grammar.{Grammar, Rule, rule_at, right, IsTerminal, IsNonterminal}
use Rattle.language.specs.Derivation.{Tree, yield, IsTree}

-- x stands in a list
pub data In {A : Type 0} (x : A) : List A → Type 0 where
  here : {l : List A} → In x (x ∷ l)
  there : {y : A} {l : List A} → In x l → In x (y ∷ l)

module _ (g : Grammar) where
  -- "A sentence is the terminals, left to right, of a derivation of the goal."
  pub record Sentence (w : List ℕ) : Type 0 where
    pub tree : Tree
    pub derives : IsTree g tree g.goal
    pub yields_it : yield tree ≡ w

  -- "Tokens begin a sentence if some list, perhaps empty, put after them makes one."
  pub record BeginsSentence (u : List ℕ) : Type 0 where
    pub remainder : List ℕ
    pub sentence : Sentence (u ++ remainder)

  -- X derives some string of terminals; a nonterminal that does not is unproductive ("barren")
  pub record Productive (X : ℕ) : Type 0 where
    pub tree : Tree
    pub derives : IsTree g tree X

  -- X is reached from the goal; a nonterminal that is not is unreachable ("cut off")
  pub data Reachable : ℕ → Type 0 where
    from_goal : Reachable g.goal
    from_rule : {X : ℕ} (i : ℕ) {r : Rule} → rule_at g i ≡ some r → Reachable r.left → In X (right r) → Reachable X

  -- every declared nonterminal derives something
  abbrev pub AllProductive : Type 0
  AllProductive = (X : ℕ) → IsNonterminal g X → Productive X

  -- what a grammar book that is read says of its symbols
  pub record Declared : Type 0 where
    pub few_terminals : g.terminals ≤ 63
    pub goal_kind : IsNonterminal g g.goal
    pub left_kind : (i : ℕ) (r : Rule) → rule_at g i ≡ some r → IsNonterminal g r.left
    pub right_kind : (i : ℕ) (r : Rule) (X : ℕ) → rule_at g i ≡ some r → In X (right r) → IsTerminal g X ⊎ IsNonterminal g X
