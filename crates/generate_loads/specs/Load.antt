-- The load of a grammar, a seed and a depth, as a derivation. Document 02, S-4.
use Rattle.std.specs.Prelude.{ℕ, zero, suc, ◌+◌, ◌-◌, ◌*◌, ◌/◌, ◌%◌, ◌⊎◌, Bool, cond, ◌||◌, List, [], ◌∷◌, length, get_or, eqb}
use Rattle.std.proofs.Math.Option.{Option, some, none}
use Rattle.language.specs.Grammar.{Grammar, Rule, right, rule_at, IsTerminal, IsNonterminal}
use Rattle.language.specs.Derivation.{Tree, Forest, leaf, node, nil, cons}
use Rattle.language.specs.Tests.{all, any}
use Rattle.symbol.specs.Symbol.{is_terminal}

-- "The state steps to 1103515245 times the state plus 12345, modulo 4294967296."
unfoldable pub stepped : ℕ → ℕ
stepped s = (1103515245 * s + 12345) % 4294967296

-- "A draw is the new state divided by 65536, whole part."
unfoldable pub drawn : ℕ → ℕ
drawn s = stepped s / 65536

-- the first that passes a test, 0 where none does
abbrev pub first : (ℕ → Bool) → List ℕ → ℕ
first p [] = 0
first p (X ∷ l) = cond (p X) X (first p l)

-- ---- rules
-- the numbers of "that nonterminal's rules, counted from 0 in book order"
abbrev pub rules_from : ℕ → ℕ → List Rule → List ℕ
rules_from X i [] = []
rules_from X i (r ∷ rs) = cond (eqb r.left X) (i ∷ rules_from X (suc i) rs) (rules_from X (suc i) rs)

abbrev pub rules_of : Grammar → ℕ → List ℕ
rules_of g X = rules_from X 1 g.rules

abbrev pub right_in : Option Rule → List ℕ
right_in none = []
right_in (some r) = right r

-- the right side of rule i
abbrev pub right_of : Grammar → ℕ → List ℕ
right_of g i = right_in (rule_at g i)

-- X is declared
abbrev pub IsSymbol : Grammar → ℕ → Type 0
IsSymbol g X = IsTerminal g X ⊎ IsNonterminal g X

module _ (g : Grammar) where
  -- ---- derivation height: nodes on the longest way down, "terminals adding none"
  -- X has a derivation of at most this height
  unfoldable pub derives_within : ℕ → ℕ → Bool
  derives_within zero X = is_terminal g.terminals X
  derives_within (suc h) X = is_terminal g.terminals X || any (λ i. all (derives_within h) (right_of g i)) (rules_of g X)

  -- the first height from h on that has one, looked for k times
  unfoldable pub height_from : ℕ → ℕ → ℕ → ℕ
  height_from zero h X = h
  height_from (suc k) h X = cond (derives_within h X) h (height_from k (suc h) X)

  -- the least; no more than there are nonterminals, since none comes twice on a lowest derivation's way down
  unfoldable pub height_of : ℕ → ℕ
  height_of X = height_from g.nonterminals 0 X

  -- "the first rule of least derivation height"
  unfoldable pub shortest : ℕ → ℕ
  shortest X = first (λ i. all (derives_within (height_of X - 1)) (right_of g i)) (rules_of g X)

-- ---- the load
pub record Choice : Type 0 where
  pub rule : ℕ
  pub state : ℕ

-- "With depth left, take the rule at the draw modulo the number of that nonterminal's rules, counted from 0 in book order; at
-- depth 0, without a draw, the first rule of least derivation height"
unfoldable pub choice : Grammar → ℕ → ℕ → ℕ → Choice
choice g zero X s = record { rule = shortest g X; state = s }
choice g (suc d) X s = record { rule = get_or (rules_of g X) (drawn s % length (rules_of g X)) 0; state = stepped s }

pub record Grown : Type 0 where
  pub tree : Tree
  pub state : ℕ

pub record GrownAll : Type 0 where
  pub forest : Forest
  pub state : ℕ

-- "Expand leftmost": the state goes from each symbol's tree on to the next symbol
abbrev pub grow_all : (ℕ → ℕ → Grown) → List ℕ → ℕ → GrownAll
grow_all f [] s = record { forest = nil; state = s }
grow_all f (X ∷ β) s =
    record { forest = cons (f X s).tree (grow_all f β (f X s).state).forest; state = (grow_all f β (f X s).state).state }

abbrev pub node_over : ℕ → GrownAll → Grown
node_over i F = record { tree = node i F.forest; state = F.state }

-- "children at one less. Below depth 0 it stays 0." The first number bounds the height of the tree.
unfoldable pub grow : Grammar → ℕ → ℕ → ℕ → ℕ → Grown
grow g zero d X s = record { tree = leaf X; state = s }
grow g (suc f) d X s =
    cond (is_terminal g.terminals X) (record { tree = leaf X; state = s })
    (node_over (choice g d X s).rule (grow_all (grow g f (d - 1)) (right_of g (choice g d X s).rule) (choice g d X s).state))

-- what X expands to at depth d in state s, and the state left: no way down is longer than d nodes and then the height of a nonterminal
unfoldable pub grown : Grammar → ℕ → ℕ → ℕ → Grown
grown g d X s = grow g (suc (d + g.nonterminals)) d X s

-- "the goal at the given depth": the derivation whose yield is the load
unfoldable pub load : Grammar → ℕ → ℕ → Tree
load g seed d = (grown g d g.goal seed).tree
