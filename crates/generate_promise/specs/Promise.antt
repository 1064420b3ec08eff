-- S-4 of document 02, "Test loads from a number", for the call `make_load`, which answers what `generated` says
-- (generator/specs/Generated.antt), for all bytes, seeds, depths and lengths. What a load is: generate_loads/specs/Load.antt.
use Rattle.std.specs.Prelude.{ℕ, ◌-◌, ◌≤◌, ◌<◌, ◌≡◌, ◌⊎◌, List, length}
use Rattle.language.specs.Grammar.{Grammar, IsTerminal, IsNonterminal}
use Rattle.language.specs.Derivation.{Tree, leaf, yield, IsTree}
use Rattle.language.specs.Listing.{listing}
use Rattle.leftcorner.specs.Table.{Table}
use Rattle.reply.specs.declared.Kind.TheVariants.{LimitExceeded, BufferTooSmall}
use Rattle.reply.specs.declared.Refusal.{Refusal}
use Rattle.reply.specs.declared.Reply.TheVariants.{Accepted}
use Rattle.grammar.specs.Book.{accepted, rejected, grammar_of}
use Rattle.checker.specs.Checked.{verdict_of, Accepts}
use Rattle.session.specs.Session.{session}
use Rattle.session.specs.Demand3.{Needs, whole_with}
use Rattle.generate_loads.specs.Load.{stepped, drawn, right_of, shortest, choice, grow_all, node_over, grown, load}
use Rattle.generate_loads.specs.Lowest.{FirstLowest}
use Rattle.generator.specs.Generated.{refused_by, refused_at, written_as, generated}

-- how a symbol of g expands
pub record Expansion (g : Grammar) : Type 0 where
  -- "Expand leftmost, [..] children at one less. Below depth 0 it stays 0.": the node of the rule chosen, over what the symbols
  -- of its right side expand to, from the state that the choice left
  pub nonterminal : (d X s : ℕ) → IsNonterminal g X
      → grown g d X s ≡ node_over (choice g d X s).rule (grow_all (grown g (d - 1)) (right_of g (choice g d X s).rule) (choice g d X s).state)
  pub terminal : (d a s : ℕ) → IsTerminal g a → grown g d a s ≡ record { tree = leaf a; state = s }
  -- "at depth 0, without a draw, the first rule of least derivation height, terminals adding none"
  pub first_lowest : (X : ℕ) → IsNonterminal g X → FirstLowest g X (shortest g X)

-- the load of g, the grammar of book gs, whose derivation is T
pub record Promised (gs : List ℕ) (g : Grammar) (seed d : ℕ) (T : Tree) : Type 0 where
  -- "write a sentence and its listing"
  pub written : (n k : ℕ) → length (yield T) ≤ 65535 → length (yield T) ≤ n → length (listing g T) ≤ k
      → generated n k gs seed d ≡ written_as n k (yield T) (listing g T)
  -- "A load longer than its slices, or than 65,535 tokens, is a short slip."
  pub short : (n k : ℕ) → (65535 < length (yield T)) ⊎ ((n < length (yield T)) ⊎ (k < length (listing g T)))
      → generated n k gs seed d ≡ refused_at n k BufferTooSmall 0
  -- "Every load is a sentence"
  pub derives : IsTree g T g.goal
  -- "and with accepted tables and enough lent the walker returns the same listing", and the derivation's unit count, whoever
  -- built the tables
  pub walked : (s : List ℕ) → verdict_of gs s ≡ Accepted 0 → length (yield T) ≤ 65535
      → (t : Table) × Accepts gs s g t × (stack : ℕ) × (rules : ℕ) × Needs g t (yield T) stack rules
      × ((n k : ℕ) → stack ≤ n → rules ≤ k → session gs s (yield T) n k ≡ whole_with g (yield T) n k T)

pub record GeneratorPromise : Type 0 where
  -- "Seed 1 steps to 1103527590 and draws 16838."
  pub first_draw : (stepped 1 ≡ 1103527590) × (drawn 1 ≡ 16838)
  -- "A depth above 15 is oversize, place 0, tested with the lengths."
  pub deep : (gs : List ℕ) (seed d n k : ℕ) → 15 < d → generated n k gs seed d ≡ refused_at n k LimitExceeded 0
  -- "From an accepted grammar"
  pub refused : (gs : List ℕ) (why : Refusal) → grammar_of gs ≡ rejected why → (seed d n k : ℕ) → d ≤ 15 → generated n k gs seed d ≡ refused_by n k why
  -- "a 32-bit seed and a depth of 0 to 15"
  pub loads : (gs : List ℕ) (g : Grammar) → grammar_of gs ≡ accepted g → Expansion g × ((seed d : ℕ) → d ≤ 15 → Promised gs g seed d (load g seed d))
