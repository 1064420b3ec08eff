-- What moves from a kernel set. Document 01, 'Construction': "from state Q on symbol X, every item with the dot before X and not
-- at its recognition point moves past X". Items are numbered item * 16 + dot.
use Rattle.std.specs.Prelude.{ℕ, zero, suc, ◌+◌, ◌*◌, ◌/◌, ◌%◌, ◌≤◌, ◌<◌, ◌≡◌, cond, List, [], ◌∷◌, ◌++◌, eqb, get_or}
use Rattle.language.specs.Grammar.{Grammar}
use Rattle.language.specs.Sentence.{In}
use Rattle.build_states.specs.States.{item_of, dot_of, move}
use Rattle.closure.specs.Kernel.{BeforeNonterminal}
use Rattle.moves.specs.Moves.{symbol_after, Present}
use Rattle.build_moves.specs.Held.{HoldsGrammar}

-- the numbers are those of items 1 to `count`
abbrev pub Numbered : ℕ → List ℕ → Type 0
Numbered count k = (x : ℕ) → In x k → (16 ≤ x) × (x < count * 16 + 16)

-- one of the numbers is as P says
pub record OfNumber (P : ℕ → ℕ → Type 0) (k : List ℕ) (y : ℕ) : Type 0 where
  pub number : ℕ
  pub member : In number k
  pub holds : P number y

-- an item of a kernel set stands before nonterminal 64 + b
abbrev pub StandsBefore : List ℕ → ℕ → ℕ → Type 0
StandsBefore items x b = BeforeNonterminal items (item_of x) (dot_of x) b

abbrev pub SameNumber : ℕ → ℕ → Type 0
SameNumber x y = y ≡ x

-- y is the number of a rule below `limit`, dot 0, whose left side is flagged
pub record RuleStart (items present : List ℕ) (limit y : ℕ) : Type 0 where
  pub rule : ℕ
  pub above : 1 ≤ rule
  pub below : rule < limit
  pub added : Present items present rule
  pub is : y ≡ rule * 16

-- an item that moves on X, past it, as number * 128 + X; nothing where X is 0
abbrev pub moved_on : ℕ → ℕ → List ℕ
moved_on x zero = []
moved_on x (suc s) = ((x + 1) * 128 + suc s) ∷ []

abbrev pub moved_if : ℕ → ℕ → ℕ → List ℕ
moved_if x zero s = []
moved_if x (suc f) s = moved_on x s

-- what moves of the items that are flagged, rising, from numbers below x
unfoldable pub moved_below : List ℕ → List ℕ → ℕ → List ℕ
moved_below items held zero = []
moved_below items held (suc x) = moved_below items held x ++ moved_if x (get_or held x 0) (symbol_after items (item_of x) (dot_of x))

-- the numbers among them that move on X
unfoldable pub picked : ℕ → List ℕ → List ℕ
picked X [] = []
picked X (c ∷ l) = cond (eqb (c % 128) X) (c / 128 ∷ picked X l) (picked X l)

-- l lists what moves from kernel set k
pub record ListsMoves (items : List ℕ) (rules count : ℕ) (k l : List ℕ) : Type 0 where
  pub numbered : (X : ℕ) → Numbered count (picked X l)
  pub moves : (g : Grammar) (strings : ℕ) → HoldsGrammar items rules strings g → rules + strings ≡ count → strings ≤ 127 → (X : ℕ) → 1 ≤ X → X < 128 → move g k X ≡ picked X l
