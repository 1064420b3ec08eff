-- What the kernel lines of a state say of its closure, as they stand in memory.
use Rattle.std.specs.Prelude.{ℕ, ◌+◌, ◌*◌, ◌<◌, ◌≡◌, List}
use Rattle.items.specs.Layout.{symbol_at}
use Rattle.memory.specs.Memory.{state_at, item_at, dot_at}
use Rattle.fixpoint.specs.Flags.{On}
use Rattle.analysis.specs.FirstBy.{FirstBy}
use Rattle.analysis.specs.Rests.{Before, rest_at}

-- item i's dot k stands before nonterminal 64 + b, and not at its recognition point
pub record BeforeNonterminal (m : List ℕ) (i k b : ℕ) : Type 0 where
  pub before : Before m i k
  pub symbol : symbol_at m i k ≡ 64 + b

-- y is the place of a code that can follow the nonterminal at item i's dot k, where the lookaheads of the item stand from `start` on
pub record FollowsNonterminal (m : List ℕ) (codes : ℕ) (nul fst lookaheads : List ℕ) (start i k y : ℕ) : Type 0 where
  pub base : ℕ
  pub stands : BeforeNonterminal m i k base
  pub code : ℕ
  pub low : code < codes
  pub on : On lookaheads (start + code)
  pub next : ℕ
  pub first : FirstBy codes nul fst (rest_at m i (k + 1)) code next
  pub is : y ≡ base * 64 + next

-- one of the kernel lines of state q is as P says
pub record OfLine (P : ℕ → ℕ → Type 0) (kernels : List ℕ) (lines q y : ℕ) : Type 0 where
  pub line : ℕ
  pub within : line < lines
  pub state : state_at kernels line ≡ q
  pub holds : P line y

abbrev pub LineBefore : List ℕ → List ℕ → ℕ → ℕ → Type 0
LineBefore m kernels l b = BeforeNonterminal m (item_at kernels l) (dot_at kernels l) b

abbrev pub LineFollows : List ℕ → ℕ → List ℕ → List ℕ → List ℕ → List ℕ → ℕ → ℕ → Type 0
LineFollows m codes nul fst kernels lookaheads l y = FollowsNonterminal m codes nul fst lookaheads (l * 64) (item_at kernels l) (dot_at kernels l) y

-- the kernel of q has an item before nonterminal 64 + b
abbrev pub KernelBefore : List ℕ → List ℕ → ℕ → ℕ → ℕ → Type 0
KernelBefore m kernels lines q b = OfLine (LineBefore m kernels) kernels lines q b

-- y is the place of a code that can follow a nonterminal in the kernel of q
abbrev pub KernelFollows : List ℕ → ℕ → List ℕ → List ℕ → List ℕ → List ℕ → ℕ → ℕ → ℕ → Type 0
KernelFollows m codes nul fst kernels lookaheads lines q y = OfLine (LineFollows m codes nul fst kernels lookaheads) kernels lines q y
