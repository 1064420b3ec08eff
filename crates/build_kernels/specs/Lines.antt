-- Kernel lines that are written from kernel sets.
use Rattle.std.specs.Prelude.{ℕ, ◌+◌, ◌≤◌, ◌<◌, ◌≡◌, List, get_or}
use Rattle.build_states.specs.States.{item_of, dot_of}
use Rattle.memory.specs.Memory.{state_at, item_at, dot_at}

-- line l is that of number x in state q
pub record LineOf (kernels : List ℕ) (l q x : ℕ) : Type 0 where
  pub state : state_at kernels l ≡ q
  pub item : item_at kernels l ≡ item_of x
  pub dot : dot_at kernels l ≡ dot_of x

-- it was written, and no other
pub record WritesLine (kernels₀ kernels : List ℕ) (l q x : ℕ) : Type 0 where
  pub here : LineOf kernels l q x
  pub other : (m p y : ℕ) → (m ≡ l → ⊥) → LineOf kernels₀ m p y → LineOf kernels m p y

-- the lines from a up to b were written, those of state q, and none before
pub record WritesSet (sets kernels₀ kernels : List ℕ) (a b q : ℕ) : Type 0 where
  pub here : (l : ℕ) → a ≤ l → l < b → LineOf kernels l q (get_or sets l 0)
  pub before : (l p y : ℕ) → l < a → LineOf kernels₀ l p y → LineOf kernels l p y

-- the lines of the first sets, each set's in the state of its number, from 1
pub record LinesOf (sets starts : List ℕ) (states : ℕ) (kernels : List ℕ) : Type 0 where
  pub line : (p l : ℕ) → p < states → get_or starts p 0 ≤ l → l < get_or starts (p + 1) 0 → LineOf kernels l (p + 1) (get_or sets l 0)
