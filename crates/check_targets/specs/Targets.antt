-- The part of reply 7 at a state that speaks of moves, in memory and of the construction.
use Rattle.std.specs.Prelude.{ℕ, ◌+◌, ◌≤◌, ◌<◌, ◌≡◌, List}
use Rattle.std.proofs.Math.Option.{some}
use Rattle.language.specs.Grammar.{Grammar}
use Rattle.leftcorner.specs.Table.{Table, Action, next_state}
use Rattle.leftcorner.specs.Construction.{KernelAt, ActionAt, MovedBy}
use Rattle.fixpoint.specs.Flags.{On}
use Rattle.memory.specs.Memory.{state_at, item_at, dot_at}
use Rattle.kernel_lines.specs.Lines.{LineAt}
use Rattle.moves.specs.Moves.{symbol_after, next_at, Present, OnlyMoved}

-- item i, dot k of q has its line in the next state, where q has one for the symbol after the dot
pub record Arrives (items kernels kinds values gotos : List ℕ) (lines q i k : ℕ) : Type 0 where
  pub line : (symbol_after items i k ≡ 0 → ⊥) → (next_at kinds values gotos q (symbol_after items i k) ≡ 0 → ⊥)
      → LineAt kernels lines (next_at kinds values gotos q (symbol_after items i k)) i (k + 1)

-- where something moves from q on X, q's next state for X has only what moved
pub record TargetOnly (items kernels present symbols kinds values gotos : List ℕ) (rules lines q X : ℕ) : Type 0 where
  pub only : On symbols X → (next_at kinds values gotos q X ≡ 0 → ⊥) → OnlyMoved items kernels present rules lines q X (next_at kinds values gotos q X)

-- ---- of all that q has: its kernel items, the rules that its closure adds, its next states
abbrev pub LinesArrive : (items kernels kinds values gotos : List ℕ) → ℕ → ℕ → Type 0
LinesArrive items kernels kinds values gotos lines q =
    (l : ℕ) → l < lines → state_at kernels l ≡ q → Arrives items kernels kinds values gotos lines q (item_at kernels l) (dot_at kernels l)

abbrev pub RulesArrive : (items kernels present kinds values gotos : List ℕ) → ℕ → ℕ → ℕ → Type 0
RulesArrive items kernels present kinds values gotos rules lines q =
    (i : ℕ) → 1 ≤ i → i < rules + 1 → Present items present i → Arrives items kernels kinds values gotos lines q i 0

abbrev pub TargetsOnly : (items kernels present symbols kinds values gotos : List ℕ) → ℕ → ℕ → ℕ → Type 0
TargetsOnly items kernels present symbols kinds values gotos rules lines q =
    (X : ℕ) → 1 ≤ X → X < 128 → TargetOnly items kernels present symbols kinds values gotos rules lines q X

-- "The target's kernel is exactly the moved items", for each S or N line of q
pub record MovesMeet (g : Grammar) (t : Table) (q : ℕ) : Type 0 where
  pub move_has : (X s i n : ℕ) (x : Action) → ActionAt g t q X x → next_state x ≡ some s → MovedBy g t q X i n → (σ : List ℕ) × KernelAt g t s i n σ
  pub move_only : (X s i n : ℕ) (x : Action) → ActionAt g t q X x → next_state x ≡ some s → MovedBy g t q X i n
      → (j m : ℕ) (σ : List ℕ) → KernelAt g t s j m σ → MovedBy g t q X j m
