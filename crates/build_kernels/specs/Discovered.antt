-- The states of a grammar in memory: their kernel lines, where each state's begin, and the next states.
use Rattle.std.specs.Prelude.{ℕ, suc, ◌+◌, ◌*◌, ◌≤◌, ◌<◌, ◌≡◌, refl, List, [], ◌∷◌, length, get_or, take}
use Rattle.std.proofs.Common.{ap}
use Rattle.language.specs.Grammar.{Grammar}
use Rattle.build_states.specs.States.{Kernel, item_of, dot_of, total, move, kernel_of, goto}
use Rattle.build_states.specs.States as lalr
use Rattle.build_states.proofs.Discovery.{Fits}
use Rattle.memory.specs.Memory.{state_at, item_at, dot_at}
use Rattle.kernel_lines.specs.Lines.{Lines}
use Rattle.build_kernel_sets.specs.Cells.{shift_kind}
use Rattle.build_kernels.specs.declared.Discovery.{Discovery}

-- the first line of the state after the first p
abbrev pub first_line : List Kernel → ℕ → ℕ
first_line ks p = total (take p ks)

-- "Its K lines rise by state, item, dot"
pub record HoldsSets (kernels starts : List ℕ) (ks : List Kernel) : Type 0 where
  pub line_state : (p j : ℕ) → p < length ks → j < length (get_or ks p []) → state_at kernels (first_line ks p + j) ≡ suc p
  pub line_item : (p j : ℕ) → p < length ks → j < length (get_or ks p []) → item_at kernels (first_line ks p + j) ≡ item_of (get_or (get_or ks p []) j 0)
  pub line_dot : (p j : ℕ) → p < length ks → j < length (get_or ks p []) → dot_at kernels (first_line ks p + j) ≡ dot_of (get_or (get_or ks p []) j 0)
  pub start_is : (p : ℕ) → p ≤ length ks → get_or starts p 0 ≡ first_line ks p

abbrev pub if_moves : Kernel → ℕ → ℕ
if_moves [] s = 0
if_moves (x ∷ m) s = s

-- the state that q goes to on X, 0 where nothing moves
unfoldable pub next_state : Grammar → ℕ → ℕ → ℕ
next_state g q X = if_moves (move g (kernel_of g q) X) (goto g q X)

pub next_none : (g : Grammar) (q X : ℕ) → move g (kernel_of g q) X ≡ [] → next_state g q X ≡ 0
unfolding next_state
next_none g q X e = ap (λ (m : Kernel). if_moves m (goto g q X)) e

pub next_some : (g : Grammar) (q X : ℕ) → (move g (kernel_of g q) X ≡ [] → ⊥) → next_state g q X ≡ goto g q X
unfolding next_state
next_some g q X f = go (move g (kernel_of g q) X) f
  where
    go : (m : Kernel) → (m ≡ [] → ⊥) → if_moves m (goto g q X) ≡ goto g q X
    go [] f = absurd (f refl)
    go (x ∷ m) f = refl

-- "Shift, or N, on each possible move": cells of kind 1 at state * 64 + terminal, next states at state * 64 + nonterminal - 64
pub record HoldsNext (g : Grammar) (kinds values gotos : List ℕ) : Type 0 where
  pub kind_is : (q c : ℕ) → c < 64 → get_or kinds (q * 64 + c) 0 ≡ shift_kind (next_state g q c)
  pub value_is : (q c : ℕ) → c < 64 → get_or values (q * 64 + c) 0 ≡ next_state g q c
  pub goto_is : (q b : ℕ) → b < 64 → get_or gotos (q * 64 + b) 0 ≡ next_state g q (64 + b)

pub record HoldsStates (g : Grammar) (kernels starts kinds values gotos : List ℕ) (states lines : ℕ) : Type 0 where
  pub fits : Fits (lalr.states g)
  pub state_count : length (lalr.states g) ≡ states
  pub line_count : total (lalr.states g) ≡ lines
  pub holds_sets : HoldsSets kernels starts (lalr.states g)
  pub holds_next : HoldsNext g kinds values gotos

-- lines that are safe to read, whatever they mean, and starts that rise up to their number
pub record SafeStates (kernels starts : List ℕ) (items states lines : ℕ) : Type 0 where
  pub few_states : states ≤ 255
  pub some_lines : Lines kernels lines items
  pub first : get_or starts 0 0 ≡ 0
  pub rise : (p : ℕ) → p < states → get_or starts p 0 ≤ get_or starts (p + 1) 0
  pub last : get_or starts states 0 ≡ lines

abbrev pub Safe : List ℕ → List ℕ → ℕ → Discovery → Type 0
Safe kernels starts items (Discovery.States states lines) = SafeStates kernels starts items states lines
Safe kernels starts items Discovery.TooMany = Unit {0}

-- "The builder gives 2 for entries, states and kernel lines"
abbrev pub Discovers : Grammar → List ℕ → List ℕ → List ℕ → List ℕ → List ℕ → Discovery → Type 0
Discovers g kernels starts kinds values gotos (Discovery.States states lines) = HoldsStates g kernels starts kinds values gotos states lines
Discovers g kernels starts kinds values gotos Discovery.TooMany = Fits (lalr.states g) → ⊥
