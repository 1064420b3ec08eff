-- Reply 7 at a state, by its causes: what of the moves is unlike the construction.
use Rattle.std.specs.Prelude.{ℕ, ◌≤◌, ◌<◌, ◌≡◌, Bool, true, false, List}
use Rattle.fixpoint.specs.Flags.{On}
use Rattle.fixpoint.specs.declared.Found.{Found}
use Rattle.memory.specs.Memory.{state_at, item_at, dot_at}
use Rattle.moves.specs.Moves.{next_at, HasAt, MovedAt}
use Rattle.check_targets.specs.declared.ItemFault.{ItemFault}
use Rattle.check_targets.specs.Targets.{Arrives, TargetOnly, LinesArrive, RulesArrive, TargetsOnly}

-- whether there is no fault
abbrev pub no_fault : ItemFault → Bool
no_fault ItemFault.Unnamed = false
no_fault (ItemFault.Entry k) = false
no_fault (ItemFault.Lost i k) = false
no_fault (ItemFault.Extra X l) = false
no_fault ItemFault.Nothing = true

-- line l is of q's next state for X, and nothing moves to its item, though something moves from q on X
pub record ExtraLine (items kernels present symbols kinds values gotos : List ℕ) (rules lines q X l : ℕ) : Type 0 where
  pub moves : On symbols X
  pub some : next_at kinds values gotos q X ≡ 0 → ⊥
  pub low : l < lines
  pub next : state_at kernels l ≡ next_at kinds values gotos q X
  pub unmoved : MovedAt items kernels present rules lines q X (item_at kernels l) (dot_at kernels l) → ⊥

pub record FindsExtra (items kernels present symbols kinds values gotos : List ℕ) (rules lines q X : ℕ) (r : Found) : Type 0 where
  pub found : (l : ℕ) → r ≡ Found.At l → ExtraLine items kernels present symbols kinds values gotos rules lines q X l
  pub none : r ≡ Found.Nothing → TargetOnly items kernels present symbols kinds values gotos rules lines q X

-- item i, dot k of q has no line in the next state, to which it moves
pub record LostItem (items kernels present kinds values gotos : List ℕ) (count rules lines q i k : ℕ) : Type 0 where
  pub item_low : i ≤ count
  pub dot_low : k ≤ 15
  pub has : HasAt items kernels present rules lines q i k
  pub lost : Arrives items kernels kinds values gotos lines q i k → ⊥

-- what is named is so, and where nothing is, all moves are right
abbrev pub MoveNamedIs : (items kernels present symbols kinds values gotos : List ℕ) → ℕ → ℕ → ℕ → ℕ → ItemFault → Type 0
MoveNamedIs items kernels present symbols kinds values gotos count rules lines q ItemFault.Unnamed = ⊥
MoveNamedIs items kernels present symbols kinds values gotos count rules lines q (ItemFault.Entry k) = ⊥
MoveNamedIs items kernels present symbols kinds values gotos count rules lines q (ItemFault.Lost i k) =
    LostItem items kernels present kinds values gotos count rules lines q i k
MoveNamedIs items kernels present symbols kinds values gotos count rules lines q (ItemFault.Extra X l) =
    (1 ≤ X) × (X < 128) × ExtraLine items kernels present symbols kinds values gotos rules lines q X l
MoveNamedIs items kernels present symbols kinds values gotos count rules lines q ItemFault.Nothing =
    LinesArrive items kernels kinds values gotos lines q × RulesArrive items kernels present kinds values gotos rules lines q
    × TargetsOnly items kernels present symbols kinds values gotos rules lines q

pub record MoveFaultIs (items kernels present symbols kinds values gotos : List ℕ) (count rules lines q : ℕ) (r : ItemFault) : Type 0 where
  pub is : MoveNamedIs items kernels present symbols kinds values gotos count rules lines q r
