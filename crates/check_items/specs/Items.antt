-- Reply 7 at a state, in memory, by its causes: "entries or kernels unlike the construction, or a state neither entry nor named as next by an S or N line".
use Rattle.std.specs.Prelude.{ℕ, ◌+◌, ◌≤◌, ◌<◌, ◌≡◌, ◌⊎◌, List, get_or}
use Rattle.std.proofs.Math.Option.{some}
use Rattle.language.specs.Grammar.{Grammar}
use Rattle.leftcorner.specs.Table.{Table, Action, next_state}
use Rattle.leftcorner.specs.Construction.{EntryAt, ActionAt}
use Rattle.fixpoint.specs.Flags.{On, Off}
use Rattle.memory.specs.Memory.{state_at, item_at, dot_at}
use Rattle.memory.specs.Held.{HoldsTable}
use Rattle.kernel_lines.specs.Lines.{LineAt}
use Rattle.moves.specs.Flags.{HoldsPresent, HoldsMoves}
use Rattle.check_targets.specs.declared.ItemFault.{ItemFault}
use Rattle.check_targets.specs.Faults.{MoveNamedIs}

-- q is the state of an entry, or "named as next by an S or N line"
abbrev pub Named : Grammar → Table → ℕ → Type 0
Named g t q = ((k : ℕ) × (γ : List ℕ) × EntryAt g t k q γ) ⊎ ((p : ℕ) × (X : ℕ) × (x : Action) × ActionAt g t p X x × (next_state x ≡ some q))

-- flags of the states that are named
pub record HoldsNamed (named : List ℕ) (g : Grammar) (t : Table) : Type 0 where
  pub only : (q : ℕ) → 1 ≤ q → q ≤ t.states → On named q → Named g t q
  pub every : (q : ℕ) → 1 ≤ q → q ≤ t.states → Named g t q → On named q

-- every line of q is that of item i, dot 0
abbrev pub OnlyItem : List ℕ → ℕ → ℕ → ℕ → Type 0
OnlyItem kernels lines q i = (l : ℕ) → l < lines → state_at kernels l ≡ q → (item_at kernels l ≡ i) × (dot_at kernels l ≡ 0)

-- where q is the state of entry k, it has that entry's item and only that
pub record EntryMeets (entries kernels : List ℕ) (rules lines q k : ℕ) : Type 0 where
  pub has : get_or entries k 0 ≡ q → LineAt kernels lines q (rules + k) 0
  pub only : get_or entries k 0 ≡ q → OnlyItem kernels lines q (rules + k)

abbrev pub EntriesAtMeet : (entries kernels : List ℕ) → ℕ → ℕ → ℕ → ℕ → Type 0
EntriesAtMeet entries kernels rules strings lines q = (k : ℕ) → 1 ≤ k → k < strings + 1 → EntryMeets entries kernels rules lines q k

-- what is named is so, and where nothing is, q is named, has the items of its entries, and its moves are right
abbrev pub ItemNamedIs : (items entries kernels kinds values gotos named present symbols : List ℕ) → ℕ → ℕ → ℕ → ℕ → ℕ → ItemFault → Type 0
ItemNamedIs items entries kernels kinds values gotos named present symbols count rules strings lines q ItemFault.Unnamed = Off named q
ItemNamedIs items entries kernels kinds values gotos named present symbols count rules strings lines q (ItemFault.Entry k) =
    (1 ≤ k) × (k < strings + 1) × (EntryMeets entries kernels rules lines q k → ⊥)
ItemNamedIs items entries kernels kinds values gotos named present symbols count rules strings lines q (ItemFault.Lost i k) =
    MoveNamedIs items kernels present symbols kinds values gotos count rules lines q (ItemFault.Lost i k)
ItemNamedIs items entries kernels kinds values gotos named present symbols count rules strings lines q (ItemFault.Extra X l) =
    MoveNamedIs items kernels present symbols kinds values gotos count rules lines q (ItemFault.Extra X l)
ItemNamedIs items entries kernels kinds values gotos named present symbols count rules strings lines q ItemFault.Nothing =
    On named q × EntriesAtMeet entries kernels rules strings lines q
    × MoveNamedIs items kernels present symbols kinds values gotos count rules lines q ItemFault.Nothing

pub record ItemFaultIs (items entries kernels kinds values gotos named present symbols : List ℕ) (count rules strings lines q : ℕ) (r : ItemFault) : Type 0 where
  pub is : ItemNamedIs items entries kernels kinds values gotos named present symbols count rules strings lines q r

-- a grammar and its table in memory, and what was computed of state q: its closure and its moves
pub record HeldAt (g : Grammar) (t : Table) (items entries kernels kinds values gotos named present symbols : List ℕ) (rules strings lines q : ℕ) : Type 0 where
  pub lookaheads : List ℕ
  pub held : HoldsTable g t items entries kernels lookaheads kinds values gotos rules strings lines
  pub holds_named : HoldsNamed named g t
  pub holds_present : HoldsPresent g t q present
  pub holds_moves : HoldsMoves g t q symbols
  pub state_declared : (1 ≤ q) × (q ≤ t.states)
