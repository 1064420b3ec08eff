-- A pass over the states, read off memory: what their items ask by the lookaheads so far.
use Rattle.std.specs.Prelude.{ℕ, ◌+◌, ◌*◌, ◌/◌, ◌≤◌, ◌<◌, ◌≡◌, ◌⊎◌, List, length}
use Rattle.language.specs.Grammar.{Grammar}
use Rattle.leftcorner.specs.Table.{Table}
use Rattle.fixpoint.specs.Flags.{On}
use Rattle.fixpoint.specs.Pass.{zeros}
use Rattle.memory.specs.Memory.{state_at}
use Rattle.analysis.specs.FirstBy.{FirstBy}
use Rattle.closure.specs.InMemory.{InMemory}
use Rattle.closure.specs.Expansion.{HoldsClosure}
use Rattle.analysis.specs.Adds.{Adds}
use Rattle.inclusions.specs.Asks.{StateAsks}

-- the flags are those of p's closure
pub record ClosureIs (items kernels lookaheads nul fst : List ℕ) (rules lines codes p : ℕ) (present follow : List ℕ) : Type 0 where
  pub holds : (g : Grammar) (t : Table) → InMemory items kernels lookaheads rules lines codes g t → HoldsClosure g t (FirstBy codes nul fst) p present follow

module _ (items kernels lookaheads kinds values gotos entries uses nul fst : List ℕ) (rules lines codes : ℕ) where
  -- what p's items ask was added
  pub record StateAdds (p : ℕ) (fs₀ fs : List ℕ) : Type 0 where
    pub present : List ℕ
    pub follow : List ℕ
    pub closure : ClosureIs items kernels lookaheads nul fst rules lines codes p present follow
    pub adds : Adds (StateAsks items kernels lookaheads kinds values gotos entries uses nul fst present follow rules lines codes p) fs₀ fs

  -- one of the states up to `all` asks for y
  pub record SomeAsks (all y : ℕ) : Type 0 where
    pub state : ℕ
    pub above : 1 ≤ state
    pub below : state ≤ all
    pub present : List ℕ
    pub follow : List ℕ
    pub closure : ClosureIs items kernels lookaheads nul fst rules lines codes state present follow
    pub asks : StateAsks items kernels lookaheads kinds values gotos entries uses nul fst present follow rules lines codes state y

  -- all that p's items ask is flagged
  pub record StateMet (fs : List ℕ) (p : ℕ) : Type 0 where
    pub present : List ℕ
    pub follow : List ℕ
    pub closure : ClosureIs items kernels lookaheads nul fst rules lines codes p present follow
    pub every : (y : ℕ) → StateAsks items kernels lookaheads kinds values gotos entries uses nul fst present follow rules lines codes p y → On fs y

  -- what the flagged states below `next` ask was added, and nothing that no state up to `all` asks
  pub record StatesAdd (changed : List ℕ) (all next : ℕ) (fs₀ fs : List ℕ) : Type 0 where
    pub long : length fs ≡ length fs₀
    pub only : (y : ℕ) → On fs y → On fs₀ y ⊎ SomeAsks all y
    pub kept : (y : ℕ) → On fs₀ y → On fs y
    pub met : (p : ℕ) → 1 ≤ p → p < next → On changed p → StateMet fs p

-- the flags of `from` below `size` were added to others, so many anew, and their lines' states are noted
pub record Merges (kernels from : List ℕ) (size : ℕ) (fs₀ fs changed : List ℕ) (added : ℕ) : Type 0 where
  pub long : length fs ≡ length fs₀
  pub only : (y : ℕ) → On fs y → On fs₀ y ⊎ On from y
  pub kept : (y : ℕ) → On fs₀ y → On fs y
  pub every : (y : ℕ) → y < size → On from y → On fs y
  pub noted : (y : ℕ) → On fs y → On fs₀ y ⊎ On changed (state_at kernels (y / 64))
  pub count : zeros fs + added ≡ zeros fs₀
  pub still : added ≡ 0 → fs ≡ fs₀

-- a pass over the states that are flagged in `changed₀`, from the lookaheads fs₀ on, which added so many; then those are flagged whose lookaheads grew
pub record PassMade (items kernels kinds values gotos entries uses nul fst : List ℕ) (rules lines codes all : ℕ) (changed₀ changed included₀ included fs₀ fs : List ℕ) (added : ℕ) : Type 0 where
  pub asked : StatesAdd items kernels fs₀ kinds values gotos entries uses nul fst rules lines codes changed₀ all (all + 1) included₀ included
  pub merged : Merges kernels included (lines * 64) fs₀ fs changed added
  pub noted_long : length changed ≡ length changed₀
