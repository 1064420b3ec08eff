-- What is kept of each rule for the closures of all states: what can begin after its first symbol.
use Rattle.std.specs.Prelude.{ℕ, ◌+◌, ◌*◌, ◌≤◌, ◌<◌, ◌≡◌, ◌⊎◌, List}
use Rattle.fixpoint.specs.Flags.{On}
use Rattle.analysis.specs.FirstBy.{FirstBy}
use Rattle.analysis.specs.Rests.{rest_at}

-- for the rules below `limit`: `starts` has 64 flags for each, those of the codes that can begin what follows its first symbol; `through` one, set
-- where that can be empty
pub record Prepared (m : List ℕ) (limit codes : ℕ) (nul fst starts through : List ℕ) : Type 0 where
  pub starts_only : (i c : ℕ) → 1 ≤ i → i < limit → c < codes → On starts (i * 64 + c) → (d : ℕ) → FirstBy codes nul fst (rest_at m i 1) d c
  pub through_only : (i : ℕ) → 1 ≤ i → i < limit → On through i → (d : ℕ) → FirstBy codes nul fst (rest_at m i 1) d d
  pub every : (i d c : ℕ) → 1 ≤ i → i < limit → FirstBy codes nul fst (rest_at m i 1) d c → On starts (i * 64 + c) ⊎ (On through i × (c ≡ d))
