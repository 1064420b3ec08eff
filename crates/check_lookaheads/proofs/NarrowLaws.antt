-- How flags of states with too few lookaheads add up, line by line.
use Prim.Native.Nat.{ℕ, ◌<◌}
use mathlib.Core.Logic.{◌⊎◌, inl, inr}
use mathlib.Core.List.{List}
use Rattle.fixpoint.specs.Flags.{On, Off}
use Rattle.memory.specs.Memory.{state_at}
use Rattle.check_lookaheads.specs.Narrow.{Narrowing, Narrows}
use Rattle.check_lookaheads.specs.Memory.{Covers, StateCovers}

pub narrows_map : {M N : ℕ → Type 0} {fs₀ fs : List ℕ} → ((q : ℕ) → M q → N q) → ((q : ℕ) → N q → M q) → Narrows M fs₀ fs → Narrows N fs₀ fs
narrows_map {M} {N} {fs₀} f g w = record {
  narrowing = record { long = w.narrowing.long; kept = w.narrowing.kept; only = λ q on. go q (w.narrowing.only q on) };
  rest = λ q off. f q (w.rest q off);
}
  where
    go : (q : ℕ) → On fs₀ q ⊎ (M q → ⊥) → On fs₀ q ⊎ (N q → ⊥)
    go q (inl on) = inl on
    go q (inr n) = inr (λ h. n (g q h))

-- ---- the lines below l: states that are not flagged have what is asked of them
pub record LinesTo (kernels included lookaheads : List ℕ) (lines codes : ℕ) (fs₀ fs : List ℕ) (l : ℕ) : Type 0 where
  pub narrowing : Narrowing (StateCovers kernels included lookaheads lines codes) fs₀ fs
  pub passed : (m : ℕ) → m < l → Off fs (state_at kernels m) → Covers included lookaheads m codes
