-- What the states below a number ask, state by state.
use Prim.Native.Nat.{ℕ, ◌+◌, ◌≤◌, ◌<◌}
use mathlib.Core.Path.{◌≡◌, subst}
use mathlib.Core.Logic.{◌⊎◌, inl, inr}
use mathlib.Core.List.{List}
use native.Mathlib.Decide.{dec_lt}
use native.Mathlib.Omega.{arith}
use Rattle.language.specs.Grammar.{Grammar}
use Rattle.leftcorner.specs.Table.{Table}
use Rattle.memory.specs.Memory.{state_at, item_at, dot_at}
use Rattle.fixpoint.specs.Flags.{On, Off, Marks}
use Rattle.fixpoint.proofs.PassLaws.{no_gap}
use Rattle.analysis.specs.Adds.{Adds}
use Rattle.inclusions.specs.Included.{Includes, FlagAsked}
use Rattle.inclusions.proofs.FlagLaws.{flag_map}
use Rattle.check_lookaheads.specs.Sources.{IncludesBelow}

module _ (g : Grammar) (t : Table) (F : List ℕ → ℕ → ℕ → Type 0) (kernels : List ℕ) (lines codes : ℕ) where
  pub below_start : {included : List ℕ} → ((y : ℕ) → Off included y) → Marks (FlagAsked (IncludesBelow g t F 1) kernels lines codes) included
  below_start z = record { only = λ y on. absurd (on.nonzero (z y)); every = λ y f. absurd (no_gap f.asked.above f.asked.below) }

  pub below_state : {n : ℕ} {included₀ included : List ℕ} → 1 ≤ n → Marks (FlagAsked (IncludesBelow g t F n) kernels lines codes) included₀ → Adds (FlagAsked (Includes g t F n) kernels lines codes) included₀ included
      → Marks (FlagAsked (IncludesBelow g t F (n + 1)) kernels lines codes) included
  below_state {n} {included₀} {included} one m a = record { only = λ y on. old y (a.only y on); every = λ y f. new y f (dec_lt f.asked.state n) }
    where
      old : (y : ℕ) → On included₀ y ⊎ FlagAsked (Includes g t F n) kernels lines codes y → FlagAsked (IncludesBelow g t F (n + 1)) kernels lines codes y
      old y (inl on) = flag_map (λ q i k c x. record { state = x.state; above = x.above; below = omega (arith, x.below); includes = x.includes }) (m.only y on)
      old y (inr f) = flag_map (λ q i k c x. record { state = n; above = one; below = omega arith; includes = x }) f

      new : (y : ℕ) (f : FlagAsked (IncludesBelow g t F (n + 1)) kernels lines codes y) → Dec (f.asked.state < n) → On included y
      new y f (yes l) = a.kept y (m.every y (record {
        line = f.line;
        within = f.within;
        code = f.code;
        low = f.low;
        is = f.is;
        asked = record { state = f.asked.state; above = f.asked.above; below = l; includes = f.asked.includes };
      }))
      new y f (no l) = a.every y (record {
        line = f.line;
        within = f.within;
        code = f.code;
        low = f.low;
        is = f.is;
        asked = subst (λ (p : ℕ). Includes g t F p (state_at kernels f.line) (item_at kernels f.line) (dot_at kernels f.line) f.code)
            (let e : f.asked.state ≡ n = omega (arith, l, f.asked.below) in e) f.asked.includes;
      })
