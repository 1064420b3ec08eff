-- Flags that are added part by part.
use Prim.Native.Nat.{ℕ, zero, suc, ◌-◌, ◌≤◌, ◌<◌}
use mathlib.Core.Path.{◌≡◌, refl, ◌∙◌}
use mathlib.Core.Logic.{◌⊎◌, inl, inr}
use mathlib.Core.List.{List}
use lib.ListN.{length}
use native.Mathlib.Omega.{arith}
use Rattle.fixpoint.specs.Flags.{On}
use Rattle.memory.specs.Memory.{state_at}
use Rattle.analysis.specs.Adds.{Adds}
use Rattle.closure.specs.Kernel.{OfLine}
use Rattle.kernel_lines.specs.Lines.{last_before}
use Rattle.kernel_lines.proofs.LinkLaws.{Passed, passed_start, passed_more, passed_map, passed_all}

-- only flags of P were added so far
pub record Adding (P : ℕ → Type 0) (fs₀ fs : List ℕ) : Type 0 where
  pub long : length fs ≡ length fs₀
  pub only : (y : ℕ) → On fs y → On fs₀ y ⊎ P y
  pub kept : (y : ℕ) → On fs₀ y → On fs y

pub adding_none : {P : ℕ → Type 0} (fs : List ℕ) → Adding P fs fs
adding_none fs = record { long = refl; only = λ y on. inl on; kept = λ y on. on }

pub adding_then : {P Q : ℕ → Type 0} {fs₀ fs fs' : List ℕ} → Adding P fs₀ fs → ((y : ℕ) → Q y → P y) → Adds Q fs fs' → Adding P fs₀ fs'
adding_then {P} {Q} {fs₀} {fs} old f a = record { long = a.long ∙ old.long; only = λ y on. go y (a.only y on); kept = λ y on. a.kept y (old.kept y on) }
  where
    go : (y : ℕ) → On fs y ⊎ Q y → On fs₀ y ⊎ P y
    go y (inl on) = old.only y on
    go y (inr q) = inr (f y q)

pub adds_all : {P : ℕ → Type 0} {fs₀ fs : List ℕ} → Adding P fs₀ fs → ((y : ℕ) → P y → On fs y) → Adds P fs₀ fs
adds_all a every = record { long = a.long; only = a.only; kept = a.kept; every = every }

-- ---- line by line, along the links of a state
pub record LinesTo (P : ℕ → ℕ → Type 0) (kernels : List ℕ) (lines q : ℕ) (fs₀ fs : List ℕ) (next : ℕ) : Type 0 where
  pub passed : Passed (λ (l : ℕ). (y : ℕ) → P l y → On fs y) kernels q lines next
  pub adding : Adding (OfLine P kernels lines q) fs₀ fs

module _ {P : ℕ → ℕ → Type 0} {kernels : List ℕ} {lines q : ℕ} where
  pub lines_start : (fs : List ℕ) {next : ℕ} → next ≡ last_before kernels q lines → LinesTo P kernels lines q fs fs next
  lines_start fs e = record { passed = passed_start e; adding = adding_none fs }

  pub lines_more : {fs₀ fs fs' : List ℕ} {p n : ℕ} → LinesTo P kernels lines q fs₀ fs p → (p ≡ 0 → ⊥) → Adds (P (p - 1)) fs fs'
      → n ≡ last_before kernels (state_at kernels (p - 1)) (p - 1) → LinesTo P kernels lines q fs₀ fs' n
  lines_more {p = p} h f a e =
      let low : p - 1 < lines = omega (arith, h.passed.low, above p f) in
      record {
        passed = passed_more (passed_map (λ m g y x. a.kept y (g y x)) h.passed) f a.every e;
        adding = adding_then h.adding (λ y x. record { line = p - 1; within = low; state = h.passed.here f; holds = x }) a;
      }
    where
      above : (n : ℕ) → (n ≡ 0 → ⊥) → 1 ≤ n
      above zero f = absurd (f refl)
      above (suc n) f = omega arith

  pub lines_all : {fs₀ fs : List ℕ} {p : ℕ} → LinesTo P kernels lines q fs₀ fs p → p ≡ 0 → Adds (OfLine P kernels lines q) fs₀ fs
  lines_all h e = adds_all h.adding (λ y o. passed_all h.passed e o.line o.within o.state y o.holds)
