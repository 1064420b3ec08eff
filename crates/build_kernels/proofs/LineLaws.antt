-- Kernel lines, written one by one and set by set.
use Prim.Native.Nat.{ℕ, ◌+◌, ◌≤◌, ◌<◌}
use native.Mathlib.Decide.{ℕ_discrete}
use native.Mathlib.Omega.{arith}
use mathlib.Core.Path.{◌≡◌, sym, subst}
use mathlib.Core.List.{List}
use lib.ListN.{get_or}
use Rattle.build_kernel_sets.specs.Sets.{Bounds}
use Rattle.build_kernels.specs.Lines.{LineOf, WritesLine, WritesSet, LinesOf}
use Rattle.build_kernel_sets.proofs.SetLaws.{start_rise}

-- ---- the lines of one set

module _ (sets : List ℕ) (a q : ℕ) where
  pub set_more : {kernels₀ kernels kernels' : List ℕ} {l : ℕ} → WritesSet sets kernels₀ kernels a l q → a ≤ l → WritesLine kernels kernels' l q (get_or sets l 0)
      → WritesSet sets kernels₀ kernels' a (l + 1) q
  set_more {kernels₀} {kernels} {kernels'} {l} W low L =
      record { here = λ m lo hi. go m lo hi (ℕ_discrete m l); before = λ m p y h c. L.other m p y (λ e. omega (arith, e, h, low)) (W.before m p y h c) }
    where
      go : (m : ℕ) → a ≤ m → m < l + 1 → Dec (m ≡ l) → LineOf kernels' m q (get_or sets m 0)
      go m lo hi (yes e) = subst (λ (n : ℕ). LineOf kernels' n q (get_or sets n 0)) (sym e) L.here
      go m lo hi (no f) = L.other m q (get_or sets m 0) f (W.here m lo (omega (arith, hi, f)))

-- ---- set by set

module _ (sets starts : List ℕ) where
  pub lines_more : {states lines p : ℕ} {kernels kernels' : List ℕ} → Bounds sets starts states lines → p < states → LinesOf sets starts p kernels
      → WritesSet sets kernels kernels' (get_or starts p 0) (get_or starts (p + 1) 0) (p + 1) → LinesOf sets starts (p + 1) kernels'
  lines_more {p = p} {kernels} {kernels'} B lp L W = record { line = λ n l h lo hi. go n l h lo hi (ℕ_discrete n p) }
    where
      go : (n l : ℕ) → n < p + 1 → get_or starts n 0 ≤ l → l < get_or starts (n + 1) 0 → Dec (n ≡ p) → LineOf kernels' l (n + 1) (get_or sets l 0)
      go n l h lo hi (yes e) =
          let lo' : get_or starts p 0 ≤ l = subst (λ (k : ℕ). get_or starts k 0 ≤ l) e lo in
          let hi' : l < get_or starts (p + 1) 0 = subst (λ (k : ℕ). l < get_or starts (k + 1) 0) e hi in
          subst (λ (k : ℕ). LineOf kernels' l (k + 1) (get_or sets l 0)) (sym e) (W.here l lo' hi')
      go n l h lo hi (no f) =
          let before : n < p = omega (arith, h, f) in
          W.before l (n + 1) (get_or sets l 0) (omega (arith, hi, start_rise B (n + 1) p (omega (arith, before)) (omega (arith, lp)))) (L.line n l before lo hi)

  pub lines_all : {p states : ℕ} {kernels : List ℕ} → p ≤ states → states ≤ p → LinesOf sets starts p kernels → LinesOf sets starts states kernels
  lines_all lo hi L = record { line = λ n l h. L.line n l (omega (arith, h, hi)) }
