-- How many flags are set: what a pass adds is counted.
use Prim.Native.Nat.{ℕ, zero, suc, ◌+◌, ◌≤◌, ◌<◌, zero-le, suc-le-suc}
use mathlib.Core.Path.{◌≡◌, sym, subst, ◌∙◌}
use mathlib.Core.List.{List, [], ◌∷◌}
use native.Mathlib.Nat.{not-suc-le-zero, le_of_suc-le-suc}
use native.Mathlib.Decide.{ℕ_discrete}
use native.Mathlib.Omega.{arith}
use lib.ListN.{length, set}
use lib.Seq.{get_or-set_same, get_or-set_other}
use Rattle.fixpoint.specs.Flags.{On, Off}
use Rattle.fixpoint.specs.Pass.{zeros}

pub zeros-set : (fs : List ℕ) (x : ℕ) → x < length fs → Off fs x → zeros (set fs x 1) + 1 ≡ zeros fs
zeros-set [] x l e = absurd (not-suc-le-zero l)
zeros-set (zero ∷ fs) zero l e = omega arith
zeros-set (suc n ∷ fs) zero l e = omega arith
zeros-set (zero ∷ fs) (suc x) l e = let h : zeros (set fs x 1) + 1 ≡ zeros fs = zeros-set fs x (le_of_suc-le-suc l) e in omega arith
zeros-set (suc n ∷ fs) (suc x) l e = zeros-set fs x (le_of_suc-le-suc l) e

pub zeros_le : (fs : List ℕ) → zeros fs ≤ length fs
zeros_le [] = zero-le
zeros_le (zero ∷ fs) = suc-le-suc (zeros_le fs)
zeros_le (suc n ∷ fs) = let h : zeros fs ≤ length fs = zeros_le fs in omega arith

-- a flag that is set anew, and the others
pub on_set : (fs : List ℕ) (x : ℕ) → x < length fs → On (set fs x 1) x
on_set fs x l = record { nonzero = λ z. omega (arith, z, get_or-set_same fs x 1 0 l) }

pub only_set : (P : ℕ → Type 0) (fs : List ℕ) (x : ℕ) → ((y : ℕ) → On fs y → P y) → P x → (y : ℕ) → On (set fs x 1) y → P y
only_set P fs x all here y on = go (ℕ_discrete y x)
  where
    go : Dec (y ≡ x) → P y
    go (yes e) = subst P (sym e) here
    go (no n) = all y (record { nonzero = λ z. on.nonzero (get_or-set_other fs x y 1 0 n ∙ z) })

pub keep_set : (fs : List ℕ) (x : ℕ) → x < length fs → (y : ℕ) → On fs y → On (set fs x 1) y
keep_set fs x l y on = go (ℕ_discrete y x)
  where
    go : Dec (y ≡ x) → On (set fs x 1) y
    go (yes e) = subst (On (set fs x 1)) (sym e) (on_set fs x l)
    go (no n) = record { nonzero = λ z. on.nonzero (sym (get_or-set_other fs x y 1 0 n) ∙ z) }
