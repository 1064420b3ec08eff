-- First sets by what begins a rest, and what follows where that can be empty.
use Prim.Native.Nat.{ℕ, ◌+◌}
use mathlib.Core.Path.{◌≡◌, sym, subst, ◌∙◌}
use mathlib.Core.Logic.{◌⊎◌, inl, inr}
use mathlib.Core.Bool.{Bool, true}
use mathlib.Core.List.{List}
use native.Mathlib.Omega.{arith}
use Rattle.fixpoint.specs.Flags.{On}
use Rattle.analysis.specs.FirstBy.{FirstBy, BeginsAt}
use Rattle.analysis.specs.Rests.{rest_at}
use Rattle.analysis.specs.Adds.{Adds, InRow, AnyIn, RestFirst}
use Rattle.item_first.specs.Rows.{FirstsAt}

-- a row from 0 on
pub at_zero : (c : ℕ) → 0 + c ≡ c
at_zero c = omega arith

module _ {items : List ℕ} {codes : ℕ} {nul fst from : List ℕ} {start i k : ℕ} {fs₀ fs : List ℕ} {b : Bool} (a : AnyIn from start codes) (r : RestFirst codes nul fst (rest_at items i k) 0 fs₀ fs b) where
  begun : (c : ℕ) → On fs₀ c ⊎ BeginsAt codes nul fst (rest_at items i k) 0 c → On fs₀ c ⊎ FirstsAt items codes nul fst from start i k c
  begun c (inl on) = inl on
  begun c (inr q) = inr (record { code = a.code; low = a.low; on = a.on; first = subst (FirstBy codes nul fst (rest_at items i k) a.code) (sym (q.is ∙ at_zero q.code)) (q.first a.code) })

  pub firsts_all : {fs' : List ℕ} → b ≡ true → Adds (InRow from start codes 0) fs fs' → Adds (FirstsAt items codes nul fst from start i k) fs₀ fs'
  firsts_all {fs'} t w = record {
    long = w.long ∙ r.long;
    only = λ c on. late c (w.only c on);
    kept = λ c on. w.kept c (r.kept c on);
    every = λ c p. set_on c p (r.every p.code c p.first);
  }
    where
      late : (c : ℕ) → On fs c ⊎ InRow from start codes 0 c → On fs₀ c ⊎ FirstsAt items codes nul fst from start i k c
      late c (inl on) = begun c (r.only c on)
      late c (inr q) = inr (record { code = q.code; low = q.low; on = q.on; first = subst (FirstBy codes nul fst (rest_at items i k) q.code) (sym (q.is ∙ at_zero q.code)) (r.through t q.code) })

      set_on : (c : ℕ) (p : FirstsAt items codes nul fst from start i k c) → On fs (0 + c) ⊎ ((b ≡ true) × (c ≡ p.code)) → On fs' c
      set_on c p (inl on) = w.kept c (subst (On fs) (at_zero c) on)
      set_on c p (inr q) = w.every c (record { code = p.code; low = p.low; on = p.on; is = q.1 ∙ sym (at_zero p.code) })
