-- The lowest fault, state by state.
use Prim.Native.Nat.{ℕ, zero, suc, ◌+◌, ◌≤◌, ◌<◌}
use native.Mathlib.Omega.{arith}
use native.Mathlib.Decide.{dec_lt}
use mathlib.Core.Path.{◌≡◌, refl, subst}
use mathlib.Core.Logic.{◌⊎◌, inl, inr}
use mathlib.Core.Bool.{Bool, true, false}
use mathlib.Core.List.{List}
use Rattle.language.specs.Grammar.{Grammar}
use Rattle.leftcorner.specs.Table.{Table}
use Rattle.fixpoint.specs.Flags.{On, Off, Decides}
use Rattle.check_lookaheads.specs.Narrow.{Narrows}
use Rattle.check_lookaheads.proofs.BelowLaws.{below_start, below_state}
use Rattle.check_memory.specs.Faults.{Fault, noted, StateChecked, Found}

pub fault_start : {Φ : ℕ → Type 0} → Fault Φ 1 0
fault_start = record { low = omega arith; none = λ e k a b. absurd (omega (arith, a, b)); before = λ k a b. absurd (omega (arith, b)); fails = λ a. absurd (omega (arith, a)) }

-- one state more
pub fault_more : {Φ : ℕ → Type 0} (q at : ℕ) (b : Bool) → 1 ≤ q → Decides (Φ q) b → Fault Φ q at → Fault Φ (q + 1) (noted at b q)
fault_more {Φ} q zero true one d f = record {
  low = omega arith;
  none = λ e k a l. more k a l (dec_lt k q);
  before = λ k a l. absurd (omega (arith, l));
  fails = λ a. absurd (omega (arith, a));
}
  where
    more : (k : ℕ) → 1 ≤ k → k < q + 1 → Dec (k < q) → Φ k
    more k a l (yes m) = f.none refl k a m
    more k a l (no m) = subst Φ (let e : q ≡ k = omega (arith, l, m) in e) (d.yes refl)
fault_more q zero false one d f = record {
  low = omega arith;
  none = λ e. absurd (omega (arith, e, one));
  before = λ k a l. f.none refl k a l;
  fails = λ a. d.no refl;
}
fault_more q (suc at) b one d f = record {
  low = omega (arith, f.low);
  none = λ e. absurd (omega (arith, e));
  before = f.before;
  fails = f.fails;
}

pub fault_map : {Φ Ψ : ℕ → Type 0} {n at : ℕ} → ((q : ℕ) → Φ q → Ψ q) → ((q : ℕ) → Ψ q → Φ q) → Fault Φ n at → Fault Ψ n at
fault_map {at = at} to from f = record {
  low = f.low;
  none = λ e k a l. to k (f.none e k a l);
  before = λ k a l. to k (f.before k a l);
  fails = λ a p. f.fails a (from at p);
}

noted_none : (at : ℕ) (b : Bool) (q : ℕ) → 1 ≤ q → noted at b q ≡ 0 → (at ≡ 0) × (b ≡ true)
noted_none zero true q one e = (refl, refl)
noted_none zero false q one e = absurd (omega (arith, e, one))
noted_none (suc at) b q one e = absurd (omega (arith, e))

module _ (g : Grammar) (t : Table) (F : List ℕ → ℕ → ℕ → Type 0) (kernels : List ℕ) (lines codes : ℕ) where
  pub found_start : {included : List ℕ} → ((y : ℕ) → Off included y) → Found g t F kernels lines codes 1 0 0 0 included
  found_start z = record {
    items_fault = fault_start;
    agree_fault = fault_start;
    cells_fault = λ e. fault_start;
    asked = below_start g t F kernels lines codes z;
  }

  pub found_more : {q items agree cells : ℕ} {a b c : Bool} {included₀ included : List ℕ} → 1 ≤ q → Found g t F kernels lines codes q items agree cells included₀
      → StateChecked g t F kernels lines codes q a b c included₀ included → Found g t F kernels lines codes (q + 1) (noted items a q) (noted agree b q) (noted cells c q) included
  found_more {q} {items} {agree} {cells} {a} {b} {c} one f s = record {
    items_fault = fault_more q items a one s.items_meet f.items_fault;
    agree_fault = fault_more q agree b one s.cells_agree f.agree_fault;
    cells_fault = λ e. let z = noted_none agree b q one e in fault_more q cells c one (s.cells_meet z.1) (f.cells_fault z.0);
    asked = below_state g t F kernels lines codes one f.asked s.adds;
  }

-- flags set by what is not met, and by nothing else
pub narrow_fault : {Φ : ℕ → Type 0} {none narrow : List ℕ} {n at : ℕ} → ((q : ℕ) → Off none q) → Narrows Φ none narrow → Fault (Off narrow) n at → Fault Φ n at
narrow_fault {Φ} {none} {narrow} {at = at} z w f = record {
  low = f.low;
  none = λ e k a l. w.rest k (f.none e k a l);
  before = λ k a l. w.rest k (f.before k a l);
  fails = λ a m. go m (w.narrowing.only at (record { nonzero = f.fails a }));
}
  where
    go : Φ at → On none at ⊎ (Φ at → ⊥) → ⊥
    go m (inl on) = on.nonzero (z at)
    go m (inr h) = h m
