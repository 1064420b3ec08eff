-- Passes over the states, state by state and flag by flag.
use Prim.Native.Nat.{ℕ, ◌+◌, ◌/◌, ◌≤◌, ◌<◌}
use mathlib.Core.Path.{◌≡◌, sym, subst, subst₂, ◌∙◌}
use mathlib.Core.Logic.{◌⊎◌, inl, inr}
use mathlib.Core.List.{List}
use native.Mathlib.Omega.{arith}
use borrow.Author.Count.{below_more}
use lib.ListN.{length, set, length-set}
use Rattle.fixpoint.specs.Flags.{On, Off}
use Rattle.fixpoint.proofs.CountLaws.{zeros-set, on_set, only_set, keep_set}
use Rattle.fixpoint.proofs.PassLaws.{from_more}
use Rattle.memory.specs.Memory.{state_at}
use Rattle.inclusions.specs.Asks.{StateAsks}
use Rattle.build_lookaheads.specs.Passes.{StateAdds, SomeAsks, StateMet, StatesAdd, Merges}

-- ---- state by state
module _ {items kernels lookaheads kinds values gotos entries uses nul fst : List ℕ} {rules lines codes : ℕ} {changed : List ℕ} {all : ℕ} where
  -- a state that is not flagged
  pub states_skip : {fs₀ fs : List ℕ} {p n : ℕ} → StatesAdd items kernels lookaheads kinds values gotos entries uses nul fst rules lines codes changed all p fs₀ fs → Off changed p → n ≡ p + 1
      → StatesAdd items kernels lookaheads kinds values gotos entries uses nul fst rules lines codes changed all n fs₀ fs
  states_skip {fs₀} {fs} {p} h off e =
      subst (λ (k : ℕ). StatesAdd items kernels lookaheads kinds values gotos entries uses nul fst rules lines codes changed all k fs₀ fs) (sym e)
      (record { long = h.long; only = h.only; kept = h.kept; met = from_more _ 1 p h.met (λ on. absurd (on.nonzero off)) })

  pub states_more : {fs₀ fs fs' : List ℕ} {p n : ℕ} → StatesAdd items kernels lookaheads kinds values gotos entries uses nul fst rules lines codes changed all p fs₀ fs → 1 ≤ p → p ≤ all
      → n ≡ p + 1 → StateAdds items kernels lookaheads kinds values gotos entries uses nul fst rules lines codes p fs fs'
      → StatesAdd items kernels lookaheads kinds values gotos entries uses nul fst rules lines codes changed all n fs₀ fs'
  states_more {fs₀} {fs} {fs'} {p} h low high e a =
      subst (λ (k : ℕ). StatesAdd items kernels lookaheads kinds values gotos entries uses nul fst rules lines codes changed all k fs₀ fs') (sym e)
      (record {
        long = a.adds.long ∙ h.long;
        only = λ y on. go y (a.adds.only y on);
        kept = λ y on. a.adds.kept y (h.kept y on);
        met = from_more (λ (q : ℕ). On changed q → StateMet items kernels lookaheads kinds values gotos entries uses nul fst rules lines codes fs' q) 1 p
            (λ q u v on. still q (h.met q u v on)) (λ on. record { present = a.present; follow = a.follow; closure = a.closure; every = a.adds.every });
      })
    where
      go : (y : ℕ) → On fs y ⊎ StateAsks items kernels lookaheads kinds values gotos entries uses nul fst a.present a.follow rules lines codes p y
          → On fs₀ y ⊎ SomeAsks items kernels lookaheads kinds values gotos entries uses nul fst rules lines codes all y
      go y (inl on) = h.only y on
      go y (inr x) = inr (record { state = p; above = low; below = high; present = a.present; follow = a.follow; closure = a.closure; asks = x })

      still : (q : ℕ) → StateMet items kernels lookaheads kinds values gotos entries uses nul fst rules lines codes fs q
          → StateMet items kernels lookaheads kinds values gotos entries uses nul fst rules lines codes fs' q
      still q m = record { present = m.present; follow = m.follow; closure = m.closure; every = λ y x. a.adds.kept y (m.every y x) }

-- ---- flag by flag: those below y are done
pub record Merging (kernels from fs₀ fs changed₀ changed : List ℕ) (added y : ℕ) : Type 0 where
  pub merges : Merges kernels from y fs₀ fs changed added
  pub noted_long : length changed ≡ length changed₀
  pub few : added ≤ y

module _ {kernels from : List ℕ} where
  -- nothing to add
  pub merging_skip : {fs₀ fs changed₀ changed : List ℕ} {added y : ℕ} → Merging kernels from fs₀ fs changed₀ changed added y → (On from y → On fs y)
      → Merging kernels from fs₀ fs changed₀ changed added (y + 1)
  merging_skip {y = y} h f = let m = h.merges in
      record {
        merges = record { long = m.long; only = m.only; kept = m.kept; every = below_more _ y m.every f; noted = m.noted; count = m.count; still = m.still };
        noted_long = h.noted_long;
        few = omega (arith, h.few);
      }

  pub merging_add : {fs₀ fs fs' changed₀ changed changed' : List ℕ} {added y s : ℕ} → Merging kernels from fs₀ fs changed₀ changed added y → On from y → Off fs y → y < length fs
      → s ≡ state_at kernels (y / 64) → s < length changed → fs' ≡ set fs y 1 → changed' ≡ set changed s 1 → Merging kernels from fs₀ fs' changed₀ changed' (added + 1) (y + 1)
  merging_add {fs₀} {fs} {fs'} {changed₀} {changed} {changed'} {added} {y} {s} h on off low es ls ef ec =
      subst₂ (λ (xs zs : List ℕ). Merging kernels from fs₀ xs changed₀ zs (added + 1) (y + 1)) (sym ef) (sym ec)
      (record {
        merges = record {
          long = length-set fs y 1 ∙ m.long;
          only = only_set (λ (x : ℕ). On fs₀ x ⊎ On from x) fs y m.only (inr on);
          kept = λ x o. keep_set fs y low x (m.kept x o);
          every = below_more _ y (λ x l o. keep_set fs y low x (m.every x l o)) (λ o. on_set fs y low);
          noted = only_set (λ (x : ℕ). On fs₀ x ⊎ On (set changed s 1) (state_at kernels (x / 64))) fs y (λ x o. later x (m.noted x o))
              (inr (subst (On (set changed s 1)) es (on_set changed s ls)));
          count = omega (arith, zeros-set fs y low off, m.count);
          still = λ e. absurd (omega (arith, e));
        };
        noted_long = length-set changed s 1 ∙ h.noted_long;
        few = omega (arith, h.few);
      })
    where
      m : Merges kernels from y fs₀ fs changed added
      m = h.merges

      later : (x : ℕ) → On fs₀ x ⊎ On changed (state_at kernels (x / 64)) → On fs₀ x ⊎ On (set changed s 1) (state_at kernels (x / 64))
      later x (inl o) = inl o
      later x (inr o) = inr (keep_set changed s ls (state_at kernels (x / 64)) o)
