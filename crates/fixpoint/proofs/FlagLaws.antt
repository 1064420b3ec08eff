-- Flags set one after the other, where a test says so.
use Prim.Native.Nat.{ℕ, ◌+◌, ◌≤◌, ◌<◌}
use mathlib.Core.Path.{◌≡◌, sym, ap, subst, subst₂, ◌∙◌}
use mathlib.Core.List.{List}
use lib.ListN.{length, set, replicate, length-set, length-replicate}
use Rattle.fixpoint.specs.Flags.{On, Marks}
use Rattle.fixpoint.proofs.CountLaws.{on_set, only_set, keep_set}
use Rattle.fixpoint.proofs.PassLaws.{all_off, no_gap, from_more}

-- the flags of Q from `low` on and below i are set, and none but those of Q
pub record Flagged (n : ℕ) (Q : ℕ → Type 0) (low i : ℕ) (fs : List ℕ) : Type 0 where
  pub long : length fs ≡ n
  pub only : (y : ℕ) → On fs y → Q y
  pub every : (y : ℕ) → low ≤ y → y < i → Q y → On fs y

module _ {n : ℕ} {Q : ℕ → Type 0} {low : ℕ} where
  pub flag_start : {fs : List ℕ} → fs ≡ replicate n 0 → Flagged n Q low low fs
  flag_start e = record { long = ap length e ∙ length-replicate {A = ℕ} n 0; only = λ y on. all_off n e on; every = λ y l m q. absurd (no_gap l m) }

  pub flag_set : {fs fs' : List ℕ} {i j : ℕ} → fs' ≡ set fs i 1 → j ≡ i + 1 → Flagged n Q low i fs → i < n → Q i → Flagged n Q low j fs'
  flag_set {fs} {fs'} {i} e ej f l q =
      let l' = subst (λ (k : ℕ). i < k) (sym f.long) l in
      subst₂ (Flagged n Q low) (sym ej) (sym e)
      (record {
        long = length-set fs i 1 ∙ f.long;
        only = only_set Q fs i f.only q;
        every = from_more (λ y. Q y → On (set fs i 1) y) low i (λ y a b p. keep_set fs i l' y (f.every y a b p)) (λ p. on_set fs i l');
      })

  pub flag_skip : {fs fs' : List ℕ} {i j : ℕ} → fs' ≡ fs → j ≡ i + 1 → Flagged n Q low i fs → (Q i → ⊥) → Flagged n Q low j fs'
  flag_skip {fs} {fs'} {i} e ej f none =
      subst₂ (Flagged n Q low) (sym ej) (sym e)
      (record { long = f.long; only = f.only; every = from_more (λ y. Q y → On fs y) low i f.every (λ p. absurd (none p)) })

  pub flag_at : {fs : List ℕ} {i j : ℕ} → i ≡ j → Flagged n Q low i fs → Flagged n Q low j fs
  flag_at {fs} e f = subst (λ (k : ℕ). Flagged n Q low k fs) e f

  -- all numbers of Q lie in the range
  pub flag_end : {fs : List ℕ} {i : ℕ} → Flagged n Q low i fs → ((y : ℕ) → Q y → (low ≤ y) × (y < i)) → Marks Q fs
  flag_end f within = record { only = f.only; every = λ y q. f.every y (within y q).0 (within y q).1 q }
