-- What the trials of codes in a row come to.
use Prim.Native.Nat.{ℕ, zero, suc, ◌+◌, ◌≤◌, ◌<◌}
use native.Mathlib.Omega.{arith}
use native.Mathlib.Decide.{ℕ_discrete}
use mathlib.Core.Logic.{◌⊎◌, inl, inr}
use mathlib.Core.Path.{◌≡◌, refl, sym, ap, subst, ◌∙◌}
use mathlib.Core.List.{List, [], ◌∷◌}
use lib.ListN.{length}
use Rattle.language.specs.Rising.{RisingFrom}
use Rattle.language.specs.Sentence.{In, here, there}
use Rattle.language.proofs.Member.{in_cons}
use Rattle.language.proofs.Rising.{rising_below}
use Rattle.leftcorner.proofs.ReadOff.{clash}
use Rattle.expected_trial.specs.declared.Trial.{Trial}
use Rattle.expected_trial.specs.declared.Trial.TheVariants.{Fits, Misfit, Outgrown}
use Rattle.expected_trials.specs.Trials.{Tried, lacking, fitting, noted, tried}

module _ (f : ℕ → Trial) where
  -- l has the codes that fit of those from c on, as many as left, and none of these outgrows what is lent
  pub record Fitting (left c : ℕ) (l : List ℕ) : Type 0 where
    pub rising : RisingFrom c l
    pub few : length l ≤ left
    pub only : (x : ℕ) → In x l → (x < c + left) × (f x ≡ Fits)
    pub every : (x : ℕ) → c ≤ x → x < c + left → f x ≡ Fits → In x l
    pub fine : (x : ℕ) → c ≤ x → x < c + left → f x ≡ Outgrown → ⊥

  abbrev pub Sorted : ℕ → ℕ → Tried → Type 0
  Sorted left c lacking = (x : ℕ) × (c ≤ x) × (x < c + left) × (f x ≡ Outgrown)
  Sorted left c (fitting l) = Fitting left c l

  none : (c : ℕ) → Fitting zero c []
  none c = record {
    rising = tt;
    few = omega arith;
    only = λ x m. elim m [ ];
    every = λ x a b e. absurd (omega (arith, a, b));
    fine = λ x a b e. absurd (omega (arith, a, b));
  }

  module _ (left c : ℕ) {l : List ℕ} (F : Fitting left (suc c) l) where
    add_misfit : f c ≡ Misfit → Fitting (suc left) c l
    add_misfit e = record {
      rising = rising_below c (suc c) l (omega arith) F.rising;
      few = omega (arith, F.few);
      only = λ x m. let o = F.only x m in (omega (arith, o.0), o.1);
      every = λ x a b h. every x a b h (ℕ_discrete x c);
      fine = λ x a b h. fine x a b h (ℕ_discrete x c);
    }
      where
        every : (x : ℕ) → c ≤ x → x < c + suc left → f x ≡ Fits → Dec (x ≡ c) → In x l
        every x a b h (yes z) = let y = sym (ap f z) ∙ h in clash cc
        every x a b h (no z) = F.every x (omega (arith, a, z)) (omega (arith, b)) h

        fine : (x : ℕ) → c ≤ x → x < c + suc left → f x ≡ Outgrown → Dec (x ≡ c) → ⊥
        fine x a b h (yes z) = let y = sym (ap f z) ∙ h in clash cc
        fine x a b h (no z) = F.fine x (omega (arith, a, z)) (omega (arith, b)) h

    add_fits : f c ≡ Fits → Fitting (suc left) c (c ∷ l)
    add_fits e = record {
      rising = (omega arith, F.rising);
      few = omega (arith, F.few);
      only = λ x m. only x (in_cons m);
      every = λ x a b h. every x a b h (ℕ_discrete x c);
      fine = λ x a b h. fine x a b h (ℕ_discrete x c);
    }
      where
        only : (x : ℕ) → (x ≡ c) ⊎ In x l → (x < c + suc left) × (f x ≡ Fits)
        only x (inl z) = (omega (arith, z), ap f z ∙ e)
        only x (inr m) = let o = F.only x m in (omega (arith, o.0), o.1)

        every : (x : ℕ) → c ≤ x → x < c + suc left → f x ≡ Fits → Dec (x ≡ c) → In x (c ∷ l)
        every x a b h (yes z) = subst (λ (y : ℕ). In x (y ∷ l)) z here
        every x a b h (no z) = there (F.every x (omega (arith, a, z)) (omega (arith, b)) h)

        fine : (x : ℕ) → c ≤ x → x < c + suc left → f x ≡ Outgrown → Dec (x ≡ c) → ⊥
        fine x a b h (yes z) = let y = sym (ap f z) ∙ h in clash cc
        fine x a b h (no z) = F.fine x (omega (arith, a, z)) (omega (arith, b)) h

  pub sorted : (left c : ℕ) → Sorted left c (tried f left c)
  unfolding tried
  sorted zero c = none c
  sorted (suc left) c = go (f c) refl (tried f left (suc c)) (sorted left (suc c))
    where
      go : (x : Trial) → f c ≡ x → (r : Tried) → Sorted left (suc c) r → Sorted (suc left) c (noted x c r)
      go Outgrown e r s = (c, omega arith, omega arith, e)
      go Misfit e lacking s = (s.0, omega (arith, s.1), omega (arith, s.2), s.3)
      go Misfit e (fitting l) s = add_misfit left c s e
      go Fits e lacking s = (s.0, omega (arith, s.1), omega (arith, s.2), s.3)
      go Fits e (fitting l) s = add_fits left c s e
