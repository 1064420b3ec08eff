-- A least family whose steps have one premise each, within a list: the list of its members, found by steps until none is new.
use Prim.Native.Nat.{ℕ, zero, suc, ◌≤◌}
use native.Mathlib.Omega.{arith}
use mathlib.Core.Logic.{◌⊎◌, inl, inr}
use mathlib.Core.Path.{◌≡◌, subst}
use mathlib.Core.List.{List, [], ◌∷◌}
use lib.ListN.{length}
use Rattle.language.specs.Sentence.{In, here, there}
use Rattle.language.proofs.Member.{without, without-length, in_without}
use Rattle.check_verdict.proofs.Tests.{either?, any?}

module _ {A : Type 0} (Seed : A → Type 0) (Step : A → A → Type 0) where
  pub data Reach : A → Type 0 where
    seed : {a : A} → Seed a → Reach a
    step : {a b : A} → Reach a → Step a b → Reach b

  pub record Members : Type 0 where
    pub list : List A
    pub only : (a : A) → In a list → Reach a
    pub every : (a : A) → Reach a → In a list

  module _ (seed? : (a : A) → Dec (Seed a)) (step? : (a b : A) → Dec (Step a b)) (all : List A) (inside : (a : A) → Reach a → In a all) where
    abbrev Fires : List A → A → Type 0
    Fires done x = Seed x ⊎ ((y : A) × In y done × Step y x)

    fires? : (done : List A) (x : A) → Dec (Fires done x)
    fires? done x = either? (seed? x) (any? (λ (y : A). Step y x) (λ y. step? y x) done)

    closed : (done todo : List A) → ((a : A) → In a all → In a done ⊎ In a todo) → ((x : A) × In x todo × Fires done x → ⊥) → (a : A) → Reach a → In a done
    closed done todo cover none a (seed s) = go (cover a (inside a (seed s)))
      where
        go : In a done ⊎ In a todo → In a done
        go (inl m) = m
        go (inr m) = absurd (none (a, m, inl s))
    closed done todo cover none a (step {a = b} r s) = go (cover a (inside a (step r s))) (closed done todo cover none b r)
      where
        go : In a done ⊎ In a todo → In b done → In a done
        go (inl m) n = m
        go (inr m) n = absurd (none (a, m, inr (b, n, s)))

    fired : (done : List A) → ((a : A) → In a done → Reach a) → (x : A) → Fires done x → Reach x
    fired done only x (inl s) = seed s
    fired done only x (inr h) = step (only h.0 h.1) h.2

    more_only : (done : List A) (x : A) → ((a : A) → In a done → Reach a) → Reach x → (a : A) → In a (x ∷ done) → Reach a
    more_only done x only r a here = r
    more_only done x only r a (there m) = only a m

    more_cover : (done todo : List A) (x : A) (m : In x todo) → ((a : A) → In a all → In a done ⊎ In a todo) → (a : A) → In a all → In a (x ∷ done) ⊎ In a (without m)
    more_cover done todo x m cover a n = go (cover a n)
      where
        late : (a ≡ x) ⊎ In a (without m) → In a (x ∷ done) ⊎ In a (without m)
        late (inl e) = inl (subst (λ (w : A). In a (w ∷ done)) e here)
        late (inr k) = inr k

        go : In a done ⊎ In a todo → In a (x ∷ done) ⊎ In a (without m)
        go (inl k) = inl (there k)
        go (inr k) = late (in_without m k)

    grow : (n : ℕ) (done todo : List A) → length todo ≤ n → ((a : A) → In a done → Reach a) → ((a : A) → In a all → In a done ⊎ In a todo)
        → Dec ((x : A) × In x todo × Fires done x) → Members
    grow zero done todo l only cover (no f) = record { list = done; only = only; every = closed done todo cover f }
    grow (suc n) done todo l only cover (no f) = record { list = done; only = only; every = closed done todo cover f }
    grow zero done todo l only cover (yes h) = absurd (omega (arith, l, without-length h.1))
    grow (suc n) done todo l only cover (yes h) =
        grow n (h.0 ∷ done) (without h.1) (omega (arith, l, without-length h.1)) (more_only done h.0 only (fired done only h.0 h.2))
        (more_cover done todo h.0 h.1 cover) (any? (Fires (h.0 ∷ done)) (fires? (h.0 ∷ done)) (without h.1))

    pub members : Members
    members = grow (length all) [] all (omega arith) (λ a m. elim m [ ]) (λ a m. inr m) (any? (Fires []) (fires? []) all)
