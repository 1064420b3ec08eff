-- Decisions put together from decisions.
use Prim.Native.Nat.{ℕ}
use native.Mathlib.Omega.{arith}
use native.Mathlib.Decide.{ℕ_discrete}
use mathlib.Core.Logic.{◌⊎◌, inl, inr}
use mathlib.Core.Path.{◌≡◌, refl, ap₂}
use mathlib.Core.List.{List, [], ◌∷◌}
use Rattle.language.specs.Sentence.{In, here, there}

-- a decision moved along an equivalence
unfoldable pub map_dec : {A B : Type 0} → (A → B) → (B → A) → Dec A → Dec B
map_dec f g (yes a) = yes (f a)
map_dec f g (no h) = no (λ b. h (g b))

pub both? : {Φ Q : Type 0} → Dec Φ → Dec Q → Dec (Φ × Q)
both? (yes p) (yes q) = yes (p, q)
both? (yes p) (no f) = no (λ h. f h.1)
both? (no f) d = no (λ h. f h.0)

neither : {Φ Q : Type 0} → (Φ → ⊥) → (Q → ⊥) → Φ ⊎ Q → ⊥
neither f h (inl p) = f p
neither f h (inr q) = h q

pub either? : {Φ Q : Type 0} → Dec Φ → Dec Q → Dec (Φ ⊎ Q)
either? (yes p) d = yes (inl p)
either? (no f) (yes q) = yes (inr q)
either? (no f) (no h) = no (neither f h)

pub implies? : {Φ Q : Type 0} → Dec Φ → Dec Q → Dec (Φ → Q)
implies? (yes p) (yes q) = yes (λ _. q)
implies? (yes p) (no f) = no (λ h. f (h p))
implies? (no f) d = yes (λ p. absurd (f p))

pub list? : (l m : List ℕ) → Dec (l ≡ m)
list? [] [] = yes refl
list? [] (y ∷ m) = no (λ e. let z : ◌≡◌ {A = ℕ} 0 1 = cc in absurd (omega arith))
list? (x ∷ l) [] = no (λ e. let z : ◌≡◌ {A = ℕ} 0 1 = cc in absurd (omega arith))
list? (x ∷ l) (y ∷ m) = go (ℕ_discrete x y) (list? l m)
  where
    go : Dec (x ≡ y) → Dec (l ≡ m) → Dec (x ∷ l ≡ y ∷ m)
    go (yes e) (yes f) = yes (ap₂ (λ (a : ℕ) (k : List ℕ). a ∷ k) e f)
    go (yes e) (no f) = no (λ h. f (let k : l ≡ m = cc in k))
    go (no f) d = no (λ h. f (let k : x ≡ y = cc in k))

module _ {A : Type 0} (Φ : A → Type 0) (test : (x : A) → Dec (Φ x)) where
  pub any? : (l : List A) → Dec ((x : A) × In x l × Φ x)
  any? [] = no (λ h. elim h.1 [ ])
  any? (x ∷ l) = go (test x) (any? l)
    where
      go : Dec (Φ x) → Dec ((y : A) × In y l × Φ y) → Dec ((y : A) × In y (x ∷ l) × Φ y)
      go (yes p) d = yes (x, here, p)
      go (no f) (yes h) = yes (h.0, there h.1, h.2)
      go (no f) (no h) = no (λ k. off k.0 k.1 k.2)
        where
          off : (y : A) → In y (x ∷ l) → Φ y → ⊥
          off y here p = f p
          off y (there m) p = h (y, m, p)

  pub all? : (l : List A) → Dec ((x : A) → In x l → Φ x)
  all? [] = yes (λ x m. elim m [ ])
  all? (x ∷ l) = go (test x) (all? l)
    where
      on : Φ x → ((y : A) → In y l → Φ y) → (y : A) → In y (x ∷ l) → Φ y
      on p h y here = p
      on p h y (there m) = h y m

      go : Dec (Φ x) → Dec ((y : A) → In y l → Φ y) → Dec ((y : A) → In y (x ∷ l) → Φ y)
      go (yes p) (yes h) = yes (on p h)
      go (yes p) (no f) = no (λ h. f (λ y m. h y (there m)))
      go (no f) d = no (λ h. f (h x here))
