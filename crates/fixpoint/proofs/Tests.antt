-- Tests put together from tests. They compute, so a definition that goes by them is an equation.
use mathlib.Core.Logic.{◌⊎◌, inl, inr}

unfoldable pub map? : {P Q : Type 0} → (P → Q) → (Q → P) → Dec P → Dec Q
map? f g (yes p) = yes (f p)
map? f g (no n) = no (λ q. n (g q))

unfoldable pub both? : {P Q : Type 0} → Dec P → Dec Q → Dec (P × Q)
both? (yes p) (yes q) = yes (p, q)
both? (yes p) (no f) = no (λ h. f h.1)
both? (no f) d = no (λ h. f h.0)

pub neither : {P Q : Type 0} → (P → ⊥) → (Q → ⊥) → P ⊎ Q → ⊥
neither f h (inl p) = f p
neither f h (inr q) = h q

unfoldable pub either? : {P Q : Type 0} → Dec P → Dec Q → Dec (P ⊎ Q)
either? (yes p) d = yes (inl p)
either? (no f) (yes q) = yes (inr q)
either? (no f) (no h) = no (neither f h)

unfoldable pub not? : {P : Type 0} → Dec P → Dec (P → ⊥)
not? (yes p) = no (λ f. f p)
not? (no f) = yes f

-- what is decided and not false is true
pub not_not : {P : Type 0} → Dec P → ((P → ⊥) → ⊥) → P
not_not (yes p) f = p
not_not (no n) f = absurd (f n)
