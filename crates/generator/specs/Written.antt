-- What the expansion writes: tokens behind those in one slice, rules behind those in another, or a slice is too short for them.
use Rattle.std.specs.Prelude.{ℕ, ◌+◌, ◌≤◌, ◌<◌, ◌≡◌, ◌⊎◌, List, length}
use Rattle.language.specs.Grammar.{Grammar}
use Rattle.language.specs.Derivation.{yield}
use Rattle.language.specs.Listing.{listing}
use Rattle.items.specs.Layout.{Shaped, Holds}
use Rattle.generate_loads.specs.Load.{IsSymbol, grown}
use Rattle.generate_choices.specs.Choices.{HoldsChoices}
use Rattle.generate_steps.specs.declared.Point.{Point}
use Rattle.generate_steps.specs.declared.Step.{Step}
use Rattle.generate_steps.specs.Put.{Put}

-- tokens a and rules b stand behind those up to p, and the state is s; or they do not fit
pub data Writes (a b : List ℕ) (s : ℕ) (p : Point) (t₀ l₀ t l : List ℕ) : Step → Type 0 where
  fitting : {q : Point} → Put t₀ p.tokens a t q.tokens → Put l₀ p.rules b l q.rules → q.state ≡ s → Writes a b s p t₀ l₀ t l (Step.Fits q)
  too_long : (length t₀ < p.tokens + length a) ⊎ (length l₀ < p.rules + length b) → Writes a b s p t₀ l₀ t l Step.Full

-- what is in use lies in both slices
abbrev pub Inside : Point → List ℕ → List ℕ → Type 0
Inside p t l = (p.tokens ≤ length t) × (p.rules ≤ length l)

-- and so it does after a step that fits
abbrev pub StaysIn : List ℕ → List ℕ → Step → Type 0
StaysIn t l (Step.Fits q) = Inside q t l
StaysIn t l Step.Full = Unit {0}

-- ---- the expansion of symbol X
-- X is a symbol of a grammar that memory holds, with its choices
pub record Expandable (items choices : List ℕ) (rules X : ℕ) : Type 0 where
  pub shaped : Shaped items rules
  pub grammar : Grammar
  pub holds : Holds items rules grammar
  pub holds_choices : HoldsChoices grammar choices
  pub symbol : IsSymbol grammar X

-- what it expands to is written
abbrev pub Expands : List ℕ → List ℕ → ℕ → ℕ → ℕ → Point → (t₀ l₀ t l : List ℕ) → Step → Type 0
Expands items choices rules X d p t₀ l₀ t l r =
    (g : Grammar) → Holds items rules g → HoldsChoices g choices → IsSymbol g X
    → Writes (yield (grown g d X p.state).tree) (listing g (grown g d X p.state).tree) (grown g d X p.state).state p t₀ l₀ t l r
