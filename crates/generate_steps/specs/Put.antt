-- What a step writes: tokens or rules behind those in a slice, or the slice is too short for them.
use Rattle.std.specs.Prelude.{ℕ, ◌+◌, ◌≤◌, ◌<◌, ◌≡◌, cond, List, [], ◌∷◌, length, eqb}
use Rattle.std.proofs.lemmas.List.Edits.{sets}
use Rattle.generate_steps.specs.declared.Point.{Point}
use Rattle.generate_steps.specs.declared.Step.{Step}

-- slice l, of which i elements are in use, holds a behind them and is m, with j in use
pub record Put (l : List ℕ) (i : ℕ) (a m : List ℕ) (j : ℕ) : Type 0 where
  pub slice_is : m ≡ sets l i a
  pub next_is : j ≡ i + length a
  pub room : j ≤ length l

-- token list a stands behind the tokens up to p, or does not fit; the same for rules b
abbrev pub PutsToken : List ℕ → Point → List ℕ → List ℕ → Step → Type 0
PutsToken a p t₀ t (Step.Fits q) = Put t₀ p.tokens a t q.tokens × (q.rules ≡ p.rules) × (q.state ≡ p.state)
PutsToken a p t₀ t Step.Full = length t₀ < p.tokens + length a

abbrev pub PutsRule : List ℕ → Point → List ℕ → List ℕ → Step → Type 0
PutsRule b p l₀ l (Step.Fits q) = Put l₀ p.rules b l q.rules × (q.tokens ≡ p.tokens) × (q.state ≡ p.state)
PutsRule b p l₀ l Step.Full = length l₀ < p.rules + length b

-- the rule itself is listed where the subtrees left of its mark are done
abbrev pub at_mark : ℕ → ℕ → ℕ → List ℕ
at_mark i k mark = cond (eqb k mark) (i ∷ []) []
