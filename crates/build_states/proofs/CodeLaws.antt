-- The codes that first gives: that which is asked, and terminals; a first that gives more.
use Prim.Native.Nat.{ℕ, ◌≤◌}
use native.Mathlib.Omega.{arith}
use mathlib.Core.Path.{◌≡◌}
use mathlib.Core.Logic.{◌⊎◌, inl, inr}
use mathlib.Core.List.{List}
use Rattle.language.specs.Grammar.{Grammar, concat}
use Rattle.language.specs.Sentence.{In}
use Rattle.analysis.specs.ByRules.{FirstByRules}
use Rattle.analysis.proofs.RuleSets.{starts_terminal}
use Rattle.build_states.specs.Lookaheads.{terminal_codes, Lookahead, of_goal, of_closure, of_move, of_group}
use Rattle.build_states.proofs.Lists.{in_range, range_in}

module _ (g : Grammar) where
  pub first_in : (β : List ℕ) (d c : ℕ) → FirstByRules g β d c → (c ≡ d) ⊎ In c (terminal_codes g)
  first_in β d c (inl h) = let w = starts_terminal g β c h in inr (in_range 1 g.terminals c w.0 (omega (arith, w.1)))
  first_in β d c (inr h) = inl h.1

  pub codes_low : (c : ℕ) → In c (terminal_codes g) → c ≤ g.terminals
  codes_low c m = let r = range_in 1 g.terminals c m in omega (arith, r.1)

  -- a first that says more gives more
  module _ (F G : List ℕ → ℕ → ℕ → Type 0) (up : (β : List ℕ) (d c : ℕ) → F β d c → G β d c) where
    pub look_over : {q i k d : ℕ} → Lookahead g F q i k d → Lookahead g G q i k d
    look_over of_goal = of_goal
    look_over (of_closure {d = d} j {c = c} {β = β} h go e l f) = of_closure j (look_over h) go e l (up β d c f)
    look_over (of_move h go) = of_move (look_over h) go
    look_over (of_group {d = d} {c = c} i δs γ εs e h p f) = of_group i δs γ εs e (look_over h) p (up (concat εs) d c f)
