-- The walk with lent lengths from any position, with no bound on its steps in sight.
use Rattle.std.specs.Prelude.{ℕ, suc, ◌+◌, ◌*◌, List, length}
use Rattle.language.specs.Grammar.{Grammar}
use Rattle.leftcorner.specs.Machine.{Automaton, Verdict, walk_for}

module _ (g : Grammar) (m : Automaton) (n k : ℕ) where
  -- no more steps can be made from stack S with w to come: each announce takes a place of the listing and each shift a token, and between
  -- two of these at most n states are popped
  abbrev pub steps_from : List ℕ → List ℕ → ℕ
  steps_from S w = (k + length w) * suc n + length S

  -- from stack S, with w to come, p tokens taken and l announced
  unfoldable pub resume : List ℕ → List ℕ → ℕ → List ℕ → Verdict
  resume S w p l = walk_for g m n k (suc (steps_from S w)) S w p l
