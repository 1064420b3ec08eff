-- The builder's lookaheads: the smallest that satisfy the inclusions of the construction.
use Rattle.std.specs.Prelude.{ℕ, zero, suc, ◌≡◌, List, [], ◌∷◌, ◌++◌, length}
use Rattle.std.proofs.Math.Option.{some}
use Rattle.language.specs.Grammar.{Grammar, Rule, rule_at, concat}
use Rattle.leftcorner.specs.Table.{Table, entry_from, Goes}
use Rattle.leftcorner.specs.Construction.{entry_item}
use Rattle.build_states.specs.States.{range, alone, goto}

module _ (g : Grammar) where
  -- the codes that first can give of itself
  abbrev pub terminal_codes : List ℕ
  terminal_codes = range 1 g.terminals

  -- the entries, for what items mean
  abbrev pub bare : Table
  bare = alone g []

  abbrev pub entry_of : List ℕ → ℕ
  entry_of γ = entry_from 1 bare.entries γ

  module _ (F : List ℕ → ℕ → ℕ → Type 0) where
    -- code d stands in the context of item i, dot k, in state q
    pub data Lookahead : ℕ → ℕ → ℕ → ℕ → Type 0 where
      of_goal : Lookahead 1 (entry_item g bare 1) zero zero
      of_closure : {q i k d X : ℕ} (j : ℕ) {c : ℕ} {β : List ℕ} {r : Rule} → Lookahead q i k d → Goes g bare i k X β → rule_at g j ≡ some r → r.left ≡ X
          → F β d c → Lookahead q j zero c
      of_move : {q i k d X : ℕ} {β : List ℕ} → Lookahead q i k d → Goes g bare i k X β → Lookahead (goto g q X) i (suc k) d
      of_group : {q d c : ℕ} (i : ℕ) {r : Rule} (δs : List (List ℕ)) (γ : List ℕ) (εs : List (List ℕ)) → rule_at g i ≡ some r → Lookahead q i (length r.before) d
          → r.groups ≡ δs ++ γ ∷ εs → F (concat εs) d c → Lookahead (entry_of γ) (entry_item g bare (entry_of γ)) zero c
