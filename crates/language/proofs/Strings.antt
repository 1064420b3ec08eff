-- Strings of declared symbols: where they stand in a grammar, and that they derive something.
use Prim.Native.Nat.{ℕ}
use mathlib.Core.Path.{◌≡◌, refl, sym, subst}
use mathlib.Core.Logic.{◌⊎◌, inl, inr}
use mathlib.Core.List.{List, [], ◌∷◌, ◌++◌}
use mathlib.Core.Option.{some}
use Rattle.language.specs.Grammar.{Grammar, Rule, rule_at, concat, IsTerminal, IsNonterminal}
use Rattle.language.specs.Derivation.{Forest, leaf, nil, cons, IsForest}
use Rattle.language.specs.Sentence.{In, here, there, Productive, AllProductive, Declared}
use Rattle.language.proofs.Member.{in_right, in_concat, in_concat_right}

module _ (g : Grammar) where
  -- every symbol of the string is a terminal or a nonterminal of the grammar
  abbrev pub AllDeclared : List ℕ → Type 0
  AllDeclared β = (X : ℕ) → In X β → IsTerminal g X ⊎ IsNonterminal g X

  pub symbol_derives : AllProductive g → (X : ℕ) → IsTerminal g X ⊎ IsNonterminal g X → Productive g X
  symbol_derives P X (inl h) = record { tree = leaf X; derives = (refl, h) }
  symbol_derives P X (inr h) = P X h

  pub string_derives : AllProductive g → (β : List ℕ) → AllDeclared β → (F : Forest) × IsForest g F β
  string_derives P [] h = (nil, tt)
  string_derives P (X ∷ β) h =
      let x = symbol_derives P X (h X here) in
      let f = string_derives P β (λ Y m. h Y (there m)) in
      (cons x.tree f.0, (x.derives, f.1))

  module _ (D : Declared g) where
    pub goal_declared : AllDeclared (g.goal ∷ [])
    goal_declared X here = inr D.goal_kind
    goal_declared X (there m) = elim m [ ]

    pub groups_declared : (i : ℕ) (r : Rule) → rule_at g i ≡ some r → AllDeclared (concat r.groups)
    groups_declared i r e X m = D.right_kind i r X e (in_right r.before m)

    pub group_declared : (i : ℕ) (r : Rule) (γ : List ℕ) → rule_at g i ≡ some r → In γ r.groups → AllDeclared γ
    group_declared i r γ e n X m = groups_declared i r e X (in_concat n m)

    pub later_declared : (i : ℕ) (r : Rule) (δs : List (List ℕ)) (γ : List ℕ) (εs : List (List ℕ)) → rule_at g i ≡ some r → r.groups ≡ δs ++ γ ∷ εs
        → AllDeclared (concat εs)
    later_declared i r δs γ εs e p X m = groups_declared i r e X (subst (λ (l : List (List ℕ)). In X (concat l)) (sym p) (in_concat_right δs (γ ∷ εs) (in_right γ m)))
