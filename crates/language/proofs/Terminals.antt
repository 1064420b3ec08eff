-- The terminals of a derivation are terminals of the grammar, so those of a sentence are.
use Prim.Native.Nat.{ℕ}
use mathlib.Core.Path.{◌≡◌, sym, subst}
use mathlib.Core.Logic.{◌⊎◌, inl, inr}
use mathlib.Core.List.{List, [], ◌∷◌}
use Rattle.language.specs.Grammar.{Grammar, right, IsTerminal}
use Rattle.language.specs.Derivation.{Tree, leaf, node, Forest, nil, cons, yield, yields, IsTree, IsForest}
use Rattle.language.specs.Sentence.{In, Sentence}
use Rattle.language.proofs.Member.{in_cons, in_either}

module _ (g : Grammar) where
  mutual
    yield_terminals : (T : Tree) (X a : ℕ) → IsTree g T X → In a (yield T) → IsTerminal g a
    yield_terminals (leaf b) X a h i = go (in_cons i)
      where
        go : (a ≡ b) ⊎ In a [] → IsTerminal g a
        go (inl e) = subst (IsTerminal g) (sym e) h.1
        go (inr j) = elim j [ ]
    yield_terminals (node r F) X a h i = yields_terminals F (right h.0) a h.3 i

    yields_terminals : (F : Forest) (β : List ℕ) (a : ℕ) → IsForest g F β → In a (yields F) → IsTerminal g a
    yields_terminals nil β a h i = elim i [ ]
    yields_terminals (cons T F) [] a h i = absurd h
    yields_terminals (cons T F) (X ∷ β) a h i = go (in_either (yield T) i) (λ j. yield_terminals T X a h.0 j) (λ j. yields_terminals F β a h.1 j)
      where
        go : In a (yield T) ⊎ In a (yields F) → (In a (yield T) → IsTerminal g a) → (In a (yields F) → IsTerminal g a) → IsTerminal g a
        go (inl j) first rest = first j
        go (inr j) first rest = rest j

  pub sentence_terminals : {w : List ℕ} (a : ℕ) → Sentence g w → In a w → IsTerminal g a
  sentence_terminals a s i = yield_terminals s.tree g.goal a s.derives (subst (In a) (sym s.yields_it) i)
