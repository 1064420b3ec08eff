-- "The first rule of least derivation height" is one: `derives_within` says what heights derivations have, both ways.
use Prim.Native.Nat.{ℕ, zero, suc, ◌-◌, ◌≤◌, ◌<◌, max}
use mathlib.Core.Path.{◌≡◌, sym, ap, subst, ◌∙◌}
use mathlib.Core.Logic.{inr}
use mathlib.Core.Bool.{Bool, true, false, cond}
use mathlib.Core.List.{List, [], ◌∷◌}
use mathlib.Core.Option.{Option}
use native.Mathlib.Omega.{arith}
use native.Mathlib.Decide.{dec_le}
use Rattle.language.specs.Grammar.{Grammar, Rule, right, IsNonterminal}
use Rattle.language.specs.Derivation.{Tree, Forest, leaf, node, nil, cons, IsTree, IsForest}
use Rattle.language.specs.Sentence.{In, here, there, AllProductive}
use Rattle.language.specs.WellFormed.{WellFormed}
use Rattle.language.specs.Tests.{all}
use Rattle.language.proofs.Forests.{All, tree_ind, all_ind}
use Rattle.symbol.specs.Symbol.{is_terminal}
use Rattle.symbol.proofs.KindLaws.{terminal_is}
use Rattle.generate_loads.specs.Load.{right_in, right_of, IsSymbol, derives_within, height_of, shortest, choice, Grown, grow_all, node_over, grow, grown}
use Rattle.generate_loads.specs.Lowest.{height, heights, FirstLowest}
use Rattle.generate_loads.proofs.RuleLaws.{in_all, in_rules, first_least}
use Rattle.generate_loads.proofs.HeightLaws.{within_terminal, within_le, within_rule, height_is}
use Rattle.generate_loads.proofs.GrownLaws.{grown_least, grown_tree, grown_node}

module _ (g : Grammar) where
  -- every derivation is within its height
  Within : Tree → Type 0
  Within T = (X : ℕ) → IsTree g T X → derives_within g (height T) X ≡ true

  all_within : (F : Forest) → All Within F → (β : List ℕ) → IsForest g F β → (a : ℕ) → In a β → derives_within g (heights F) a ≡ true
  unfolding Within
  all_within nil h [] f a m = elim m [ ]
  all_within nil h (X ∷ β) f a m = absurd f
  all_within (cons T F) h [] f a m = absurd f
  all_within (cons T F) h (X ∷ β) f a here = within_le g (height T) (max (height T) (heights F)) X (omega arith) (h.0 X f.0)
  all_within (cons T F) h (X ∷ β) f a (there m) = within_le g (heights F) (max (height T) (heights F)) a (omega arith) (all_within F h.1 β f.1 a m)

  on_leaf : (a : ℕ) → Within (leaf a)
  unfolding Within
  on_leaf a X h = subst (λ (Y : ℕ). derives_within g 0 Y ≡ true) h.0 (within_terminal g 0 a (terminal_is g a h.1))

  on_node : (i : ℕ) (F : Forest) → All Within F → Within (node i F)
  unfolding Within
  on_node i F all X h = subst (λ (Y : ℕ). derives_within g (suc (heights F)) Y ≡ true) h.2 (within_rule g (heights F) i h.1 (all_within F all (right h.0) h.3))

  -- no derivation is lower
  least : WellFormed g → AllProductive g → (X : ℕ) → IsSymbol g X → (T : Tree) → IsTree g T X → height_of g X ≤ height T
  unfolding Within
  least w p X d T h = (height_is g w p X d).0.least (height T) (tree_ind Within on_leaf on_node T X h)

  -- what grows is no higher than the bound it is given
  forest_low : (f : ℕ → ℕ → Grown) (h : ℕ) → ((X s : ℕ) → height (f X s).tree ≤ h) → (β : List ℕ) (s : ℕ) → heights (grow_all f β s).forest ≤ h
  forest_low f h l [] s = omega arith
  forest_low f h l (X ∷ β) s = omega (arith, l X s, forest_low f h l β (f X s).state)

  grow_low : (f d X s : ℕ) → height (grow g f d X s).tree ≤ f
  unfolding grow
  grow_low zero d X s = omega arith
  grow_low (suc f) d X s =
      go (is_terminal g.terminals X) (forest_low (grow g f (d - 1)) f (λ Y t. grow_low f (d - 1) Y t) (right_of g (choice g d X s).rule) (choice g d X s).state)
    where
      F : Forest
      F = (grow_all (grow g f (d - 1)) (right_of g (choice g d X s).rule) (choice g d X s).state).forest

      go : (b : Bool) → heights F ≤ f
          → height (cond b (record { tree = leaf X; state = s }) (node_over (choice g d X s).rule (grow_all (grow g f (d - 1)) (right_of g (choice g d X s).rule) (choice g d X s).state))).tree ≤ suc f
      go true l = omega arith
      go false l = omega (arith, l)

  module _ (w : WellFormed g) (p : AllProductive g) where
    -- at depth 0 what grows is as high as the least
    reached : (X s : ℕ) → IsSymbol g X → height (grown g 0 X s).tree ≡ height_of g X
    reached X s d =
        omega (arith, ap (λ (G : Grown). height G.tree) (grown_least g w p X s d), grow_low (height_of g X) 0 X s, least w p X d (grown g 0 X s).tree (grown_tree g w p 0 X s d))

    -- a derivation no higher than the least is by a rule that passes the test of `shortest`
    passes : (X j : ℕ) (F : Forest) → IsTree g (node j F) X → suc (heights F) ≤ height_of g X → all (derives_within g (height_of g X - 1)) (right_of g j) ≡ true
    passes X j F h l =
        ap (λ (o : Option Rule). all (derives_within g (height_of g X - 1)) (right_in o)) h.1
        ∙ in_all (derives_within g (height_of g X - 1)) (right h.0)
        (λ a m. within_le g (heights F) (height_of g X - 1) a (omega arith) (all_within F (all_ind Within on_leaf on_node F) (right h.0) h.3 a m))

    -- so by a rule before the shortest each is higher
    higher : (X j : ℕ) (F : Forest) → j < shortest g X → IsTree g (node j F) X → height_of g X < suc (heights F)
    unfolding shortest
    higher X j F l h = go (dec_le (suc (heights F)) (height_of g X))
      where
        go : Dec (suc (heights F) ≤ height_of g X) → height_of g X < suc (heights F)
        go (yes u) =
            absurd (omega (
              arith,
              l,
              first_least (λ i. all (derives_within g (height_of g X - 1)) (right_of g i)) g X j (in_rules g X j h.1 h.2) (passes X j F h u),
            ))
        go (no u) = omega (arith, u)

    pub shortest_lowest : (X : ℕ) → IsNonterminal g X → FirstLowest g X (shortest g X)
    unfolding choice
    shortest_lowest X n =
        let F = (grow_all (grown g 0) (right_of g (shortest g X)) 0).forest in
        let is : (grown g 0 X 0).tree ≡ node (shortest g X) F = ap (λ (G : Grown). G.tree) (grown_node g w p 0 X 0 n) in
        let high : height (node (shortest g X) F) ≡ height_of g X = ap height (sym is) ∙ reached X 0 (inr n) in
        record {
          forest = F;
          derives = subst (λ (T : Tree). IsTree g T X) is (grown_tree g w p 0 X 0 (inr n));
          least = λ T h. omega (arith, high, least w p X (inr n) T h);
          first = λ j G l h. omega (arith, high, higher X j G l h);
        }
