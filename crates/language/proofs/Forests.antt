-- Forests put behind one another, cut and counted; induction over trees.
use Prim.Native.Nat.{ℕ, suc, ◌+◌}
use native.Mathlib.Omega.{arith}
use mathlib.Core.Path.{◌≡◌, refl, sym, ap, ◌∙◌}
use mathlib.Core.List.{List, [], ◌∷◌, ◌++◌, append_assoc, append-nil}
use Rattle.language.specs.Grammar.{Grammar}
use Rattle.language.specs.Derivation.{Tree, leaf, node, Forest, nil, cons, yield, yields, IsTree, IsForest}

infixr 66 ◌⧺◌
abbrev pub ◌⧺◌ : Forest → Forest → Forest
nil ⧺ G = G
(cons T F) ⧺ G = cons T (F ⧺ G)

pub yields-⧺ : (F G : Forest) → yields (F ⧺ G) ≡ yields F ++ yields G
yields-⧺ nil G = refl
yields-⧺ (cons T F) G = ap (λ (l : List ℕ). yield T ++ l) (yields-⧺ F G) ∙ sym (append_assoc (yield T) (yields F) (yields G))

-- the number of nodes and leaves
abbrev mutual
  pub size : Tree → ℕ
  size (leaf a) = 1
  size (node i F) = suc (sizes F)

  pub sizes : Forest → ℕ
  sizes nil = 0
  sizes (cons T F) = size T + sizes F

pub sizes-⧺ : (F G : Forest) → sizes (F ⧺ G) ≡ sizes F + sizes G
sizes-⧺ nil G = omega arith
sizes-⧺ (cons T F) G = omega (arith, sizes-⧺ F G)

-- a property of every tree of a forest, and induction through it
abbrev pub All : (Tree → Type 0) → Forest → Type 0
All P nil = Unit {0}
All P (cons T F) = P T × All P F

pub all_left : (P : Tree → Type 0) (F G : Forest) → All P (F ⧺ G) → All P F
all_left P nil G h = tt
all_left P (cons T F) G h = (h.0, all_left P F G h.1)

pub all_right : (P : Tree → Type 0) (F G : Forest) → All P (F ⧺ G) → All P G
all_right P nil G h = h
all_right P (cons T F) G h = all_right P F G h.1

module _ (P : Tree → Type 0) (onLeaf : (a : ℕ) → P (leaf a)) (onNode : (i : ℕ) (F : Forest) → All P F → P (node i F)) where
  mutual
    pub tree_ind : (T : Tree) → P T
    tree_ind (leaf a) = onLeaf a
    tree_ind (node i F) = onNode i F (all_ind F)

    pub all_ind : (F : Forest) → All P F
    all_ind nil = tt
    all_ind (cons T F) = (tree_ind T, all_ind F)

module _ (g : Grammar) where
  -- a forest of a string in two parts is cut where the string is
  pub record Split (α β : List ℕ) (F : Forest) : Type 0 where
    pub front : Forest
    pub back : Forest
    pub cut : F ≡ front ⧺ back
    pub front_is : IsForest g front α
    pub back_is : IsForest g back β

  pub split : (α β : List ℕ) (F : Forest) → IsForest g F (α ++ β) → Split α β F
  split [] β F h = record { front = nil; back = F; cut = refl; front_is = tt; back_is = h }
  split (X ∷ α) β nil h = absurd h
  split (X ∷ α) β (cons T F) h =
      let s = split α β F h.1 in
      record { front = cons T s.front; back = s.back; cut = ap (λ (G : Forest). cons T G) s.cut; front_is = (h.0, s.front_is); back_is = s.back_is }

  pub join : (α β : List ℕ) (F G : Forest) → IsForest g F α → IsForest g G β → IsForest g (F ⧺ G) (α ++ β)
  join [] β nil G h k = k
  join (X ∷ α) β nil G h k = absurd h
  join [] β (cons T F) G h k = absurd h
  join (X ∷ α) β (cons T F) G h k = (h.0, join α β F G h.1 k)

  -- a forest of no symbol is empty
  pub no_tree : (F : Forest) → IsForest g F [] → F ≡ nil
  no_tree nil h = refl
  no_tree (cons T F) h = absurd h

  -- a forest of one symbol is a tree
  pub record One (X : ℕ) (F : Forest) : Type 0 where
    pub tree : Tree
    pub is : IsTree g tree X
    pub yield_is : yields F ≡ yield tree
    pub size_is : size tree ≡ sizes F

  pub one_tree : (F : Forest) (X : ℕ) → IsForest g F (X ∷ []) → One X F
  one_tree nil X h = absurd h
  one_tree (cons T nil) X h = record { tree = T; is = h.0; yield_is = append-nil (yield T); size_is = omega arith }
  one_tree (cons T (cons U F)) X h = absurd h.1

  -- what follows the first tree
  pub but_first : (F : Forest) (X : ℕ) (β : List ℕ) → IsForest g F (X ∷ β) → (G : Forest) × IsForest g G β
  but_first nil X β h = absurd h
  but_first (cons T F) X β h = (F, h.1)
