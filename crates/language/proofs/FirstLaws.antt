-- first by symbols: what begins a string is what begins one of its symbols behind nullable ones, or what follows a string of
-- nullable symbols. And sets that are closed under the rules hold every nullable symbol, and all that begin with c.
use Prim.Native.Nat.{ℕ}
use native.Mathlib.Nat.{suc-ne-zero}
use mathlib.Core.Logic.{◌⊎◌, inl, inr}
use mathlib.Core.Path.{◌≡◌, refl, sym, ap, ap₂, ◌∙◌, subst}
use mathlib.Core.List.{List, [], ◌∷◌, ◌++◌}
use mathlib.Core.Option.{some}
use lib.ListN.{length}
use Rattle.language.specs.Grammar.{Grammar, Rule, rule_at, right, IsTerminal, IsNonterminal}
use Rattle.language.specs.Derivation.{Tree, Forest, leaf, nil, cons, yield, yields, IsTree, IsForest}
use Rattle.language.proofs.Forests.{All, tree_ind}
use Rattle.language.specs.Sentence.{In, here, there, Productive, AllProductive}
use Rattle.language.specs.First.{next, First}
use Rattle.language.specs.WellFormed.{WellFormed}
use Rattle.language.specs.Nullable.{Nullable, Begins, RightProductive, AllIn, Starts}

parts_empty : (l m : List ℕ) → l ++ m ≡ [] → (l ≡ []) × (m ≡ [])
parts_empty [] m e = (refl, e)
parts_empty (x ∷ l) m e = absurd (suc-ne-zero (length (l ++ m)) (ap length e))

-- ---- strings
module _ (g : Grammar) where
  -- the first of a forest's yield is that of a tree behind empty ones
  forest_starts : (F : Forest) (β : List ℕ) (c : ℕ) (w : List ℕ) → IsForest g F β → yields F ≡ c ∷ w → Starts (Nullable g) (λ X. Begins g X c) β
  forest_starts nil β c w h e = absurd (suc-ne-zero (length w) (sym (ap length e)))
  forest_starts (cons T F) [] c w h e = absurd h
  forest_starts (cons T F) (X ∷ β) c w h e = go (yield T) refl (λ x. forest_starts F β c w h.1 x)
    where
      go : (l : List ℕ) → yield T ≡ l → (yields F ≡ c ∷ w → Starts (Nullable g) (λ X. Begins g X c) β)
          → Begins g X c ⊎ (Nullable g X × Starts (Nullable g) (λ X. Begins g X c) β)
      go [] k rec = inr (record { tree = T; derives = h.0; empty = k }, rec (sym (ap (λ (m : List ℕ). m ++ yields F) k) ∙ e))
      go (a ∷ l) k rec =
          let j : a ∷ (l ++ yields F) ≡ c ∷ w = sym (ap (λ (m : List ℕ). m ++ yields F) k) ∙ e in
          let ac : a ≡ c = cc in
          inl (record { tree = T; derives = h.0; remainder = l; begins = k ∙ ap (λ (b : ℕ). b ∷ l) ac })

  forest_empty : (F : Forest) (β : List ℕ) → IsForest g F β → yields F ≡ [] → AllIn (Nullable g) β
  forest_empty nil [] h e = tt
  forest_empty nil (X ∷ β) h e = absurd h
  forest_empty (cons T F) [] h e = absurd h
  forest_empty (cons T F) (X ∷ β) h e =
      let p = parts_empty (yield T) (yields F) e in
      (record { tree = T; derives = h.0; empty = p.0 }, forest_empty F β h.1 p.1)

  pub first_starts : {β : List ℕ} {d c : ℕ} → First g β d c → Starts (Nullable g) (λ X. Begins g X c) β ⊎ (AllIn (Nullable g) β × (c ≡ d))
  first_starts {β} {d} {c} f = go (yields f.forest) refl
    where
      go : (l : List ℕ) → yields f.forest ≡ l → Starts (Nullable g) (λ X. Begins g X c) β ⊎ (AllIn (Nullable g) β × (c ≡ d))
      go [] k = inr (forest_empty f.forest β f.derives k, sym f.begins ∙ ap (λ (l : List ℕ). next l d) k)
      go (a ∷ l) k =
          let ac : a ≡ c = sym (ap (λ (m : List ℕ). next m d) k) ∙ f.begins in
          inl (forest_starts f.forest β c l f.derives (k ∙ ap (λ (b : ℕ). b ∷ l) ac))

  pub empty_forest : (β : List ℕ) → AllIn (Nullable g) β → (F : Forest) × IsForest g F β × (yields F ≡ [])
  empty_forest [] h = (nil, tt, refl)
  empty_forest (X ∷ β) h =
      let F = empty_forest β h.1 in
      (cons h.0.tree F.0, (h.0.derives, F.1), ap₂ ◌++◌ h.0.empty F.2)

  pub some_forest : (β : List ℕ) → ((a : ℕ) → In a β → Productive g a) → (F : Forest) × IsForest g F β
  some_forest [] f = (nil, tt)
  some_forest (X ∷ β) f =
      let t = f X here in
      let F = some_forest β (λ a h. f a (there h)) in
      (cons t.tree F.0, (t.derives, F.1))

  pub starts_forest : (β : List ℕ) (c : ℕ) → ((a : ℕ) → In a β → Productive g a) → Starts (Nullable g) (λ X. Begins g X c) β
      → (F : Forest) × (w : List ℕ) × IsForest g F β × (yields F ≡ c ∷ w)
  starts_forest [] c f h = absurd h
  starts_forest (X ∷ β) c f (inl b) =
      let F = some_forest β (λ a h. f a (there h)) in
      (cons b.tree F.0, b.remainder ++ yields F.0, (b.derives, F.1), ap (λ (l : List ℕ). l ++ yields F.0) b.begins)
  starts_forest (X ∷ β) c f (inr h) =
      let F = starts_forest β c (λ a m. f a (there m)) h.1 in
      (cons h.0.tree F.0, F.1, (h.0.derives, F.2), ap₂ ◌++◌ h.0.empty F.3)

  pub starts_first : {β : List ℕ} {d c : ℕ} → ((a : ℕ) → In a β → Productive g a)
      → Starts (Nullable g) (λ X. Begins g X c) β ⊎ (AllIn (Nullable g) β × (c ≡ d)) → First g β d c
  starts_first {β} {d} {c} f (inl h) =
      let F = starts_forest β c f h in
      record { forest = F.0; derives = F.2; begins = ap (λ (l : List ℕ). next l d) F.3 }
  starts_first {β} {d} f (inr h) =
      let F = empty_forest β h.0 in
      record { forest = F.0; derives = F.1; begins = ap (λ (l : List ℕ). next l d) F.2 ∙ sym h.1 }

  -- ---- sets closed under the rules
  module _ (N : ℕ → Type 0) (closed : (i : ℕ) (r : Rule) → rule_at g i ≡ some r → AllIn N (right r) → N r.left) where
    Empty : Tree → Type 0
    Empty T = (X : ℕ) → IsTree g T X → yield T ≡ [] → N X

    all_empty : (F : Forest) → All Empty F → (β : List ℕ) → IsForest g F β → yields F ≡ [] → AllIn N β
    unfolding Empty
    all_empty nil a [] h e = tt
    all_empty nil a (X ∷ β) h e = absurd h
    all_empty (cons T F) a [] h e = absurd h
    all_empty (cons T F) a (X ∷ β) h e = let p = parts_empty (yield T) (yields F) e in (a.0 X h.0 p.0, all_empty F a.1 β h.1 p.1)

    tree_empty : (T : Tree) → Empty T
    unfolding Empty
    tree_empty = tree_ind Empty (λ a X h e. absurd (suc-ne-zero 0 (ap length e)))
        (λ i F a X h e. subst N h.2 (closed i h.0 h.1 (all_empty F a (right h.0) h.3 e)))

    pub nullable_in : {X : ℕ} → Nullable g X → N X
    unfolding Empty
    nullable_in {X} n = tree_empty n.tree X n.derives n.empty

  module _ (c : ℕ) (B : ℕ → Type 0) (terminal : IsTerminal g c → B c)
      (closed : (i : ℕ) (r : Rule) → rule_at g i ≡ some r → Starts (Nullable g) B (right r) → B r.left) where
    Begun : Tree → Type 0
    Begun T = (X : ℕ) (w : List ℕ) → IsTree g T X → yield T ≡ c ∷ w → B X

    all_begun : (F : Forest) → All Begun F → (β : List ℕ) (w : List ℕ) → IsForest g F β → yields F ≡ c ∷ w → Starts (Nullable g) B β
    unfolding Begun
    all_begun nil a β w h e = absurd (suc-ne-zero (length w) (sym (ap length e)))
    all_begun (cons T F) a [] w h e = absurd h
    all_begun (cons T F) a (X ∷ β) w h e = go (yield T) refl (λ x. all_begun F a.1 β w h.1 x)
      where
        go : (l : List ℕ) → yield T ≡ l → (yields F ≡ c ∷ w → Starts (Nullable g) B β) → B X ⊎ (Nullable g X × Starts (Nullable g) B β)
        go [] k rec = inr (record { tree = T; derives = h.0; empty = k }, rec (sym (ap (λ (m : List ℕ). m ++ yields F) k) ∙ e))
        go (b ∷ l) k rec =
            let j : b ∷ (l ++ yields F) ≡ c ∷ w = sym (ap (λ (m : List ℕ). m ++ yields F) k) ∙ e in
            let bc : b ≡ c = cc in
            inl (a.0 X l h.0 (k ∙ ap (λ (x : ℕ). x ∷ l) bc))

    tree_begun : (T : Tree) → Begun T
    unfolding Begun
    tree_begun = tree_ind Begun
        (λ a X w h e. let ac : a ≡ c = cc in subst B (sym ac ∙ h.0) (terminal (subst (IsTerminal g) ac h.1)))
        (λ i F a X w h e. subst B h.2 (closed i h.0 h.1 (all_begun F a (right h.0) w h.3 e)))

    pub begins_in : {X : ℕ} → Begins g X c → B X
    unfolding Begun
    begins_in {X} b = tree_begun b.tree X b.remainder b.derives b.begins

  -- ---- where every nonterminal is productive, so is every symbol of a right side
  pub terminal_productive : {a : ℕ} → IsTerminal g a → Productive g a
  terminal_productive {a} t = record { tree = leaf a; derives = (refl, t) }

  pub right_productive : WellFormed g → AllProductive g → RightProductive g
  right_productive w p i r e a m = go ((w.formed i e).declared a m)
    where
      go : IsTerminal g a ⊎ IsNonterminal g a → Productive g a
      go (inl t) = terminal_productive t
      go (inr n) = p a n
