-- The rules that a derivation's trace announces are its listing, and the unit rules among them its unit count.
use Prim.Native.Nat.{ℕ, suc, ◌+◌}
use native.Mathlib.Omega.{arith}
use mathlib.Core.Path.{◌≡◌, refl, sym, ap, ap₂, ◌∙◌}
use mathlib.Core.List.{List, [], ◌∷◌, ◌++◌, append_assoc}
use mathlib.Core.Option.{Option, some}
use lib.ListN.{length, take, drop}
use lib.Seq.{take-append_seam, drop-append_seam}
use Rattle.language.specs.Grammar.{Grammar, Rule, rule_at, concat}
use Rattle.language.specs.Derivation.{Tree, Forest, node, nil, cons, IsTree, IsForest}
use Rattle.language.proofs.Forests.{◌⧺◌, All, all_left, all_right, tree_ind, split}
use Rattle.language.specs.Listing.{around, listing, listings, units, units_all, units_in}
use Rattle.language.proofs.Lists.{concat-++}
use Rattle.language.specs.Trace.{Event, announced, closed, rules_of, flat, closings, trace, traces}
use Rattle.language.proofs.TraceLaws.{trace-node, closings_cons}

-- the rules that events announce
abbrev pub listed : List Event → List ℕ
listed [] = []
listed (e ∷ τ) = rules_of e ++ listed τ

pub listed-++ : (σ τ : List Event) → listed (σ ++ τ) ≡ listed σ ++ listed τ
listed-++ [] τ = refl
listed-++ (e ∷ σ) τ = ap (λ (l : List ℕ). rules_of e ++ l) (listed-++ σ τ) ∙ sym (append_assoc (rules_of e) (listed σ) (listed τ))

module _ (g : Grammar) where
  pub listings-⧺ : (F G : Forest) → listings g (F ⧺ G) ≡ listings g F ++ listings g G
  listings-⧺ nil G = refl
  listings-⧺ (cons T F) G = ap (λ (l : List (List ℕ)). listing g T ∷ l) (listings-⧺ F G)

  listings-length : (F : Forest) (α : List ℕ) → IsForest g F α → length (listings g F) ≡ length α
  listings-length nil [] h = refl
  listings-length nil (X ∷ α) h = absurd h
  listings-length (cons T F) [] h = absurd h
  listings-length (cons T F) (X ∷ α) h = ap suc (listings-length F α h.1)

  listing-node : (i : ℕ) (r : Rule) (F G : Forest) → rule_at g i ≡ some r → IsForest g F r.before
      → listing g (node i (F ⧺ G)) ≡ concat (listings g F) ++ i ∷ concat (listings g G)
  listing-node i r F G e h =
      ap₂ (λ (o : Option Rule) (l : List (List ℕ)). around o i l) e (listings-⧺ F G)
      ∙ ap (λ (n : ℕ). concat (take n (listings g F ++ listings g G)) ++ i ∷ concat (drop n (listings g F ++ listings g G))) (sym (listings-length F r.before h))
      ∙ ap₂ (λ (l n : List (List ℕ)). concat l ++ i ∷ concat n) (take-append_seam (listings g F) (listings g G)) (drop-append_seam (listings g F) (listings g G))

  -- ---- the listing

  Lists : Tree → Type 0
  Lists T = (X : ℕ) → IsTree g T X → listed (trace g T) ≡ listing g T

  forest_lists : (F : Forest) → All Lists F → (α : List ℕ) → IsForest g F α → listed (flat (traces g F)) ≡ concat (listings g F)
  unfolding Lists
  forest_lists nil a α h = refl
  forest_lists (cons T F) a [] h = absurd h
  forest_lists (cons T F) a (X ∷ α) h = listed-++ (trace g T) (flat (traces g F)) ∙ ap₂ (λ (l n : List ℕ). l ++ n) (a.0 X h.0) (forest_lists F a.1 α h.1)

  groups_list : (γs : List (List ℕ)) (F : Forest) → All Lists F → IsForest g F (concat γs) → listed (closings γs (traces g F)) ≡ concat (listings g F)
  groups_list [] nil a h = refl
  groups_list [] (cons T F) a h = absurd h
  groups_list (γ ∷ γs) F a h =
      let s = split g γ (concat γs) F h in
      let b : All Lists (s.front ⧺ s.back) = rw (← s.cut) a in
      rw s.cut
      (ap listed (closings_cons g s.front s.back γ γs s.front_is)
      ∙ listed-++ (flat (traces g s.front)) (closed ∷ closings γs (traces g s.back))
      ∙ ap₂ (λ (l n : List ℕ). l ++ n)
      (forest_lists s.front (all_left Lists s.front s.back b) γ s.front_is)
      (groups_list γs s.back (all_right Lists s.front s.back b) s.back_is)
      ∙ sym (ap concat (listings-⧺ s.front s.back) ∙ concat-++ (listings g s.front) (listings g s.back)))

  node_lists : (i : ℕ) (F : Forest) → All Lists F → Lists (node i F)
  unfolding Lists
  node_lists i F a X h =
      let r = h.0 in
      let s = split g r.before (concat r.groups) F h.3 in
      let b : All Lists (s.front ⧺ s.back) = rw (← s.cut) a in
      rw s.cut
      (ap listed (trace-node g i r s.front s.back h.1 s.front_is)
      ∙ listed-++ (flat (traces g s.front)) (announced i ∷ closings r.groups (traces g s.back))
      ∙ ap₂ (λ (l n : List ℕ). l ++ i ∷ n)
      (forest_lists s.front (all_left Lists s.front s.back b) r.before s.front_is)
      (groups_list r.groups s.back (all_right Lists s.front s.back b) s.back_is)
      ∙ sym (listing-node i r s.front s.back h.1 s.front_is))

  pub listed-trace : (T : Tree) (X : ℕ) → IsTree g T X → listed (trace g T) ≡ listing g T
  unfolding Lists
  listed-trace = tree_ind Lists (λ a X h. refl) node_lists

  -- ---- the unit count

  units_in-++ : (l n : List ℕ) → units_in g (l ++ n) ≡ units_in g l + units_in g n
  units_in-++ [] n = omega arith
  units_in-++ (i ∷ l) n = omega (arith, units_in-++ l n)

  units_all-⧺ : (F G : Forest) → units_all g (F ⧺ G) ≡ units_all g F + units_all g G
  units_all-⧺ nil G = omega arith
  units_all-⧺ (cons T F) G = omega (arith, units_all-⧺ F G)

  Counts : Tree → Type 0
  Counts T = (X : ℕ) → IsTree g T X → units_in g (listing g T) ≡ units g T

  forest_counts : (F : Forest) → All Counts F → (α : List ℕ) → IsForest g F α → units_in g (concat (listings g F)) ≡ units_all g F
  unfolding Counts
  forest_counts nil a α h = refl
  forest_counts (cons T F) a [] h = absurd h
  forest_counts (cons T F) a (X ∷ α) h = omega (arith, units_in-++ (listing g T) (concat (listings g F)), a.0 X h.0, forest_counts F a.1 α h.1)

  node_counts : (i : ℕ) (F : Forest) → All Counts F → Counts (node i F)
  unfolding Counts
  node_counts i F a X h =
      let r = h.0 in
      let s = split g r.before (concat r.groups) F h.3 in
      let G = s.front in
      let H = s.back in
      let b : All Counts (G ⧺ H) = rw (← s.cut) a in
      rw s.cut
      (ap (units_in g) (listing-node i r G H h.1 s.front_is)
      ∙ omega (
        arith,
        units_in-++ (concat (listings g G)) (i ∷ concat (listings g H)),
        units_all-⧺ G H,
        forest_counts G (all_left Counts G H b) r.before s.front_is,
        forest_counts H (all_right Counts G H b) (concat r.groups) s.back_is,
      ))

  pub units_listed : (T : Tree) (X : ℕ) → IsTree g T X → units_in g (listing g T) ≡ units g T
  unfolding Counts
  units_listed = tree_ind Counts (λ a X h. refl) node_counts
