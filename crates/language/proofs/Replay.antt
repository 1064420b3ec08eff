-- A trace tells its tree: `replay` rebuilds trees from events alone, with no table at all. So two derivations with one trace are one.
use Prim.Native.Nat.{ℕ, zero, suc}
use mathlib.Core.Path.{◌≡◌, refl, sym, ap, ap₂, ◌∙◌}
use mathlib.Core.List.{List, [], ◌∷◌, ◌++◌, reverse_aux}
use mathlib.Core.Option.{Option, some, none}
use lib.ListN.{length, length-reverse}
use Rattle.language.specs.Grammar.{Grammar, Rule, rule_at, concat}
use Rattle.language.specs.Derivation.{Tree, Forest, leaf, node, nil, cons, IsTree, IsForest}
use Rattle.language.proofs.Forests.{◌⧺◌, All, all_left, all_right, tree_ind, split, no_tree}
use Rattle.language.specs.Trace.{Event, shifted, announced, closed, flat, closings, trace, traces}
use Rattle.language.proofs.TraceLaws.{trace-node, closings_cons}

-- ---- forests kept in reverse, the newest tree first

abbrev pub onto : Forest → Forest → Forest
onto nil G = G
onto (cons T F) G = onto F (cons T G)

abbrev pub take_f : ℕ → Forest → Forest
take_f zero F = nil
take_f (suc n) nil = nil
take_f (suc n) (cons T F) = cons T (take_f n F)

abbrev pub drop_f : ℕ → Forest → Forest
drop_f zero F = F
drop_f (suc n) nil = nil
drop_f (suc n) (cons T F) = drop_f n F

abbrev count : Forest → ℕ
count nil = zero
count (cons T F) = suc (count F)

⧺_assoc : (F G H : Forest) → (F ⧺ G) ⧺ H ≡ F ⧺ (G ⧺ H)
⧺_assoc nil G H = refl
⧺_assoc (cons T F) G H = ap (cons T) (⧺_assoc F G H)

onto-⧺ : (F G H : Forest) → onto F G ⧺ H ≡ onto F (G ⧺ H)
onto-⧺ nil G H = refl
onto-⧺ (cons T F) G H = onto-⧺ F (cons T G) H

onto_split : (F G H : Forest) → onto G (onto F H) ≡ onto (F ⧺ G) H
onto_split nil G H = refl
onto_split (cons T F) G H = onto_split F G (cons T H)

onto-onto : (F G H : Forest) → onto (onto F G) H ≡ onto G (F ⧺ H)
onto-onto nil G H = refl
onto-onto (cons T F) G H = onto-onto F (cons T G) H

⧺-nil : (F : Forest) → F ⧺ nil ≡ F
⧺-nil nil = refl
⧺-nil (cons T F) = ap (cons T) (⧺-nil F)

onto_twice : (F : Forest) → onto (onto F nil) nil ≡ F
onto_twice F = onto-onto F nil nil ∙ ⧺-nil F

take_seam : (F G : Forest) → take_f (count F) (F ⧺ G) ≡ F
take_seam nil G = refl
take_seam (cons T F) G = ap (cons T) (take_seam F G)

drop_seam : (F G : Forest) → drop_f (count F) (F ⧺ G) ≡ G
drop_seam nil G = refl
drop_seam (cons T F) G = drop_seam F G

-- ---- the frames of rules whose groups are not all closed yet

-- a rule announced: its subtrees so far, newest first; the groups to come after the one that is read now; the trees below
pub record Frame : Type 0 where
  pub rule : ℕ
  pub children : Forest
  pub more : ℕ
  pub under : Forest

-- the trees of the group that is read now, newest first, and the frames below
pub record Shape : Type 0 where
  pub now : Forest
  pub frames : List Frame

-- a rule with its children so far and m groups to come: a node if there are none
abbrev pub built : ℕ → Forest → ℕ → Forest → List Frame → Shape
built i kids zero under fs = record { now = cons (node i (onto kids nil)) under; frames = fs }
built i kids (suc m) under fs = record { now = nil; frames = record { rule = i; children = kids; more = m; under = under } ∷ fs }

-- a rule is announced over the newest trees
abbrev pub opened : Option Rule → ℕ → Shape → Shape
opened none i s = s
opened (some r) i s = built i (take_f (length r.before) s.now) (length r.groups) (drop_f (length r.before) s.now) s.frames

-- a group is closed: its trees go to the rule that waits for it
abbrev pub shut : List Frame → Forest → Shape
shut [] F = record { now = F; frames = [] }
shut (f ∷ fs) F = built f.rule (F ⧺ f.children) f.more f.under fs

module _ (g : Grammar) where
  abbrev pub replay1 : Event → Shape → Shape
  replay1 (shifted a) s = record { now = cons (leaf a) s.now; frames = s.frames }
  replay1 (announced i) s = opened (rule_at g i) i s
  replay1 closed s = shut s.frames s.now

  abbrev pub replay : List Event → Shape → Shape
  replay [] s = s
  replay (e ∷ τ) s = replay τ (replay1 e s)

  pub replay-++ : (σ τ : List Event) (s : Shape) → replay (σ ++ τ) s ≡ replay τ (replay σ s)
  replay-++ [] τ s = refl
  replay-++ (e ∷ σ) τ s = replay-++ σ τ (replay1 e s)

  Rebuilt : Tree → Type 0
  Rebuilt T = (X : ℕ) (F : Forest) (fs : List Frame) → IsTree g T X → replay (trace g T) (record { now = F; frames = fs }) ≡ record { now = cons T F; frames = fs }

  forest : (F : Forest) → All Rebuilt F → (α : List ℕ) (G : Forest) (fs : List Frame) → IsForest g F α
      → replay (flat (traces g F)) (record { now = G; frames = fs }) ≡ record { now = onto F G; frames = fs }
  unfolding Rebuilt
  forest nil a α G fs h = refl
  forest (cons T F) a [] G fs h = absurd h
  forest (cons T F) a (X ∷ α) G fs h =
      replay-++ (trace g T) (flat (traces g F)) (record { now = G; frames = fs })
      ∙ ap (replay (flat (traces g F))) (a.0 X G fs h.0)
      ∙ forest F a.1 α (cons T G) fs h.1

  grown : Forest → Forest → ℕ → Forest → List Frame → Shape
  grown F K i U fs = record { now = cons (node i (onto (onto F K) nil)) U; frames = fs }

  group : (γ : List ℕ) (γs : List (List ℕ)) (F G : Forest) → All Rebuilt F → IsForest g F γ → (i : ℕ) (K U : Forest) (fs : List Frame)
      → replay (closings γs (traces g G)) (built i (onto F nil ⧺ K) (length γs) U fs) ≡ grown G (onto F nil ⧺ K) i U fs
      → replay (closings (γ ∷ γs) (traces g (F ⧺ G))) (built i K (suc (length γs)) U fs) ≡ grown (F ⧺ G) K i U fs
  unfolding grown
  group γ γs F G a h i K U fs ih =
      ap (λ (τ : List Event). replay τ begun) (closings_cons g F G γ γs h)
      ∙ replay-++ (flat (traces g F)) (closed ∷ closings γs (traces g G)) begun
      ∙ ap (replay (closed ∷ closings γs (traces g G))) (forest F a γ nil (frame ∷ fs) h)
      ∙ ih
      ∙ ap (λ (H : Forest). record { now = cons (node i (onto H nil)) U; frames = fs }) (ap (onto G) (onto-⧺ F nil K) ∙ onto_split F G K)
    where
      frame : Frame
      frame = record { rule = i; children = K; more = length γs; under = U }

      begun : Shape
      begun = record { now = nil; frames = frame ∷ fs }

  groups : (γs : List (List ℕ)) (F : Forest) → All Rebuilt F → IsForest g F (concat γs) → (i : ℕ) (K U : Forest) (fs : List Frame)
      → replay (closings γs (traces g F)) (built i K (length γs) U fs) ≡ grown F K i U fs
  unfolding grown
  groups [] F a h i K U fs = ap (λ (G : Forest). grown G K i U fs) (sym (no_tree g F h))
  groups (γ ∷ γs) F a h i K U fs =
      let s = split g γ (concat γs) F h in
      let a' : All Rebuilt (s.front ⧺ s.back) = rw (← s.cut) a in
      rw s.cut
      (group γ γs s.front s.back (all_left Rebuilt s.front s.back a') s.front_is i K U fs
      (groups γs s.back (all_right Rebuilt s.front s.back a') s.back_is i (onto s.front nil ⧺ K) U fs))

  onto-count : (F G : Forest) (α β : List ℕ) → IsForest g F α → count G ≡ length β → count (onto F G) ≡ length (reverse_aux α β)
  onto-count nil G [] β h e = e
  onto-count nil G (X ∷ α) β h e = absurd h
  onto-count (cons T F) G [] β h e = absurd h
  onto-count (cons T F) G (X ∷ α) β h e = onto-count F (cons T G) α (X ∷ β) h.1 (ap suc e)

  opened_at : (o : Option Rule) (r : Rule) (i : ℕ) (F G : Forest) (fs : List Frame) → o ≡ some r → IsForest g F r.before
      → opened o i (record { now = onto F G; frames = fs }) ≡ built i (onto F nil) (length r.groups) G fs
  opened_at o r i F G fs e h =
      ap (λ (p : Option Rule). opened p i (record { now = onto F G; frames = fs })) e
      ∙ ap₂ (λ (n : ℕ) (H : Forest). built i (take_f n H) (length r.groups) (drop_f n H) fs) (sym n) (sym (onto-⧺ F nil G))
      ∙ ap₂ (λ (K U : Forest). built i K (length r.groups) U fs) (take_seam (onto F nil) G) (drop_seam (onto F nil) G)
    where
      n : count (onto F nil) ≡ length r.before
      n = onto-count F nil r.before [] h refl ∙ length-reverse r.before

  node_rebuilt : (i : ℕ) (F : Forest) → All Rebuilt F → Rebuilt (node i F)
  unfolding Rebuilt grown
  node_rebuilt i F a X G fs h =
      let r = h.0 in
      let s = split g r.before (concat r.groups) F h.3 in
      let a' : All Rebuilt (s.front ⧺ s.back) = rw (← s.cut) a in
      rw s.cut
      (ap (λ (τ : List Event). replay τ (record { now = G; frames = fs })) (trace-node g i r s.front s.back h.1 s.front_is)
      ∙ replay-++ (flat (traces g s.front)) (announced i ∷ closings r.groups (traces g s.back)) (record { now = G; frames = fs })
      ∙ ap (replay (announced i ∷ closings r.groups (traces g s.back)))
      (forest s.front (all_left Rebuilt s.front s.back a') r.before G fs s.front_is)
      ∙ ap (replay (closings r.groups (traces g s.back))) (opened_at (rule_at g i) r i s.front G fs h.1 s.front_is)
      ∙ groups r.groups s.back (all_right Rebuilt s.front s.back a') s.back_is i (onto s.front nil) G fs
      ∙ ap (λ (H : Forest). record { now = cons (node i H) G; frames = fs })
      (ap (λ (H : Forest). onto H nil) (onto_split s.front s.back nil) ∙ onto_twice (s.front ⧺ s.back)))

  rebuilt : (T : Tree) → Rebuilt T
  unfolding Rebuilt
  rebuilt = tree_ind Rebuilt (λ a X F fs h. refl) node_rebuilt

  abbrev nothing : Shape
  nothing = record { now = nil; frames = [] }

  pub replay-trace : (T : Tree) (X : ℕ) → IsTree g T X → replay (trace g T) nothing ≡ record { now = cons T nil; frames = [] }
  unfolding Rebuilt
  replay-trace T X h = rebuilt T X nil [] h

  first_of : Tree → Forest → Tree
  first_of d nil = d
  first_of d (cons T F) = T

  pub trace_injective : (T U : Tree) (X Y : ℕ) → IsTree g T X → IsTree g U Y → trace g T ≡ trace g U → T ≡ U
  unfolding first_of
  trace_injective T U X Y h k e =
      ap (λ (s : Shape). first_of T s.now) (sym (replay-trace T X h) ∙ ap (λ (τ : List Event). replay τ nothing) e ∙ replay-trace U Y k)
