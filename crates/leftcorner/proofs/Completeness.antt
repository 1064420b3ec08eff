-- Completeness: over the yield of a derivation, where a held item waits for it, the machine does exactly the derivation's trace.
use Prim.Native.Nat.{ℕ, zero, suc}
use mathlib.Core.Path.{◌≡◌, refl, sym, ap, ◌∙◌, subst}
use mathlib.Core.List.{List, [], ◌∷◌, ◌++◌, map, append_assoc, append-nil}
use mathlib.Core.Option.{some}
use lib.ListN.{length, drop}
use lib.Seq.{append_snoc}
use Rattle.language.specs.Grammar.{Grammar, Rule, rule_at, concat}
use Rattle.language.specs.Derivation.{Tree, Forest, leaf, node, nil, cons, yield, yields, IsTree, IsForest}
use Rattle.language.proofs.Forests.{◌⧺◌, yields-⧺, All, all_left, all_right, tree_ind, all_ind, split, join, no_tree}
use Rattle.language.specs.First.{next, First}
use Rattle.language.proofs.Lists.{drop_next, next_join}
use Rattle.language.specs.Trace.{shifted, announced, closed, flat, closings, trace, traces}
use Rattle.language.proofs.TraceLaws.{trace-node, closings_cons}
use Rattle.leftcorner.specs.Machine.{Cell, announce, Automaton, on, act}
use Rattle.leftcorner.proofs.Adequate.{Source, rule, entry, track, behind, before_of, Holds, kernel, closure, Complete, Exact}
use Rattle.leftcorner.proofs.Run.{Run, stop, more, run_++}
use Rattle.leftcorner.proofs.Path.{far, far-zero, gotos, last, shift_on, announce-step, close_step, pop_groups}

pub some_inj : {r s : Rule} → some r ≡ some s → r ≡ s
some_inj e = cc

-- the code after a forest's yield, where w comes behind it
pub next_end : (l w : List ℕ) (d : ℕ) → d ≡ next w 0 → next l d ≡ next (l ++ w) 0
next_end l w d h = ap (next l) h ∙ sym (next_join l w 0)

pub first_nil : {g : Grammar} {d : ℕ} → First g [] d d
first_nil = record { forest = nil; derives = tt; begins = refl }

first_++ : (g : Grammar) (F : Forest) (α β w : List ℕ) (d : ℕ) → IsForest g F α → First g β d (next w 0) → First g (α ++ β) d (next (yields F ++ w) 0)
first_++ g F α β w d h f =
    record {
      forest = F ⧺ f.forest;
      derives = join g α β F f.forest h f.derives;
      begins =
          ap (λ (l : List ℕ). next l d) (yields-⧺ F f.forest) ∙ next_join (yields F) (yields f.forest) d
          ∙ ap (next (yields F)) f.begins ∙ sym (next_join (yields F) w 0);
    }

module _ {g : Grammar} {string : ℕ → List ℕ} {Kernel : ℕ → Source → ℕ → ℕ → Type 0} {m : Automaton}
    (C : Complete g string Kernel m) (E : Exact g string Kernel m) where
  -- the entries of an announce are its rule's groups
  pub groups_are : {q c i : ℕ} {es : List ℕ} {r : Rule} → m.cell q c ≡ announce i es → rule_at g i ≡ some r → map string es ≡ r.groups
  groups_are {q} {c} {i} {es} h e =
      let a = E.announced q c i es h in
      a.entries ∙ ap (λ (x : Rule). x.groups) (some_inj (sym a.is ∙ e))

  -- an item that a state holds moves along
  pub walked : (α β : List ℕ) (q : ℕ) (ι : Source) (k d : ℕ) → Holds g string Kernel q ι k d → drop k (track g string ι) ≡ α ++ β
      → Holds g string Kernel (last m q α) ι (far k α) d
  walked [] β q ι k d h e = h
  walked (X ∷ α) β q ι k d h e = walked α β (m.goto q X) ι (suc k) d (kernel (C.moves h e)) (drop_next k (track g string ι) X (α ++ β) e)

  unfoldable pub Walks : Tree → Type 0
  Walks T = (X q : ℕ) (ρ : List ℕ) (ι : Source) (k d : ℕ) (β w : List ℕ) → IsTree g T X → Holds g string Kernel q ι k d → drop k (track g string ι) ≡ X ∷ β
      → First g (β ++ behind g string ι) d (next w 0) → Run g m (q ∷ ρ) (yield T ++ w) (trace g T) (m.goto q X ∷ q ∷ ρ) w

  leaf_walks : (a : ℕ) → Walks (leaf a)
  unfolding Walks
  leaf_walks a X q ρ ι k d β w h hold e f =
      more
      (ap (λ (x : Cell). act g m x (q ∷ ρ) a) (C.shifts hold (e ∙ ap (λ (Y : ℕ). Y ∷ β) (sym h.0)) h.1)
      ∙ shift_on (m.goto q a) (q ∷ ρ) a h.1.0
      ∙ ap (λ (Y : ℕ). on (shifted a) (m.goto q Y ∷ q ∷ ρ)) h.0)
      stop

  pub forest_walks : (F : Forest) → All Walks F → (α γ : List ℕ) (q : ℕ) (ρ : List ℕ) (ι : Source) (k d : ℕ) (w : List ℕ) → IsForest g F α
      → Holds g string Kernel q ι k d → drop k (track g string ι) ≡ α ++ γ → First g (γ ++ behind g string ι) d (next w 0)
      → Run g m (q ∷ ρ) (yields F ++ w) (flat (traces g F)) (gotos m q α ρ) w
  unfolding Walks
  forest_walks nil a [] γ q ρ ι k d w h hold e f = stop
  forest_walks nil a (X ∷ α) γ q ρ ι k d w h hold e f = absurd h
  forest_walks (cons T F) a [] γ q ρ ι k d w h hold e f = absurd h
  forest_walks (cons T F) a (X ∷ α) γ q ρ ι k d w h hold e f =
      rw (append_assoc (yield T) (yields F) w)
      (run_++ g m
      (a.0 X q ρ ι k d (α ++ γ) (yields F ++ w) h.0 hold e (rw (append_assoc α γ (behind g string ι)) (first_++ g F α (γ ++ behind g string ι) w d h.1 f)))
      (forest_walks F a.1 α γ (m.goto q X) (q ∷ ρ) ι (suc k) d w h.1 (kernel (C.moves hold e)) (drop_next k (track g string ι) X (α ++ γ) e) f))

  -- one group, walked from its entry state and closed
  group_walks : (F : Forest) → All Walks F → (e : ℕ) (εs : List ℕ) (s : ℕ) (ρ w : List ℕ) → IsForest g F (string e)
      → Kernel (m.enter e) (entry e) zero (next w 0)
      → Run g m (m.enter e ∷ map m.enter εs ++ s ∷ ρ) (yields F ++ w) (flat (traces g F) ++ closed ∷ []) (map m.enter εs ++ s ∷ ρ) w
  group_walks F a e εs s ρ w h K =
      run_++ g m
      (forest_walks F a (string e) [] (m.enter e) (map m.enter εs ++ s ∷ ρ) (entry e) zero (next w 0) w h (kernel K) (sym (append-nil (string e))) first_nil)
      (more
      (close_step g m (m.enter e) (string e) (map m.enter εs ++ s ∷ ρ) (next w 0) (C.pops (rw (far-zero (string e)) at held))
      ∙ pop_groups g m εs s ρ (next w 0))
      stop)
    where
      held : Holds g string Kernel (last m (m.enter e) (string e)) (entry e) (far zero (string e)) (next w 0)
      held = walked (string e) [] (m.enter e) (entry e) zero (next w 0) (kernel K) (sym (append-nil (string e)))

  -- the groups of a rule that p announced on b, from those that are left
  pub groups_walk : (εs δs : List ℕ) (F : Forest) → All Walks F → (p b i d : ℕ) (r : Rule) (es : List ℕ) (s : ℕ) (ρ w : List ℕ)
      → IsForest g F (concat (map string εs)) → rule_at g i ≡ some r → Holds g string Kernel p (rule i) (length r.before) d → m.cell p b ≡ announce i es
      → es ≡ δs ++ εs → d ≡ next w 0 → Run g m (map m.enter εs ++ s ∷ ρ) (yields F ++ w) (closings (map string εs) (traces g F)) (s ∷ ρ) w
  groups_walk [] δs F a p b i d r es s ρ w h er hold x u n = rw (no_tree g F h) stop
  groups_walk (e ∷ εs) δs F a p b i d r es s ρ w h er hold x u n =
      let c = split g (string e) (concat (map string εs)) F h in
      let G = c.front in
      let H = c.back in
      let all : All Walks (G ⧺ H) = rw (← c.cut) a in
      let K : Kernel (m.enter e) (entry e) zero (next (yields H ++ w) 0)
      = C.group δs e εs er hold x u (record { forest = H; derives = c.back_is; begins = next_end (yields H) w d n }) in
      rw (
        c.cut,
        closings_cons g G H (string e) (map string εs) c.front_is,
        yields-⧺ G H,
        append_assoc (yields G) (yields H) w,
        ← append_snoc (flat (traces g G)) closed (closings (map string εs) (traces g H)),
      )
      (run_++ g m (group_walks G (all_left Walks G H all) e εs s ρ (yields H ++ w) c.front_is K)
      (groups_walk εs (δs ++ e ∷ []) H (all_right Walks G H all) p b i d r es s ρ w c.back_is er hold x (u ∙ sym (append_snoc δs e εs)) n))

  -- a rule at its recognition point, d before w: it is announced, and its groups are walked
  pub rule_walks : (H : Forest) → All Walks H → (i : ℕ) (r : Rule) (q : ℕ) (ρ : List ℕ) (d : ℕ) (w : List ℕ)
      → IsForest g H (concat r.groups) → rule_at g i ≡ some r
      → Holds g string Kernel (last m q r.before) (rule i) (length r.before) d → d ≡ next w 0
      → Run g m (gotos m q r.before ρ) (yields H ++ w) (announced i ∷ closings r.groups (traces g H)) (m.goto q r.left ∷ q ∷ ρ) w
  rule_walks H a i r q ρ d w h er hold n =
      let a₀ = C.announces er hold (record { forest = H; derives = h; begins = next_end (yields H) w d n }) in
      let gs : map string a₀.0 ≡ r.groups = groups_are a₀.1 er in
      let h' : IsForest g H (concat (map string a₀.0)) = rw gs h in
      more (announce-step g m i r a₀.0 q ρ (next (yields H ++ w) 0) er a₀.1)
      (subst
      (λ (l : List (List ℕ)). Run g m (map m.enter a₀.0 ++ m.goto q r.left ∷ q ∷ ρ) (yields H ++ w) (closings l (traces g H)) (m.goto q r.left ∷ q ∷ ρ) w)
      gs
      (groups_walk a₀.0 [] H a (last m q r.before) (next (yields H ++ w) 0) i d r a₀.0 (m.goto q r.left) (q ∷ ρ) w h' er hold a₀.1 refl n))

  node_walks : (i : ℕ) (F : Forest) → All Walks F → Walks (node i F)
  unfolding Walks
  node_walks i F a X q ρ ι k d β w h hold e f =
      let r = h.0 in
      let c = split g r.before (concat r.groups) F h.3 in
      let G = c.front in
      let H = c.back in
      let all : All Walks (G ⧺ H) = rw (← c.cut) a in
      let on-track : drop zero (track g string (rule i)) ≡ r.before ++ [] = ap before_of h.1 ∙ sym (append-nil r.before) in
      let begun : Holds g string Kernel q (rule i) zero (next w 0) = closure hold e h.1 h.2 f in
      let front : Holds g string Kernel (last m q r.before) (rule i) (length r.before) (next w 0)
      = rw (← far-zero r.before) (walked r.before [] q (rule i) zero (next w 0) begun on-track) in
      let starts : First g (concat r.groups) (next w 0) (next (yields H ++ w) 0)
      = record { forest = H; derives = c.back_is; begins = next_end (yields H) w (next w 0) refl } in
      let starts' : First g (behind g string (rule i)) (next w 0) (next (yields H ++ w) 0) = rw h.1 starts in
      rw (c.cut, trace-node g i r G H h.1 c.front_is, yields-⧺ G H, append_assoc (yields G) (yields H) w, ← h.2)
      (run_++ g m
      (forest_walks G (all_left Walks G H all) r.before [] q ρ (rule i) zero (next w 0) (yields H ++ w) c.front_is begun on-track starts')
      (rule_walks H (all_right Walks G H all) i r q ρ (next w 0) w c.back_is h.1 front refl))

  pub walks : (T : Tree) → Walks T
  walks = tree_ind Walks leaf_walks node_walks

  pub walks_all : (F : Forest) → All Walks F
  walks_all = all_ind Walks leaf_walks node_walks
