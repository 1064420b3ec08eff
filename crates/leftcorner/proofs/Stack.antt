-- The stacks that the machine comes to, each with the tokens read for it, and why what was read begins a sentence: for each item
-- that the top state holds, whatever derives the rest of the item makes a sentence after what was read.
use Prim.Native.Nat.{ℕ, zero, suc, ◌+◌}
use native.Mathlib.Omega.{arith}
use mathlib.Core.Path.{◌≡◌, refl, sym, ap, ap₂, ◌∙◌}
use mathlib.Core.List.{List, [], ◌∷◌, ◌++◌, map, map-append, append_assoc, append-nil}
use mathlib.Core.Option.{some}
use lib.ListN.{drop}
use Rattle.language.specs.Grammar.{Grammar, Rule, rule_at, concat, right}
use Rattle.language.specs.Derivation.{Tree, Forest, node, cons, yield, yields, IsTree, IsForest}
use Rattle.language.proofs.Forests.{◌⧺◌, yields-⧺, size, sizes, sizes-⧺, split, join, one_tree, but_first}
use Rattle.language.specs.Sentence.{Sentence, BeginsSentence}
use Rattle.language.specs.First.{next}
use Rattle.language.proofs.Prefix.{sentence_at}
use Rattle.language.proofs.Lists.{concat-++, drop_next}
use Rattle.leftcorner.specs.Machine.{announce, Automaton}
use Rattle.leftcorner.proofs.Adequate.{Source, rule, entry, track, behind, before_of, after_of, Holds, kernel, closure, Complete, Used, goal_entry, group_entry, Moved, Exact}
use Rattle.leftcorner.proofs.Completeness.{groups_are}

module _ {g : Grammar} {string : ℕ → List ℕ} {Kernel : ℕ → Source → ℕ → ℕ → Type 0} {m : Automaton}
    (C : Complete g string Kernel m) (E : Exact g string Kernel m) where
  -- what an item has still to derive
  abbrev pub ahead : Source → ℕ → List ℕ
  ahead ι k = drop k (track g string ι) ++ behind g string ι

  pub ahead-rule : (i : ℕ) (r : Rule) → rule_at g i ≡ some r → ahead (rule i) zero ≡ right r
  ahead-rule i r e = ap₂ (λ (l n : List ℕ). l ++ n) (ap before_of e) (ap after_of e)

  pub ahead_at : (ι : Source) (k X : ℕ) (β : List ℕ) → drop k (track g string ι) ≡ X ∷ β → ahead ι k ≡ X ∷ (β ++ behind g string ι)
  ahead_at ι k X β e = ap (λ (l : List ℕ). l ++ behind g string ι) e

  ahead_next : (ι : Source) (k X : ℕ) (β : List ℕ) → drop k (track g string ι) ≡ X ∷ β → ahead ι (suc k) ≡ β ++ behind g string ι
  ahead_next ι k X β e = ap (λ (l : List ℕ). l ++ behind g string ι) (drop_next k (track g string ι) X β e)

  -- ---- stacks

  -- an item that q holds stands before X
  pub record Expects (q X : ℕ) : Type 0 where
    pub source : Source
    pub dot : ℕ
    pub code : ℕ
    pub rest : List ℕ
    pub holds : Holds g string Kernel q source dot code
    pub there : drop dot (track g string source) ≡ X ∷ rest

  -- a rule that was announced on a cell, above q, with the trees left of its recognition point
  pub record Opened (q : ℕ) : Type 0 where
    pub number : ℕ
    pub rule_of_lem : Rule
    pub is : rule_at g number ≡ some rule_of_lem
    pub parent : Expects q rule_of_lem.left
    pub trees : Forest
    pub trees_are : IsForest g trees rule_of_lem.before
    pub state : ℕ
    pub code : ℕ
    pub entries : List ℕ
    pub cell : m.cell state code ≡ announce number entries

  -- a stack, top first, and the tokens read for it: the start; a state moved to over a tree; the entry of a group that is not
  -- yet closed, above the groups that wait
  pub data Stack : List ℕ → List ℕ → Type 0 where
    base : Stack (m.enter 1 ∷ []) []
    push : {q X : ℕ} {S u : List ℕ} → Stack (q ∷ S) u → Expects q X → (T : Tree) → IsTree g T X → Stack (m.goto q X ∷ q ∷ S) (u ++ yield T)
    pend : {q : ℕ} {S u : List ℕ} → Stack (q ∷ S) u → (o : Opened q) → (δs : List ℕ) (e : ℕ) (εs : List ℕ) → o.entries ≡ δs ++ e ∷ εs
        → (D : Forest) → IsForest g D (concat (map string δs))
        → Stack (m.enter e ∷ (map m.enter εs ++ m.goto q o.rule_of_lem.left ∷ q ∷ S)) (u ++ (yields o.trees ++ yields D))

  pub no_empty : (u : List ℕ) → Stack [] u → ⊥
  no_empty u s = elim s [ ]

  -- an entry of an announced rule is one that the machine can come to
  pub used : {q : ℕ} (o : Opened q) (δs : List ℕ) (e : ℕ) (εs : List ℕ) → o.entries ≡ δs ++ e ∷ εs → Used g string Kernel m e
  used o δs e εs u = group_entry δs e εs o.cell u

  -- the groups of an announced rule: those read, the one that is read now, those that wait
  pub groups_at : {q : ℕ} (o : Opened q) (δs εs : List ℕ) → o.entries ≡ δs ++ εs → concat o.rule_of_lem.groups ≡ concat (map string δs) ++ concat (map string εs)
  groups_at o δs εs u =
      ap concat (sym (groups_are C E o.cell o.is) ∙ ap (map string) u ∙ map-append string δs εs) ∙ concat-++ (map string δs) (map string εs)

  right_at : {q : ℕ} (o : Opened q) (δs : List ℕ) (e : ℕ) (εs : List ℕ) → o.entries ≡ δs ++ e ∷ εs
      → right o.rule_of_lem ≡ o.rule_of_lem.before ++ (concat (map string δs) ++ (string e ++ concat (map string εs)))
  right_at o δs e εs u = ap (λ (l : List ℕ). o.rule_of_lem.before ++ l) (groups_at o δs (e ∷ εs) u)

  -- ---- what a stack's items can still become

  -- after u, whatever derives the rest of the item makes a sentence, with `tail` behind it; `weight` is the size of all else
  pub record Fits (u : List ℕ) (ι : Source) (k : ℕ) : Type 0 where
    pub tail : List ℕ
    pub rest : Forest
    pub rest_is : IsForest g rest (ahead ι k)
    pub fits : (G : Forest) → IsForest g G (ahead ι k) → Sentence g (u ++ (yields G ++ tail))
    pub weight : ℕ
    pub weighs : (G : Forest) (h : IsForest g G (ahead ι k)) → size (fits G h).tree ≡ sizes G + weight

  abbrev pub Live : List ℕ → ℕ → Type 0
  Live u q = (ι : Source) (k d : ℕ) → Holds g string Kernel q ι k d → Fits u ι k

  live_closure : (u : List ℕ) (q : ℕ) → ((ι : Source) (k d : ℕ) → Kernel q ι k d → Fits u ι k) → Live u q
  live_closure u q K ι k d (kernel h) = K ι k d h
  live_closure u q K ι k d (closure {ι = κ} {k = n} {d = c} {X = X} {β = β} {i = i} {r = r} hold e er el f) =
      let F = live_closure u q K κ n c hold in
      let R = E.rich i r er in
      record {
        tail = yields f.forest ++ F.tail;
        rest = R.0;
        rest_is = rw (ahead-rule i r er) R.1;
        fits = λ G hG. sentence_at
            (ap (λ (l : List ℕ). u ++ l) (append_assoc (yields G) (yields f.forest) F.tail))
            (F.fits (cons (node i G) f.forest) (rw (ahead_at κ n X β e) ((r, er, el, rw (ahead-rule i r er) at hG), f.derives)));
        weight = suc (sizes f.forest + F.weight);
        weighs = λ G hG. omega (arith, F.weighs (cons (node i G) f.forest) (rw (ahead_at κ n X β e) ((r, er, el, rw (ahead-rule i r er) at hG), f.derives)));
      }

  live_base : (ι : Source) (k d : ℕ) → Kernel (m.enter 1) ι k d → Fits [] ι k
  live_base ι k d h =
      let en = E.entered 1 goal_entry ι k d h in
      rw (en.0, en.1)
      (record {
        tail = [];
        rest = E.rich_goal.0;
        rest_is = rw C.goal_string E.rich_goal.1;
        fits = λ G hG.
            let o = one_tree g G g.goal (rw C.goal_string at hG) in
            record { tree = o.tree; derives = o.is; yields_it = sym (append-nil (yields G) ∙ o.yield_is) };
        weight = 0;
        weighs = λ G hG. omega (arith, (one_tree g G g.goal (rw C.goal_string at hG)).size_is);
      })

  live_push : (u : List ℕ) (q X : ℕ) (T : Tree) → IsTree g T X → Live u q → (ι : Source) (n : ℕ) → Moved g string Kernel m q X ι n → Fits (u ++ yield T) ι n
  live_push u q X T hT L ι n v =
      let F = L ι v.dot v.code v.holds in
      let here = ahead_at ι v.dot X v.rest v.there in
      let later = ahead_next ι v.dot X v.rest v.there in
      let R = but_first g F.rest X (v.rest ++ behind g string ι) (rw here at F.rest_is) in
      rw v.is
      (record {
        tail = F.tail;
        rest = R.0;
        rest_is = rw later R.1;
        fits = λ G hG. sentence_at (simp append_assoc) (F.fits (cons T G) (rw here (hT, rw later at hG)));
        weight = size T + F.weight;
        weighs = λ G hG. omega (arith, F.weighs (cons T G) (rw here (hT, rw later at hG)));
      })

  -- a group's entry, above what waits for the group
  live_pend : (u : List ℕ) (q : ℕ) (o : Opened q) (δs : List ℕ) (e : ℕ) (εs : List ℕ) (D : Forest) → Fits u o.parent.source o.parent.dot
      → o.entries ≡ δs ++ e ∷ εs → IsForest g D (concat (map string δs)) → Fits (u ++ (yields o.trees ++ yields D)) (entry e) zero
  live_pend u q o δs e εs D F en hD =
      let r = o.rule_of_lem in
      let p = o.parent in
      let B = o.trees in
      let i = o.number in
      let here = ahead_at p.source p.dot r.left p.rest p.there in
      let R = but_first g F.rest r.left (p.rest ++ behind g string p.source) (rw here at F.rest_is) in
      let W = E.rich i r o.is in
      let s₁ = split g r.before (concat (map string δs) ++ (string e ++ concat (map string εs))) W.0 (rw (right_at o δs e εs en) at W.1) in
      let s₂ = split g (concat (map string δs)) (string e ++ concat (map string εs)) s₁.back s₁.back_is in
      let s₃ = split g (string e) (concat (map string εs)) s₂.back s₂.back_is in
      let H = s₃.back in
      let whole_is : (G : Forest) → IsForest g G (string e ++ []) → IsForest g (cons (node i (B ⧺ D ⧺ G ⧺ H)) R.0) (ahead p.source p.dot)
      = λ G hG. rw here (
        (
          r,
          o.is,
          refl,
          rw (right_at o δs e εs en)
              (join g r.before (concat (map string δs) ++ (string e ++ concat (map string εs))) B (D ⧺ G ⧺ H) o.trees_are
              (join g (concat (map string δs)) (string e ++ concat (map string εs)) D (G ⧺ H) hD
              (join g (string e) (concat (map string εs)) G H (rw (append-nil (string e)) at hG) s₃.back_is))),
        ),
        R.1,
      ) in
      record {
        tail = yields H ++ (yields R.0 ++ F.tail);
        rest = s₃.front;
        rest_is = rw (append-nil (string e)) s₃.front_is;
        fits = λ G hG. sentence_at (simp (yields-⧺, append_assoc)) (F.fits (cons (node i (B ⧺ D ⧺ G ⧺ H)) R.0) (whole_is G hG));
        weight = suc (sizes B + sizes D + sizes H + sizes R.0 + F.weight);
        weighs = λ G hG. omega (arith, F.weighs (cons (node i (B ⧺ D ⧺ G ⧺ H)) R.0) (whole_is G hG), sizes-⧺ B (D ⧺ G ⧺ H), sizes-⧺ D (G ⧺ H), sizes-⧺ G H);
      }

  pub live : (q : ℕ) (S u : List ℕ) → Stack (q ∷ S) u → Live u q
  live q S u base = live_closure [] (m.enter 1) live_base
  live q S u (push {q = p} {X = X} {S = S'} {u = x} s ex T hT) =
      live_closure (x ++ yield T) (m.goto p X) (λ ι n c h. live_push x p X T hT (live p S' x s) ι n (E.moved ex.holds ex.there ι n c h))
  live q S u (pend {q = p} {S = S'} {u = x} s o δs e εs en D hD) =
      live_closure (x ++ (yields o.trees ++ yields D)) (m.enter e)
      (λ κ n c h. let y = E.entered e (used o δs e εs en) κ n c h in
      rw (y.0, y.1) (live_pend x p o δs e εs D (live p S' x s o.parent.source o.parent.dot o.parent.code o.parent.holds) en hD))

  -- ---- what was read for a stack begins a sentence

  top_holds : (q : ℕ) (S u : List ℕ) → Stack (q ∷ S) u → (ι : Source) × (k : ℕ) × (d : ℕ) × Holds g string Kernel q ι k d
  top_holds q S u base = (entry 1, zero, zero, kernel C.start)
  top_holds q S u (push s ex T h) = (ex.source, suc ex.dot, ex.code, kernel (C.moves ex.holds ex.there))
  top_holds q S u (pend s o δs e εs en D hD) =
      let a = E.announced o.state o.code o.number o.entries o.cell in
      let p : concat a.rule_of_lem.groups ≡ concat (map string δs) ++ (string e ++ concat (map string εs))
      = ap concat (sym a.entries ∙ ap (map string) en ∙ map-append string δs (e ∷ εs)) ∙ concat-++ (map string δs) (string e ∷ map string εs) in
      let x = split g (concat (map string δs)) (string e ++ concat (map string εs)) a.first.forest (rw p at a.first.derives) in
      let y = split g (string e) (concat (map string εs)) x.back x.back_is in (
        entry e,
        zero,
        next (yields y.back) a.code,
        kernel (C.group δs e εs a.is a.holds o.cell en (record { forest = y.back; derives = y.back_is; begins = refl })),
      )

  pub stack_begins : (S u : List ℕ) → Stack S u → BeginsSentence g u
  stack_begins [] u st = absurd (no_empty u st)
  stack_begins (q ∷ S) u st =
      let h = top_holds q S u st in
      let F = live q S u st h.0 h.1 h.2 h.3 in
      record { remainder = yields F.rest ++ F.tail; sentence = F.fits F.rest F.rest_is }
