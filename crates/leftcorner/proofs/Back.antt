-- Below an item that the top state holds stand the states of its moves, one for each symbol that its dot went over; so no
-- announce and no pop goes below the bottom.
use Prim.Native.Nat.{ℕ, zero, suc, ◌≤◌}
use native.Mathlib.Omega.{arith}
use native.Mathlib.Nat.{suc-ne-zero, suc_inj}
use mathlib.Core.Logic.{◌⊎◌, inl, inr}
use mathlib.Core.Path.{◌≡◌, refl, sym, ap, ap₂, ◌∙◌, subst}
use mathlib.Core.List.{List, [], ◌∷◌, ◌++◌, map, map-append, append_assoc, append-nil}
use mathlib.Core.Option.{Option, some}
use lib.ListN.{length, drop, take}
use lib.Seq.{append_snoc, take-length}
use Rattle.language.specs.Grammar.{Grammar, Rule, rule_at, concat}
use Rattle.language.specs.Derivation.{Tree, Forest, node, nil, cons, yield, yields, IsTree, IsForest}
use Rattle.language.proofs.Forests.{◌⧺◌, yields-⧺, join, one_tree}
use Rattle.language.specs.First.{next}
use Rattle.language.proofs.Lists.{concat-++, take_next, take_long}
use Rattle.language.specs.Sentence.{Sentence}
use Rattle.leftcorner.specs.Machine.{announce, pop, Automaton, on, closed, pop_to}
use Rattle.leftcorner.proofs.Adequate.{Source, rule, entry, track, before_of, Holds, kernel, closure, Complete, goal_entry, Announced, Popped, Exact}
use Rattle.leftcorner.proofs.Path.{gotos, top_gotos, drop-gotos, drop_all, gotos-length, gotos_snoc, pop_groups}
use Rattle.leftcorner.proofs.Completeness.{some_inj}
use Rattle.leftcorner.proofs.Stack.{Expects, Opened, Stack, base, push, pend, used, groups_at}

pub entry_inj : {e f : ℕ} → entry e ≡ entry f → e ≡ f
entry_inj h = cc

pub not_entry : {i e : ℕ} → rule i ≡ entry e → ⊥
not_entry h = let f : ◌≡◌ {A = ℕ} 0 1 = cc in omega (arith, f)

module _ {g : Grammar} {string : ℕ → List ℕ} {Kernel : ℕ → Source → ℕ → ℕ → Type 0} {m : Automaton}
    (C : Complete g string Kernel m) (E : Exact g string Kernel m) where
  -- only a rule's dot 0 comes from the closure
  pub held_later : {q : ℕ} {ι : Source} {k d : ℕ} → Holds g string Kernel q ι (suc k) d → Kernel q ι (suc k) d
  held_later (kernel h) = h

  pub held_entry : {q e k d : ℕ} → Holds g string Kernel q (entry e) k d → Kernel q (entry e) k d
  held_entry (kernel h) = h

  -- where the item began, and the trees that its dot went over since
  pub record Base (ι : Source) (k : ℕ) (S u : List ℕ) : Type 0 where
    pub bottom : ℕ
    pub under : List ℕ
    pub read : List ℕ
    pub trees : Forest
    pub code : ℕ
    pub stack : Stack C E (bottom ∷ under) read
    pub trees_are : IsForest g trees (take k (track g string ι))
    pub stack_is : S ≡ gotos m bottom (take k (track g string ι)) under
    pub read_is : u ≡ read ++ yields trees
    pub holds : Holds g string Kernel bottom ι zero code
    pub long : length (take k (track g string ι)) ≡ k

  back_push : (k : ℕ) (ι : Source) (p X : ℕ) (S x : List ℕ) (T : Tree) → IsTree g T X → (β : List ℕ) → drop k (track g string ι) ≡ X ∷ β
      → Base ι k (p ∷ S) x → Base ι (suc k) (m.goto p X ∷ p ∷ S) (x ++ yield T)
  back_push k ι p X S x T hT β e b =
      record {
        bottom = b.bottom;
        under = b.under;
        read = b.read;
        trees = b.trees ⧺ cons T nil;
        code = b.code;
        stack = b.stack;
        trees_are = rw (take_next k (track g string ι) X β e) (join g (take k (track g string ι)) (X ∷ []) b.trees (cons T nil) b.trees_are (hT, tt));
        stack_is =
            ap₂ (λ (q : ℕ) (l : List ℕ). m.goto q X ∷ l)
            (ap (λ (l : List ℕ). next l 0) b.stack_is ∙ top_gotos m b.bottom (take k (track g string ι)) b.under) b.stack_is
            ∙ sym (gotos_snoc m b.bottom (take k (track g string ι)) X b.under)
            ∙ ap (λ (l : List ℕ). gotos m b.bottom l b.under) (sym (take_next k (track g string ι) X β e));
        read_is = ap (λ (l : List ℕ). l ++ yield T) b.read_is ∙ simp (yields-⧺, append_assoc, append-nil);
        holds = b.holds;
        long = take_long k (track g string ι) X β e;
      }

  pub back : (k q : ℕ) (S u : List ℕ) → Stack C E (q ∷ S) u → (ι : Source) (d : ℕ) → Holds g string Kernel q ι k d → Base ι k (q ∷ S) u
  back zero q S u s ι d h =
      record {
        bottom = q;
        under = S;
        read = u;
        trees = nil;
        code = d;
        stack = s;
        trees_are = tt;
        stack_is = refl;
        read_is = sym (append-nil u);
        holds = h;
        long = refl;
      }
  back (suc k) q S u base ι d h = absurd (suc-ne-zero k (E.entered 1 goal_entry ι (suc k) d (held_later h)).1)
  back (suc k) q S u (push {q = p} {X = X} {S = S'} {u = x} s ex T hT) ι d h =
      let v = E.moved ex.holds ex.there ι (suc k) d (held_later h) in
      let k-is : v.dot ≡ k = suc_inj (sym v.is) in
      back_push k ι p X S' x T hT v.rest (rw k-is at v.there) (back k p S' x s ι v.code (rw k-is at v.holds))
  back (suc k) q S u (pend s o δs e εs en D hD) ι d h = absurd (suc-ne-zero k (E.entered e (used C E o δs e εs en) ι (suc k) d (held_later h)).1)

  -- ---- an announce

  no_rule_kernel : (b : ℕ) (U v : List ℕ) → Stack C E (b ∷ U) v → (i d : ℕ) → Kernel b (rule i) zero d → ⊥
  no_rule_kernel b U v base i d h = not_entry (E.entered 1 goal_entry (rule i) zero d h).0
  no_rule_kernel b U v (push s ex T hT) i d h = let x = E.moved ex.holds ex.there (rule i) zero d h in suc-ne-zero x.dot (sym x.is)
  no_rule_kernel b U v (pend s o δs e εs en D hD) i d h = not_entry (E.entered e (used C E o δs e εs en) (rule i) zero d h).0

  -- the item before a rule's left side, which brought the rule in
  pub parent : (b : ℕ) (U v : List ℕ) → Stack C E (b ∷ U) v → (i d : ℕ) (r : Rule) → rule_at g i ≡ some r
      → Holds g string Kernel b (rule i) zero d → Expects C E b r.left
  parent b U v s i d r e (kernel h) = absurd (no_rule_kernel b U v s i d h)
  parent b U v s i d r e (closure {ι = ι} {k = k} {d = c} {β = β} {r = r'} hold x er el f) =
      record {
        source = ι;
        dot = k;
        code = c;
        rest = β;
        holds = hold;
        there = x ∙ ap (λ (X : ℕ). X ∷ β) (sym el ∙ ap (λ (y : Rule). y.left) (some_inj (sym er ∙ e)));
      }

  -- the rule, the stack that is left under it, and what was read for that
  pub record Announcing (i : ℕ) (es S u : List ℕ) : Type 0 where
    pub bottom : ℕ
    pub under : List ℕ
    pub read : List ℕ
    pub opened : Opened C E bottom
    pub number_is : opened.number ≡ i
    pub entries_are : opened.entries ≡ es
    pub stack : Stack C E (bottom ∷ under) read
    pub dropped : drop (length opened.rule_of_lem.before) S ≡ bottom ∷ under
    pub read_is : u ≡ read ++ yields opened.trees

  pub announcing : (q : ℕ) (S u : List ℕ) → Stack C E (q ∷ S) u → (c i : ℕ) (es : List ℕ) → m.cell q c ≡ announce i es → Announcing i es (q ∷ S) u
  announcing q S u s c i es h =
      record {
        bottom = b.bottom;
        under = b.under;
        read = b.read;
        opened = record {
          number = i;
          rule_of_lem = r;
          is = a.is;
          parent = parent b.bottom b.under b.read b.stack i b.code r a.is b.holds;
          trees = b.trees;
          trees_are = rw all at b.trees_are;
          state = q;
          code = c;
          entries = es;
          cell = h;
        };
        number_is = refl;
        entries_are = refl;
        stack = b.stack;
        dropped =
            ap (λ (l : List ℕ). drop (length r.before) l) (b.stack_is ∙ ap (λ (l : List ℕ). gotos m b.bottom l b.under) all)
            ∙ drop-gotos m b.bottom r.before b.under;
        read_is = b.read_is;
      }
    where
      a : Announced g string Kernel m q c i es
      a = E.announced q c i es h

      r : Rule
      r = a.rule_of_lem

      b : Base (rule i) (length r.before) (q ∷ S) u
      b = back (length r.before) q S u s (rule i) a.code a.holds

      all : take (length r.before) (track g string (rule i)) ≡ r.before
      all = ap (λ (o : Option Rule). take (length r.before) (before_of o)) a.is ∙ take-length r.before

  pub stack_at : {S S' u u' : List ℕ} → S ≡ S' → u ≡ u' → Stack C E S u → Stack C E S' u'
  stack_at {S} {S'} {u} {u'} e f s = subst (λ (x : List ℕ). Stack C E S' x) f (subst (λ (x : List ℕ). Stack C E x u) e s)

  -- a rule announced, the groups δs of it read: what stands while the others wait
  pub waiting : (εs δs : List ℕ) (b : ℕ) (U v : List ℕ) (o : Opened C E b) (D : Forest) → Stack C E (b ∷ U) v
      → o.entries ≡ δs ++ εs → IsForest g D (concat (map string δs))
      → Stack C E (map m.enter εs ++ m.goto b o.rule_of_lem.left ∷ b ∷ U) (v ++ (yields o.trees ++ yields D))
  waiting [] δs b U v o D s en hD =
      stack_at refl (ap (λ (l : List ℕ). v ++ l) (yields-⧺ o.trees D))
      (push s o.parent (node o.number (o.trees ⧺ D)) (
        o.rule_of_lem,
        o.is,
        refl,
        join g o.rule_of_lem.before (concat o.rule_of_lem.groups) o.trees D o.trees_are (rw (groups_at C E o δs [] en, append-nil (concat (map string δs))) hD),
      ))
  waiting (e ∷ εs) δs b U v o D s en hD = pend s o δs e εs en D hD

  -- ---- a pop

  -- what a pop leaves: nothing, and P holds, or a stack for which u was read
  abbrev pub Leaves : List ℕ → Type 0 → List ℕ → Type 0
  Leaves U P u = ((U ≡ []) × P) ⊎ (((c : ℕ) → pop_to U c ≡ on closed U) × Stack C E U u)

  -- below a finished entry item: nothing, or what waits for the group
  pub closing : (b : ℕ) (U v : List ℕ) → Stack C E (b ∷ U) v → (e d : ℕ) → Kernel b (entry e) zero d → (G : Forest) → IsForest g G (string e)
      → Leaves U ((v ≡ []) × (e ≡ 1)) (v ++ yields G)
  closing b U v base e d h G hG = inl (refl, (refl, entry_inj (E.entered 1 goal_entry (entry e) zero d h).0))
  closing b U v (push s ex T hT) e d h G hG = let x = E.moved ex.holds ex.there (entry e) zero d h in absurd (suc-ne-zero x.dot (sym x.is))
  closing b U v (pend {q = q} {S = S} {u = x} s o δs f εs en D hD) e d h G hG =
      let e-is : e ≡ f = entry_inj (E.entered f (used C E o δs f εs en) (entry e) zero d h).0 in
      inr (
        pop_groups g m εs (m.goto q o.rule_of_lem.left) (q ∷ S),
        stack_at refl (simp (yields-⧺, append_assoc))
            (waiting εs (δs ++ f ∷ []) q S x o (D ⧺ G) s (en ∙ sym (append_snoc δs f εs))
            (rw (map-append string δs (f ∷ []), concat-++ (map string δs) (string f ∷ []), append-nil (string f))
            (join g (concat (map string δs)) (string f) D G hD (rw e-is at hG)))),
      )

  -- a pop finds its states; it leaves nothing, with a sentence read, or a stack
  pub record Popping (n : ℕ) (S u : List ℕ) : Type 0 where
    pub under : List ℕ
    pub dropped : drop n S ≡ under
    pub fits : n ≤ length S
    pub leaves : Leaves under (Sentence g u) u

  pub popping : (q : ℕ) (S u : List ℕ) → Stack C E (q ∷ S) u → (c n : ℕ) → m.cell q c ≡ pop n → Popping n (q ∷ S) u
  popping q S u s c n h =
      record {
        under = b.under;
        dropped = ap₂ (λ (x : ℕ) (l : List ℕ). drop x l) p.is stack_is ∙ drop_all m b.bottom γ b.under;
        fits = omega (arith, p.is, ap length stack_is, gotos-length m b.bottom γ b.under);
        leaves = pick (closing b.bottom b.under b.read b.stack e b.code (held_entry b.holds) b.trees trees_are);
      }
    where
      p : Popped g string Kernel m q c n
      p = E.popped q c n h

      e : ℕ
      e = p.number

      γ : List ℕ
      γ = string e

      b : Base (entry e) (length γ) (q ∷ S) u
      b = back (length γ) q S u s (entry e) c p.holds

      trees_are : IsForest g b.trees γ
      trees_are = rw (take-length γ) at b.trees_are

      stack_is : q ∷ S ≡ gotos m b.bottom γ b.under
      stack_is = b.stack_is ∙ ap (λ (l : List ℕ). gotos m b.bottom l b.under) (take-length γ)

      pick : Leaves b.under ((b.read ≡ []) × (e ≡ 1)) (b.read ++ yields b.trees) → Leaves b.under (Sentence g u) u
      pick (inl x) =
          let o = one_tree g b.trees g.goal (subst (λ (l : List ℕ). IsForest g b.trees l) (ap string x.1.1 ∙ C.goal_string) trees_are) in
          inl (x.0, record { tree = o.tree; derives = o.is; yields_it = sym (b.read_is ∙ ap (λ (l : List ℕ). l ++ yields b.trees) x.1.0 ∙ o.yield_is) })
      pick (inr x) = inr (x.0, stack_at refl (sym b.read_is) x.1)
