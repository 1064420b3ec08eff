-- The walk comes to rest: on any code it shifts or ends after finitely many steps. A step that is no shift is asked by an item
-- that can be finished; finishing it lowers the stack, except for a rule whose one symbol so far is the top's: that replaces
-- the top, and a chain of such rules meets each left side once.
use Prim.Native.Nat.{ℕ, zero, suc, ◌≤◌}
use native.Mathlib.Omega.{arith}
use native.Mathlib.Nat.{suc-ne-zero, not-suc-le-zero}
use mathlib.Core.Logic.{inl, inr}
use mathlib.Core.Path.{◌≡◌, refl, sym, ap, ap₂, ◌∙◌, subst}
use mathlib.Core.List.{List, [], ◌∷◌, ◌++◌, map, append-nil}
use mathlib.Core.Option.{Option, some, none}
use lib.ListN.{length, drop, take, take-append-drop}
use lib.Seq.{drop-length}
use Rattle.language.specs.Grammar.{Grammar, Rule, rule_at, concat}
use Rattle.language.specs.Derivation.{Tree, Forest, node, nil, cons, yield, yields, IsTree, IsForest}
use Rattle.language.proofs.Forests.{◌⧺◌, join}
use Rattle.language.specs.First.{next}
use Rattle.language.proofs.Lists.{next_join}
use Rattle.language.specs.Sentence.{In}
use Rattle.language.proofs.Member.{without, without-length}
use Rattle.leftcorner.specs.Machine.{Cell, shift, announce, pop, empty, Automaton, Event, pop_to, act, step}
use Rattle.leftcorner.proofs.Adequate.{Source, rule, entry, track, before_of, after_of, Holds, kernel, closure, Complete, Used, goal_entry, Moved, Announced, Popped, Exact}
use Rattle.leftcorner.proofs.Run.{Run, stop, more}
use Rattle.leftcorner.proofs.Path.{gotos, last, gotos-length, close_step, shift_on}
use Rattle.leftcorner.proofs.Completeness.{next_end, first_nil}
use Rattle.leftcorner.proofs.Stack.{ahead, ahead_at, ahead-rule, Expects, Stack, base, push, pend, used, no_empty}
use Rattle.leftcorner.proofs.Back.{not_entry, held_entry, Base, back, parent, Leaves, closing}
use Rattle.leftcorner.proofs.Step.{reads, step_keeps}
use Rattle.leftcorner.proofs.Finish.{Rests, at_whole, at_wrong, at_shift, quietly, run_rests, nothing_read, held_end, track_run, rule_run}
use Rattle.leftcorner.proofs.Growth.{lefts, Alone, Chain, chain_start, onward}

one_taken : (l : List ℕ) (Z : ℕ) (β : List ℕ) → l ≡ Z ∷ β → (take 1 l ≡ Z ∷ []) × (drop 1 l ≡ β)
one_taken [] Z β e = absurd (suc-ne-zero (length β) (sym (ap length e)))
one_taken (x ∷ l) Z β e = let f : x ≡ Z = cc in let h : l ≡ β = cc in (ap (λ (y : ℕ). y ∷ []) f, h)

no_drop : (n X : ℕ) (β : List ℕ) → drop n [] ≡ X ∷ β → ⊥
no_drop zero X β e = suc-ne-zero (length β) (sym (ap length e))
no_drop (suc n) X β e = suc-ne-zero (length β) (sym (ap length e))

module _ {g : Grammar} {string : ℕ → List ℕ} {Kernel : ℕ → Source → ℕ → ℕ → Type 0} {m : Automaton}
    (C : Complete g string Kernel m) (E : Exact g string Kernel m) where
  -- an item whose dot has something before it is of a rule that there is
  is_rule : (i k X : ℕ) (β : List ℕ) → drop k (track g string (rule i)) ≡ X ∷ β → (r : Rule) × (rule_at g i ≡ some r)
  is_rule i k X β e = go (rule_at g i) refl
    where
      go : (o : Option Rule) → rule_at g i ≡ o → (r : Rule) × (rule_at g i ≡ some r)
      go none x = absurd (no_drop k X β (sym (ap (λ (y : Option Rule). drop k (before_of y)) x) ∙ e))
      go (some r) x = (r, x)

  run_keeps : {S U w v : List ℕ} {τ : List Event} → Run g m S w τ U v → (u : List ℕ) → Stack C E S u → (x : List ℕ) × Stack C E U x
  run_keeps stop u s = (u, s)
  run_keeps (more {S = S} {U = U} {w = w} {e = e} h r) u s = run_keeps r (reads e u) (step_keeps C E S u U (next w 0) e s h)

  module _ (c : ℕ) where
    -- the walk rests on p ∷ S, if the item with lookahead d can be finished so that c comes first
    abbrev Finished : (p : ℕ) (S : List ℕ) (ι : Source) (k d : ℕ) → Type 0
    Finished p S ι k d = (F : Forest) → IsForest g F (ahead C E ι k) → next (yields F) d ≡ c → Rests g m c (p ∷ S)

    abbrev Kernels : (p : ℕ) (S : List ℕ) → Type 0
    Kernels p S = (ι : Source) (k d : ℕ) → Kernel p ι k d → Finished p S ι k d

    -- an item brought in by closure is a part of the kernel item that brought it in
    rises : (p : ℕ) (S : List ℕ) → Kernels p S → (ι : Source) (k d : ℕ) → Holds g string Kernel p ι k d → Finished p S ι k d
    rises p S K ι k d (kernel h) F hF e = K ι k d h F hF e
    rises p S K ι k d (closure {ι = κ} {k = n} {d = a} {X = X} {β = β} {i = i} {r = r} hold x er el f) F hF e =
        rises p S K κ n a hold (cons (node i F) f.forest) (rw (ahead_at C E κ n X β x) ((r, er, el, rw (ahead-rule C E i r er) at hF), f.derives))
        (next_join (yields F) (yields f.forest) a ∙ ap (next (yields F)) f.begins ∙ e)

    -- a state rests if its kernel items do
    state_rests : (p : ℕ) (S : List ℕ) → Kernels p S → Rests g m c (p ∷ S)
    state_rests p S K = go (m.cell p c) refl
      where
        by_announce : (i : ℕ) (es : List ℕ) → Announced g string Kernel m p c i es → Rests g m c (p ∷ S)
        by_announce i es a =
            let r = a.rule_of_lem in
            let f : ahead C E (rule i) (length r.before) ≡ concat r.groups
            = ap (λ (o : Option Rule). drop (length r.before) (before_of o) ++ after_of o) a.is
            ∙ ap (λ (l : List ℕ). l ++ concat r.groups) (drop-length r.before) in
            rises p S K (rule i) (length r.before) a.code a.holds a.first.forest (rw f a.first.derives) a.first.begins

        by_pop : (n : ℕ) → Popped g string Kernel m p c n → Rests g m c (p ∷ S)
        by_pop n x = rises p S K (entry x.number) (length (string x.number)) c x.holds nil (rw (drop-length (string x.number)) tt) refl

        go : (x : Cell) → m.cell p c ≡ x → Rests g m c (p ∷ S)
        go (shift s) k = at_shift (ap (λ (y : Cell). act g m y (p ∷ S) c) k ∙ shift_on s (p ∷ S) c (E.shifted p c s k).terminal.0)
        go (announce i es) k = by_announce i es (E.announced p c i es k)
        go (pop n) k = by_pop n (E.popped p c n k)
        go empty k = at_wrong (ap (λ (y : Cell). act g m y (p ∷ S) c) k)

    Shorter : ℕ → Type 0
    Shorter h = (S u : List ℕ) → Stack C E S u → length S ≤ h → Rests g m c S

    -- ---- an entry's item: it is closed, and what is below is shorter

    bottom_rests : (S : List ℕ) → step g m S c ≡ pop_to [] c → Rests g m c S
    bottom_rests S h = go c h
      where
        go : (d : ℕ) → step g m S c ≡ pop_to [] d → Rests g m c S
        go zero x = at_whole x
        go (suc a) x = at_wrong x

    entry_rests : (h : ℕ) → Shorter h → (p : ℕ) (S u : List ℕ) → Stack C E (p ∷ S) u → length (p ∷ S) ≤ suc h
        → (e n d : ℕ) → Kernel p (entry e) n d → Finished p S (entry e) n d
    unfolding Shorter
    entry_rests h ih p S u s le e n d K F hF x =
        run_rests g m (track_run C E (entry e) γ refl n d p S b U F (d ∷ []) (kernel K) o.stack_is h_f' first_nil) c
        (sym (next_end (yields F) (d ∷ []) d refl) ∙ x)
        (λ y. pick (popped (nothing_read (yields F) d y)) (closing C E b U o.read o.stack e o.code (held_entry C E o.holds) (o.trees ⧺ F) trees_are))
      where
        γ : List ℕ
        γ = string e

        o : Base C E (entry e) n (p ∷ S) u
        o = back C E n p S u s (entry e) d (kernel K)

        b : ℕ
        b = o.bottom

        U : List ℕ
        U = o.under

        h_f' : IsForest g F (drop n γ)
        h_f' = rw (append-nil (drop n γ)) at hF

        popped : yields F ≡ [] → step g m (gotos m b γ U) c ≡ pop_to U c
        popped y =
            close_step g m b γ U c
            (subst (λ (a : ℕ). m.cell (last m b γ) a ≡ pop (suc (length γ))) (ap (λ (l : List ℕ). next l d) (sym y) ∙ x)
            (C.pops (held_end C E (entry e) γ refl n d p S b U (kernel K) o.long o.stack_is)))

        trees_are : IsForest g (o.trees ⧺ F) γ
        trees_are = rw (take-append-drop n γ) at (join g (take n γ) (drop n γ) o.trees F o.trees_are h_f')

        short : length U ≤ h
        short = omega (arith, le, ap length o.stack_is, gotos-length m b (take n γ) U)

        pick : step g m (gotos m b γ U) c ≡ pop_to U c
            → Leaves C E U ((o.read ≡ []) × (e ≡ 1)) (o.read ++ yields (o.trees ⧺ F)) → Rests g m c (gotos m b γ U)
        pick z (inl y) = bottom_rests (gotos m b γ U) (z ∙ ap (λ (l : List ℕ). pop_to l c) y.0)
        pick z (inr y) = quietly tt (z ∙ y.0 c) (ih U (o.read ++ yields (o.trees ⧺ F)) y.1 short)

    -- ---- a rule's item, above a move over Z

    -- what a rule that derives its left side from Z alone leads to
    abbrev Upward : (b : ℕ) (U : List ℕ) (Z : ℕ) → Type 0
    Upward b U Z = (i : ℕ) (r : Rule) → Alone g i r Z → (d : ℕ) → Holds g string Kernel b (rule i) zero d → Rests g m c (m.goto b r.left ∷ b ∷ U)

    -- a rule's kernel item, given that the walk rests above the item's beginning
    rule_rests : (p : ℕ) (S u : List ℕ) → Stack C E (p ∷ S) u → (n i d : ℕ) (r : Rule) (b : ℕ) (U : List ℕ) (F : Forest) → rule_at g i ≡ some r
        → Kernel p (rule i) n d → length (take n r.before) ≡ n → p ∷ S ≡ gotos m b (take n r.before) U
        → IsForest g F (drop n r.before ++ concat r.groups) → next (yields F) d ≡ c
        → (yields F ≡ [] → (v : List ℕ) → Stack C E (m.goto b r.left ∷ b ∷ U) v → Rests g m c (m.goto b r.left ∷ b ∷ U)) → Rests g m c (p ∷ S)
    rule_rests p S u s n i d r b U F er K long st hF e go =
        let x = rule_run C E n i d r p S b U F er (kernel K) long st hF in
        let z = run_keeps x.1 u s in
        run_rests g m x.1 c (sym (next_end (yields F) (d ∷ []) d refl) ∙ e) (λ y. go (nothing_read (yields F) d y) z.0 z.1)

    push_kernels : (h : ℕ) → Shorter h → (b : ℕ) (U v : List ℕ) (Z : ℕ) → Stack C E (b ∷ U) v → Expects C E b Z → (M : Tree) → IsTree g M Z → length (b ∷ U) ≤ h
        → Upward b U Z → Kernels (m.goto b Z) (b ∷ U)
    unfolding Shorter
    push_kernels h ih b U v Z s ex M hM le up (entry e) n d K F hF x =
        entry_rests h ih (m.goto b Z) (b ∷ U) (v ++ yield M) (push s ex M hM) (omega (arith, le)) e n d K F hF x
    push_kernels h ih b U v Z s ex M hM le up (rule i) n d K F hF x = by_dot y.dot y.is y.holds y.there
      where
        y : Moved g string Kernel m b Z (rule i) n
        y = E.moved ex.holds ex.there (rule i) n d K

        found : (r : Rule) × (rule_at g i ≡ some r)
        found = is_rule i y.dot Z y.rest y.there

        r : Rule
        r = found.0

        er : rule_at g i ≡ some r
        er = found.1

        st : Stack C E (m.goto b Z ∷ b ∷ U) (v ++ yield M)
        st = push s ex M hM

        is_ahead : (k : ℕ) → n ≡ k → IsForest g F (drop k r.before ++ concat r.groups)
        is_ahead k z = subst (λ (l : List ℕ). IsForest g F l) (ap₂ (λ (o : Option Rule) (a : ℕ). drop a (before_of o) ++ after_of o) er z) hF

        at_dot : (k : ℕ) → n ≡ k → Kernel (m.goto b Z) (rule i) k d
        at_dot k z = subst (λ (a : ℕ). Kernel (m.goto b Z) (rule i) a d) z K

        by_dot : (k : ℕ) → n ≡ suc k → Holds g string Kernel b (rule i) k y.code
            → drop k (track g string (rule i)) ≡ Z ∷ y.rest → Rests g m c (m.goto b Z ∷ b ∷ U)
        by_dot zero is hold th =
            let f : r.before ≡ Z ∷ y.rest = ap before_of (sym er) ∙ th in
            let a = one_taken r.before Z y.rest f in
            rule_rests (m.goto b Z) (b ∷ U) (v ++ yield M) st 1 i d r b U F er (at_dot 1 is) (ap length a.0)
            (ap (λ (l : List ℕ). gotos m b l U) (sym a.0)) (is_ahead 1 is) x
            (λ nul v' s'. up i r
            (record {
              is = er;
              rest = y.rest ++ concat r.groups;
              right_is = ap (λ (l : List ℕ). l ++ concat r.groups) f;
              forest = F;
              forest_is = subst (λ (l : List ℕ). IsForest g F (l ++ concat r.groups)) a.1 (is_ahead 1 is);
              silent = nul;
            })
            y.code hold)
        by_dot (suc k) is hold th =
            let o = back C E (suc (suc k)) (m.goto b Z) (b ∷ U) (v ++ yield M) st (rule i) d (kernel (at_dot (suc (suc k)) is)) in
            let f : track g string (rule i) ≡ r.before = ap before_of er in
            let long : length (take (suc (suc k)) r.before) ≡ suc (suc k) = rw f at o.long in
            let stk : m.goto b Z ∷ b ∷ U ≡ gotos m o.bottom (take (suc (suc k)) r.before) o.under
            = subst (λ (l : List ℕ). m.goto b Z ∷ b ∷ U ≡ gotos m o.bottom (take (suc (suc k)) l) o.under) f o.stack_is in
            rule_rests (m.goto b Z) (b ∷ U) (v ++ yield M) st (suc (suc k)) i d r o.bottom o.under F er (at_dot (suc (suc k)) is) long stk
            (is_ahead (suc (suc k)) is) x
            (λ nul v' s'. ih (m.goto o.bottom r.left ∷ o.bottom ∷ o.under) v' s'
            (omega (arith, le, long, ap length stk, gotos-length m o.bottom (take (suc (suc k)) r.before) o.under)))

    -- ---- a chain of rules that add no token: each new left side is one not yet met

    climbs : (h : ℕ) → Shorter h → (b : ℕ) (U v : List ℕ) (Z : ℕ) → Stack C E (b ∷ U) v → Expects C E b Z → (M : Tree) → IsTree g M Z → length (b ∷ U) ≤ h
        → (l : List ℕ) → Chain g Z l
        → ((Y : ℕ) → Expects C E b Y → (N : Tree) → IsTree g N Y → (k : In Y l) → Chain g Y (without k) → Rests g m c (m.goto b Y ∷ b ∷ U))
        → Rests g m c (m.goto b Z ∷ b ∷ U)
    climbs h ih b U v Z s ex M hM le l inv again =
        state_rests (m.goto b Z) (b ∷ U) (push_kernels h ih b U v Z s ex M hM le
        (λ i r a d hold.
        let p = parent C E b U v s i d r a.is hold in
        let o = onward C E b U v Z l s inv i r a p in
        again r.left p (node i (cons M a.forest)) (r, a.is, refl, rw a.right_is (hM, a.forest_is)) o.0 o.1))

    chain : (n h : ℕ) → Shorter h → (b : ℕ) (U v : List ℕ) (Z : ℕ) → Stack C E (b ∷ U) v → Expects C E b Z → (M : Tree) → IsTree g M Z → length (b ∷ U) ≤ h
        → (l : List ℕ) → length l ≤ n → Chain g Z l → Rests g m c (m.goto b Z ∷ b ∷ U)
    chain zero h ih b U v Z s ex M hM le l len inv =
        climbs h ih b U v Z s ex M hM le l inv (λ Y p N hN k inv'. let f : ⊥ = omega (arith, len, without-length k) in absurd f)
    chain (suc n) h ih b U v Z s ex M hM le l len inv =
        climbs h ih b U v Z s ex M hM le l inv (λ Y p N hN k inv'. chain n h ih b U v Y s p N hN le (without k) (omega (arith, len, without-length k)) inv')

    -- ---- by the height of the stack

    entered_rests : (h : ℕ) → Shorter h → (e : ℕ) (S u : List ℕ) → Used g string Kernel m e → Stack C E (m.enter e ∷ S) u
        → length (m.enter e ∷ S) ≤ suc h → Rests g m c (m.enter e ∷ S)
    entered_rests h ih e S u us s le = state_rests (m.enter e) S items
      where
        items : Kernels (m.enter e) S
        items (rule i) n d K F hF x = absurd (not_entry (E.entered e us (rule i) n d K).0)
        items (entry f) n d K F hF x = entry_rests h ih (m.enter e) S u s le f n d K F hF x

    taller : (h : ℕ) → Shorter h → (S u : List ℕ) → Stack C E S u → length S ≤ suc h → Rests g m c S
    taller h ih S u base le = entered_rests h ih 1 [] [] goal_entry base le
    taller h ih S u (push {q = b} {X = Z} {S = U} {u = v} s ex M hM) le =
        chain (length (lefts g.rules)) h ih b U v Z s ex M hM (omega (arith, le)) (lefts g.rules) (omega arith) (chain_start g Z)
    taller h ih S u (pend {q = b} {S = U} {u = v} s o δs e εs en D hD) le =
        entered_rests h ih e (map m.enter εs ++ m.goto b o.rule_of_lem.left ∷ b ∷ U) (v ++ (yields o.trees ++ yields D))
        (used C E o δs e εs en) (pend s o δs e εs en D hD) le

    shorter : (h : ℕ) → Shorter h
    unfolding Shorter
    shorter zero [] u s le = absurd (no_empty C E u s)
    shorter zero (q ∷ S) u s le = absurd (not-suc-le-zero le)
    shorter (suc h) S u s le = taller h (shorter h) S u s le

    pub rests : (S u : List ℕ) → Stack C E S u → Rests g m c S
    unfolding Shorter
    rests S u s = shorter (length S) S u s (omega arith)
