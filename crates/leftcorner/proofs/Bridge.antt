-- A table that meets the construction gives the machine an automaton that is complete and exact.
use Prim.Native.Nat.{ℕ, zero, suc}
use native.Mathlib.Omega.{arith}
use mathlib.Core.Path.{◌≡◌, refl, sym, ap, ◌∙◌, subst}
use mathlib.Core.List.{List, [], ◌∷◌, ◌++◌, map, map-append}
use mathlib.Core.Option.{Option, some, none}
use lib.ListN.{length, drop}
use Rattle.language.specs.Grammar.{Grammar, Rule, rule_at, right, concat, IsTerminal}
use Rattle.language.specs.Sentence.{In, here, Declared, AllProductive}
use Rattle.language.specs.First.{First}
use Rattle.language.proofs.Member.{in_right}
use Rattle.language.proofs.Strings.{string_derives, goal_declared}
use Rattle.leftcorner.specs.Machine.{shift, announce, pop, Automaton}
use Rattle.leftcorner.specs.Table.{Action, S, N, A, P, Table, next_state, string_of, state_of, groups_of, goto_state, group_entries, cell_of, automaton}
use Rattle.leftcorner.specs.Construction.{of_group, forget, entry_item, EntryAt, KernelAt, ActionAt, MovedBy, moved, Carries, in_kernel, in_closure, Asked, to_move, to_announce, to_pop, Meets}
use Rattle.leftcorner.proofs.Adequate.{Source, rule, entry, track, behind, Holds, kernel, closure, Complete, Used, goal_entry, group_entry, Moved, Shifted, Announced, Popped, Exact}
use Rattle.leftcorner.proofs.ReadOff.{clash, string_at, shift_line, pop_line, announce_line, action_is, found_entry, found_strings}
use Rattle.leftcorner.proofs.Sources.{IsItem, rule_item, entry_item_lem, KernelCode, one_source, rule_number, entry_number, goes_of, moves_at}
use Rattle.leftcorner.proofs.Closure.{has_of, source_of, line_moves, not_past, carries_of}

-- an action without a next state is not forgotten
forget_same : (y x : Action) → next_state x ≡ none → forget y ≡ x → y ≡ x
forget_same (S s) x n e = let f : next_state (S 0) ≡ none = ap next_state e ∙ n in cc
forget_same (N s) x n e = let f : next_state (S 0) ≡ none = ap next_state e ∙ n in cc
forget_same (A i) x n e = e
forget_same (P m) x n e = e

forget_next : (y : Action) → forget y ≡ S 0 → (s : ℕ) × (next_state y ≡ some s)
forget_next (S s) e = (s, refl)
forget_next (N s) e = (s, refl)
forget_next (A i) e = clash cc
forget_next (P n) e = clash cc

goto_next : (y : Action) (s : ℕ) → next_state y ≡ some s → goto_state (some y) ≡ s
goto_next (S u) s e = cc
goto_next (N u) s e = cc
goto_next (A i) s e = cc
goto_next (P n) s e = cc

module _ (g : Grammar) (t : Table) (D : Declared g) (M : Meets g t) where
  abbrev u : Automaton
  u = automaton g t

  abbrev Held : ℕ → Source → ℕ → ℕ → Type 0
  Held q ι k d = Holds g (string_at t) (KernelCode g t) q ι k d

  abbrev track_of : Source → List ℕ
  track_of ι = track g (string_at t) ι

  -- ---- the closure, by source and by number

  held : {q i k d : ℕ} {ι : Source} → IsItem g t ι i → Carries g t (First g) q i k d → Held q ι k d
  held {i = i} s (in_kernel {σ = σ} h m) = kernel (record { item = i; codes = σ; is = s; line = h; code = m })
  held {q = q} s (in_closure {i = i} {k = k} {d = d} {X = X} j {c = c} {β = β} {r = r} h go e l f) =
      let o = source_of g t M.form (has_of g t h) in
      let w = moves_at g t k X β o.1 (not_past g t M k q i (has_of g t h)) go in
      subst (λ (κ : Source). Held q κ zero c) (one_source g t (rule_item j r e) s refl)
      (closure (held o.1 h) w.1 e l (subst (λ (b : List ℕ). First g b d c) w.2 f))

  carried : {q k d : ℕ} {ι : Source} → Held q ι k d → (i : ℕ) × IsItem g t ι i × Carries g t (First g) q i k d
  carried (kernel h) = (h.item, h.is, in_kernel h.line h.code)
  carried (closure {k = k} {X = X} {β = β} {i = j} {r = r} h e re l f) =
      let o = carried h in
      (j, rule_item j r re, in_closure j o.2 (goes_of g t k X β o.1 e) re l f)

  rule_carried : {q i k d : ℕ} → Held q (rule i) k d → Carries g t (First g) q i k d
  rule_carried {q = q} {k = k} {d = d} h = let o = carried h in subst (λ (j : ℕ). Carries g t (First g) q j k d) (rule_number g t o.1) o.2

  -- ---- moves

  record Move (q X : ℕ) : Type 0 where
    action : Action
    state : ℕ
    line : ActionAt g t q X action
    next_is : next_state action ≡ some state
    goto_is : u.goto q X ≡ state

  the_move : (q X i n : ℕ) → MovedBy g t q X i n → Move q X
  the_move q X i n m =
      let f = (M.cells q).filled X (S 0) (to_move m) in
      let s = forget_next f.0 f.2 in
      record {
        action = f.0;
        state = s.0;
        line = f.1;
        next_is = s.1;
        goto_is = ap goto_state (action_is g t M.form q X f.0 f.1) ∙ goto_next f.0 s.0 s.1;
      }

  -- an item that moves, by number
  record Going (q : ℕ) (ι : Source) (k d X : ℕ) (β : List ℕ) : Type 0 where
    item : ℕ
    is : IsItem g t ι item
    carries : Carries g t (First g) q item k d
    by : MovedBy g t q X item (suc k)
    move : Move q X

  going : {q : ℕ} {ι : Source} {k d X : ℕ} {β : List ℕ} → Held q ι k d → drop k (track_of ι) ≡ X ∷ β → Going q ι k d X β
  going {q = q} {k = k} {X = X} {β = β} h e =
      let o = carried h in
      let v = moved (has_of g t o.2) (goes_of g t k X β o.1 e) in
      record { item = o.0; is = o.1; carries = o.2; by = v; move = the_move q X o.0 (suc k) v }

  moves : {q : ℕ} {ι : Source} {k d X : ℕ} {β : List ℕ} → Held q ι k d → drop k (track_of ι) ≡ X ∷ β
      → KernelCode g t (u.goto q X) ι (suc k) d
  moves {q = q} {ι = ι} {k = k} {d = d} {X = X} {β = β} h e =
      let o = going h e in
      let m = o.move in
      let s = (M.items q).move_has X m.state o.item (suc k) m.action m.line m.next_is o.by in
      let c = (M.lookaheads m.state).of_move q X o.item k d (β ++ behind g (string_at t) ι) s.0 m.action m.line m.next_is o.carries
      (goes_of g t k X β o.is e) s.1 in
      subst (λ (p : ℕ). KernelCode g t p ι (suc k) d) (sym m.goto_is) (record { item = o.item; codes = s.0; is = o.is; line = s.1; code = c })

  shift_cell : (y : Action) (q a s : ℕ) → IsTerminal g a → ActionAt g t q a y → next_state y ≡ some s → cell_of g t (some y) ≡ shift s
  shift_cell (S v) q a s w l e = let k : v ≡ s = cc in ap shift k
  shift_cell (N v) q a s w l e = absurd (omega (arith, D.few_terminals, w.1, (M.form.goto_kind q a v l).0))
  shift_cell (A v) q a s w l e = cc
  shift_cell (P v) q a s w l e = cc

  shifts : {q : ℕ} {ι : Source} {k d a : ℕ} {β : List ℕ} → Held q ι k d → drop k (track_of ι) ≡ a ∷ β → IsTerminal g a
      → u.cell q a ≡ shift (u.goto q a)
  shifts {q = q} {a = a} h e w =
      let m = (going h e).move in
      ap (cell_of g t) (action_is g t M.form q a m.action m.line) ∙ shift_cell m.action q a m.state w m.line m.next_is
      ∙ ap shift (sym m.goto_is)

  -- ---- announces and pops

  announces : {q i d c : ℕ} {r : Rule} → rule_at g i ≡ some r → Held q (rule i) (length r.before) d → First g (concat r.groups) d c
      → (es : List ℕ) × (u.cell q c ≡ announce i es)
  announces {q = q} {i = i} {c = c} e h f =
      let y = (M.cells q).filled c (A i) (to_announce i e (rule_carried h) f) in
      (group_entries g t i, ap (cell_of g t) (action_is g t M.form q c y.0 y.1 ∙ ap (λ (x : Action). some x) (forget_same y.0 (A i) refl y.2)))

  pops : {q e d : ℕ} → Held q (entry e) (length (string_at t e)) d → u.cell q d ≡ pop (suc (length (string_at t e)))
  pops {q = q} {e = e} {d = d} h =
      let o = carried h in
      let n = entry_number g t o.1 in
      let c = subst (λ (i : ℕ). Carries g t (First g) q i (length (string_at t e)) d) n.0 o.2 in
      let y = (M.cells q).filled d (P (suc (length (string_at t e)))) (to_pop e n.1.1 c) in
      ap (cell_of g t) (action_is g t M.form q d y.0 y.1 ∙ ap (λ (x : Action). some x) (forget_same y.0 (P (suc (length (string_at t e)))) refl y.2))

  -- ---- entries

  group_wanted : (i : ℕ) (o : Option Rule) → rule_at g i ≡ o → (γ : List ℕ) → In γ (groups_of o) → (k : ℕ) × (s : ℕ) × EntryAt g t k s γ
  group_wanted i none e γ m = elim m [ ]
  group_wanted i (some r) e γ m = M.entries.all_wanted γ (of_group i e m)

  group_strings : (i : ℕ) → map (string_at t) (group_entries g t i) ≡ groups_of (rule_at g i)
  group_strings i = found_strings g t M.form (groups_of (rule_at g i)) (group_wanted i (rule_at g i) refl)

  announced_entry : (q b i : ℕ) (es δs : List ℕ) (e : ℕ) (εs : List ℕ) → u.cell q b ≡ announce i es → es ≡ δs ++ e ∷ εs
      → (s : ℕ) × EntryAt g t e s (string_at t e)
  announced_entry q b i es δs e εs h p =
      found_entry g t M.form (groups_of (rule_at g i)) (group_wanted i (rule_at g i) refl) e
      (subst (λ (l : List ℕ). In e l) (sym p ∙ (announce_line g t q b i es h).1) (in_right δs here))

  entry_code : (e s c : ℕ) (γ : List ℕ) → EntryAt g t e s γ → ((σ : List ℕ) → KernelAt g t s (entry_item g t e) zero σ → In c σ)
      → KernelCode g t (u.enter e) (entry e) zero c
  entry_code e s c γ h has =
      let k = (M.items s).entry_has e γ h in
      subst (λ (p : ℕ). KernelCode g t p (entry e) zero c) (sym (ap state_of h))
      (record { item = entry_item g t e; codes = k.0; is = entry_item_lem e s γ h; line = k.1; code = has k.0 k.1 })

  start : KernelCode g t (u.enter 1) (entry 1) zero zero
  start =
      let e = M.entries.goal_first in
      entry_code 1 e.0 0 (g.goal ∷ []) e.1 (λ σ l. (M.lookaheads e.0).of_goal (g.goal ∷ []) σ e.1 l)

  group : {q i d c : ℕ} {r : Rule} (b : ℕ) (es δs : List ℕ) (e : ℕ) (εs : List ℕ) → rule_at g i ≡ some r
      → Held q (rule i) (length r.before) d → u.cell q b ≡ announce i es → es ≡ δs ++ e ∷ εs
      → First g (concat (map (string_at t) εs)) d c → KernelCode g t (u.enter e) (entry e) zero c
  group {q = q} {i = i} {d = d} {c = c} {r = r} b es δs e εs re h k p f =
      let x = announced_entry q b i es δs e εs k p in
      let y : r.groups ≡ map (string_at t) δs ++ string_at t e ∷ map (string_at t) εs =
      sym (ap groups_of re) ∙ sym (group_strings i)
      ∙ ap (map (string_at t)) (sym (announce_line g t q b i es k).1 ∙ p) ∙ map-append (string_at t) δs (e ∷ εs) in
      entry_code e x.0 c (string_at t e) x.1
      (λ σ l. (M.lookaheads x.0).of_group e q i d c (string_at t e) σ r (map (string_at t) δs) (map (string_at t) εs) x.1 re y (rule_carried h) f l)

  pub complete : Complete g (string_at t) (KernelCode g t) (automaton g t)
  complete = record {
    goal_string = ap string_of M.entries.goal_first.1;
    start = start;
    moves = moves;
    shifts = shifts;
    announces = announces;
    group = λ {b = b} {es = es} δs e εs re h k p f. group b es δs e εs re h k p f;
    pops = pops;
  }

  -- ---- and nothing else

  used_entry : {e : ℕ} → Used g (string_at t) (KernelCode g t) u e → (s : ℕ) × (γ : List ℕ) × EntryAt g t e s γ
  used_entry goal_entry = let e = M.entries.goal_first in (e.0, g.goal ∷ [], e.1)
  used_entry (group_entry {q = q} {b = b} {i = i} {es = es} δs e εs h p) = let x = announced_entry q b i es δs e εs h p in (x.0, string_at t e, x.1)

  entered : (e : ℕ) → Used g (string_at t) (KernelCode g t) u e → (ι : Source) (k d : ℕ) → KernelCode g t (u.enter e) ι k d → (ι ≡ entry e) × (k ≡ zero)
  entered e w ι k d h =
      let x = used_entry w in
      let l = subst (λ (p : ℕ). KernelAt g t p h.item k h.codes) (ap state_of x.2) h.line in
      let z = (M.items x.0).entry_only e x.1 x.2 h.item k h.codes l in
      (one_source g t h.is (entry_item_lem e x.0 x.1 x.2) z.0, z.1)

  announced_by : {q c i : ℕ} (es : List ℕ) → es ≡ group_entries g t i → Asked g t (First g) q c (A i) → Announced g (string_at t) (KernelCode g t) u q c i es
  announced_by es p (to_announce i {d = d} {r = r} e h f) =
      record { rule_of_lem = r; code = d; is = e; holds = held (rule_item i r e) h; first = f; entries = ap (map (string_at t)) p ∙ group_strings i ∙ ap groups_of e }

  popped_by : {q c n : ℕ} → Asked g t (First g) q c (P n) → Popped g (string_at t) (KernelCode g t) u q c n
  popped_by {q = q} {c = c} (to_pop e {s = s} {γ = γ} h k) =
      let f : γ ≡ string_at t e = sym (ap string_of h) in
      record {
        number = e;
        is = ap (λ (l : List ℕ). suc (length l)) f;
        holds = subst (λ (l : List ℕ). Held q (entry e) (length l) c) f (held (entry_item_lem e s γ h) k);
      }

  module _ (R : AllProductive g) where
    moved_by : {q X i n : ℕ} {ι : Source} → IsItem g t ι i → MovedBy g t q X i n → Moved g (string_at t) (KernelCode g t) u q X ι n
    moved_by {q = q} {X = X} {i = i} s (moved {k = k} {β = β} h go) =
        let c = carries_of g t M D R h in
        let w = moves_at g t k X β s (not_past g t M k q i h) go in
        record { dot = k; code = c.0; rest = w.0; is = refl; holds = held s c.1; there = w.1 }

    came : {q : ℕ} {ι : Source} {k d X : ℕ} {β : List ℕ} → Held q ι k d → drop k (track_of ι) ≡ X ∷ β
        → (κ : Source) (n c : ℕ) → KernelCode g t (u.goto q X) κ n c → Moved g (string_at t) (KernelCode g t) u q X κ n
    came {q = q} {k = k} {X = X} h e κ n c y =
        let o = going h e in
        let m = o.move in
        let l = subst (λ (p : ℕ). KernelAt g t p y.item n y.codes) m.goto_is y.line in
        moved_by y.is ((M.items q).move_only X m.state o.item (suc k) m.action m.line m.next_is o.by y.item n y.codes l)

    moved_source : {q X i n : ℕ} → MovedBy g t q X i n → (ι : Source) × IsItem g t ι i
    moved_source (moved h go) = source_of g t M.form h

    shifted : (q a s : ℕ) → u.cell q a ≡ shift s → Shifted g (string_at t) (KernelCode g t) u q a s
    shifted q a s e =
        let l = shift_line g t q a s e in
        let v = line_moves g t M q a s (S s) l refl in
        let o = moved_source v.2 in
        let m = moved_by o.1 v.2 in
        record {
          source = o.0;
          dot = m.dot;
          code = m.code;
          rest = m.rest;
          holds = m.holds;
          there = m.there;
          terminal = M.form.shift_kind q a s l;
          is = sym (ap goto_state (action_is g t M.form q a (S s) l));
        }

    pub exact : Exact g (string_at t) (KernelCode g t) (automaton g t)
    exact = record {
      rich = λ i r e. string_derives g R (right r) (λ X m. D.right_kind i r X e m);
      rich_goal = string_derives g R (g.goal ∷ []) (goal_declared g D);
      state_number = λ {q} {ι} {k} {d} h. (M.form.kernel_state q h.item k h.codes h.line).0;
      entered = entered;
      moved = came;
      shifted = shifted;
      announced = λ q c i es e. let l = announce_line g t q c i es e in announced_by es l.1 ((M.cells q).asked c (A i) l.0);
      popped = λ q c n e. popped_by ((M.cells q).asked c (P n) (pop_line g t q c n e));
    }
