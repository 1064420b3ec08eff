-- The machine in memory makes the steps of the table's automaton, on stacks of states and codes that fit bytes.
use Prim.Native.Nat.{ℕ, zero, suc, ◌+◌, ◌-◌, ◌≤◌, ◌<◌}
use native.Mathlib.Omega.{arith}
use mathlib.Core.Path.{◌≡◌, refl, sym, ap, ap₂, ◌∙◌, subst}
use mathlib.Core.Bool.{Bool, cond, ◌&&◌}
use mathlib.Core.List.{List, [], ◌∷◌, ◌++◌, map}
use mathlib.Core.Option.{Option, some, none}
use lib.ListN.{length, drop, length-replicate}
use borrow.Author.Tests.{le-leb}
use Rattle.language.specs.Grammar.{Grammar, Rule, rule_at}
use Rattle.language.specs.First.{next}
use Rattle.leftcorner.specs.Machine.{Automaton, Cell, on, Event, announced, act, step, tell, land, shift_to, pop_to}
use Rattle.leftcorner.specs.Table.{EntryLine, E, Action, S, N, A, P, Table, entry_at, state_of, action_for, goto_state, cell_of, group_entries, automaton}
use Rattle.leftcorner.specs.Construction.{ActionAt}
use Rattle.leftcorner.proofs.ReadOff.{action_back}
use Rattle.memory.specs.Memory.{HoldsActions, kind_of, value_of, pop_value}
use Rattle.memory.specs.Fits.{Fits}
use Rattle.walk_tables.specs.declared.Machine.{Machine}
use Rattle.walk_tables.specs.Memory.{figure_of, goto_of, cell_at, memory_rule, memory_grammar, meaning, memory_automaton}
use Rattle.walk_tables.specs.Memory as memory
use Rattle.walk_tables.proofs.MemoryLaws.{rule_is}
use Rattle.walk_rules.specs.Linked.{Linked}
use Rattle.machine.specs.Machine.{AllLow}

low_top : (l : List ℕ) → AllLow l → next l 0 < 256
low_top [] h = omega arith
low_top (q ∷ l) h = h.0

low_drop : (n : ℕ) (l : List ℕ) → AllLow l → AllLow (drop n l)
low_drop zero l h = h
low_drop (suc n) [] h = h
low_drop (suc n) (q ∷ l) h = low_drop n l h.1

low_append : (a b : List ℕ) → AllLow a → AllLow b → AllLow (a ++ b)
low_append [] b h k = k
low_append (q ∷ a) b h k = (h.0, low_append a b h.1 k)

module _ (g : Grammar) (t : Table) (mem : Machine) (H : HoldsActions mem.kinds mem.values mem.gotos t) (F : Fits g t)
    (L : Linked mem.rules mem.start g t) (few : (i : ℕ) (r : Rule) → rule_at g i ≡ some r → (i < 256) × (r.left < 128))
    (pops : (q c n : ℕ) → ActionAt g t q c (P n) → (1 ≤ n) × (n ≤ 255)) where
  abbrev m : Automaton
  m = memory_automaton mem

  abbrev k : Grammar
  k = memory_grammar mem.rules

  -- the cell in memory is that of the line
  cell_is : (q c : ℕ) → q < 256 → c < 64 → m.cell q c ≡ meaning mem.rules (memory.cell_of (kind_of (action_for t.actions q c)) (value_of (action_for t.actions q c)))
  unfolding memory_automaton cell_at
  cell_is q c lq lc = ap₂ (λ (x y : ℕ). meaning mem.rules (memory.cell_of x y)) (H.kind_is q c lq lc) (H.value_is q c lq lc)

  goto_is : (q X : ℕ) → q < 256 → 64 ≤ X → X < 128 → m.goto q X ≡ (automaton g t).goto q X
  unfolding memory_automaton goto_of
  goto_is q X lq l h = H.goto_is q (X - 64) lq (omega arith) ∙ ap (λ (Y : ℕ). goto_state (action_for t.actions q Y)) (let e : 64 + (X - 64) ≡ X = omega arith in e)

  pop_value_lem : (n : ℕ) → 1 ≤ n → n ≤ 255 → suc (pop_value n) ≡ n
  pop_value_lem n l h = ap (λ (b : Bool). suc (cond b (n - 1) 255)) (ap₂ ◌&&◌ (le-leb 1 n l) (le-leb n 255 h)) ∙ (let e : suc (n - 1) ≡ n = omega arith in e)

  land_same : (i : ℕ) (r : Rule) (l : List ℕ) → AllLow l → rule_at g i ≡ some r
      → land k m i (memory_rule mem.rules i) (memory.group_entries mem.rules i (figure_of mem.rules i 3)) l ≡ land g (automaton g t) i r (group_entries g t i) l
  unfolding memory_automaton
  land_same i r [] h e = refl
  land_same i r (q ∷ l) h e =
      let x : 64 + figure_of mem.rules i 1 ≡ r.left = L.left_is i e in
      let b : 64 + figure_of mem.rules i 1 < 128 = omega (arith, x, (few i r e).1) in
      ap₂ (λ (p : List ℕ) (s : ℕ). on (announced i) (p ++ s ∷ q ∷ l)) (L.pushes i e)
      (goto_is q (64 + figure_of mem.rules i 1) h.0 (omega arith) b ∙ ap (λ (Y : ℕ). (automaton g t).goto q Y) x)

  tell_same : (i : ℕ) (r : Rule) (l : List ℕ) → AllLow l → rule_at g i ≡ some r
      → tell k m (rule_at k i) i (memory.group_entries mem.rules i (figure_of mem.rules i 3)) l ≡ tell g (automaton g t) (rule_at g i) i (group_entries g t i) l
  tell_same zero r l h e = let z : ◌≡◌ {A = ℕ} 0 1 = cc in absurd (omega arith)
  tell_same (suc i) r l h e =
      ap (λ (o : Option Rule). tell k m o (suc i) (memory.group_entries mem.rules (suc i) (figure_of mem.rules (suc i) 3)) l) (rule_is mem.rules (suc i) (omega arith) (few (suc i) r e).0)
      ∙ ap (λ (n : ℕ). land k m (suc i) (memory_rule mem.rules (suc i)) (memory.group_entries mem.rules (suc i) (figure_of mem.rules (suc i) 3)) (drop n l))
      (length-replicate (figure_of mem.rules (suc i) 0) 1 ∙ L.pops_is (suc i) e)
      ∙ land_same (suc i) r (drop (length r.before) l) (low_drop (length r.before) l h) e
      ∙ sym (ap (λ (o : Option Rule). tell g (automaton g t) o (suc i) (group_entries g t (suc i)) l) e)

  act_same : (o : Option Action) (q c : ℕ) (l : List ℕ) → action_for t.actions q c ≡ o → AllLow l
      → act k m (meaning mem.rules (memory.cell_of (kind_of o) (value_of o))) l c ≡ act g (automaton g t) (cell_of g t o) l c
  act_same none q c l e h = refl
  act_same (some (S s)) q c l e h = refl
  act_same (some (N s)) q c l e h = refl
  act_same (some (A i)) q c l e h = let d = F.rule_declared q c i (action_back t.actions q c (A i) e) in tell_same i d.0 l h d.1
  act_same (some (P n)) q c l e h =
      let b = pops q c n (action_back t.actions q c (P n) e) in
      ap (λ (j : ℕ). pop_to (drop j l) c) (pop_value_lem n b.0 b.1)

  pub step_same : (l : List ℕ) (c : ℕ) → AllLow l → c < 64 → step k m l c ≡ step g (automaton g t) l c
  step_same l c h lc =
      ap (λ (x : Cell). act k m x l c) (cell_is (next l 0) c (low_top l h) lc)
      ∙ act_same (action_for t.actions (next l 0) c) (next l 0) c l refl h

-- a table's automaton leads from stacks of states that fit bytes to such stacks
module _ (g : Grammar) (t : Table) (F : Fits g t) where
  next_low : (o : Option Action) (q X : ℕ) → action_for t.actions q X ≡ o → goto_state o < 256
  next_low none q X e = omega arith
  next_low (some (S s)) q X e = omega (arith, F.few_states, (F.next_declared q X s (S s) (action_back t.actions q X (S s) e) refl).1)
  next_low (some (N s)) q X e = omega (arith, F.few_states, (F.next_declared q X s (N s) (action_back t.actions q X (N s) e) refl).1)
  next_low (some (A i)) q X e = omega arith
  next_low (some (P n)) q X e = omega arith

  pub enter_low : (e : ℕ) → (automaton g t).enter e < 256
  enter_low e = go (entry_at t e) refl
    where
      go : (o : Option EntryLine) → entry_at t e ≡ o → state_of o < 256
      go none h = omega arith
      go (some (E s γ)) h = omega (arith, F.few_states, (F.form.entry_state e s γ h).1)

  enters_low : (es : List ℕ) → AllLow (map (automaton g t).enter es)
  enters_low [] = tt
  enters_low (e ∷ es) = (enter_low e, enters_low es)

  low_on : {e f : Event} {a b : List ℕ} → on e a ≡ on f b → AllLow a → AllLow b
  low_on {a = a} {b = b} h x = subst AllLow (let y : a ≡ b = cc in y) x

  land_low : (i : ℕ) (r : Rule) (es l : List ℕ) {e : Event} {U : List ℕ} → land g (automaton g t) i r es l ≡ on e U → AllLow l → AllLow U
  land_low i r es [] h x = let z : ◌≡◌ {A = ℕ} 0 1 = cc in absurd (omega arith)
  land_low i r es (q ∷ l) h x = low_on h (low_append (map (automaton g t).enter es) _ (enters_low es) (next_low (action_for t.actions q r.left) q r.left refl, x))

  tell_low : (o : Option Rule) (i : ℕ) (es l : List ℕ) {e : Event} {U : List ℕ} → tell g (automaton g t) o i es l ≡ on e U → AllLow l → AllLow U
  tell_low none i es l h x = let z : ◌≡◌ {A = ℕ} 0 1 = cc in absurd (omega arith)
  tell_low (some r) i es l h x = land_low i r es (drop (length r.before) l) h (low_drop (length r.before) l x)

  shift_low : (s : ℕ) (l : List ℕ) (c : ℕ) {e : Event} {U : List ℕ} → s < 256 → shift_to s l c ≡ on e U → AllLow l → AllLow U
  shift_low s l zero b h x = let z : ◌≡◌ {A = ℕ} 0 1 = cc in absurd (omega arith)
  shift_low s l (suc c) b h x = low_on h (b, x)

  pop_low : (l : List ℕ) (c : ℕ) {e : Event} {U : List ℕ} → pop_to l c ≡ on e U → AllLow l → AllLow U
  pop_low [] zero h x = let z : ◌≡◌ {A = ℕ} 0 1 = cc in absurd (omega arith)
  pop_low [] (suc c) h x = let z : ◌≡◌ {A = ℕ} 0 1 = cc in absurd (omega arith)
  pop_low (q ∷ l) c h x = low_on h x

  act_low : (o : Option Action) (q c : ℕ) (l : List ℕ) {e : Event} {U : List ℕ} → action_for t.actions q c ≡ o
      → act g (automaton g t) (cell_of g t o) l c ≡ on e U → AllLow l → AllLow U
  act_low none q c l k h x = let z : ◌≡◌ {A = ℕ} 0 1 = cc in absurd (omega arith)
  act_low (some (S s)) q c l k h x = shift_low s l c (next_low (some (S s)) q c k) h x
  act_low (some (N s)) q c l k h x = let z : ◌≡◌ {A = ℕ} 0 1 = cc in absurd (omega arith)
  act_low (some (A i)) q c l k h x = tell_low (rule_at g i) i (group_entries g t i) l h x
  act_low (some (P n)) q c l k h x = pop_low (drop n l) c h (low_drop n l x)

  pub step_low : (l : List ℕ) (c : ℕ) (e : Event) (U : List ℕ) → step g (automaton g t) l c ≡ on e U → AllLow l → AllLow U
  step_low l c e U h x = act_low (action_for t.actions (next l 0) c) (next l 0) c l refl h x
