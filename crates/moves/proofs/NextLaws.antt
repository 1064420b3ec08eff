-- The next states in memory are those of the table's lines S and N.
use Prim.Native.Nat.{ℕ, ◌+◌, ◌-◌, ◌*◌, ◌≤◌, ◌<◌}
use mathlib.Core.Path.{◌≡◌, refl, sym, ap, ◌∙◌}
use mathlib.Core.List.{List}
use mathlib.Core.Option.{Option, some, none}
use native.Mathlib.Decide.{ℕ_discrete, dec_lt}
use native.Mathlib.Omega.{arith}
use lib.ListN.{get_or}
use Rattle.language.specs.Grammar.{Grammar}
use Rattle.leftcorner.specs.Table.{Table, Action, S, N, A, P, next_state, action_for, goto_state}
use Rattle.leftcorner.specs.Construction.{ActionAt}
use Rattle.leftcorner.proofs.ReadOff.{clash, action_is, action_back}
use Rattle.memory.specs.Memory.{kind_of, value_of}
use Rattle.memory.specs.Held.{HoldsTable}
use Rattle.moves.specs.Moves.{next_at}
use Rattle.moves.proofs.MoveLaws.{next_goto, next_none, next_shift}

-- an action that a cell or a goto says
shift_kind : (o : Option Action) → kind_of o ≡ 1 → o ≡ some (S (value_of o))
shift_kind none e = clash e
shift_kind (some (S s)) e = refl
shift_kind (some (N s)) e = clash e
shift_kind (some (A i)) e = clash (let z : ◌≡◌ {A = ℕ} 0 1 = omega (arith, e) in z)
shift_kind (some (P n)) e = clash (let z : ◌≡◌ {A = ℕ} 0 1 = omega (arith, e) in z)

goto_some : (o : Option Action) → (goto_state o ≡ 0 → ⊥) → (x : Action) × (o ≡ some x) × (next_state x ≡ some (goto_state o))
goto_some none f = absurd (f refl)
goto_some (some (S s)) f = (S s, refl, refl)
goto_some (some (N s)) f = (N s, refl, refl)
goto_some (some (A i)) f = absurd (f refl)
goto_some (some (P n)) f = absurd (f refl)

module _ (g : Grammar) (t : Table) {items entries kernels lookaheads kinds values gotos : List ℕ} {rules strings lines : ℕ}
    (H : HoldsTable g t items entries kernels lookaheads kinds values gotos rules strings lines) where
  pub record Next (q X s : ℕ) : Type 0 where
    pub is_next : next_at kinds values gotos q X ≡ s
    pub some_state : s ≡ 0 → ⊥
    pub low_state : s ≤ t.states
    pub some_symbol : 1 ≤ X
    pub low_symbol : X < 128

  pub next_line : {q X s : ℕ} (x : Action) → ActionAt g t q X x → next_state x ≡ some s → Next q X s
  next_line {q} {X} {s} (S u) m e =
      let k = H.fits.form.shift_kind q X u m in
      let z : u ≡ s = cc in
      let r = H.fits.next_declared q X s (S u) m e in
      let low : X < 64 = omega (arith, k.1, H.formed.few_terminals) in
      let lq : q < 256 = omega (arith, (H.fits.form.action_state q X (S u) m).1, H.fits.few_states) in
      let is = action_is g t H.fits.form q X (S u) m in
      record {
        is_next = sym (next_shift kinds values gotos q X low (H.holds_actions.kind_is q X lq low ∙ ap kind_of is))
            ∙ (H.holds_actions.value_is q X lq low ∙ (ap value_of is ∙ z));
        some_state = λ y. omega (arith, y, r.0);
        low_state = r.1;
        some_symbol = k.0;
        low_symbol = omega arith;
      }
  next_line {q} {X} {s} (N u) m e =
      let k = H.fits.form.goto_kind q X u m in
      let z : u ≡ s = cc in
      let r = H.fits.next_declared q X s (N u) m e in
      let lq : q < 256 = omega (arith, (H.fits.form.action_state q X (N u) m).1, H.fits.few_states) in
      let lb : X - 64 < 64 = omega (arith, k.1, H.formed.few_nonterminals) in
      let back : 64 + (X - 64) ≡ X = omega (arith, k.0) in
      let is = action_is g t H.fits.form q X (N u) m in
      record {
        is_next = sym (next_goto kinds values gotos q X k.0)
            ∙ (H.holds_actions.goto_is q (X - 64) lq lb ∙ (ap (λ (Y : ℕ). goto_state (action_for t.actions q Y)) back ∙ (ap goto_state is ∙ z)));
        some_state = λ y. omega (arith, y, r.0);
        low_state = r.1;
        some_symbol = omega (arith, k.0);
        low_symbol = omega (arith, k.1, H.formed.few_nonterminals);
      }
  next_line (A u) m e = clash cc
  next_line (P u) m e = clash cc

  pub line_next : (q X : ℕ) → q < 256 → X < 128 → (next_at kinds values gotos q X ≡ 0 → ⊥)
      → (x : Action) × ActionAt g t q X x × (next_state x ≡ some (next_at kinds values gotos q X))
  line_next q X lq lx f = go (dec_lt X 64)
    where
      here : (s : ℕ) → s ≡ next_at kinds values gotos q X → (x : Action) × ActionAt g t q X x × (next_state x ≡ some s)
          → (x : Action) × ActionAt g t q X x × (next_state x ≡ some (next_at kinds values gotos q X))
      here s e h = (h.0, h.1, h.2 ∙ ap (λ (n : ℕ). some n) e)

      shifts : X < 64 → Dec (get_or kinds (q * 64 + X) 0 ≡ 1) → (x : Action) × ActionAt g t q X x × (next_state x ≡ some (next_at kinds values gotos q X))
      shifts l (no n) = absurd (f (sym (next_none kinds values gotos q X l n)))
      shifts l (yes e) =
          let o = action_for t.actions q X in
          let is = shift_kind o (sym (H.holds_actions.kind_is q X lq l) ∙ e) in
          here (value_of o) (sym (H.holds_actions.value_is q X lq l) ∙ next_shift kinds values gotos q X l e)
          (S (value_of o), action_back t.actions q X (S (value_of o)) is, refl)

      go : Dec (X < 64) → (x : Action) × ActionAt g t q X x × (next_state x ≡ some (next_at kinds values gotos q X))
      go (yes l) = shifts l (ℕ_discrete (get_or kinds (q * 64 + X) 0) 1)
      go (no n) =
          let l : 64 ≤ X = omega arith in
          let back : 64 + (X - 64) ≡ X = omega arith in
          let o = action_for t.actions q X in
          let e : goto_state o ≡ next_at kinds values gotos q X =
          ap (λ (Y : ℕ). goto_state (action_for t.actions q Y)) (sym back) ∙ (sym (H.holds_actions.goto_is q (X - 64) lq (omega arith)) ∙ next_goto kinds values gotos q X l) in
          let r = goto_some o (λ z. f (sym e ∙ z)) in
          here (goto_state o) e (r.0, action_back t.actions q X r.0 r.1, r.2)
