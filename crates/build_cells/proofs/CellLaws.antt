-- The cells that are filled are the table's.
use Prim.Native.Nat.{ℕ, ◌+◌, ◌*◌, ◌-◌, ◌≤◌, ◌<◌}
use native.Mathlib.Decide.{ℕ_discrete}
use native.Mathlib.Omega.{arith}
use mathlib.Core.Path.{◌≡◌, refl, sym, ap, subst, ◌∙◌}
use mathlib.Core.Logic.{◌⊎◌, inl, inr}
use mathlib.Core.Bool.{Bool, true, false, cond, ◌&&◌}
use mathlib.Core.List.{List}
use mathlib.Core.Option.{Option, some, none}
use borrow.Author.Tests.{lt-ltb, leb-true}
use lib.Dec.{leb}
use lib.ListN.{length, get_or}
use Rattle.language.specs.Grammar.{Grammar}
use Rattle.language.proofs.GrammarLaws.{rule_range}
use Rattle.language.proofs.Strings.{AllDeclared}
use Rattle.std.specs.Prelude.{◌↔◌}
use Rattle.leftcorner.specs.Table.{Action, S, N, A, P}
use Rattle.leftcorner.specs.Construction.{Asked, to_announce, EntriesMeet, CellsAgree}
use Rattle.leftcorner.proofs.ReadOff.{clash}
use Rattle.leftcorner.proofs.Swap.{flip, asked_over, agree_over}
use Rattle.analysis.specs.ByRules.{FirstByRules}
use Rattle.analysis.proofs.Decided.{first?}
use Rattle.fixpoint.specs.Flags.{Decides}
use Rattle.memory.specs.Memory.{pop_value}
use Rattle.analysis.specs.FirstBy.{FirstBy}
use Rattle.cells.specs.Demands.{HoldsAsked}
use Rattle.build_states.specs.States.{states, goto}
use Rattle.build_states.proofs.EntryLaws.{entries_meet}
use Rattle.build_states.proofs.Limits.{declared}
use Rattle.build_book.proofs.LineLaws.{same_entries}
use Rattle.build_book.proofs.CellLaws.{cell_asked, cell_moves, cell-some}
use Rattle.build_book.proofs.BuiltForm.{asked_place}
use Rattle.build_states.specs.Lookaheads.{terminal_codes}
use Rattle.build_states.proofs.CodeLaws.{first_in, codes_low}
use Rattle.build_cells.specs.Fill.{Stored, StoredAt, KeptAt, FillsState}
use Rattle.build_cells.specs.Cells.{items_of, cell_of, AskedOf, Agree, ShiftAt, HoldsLines, CellIs, StateFilled, Filling}

kept_then : {k₀ v₀ k₁ v₁ k v : List ℕ} {x : ℕ} → KeptAt k₀ v₀ k₁ v₁ x → KeptAt k₁ v₁ k v x → KeptAt k₀ v₀ k v x
kept_then a b = record { kind = b.kind ∙ a.kind; value = b.value ∙ a.value }

pop_low : (n : ℕ) → pop_value n ≤ 255
pop_low n = go (leb 1 n) (leb n 255) refl
  where
    go : (a b : Bool) → leb n 255 ≡ b → cond (a && b) (n - 1) 255 ≤ 255
    go false b e = omega arith
    go true false e = omega arith
    go true true e = let l = leb-true n 255 e in omega (arith, l)

module _ {g : Grammar} {m entries kernels lookaheads nul fst : List ℕ} {rules strings lines all codes : ℕ}
    (H : HoldsLines g m entries kernels lookaheads nul fst rules strings lines all codes) where
  -- ---- first by flags is first by rules

  abbrev By : List ℕ → ℕ → ℕ → Type 0
  By = FirstBy codes nul fst

  meets : EntriesMeet g (items_of g)
  meets = entries_meet g (items_of g) (same_entries g (FirstByRules g) (first? g) (terminal_codes g) (first_in g))

  up : (β : List ℕ) → AllDeclared g β → (d c : ℕ) → By β d c ↔ FirstByRules g β d c
  up β a d c = H.same_first β d c

  down : (β : List ℕ) → AllDeclared g β → (d c : ℕ) → FirstByRules g β d c ↔ By β d c
  down β a d c = flip (up β a d c)

  pub agree_decided : {q : ℕ} {b : Bool} → Decides (CellsAgree g (items_of g) By q) b → Decides (Agree g q) b
  agree_decided {q} d = record {
    yes = λ e. agree_over g (items_of g) (declared g H.limits.formed) meets By (FirstByRules g) up q (d.yes e);
    no = λ e a. d.no e (agree_over g (items_of g) (declared g H.limits.formed) meets (FirstByRules g) By down q a);
  }

  asked_rules : {q X : ℕ} {x : Action} → Asked g (items_of g) By q X x → AskedOf g q X x
  asked_rules a = asked_over g (items_of g) (declared g H.limits.formed) meets By (FirstByRules g) (λ β s d c. (up β s d c).0) a

  asked_flags : {q X : ℕ} {x : Action} → AskedOf g q X x → Asked g (items_of g) By q X x
  asked_flags a = asked_over g (items_of g) (declared g H.limits.formed) meets (FirstByRules g) By (λ β s d c. (down β s d c).0) a

  pub place : {q X : ℕ} {x : Action} → AskedOf g q X x → (1 ≤ q) × (q ≤ length (states g)) × (X < 128)
  place a = asked_place g (FirstByRules g) (first? g) (terminal_codes g) (first_in g) H.limits (codes_low g) a

  rule_low : {q X i : ℕ} → AskedOf g q X (A i) → i ≤ 127
  rule_low (to_announce i e h f) = omega (arith, (rule_range g i e).1, H.limits.formed.few_rules)

  -- ---- one cell

  module _ (q c : ℕ) (low : c < 64) where
    -- nothing is asked
    nothing_asked : {asked : List ℕ} → HoldsAsked g (items_of g) By q asked → ((x : Action) → AskedOf g q c x → ⊥) → get_or asked c 0 ≡ 0
    nothing_asked {asked} K f = go (ℕ_discrete (get_or asked c 0) 0)
      where
        go : Dec (get_or asked c 0 ≡ 0) → get_or asked c 0 ≡ 0
        go (yes e) = e
        go (no n) = let w = K.only c low (record { nonzero = n }) in absurd (f w.0 (asked_rules w.1))

    stored_announce : {d k₀ v₀ k v i : ℕ} → Stored d k₀ v₀ k v → d ≡ 512 + i → i ≤ 127 → (k ≡ 2) × (v ≡ i)
    stored_announce s e l = let w = s.filled (omega (arith, e)) (omega (arith, e, l)) in (omega (arith, w.0, w.1, e, l), omega (arith, w.0, w.1, e, l))

    stored_pop : {d k₀ v₀ k v n : ℕ} → Stored d k₀ v₀ k v → d ≡ 768 + n → n ≤ 255 → (k ≡ 3) × (v ≡ n)
    stored_pop s e l = let w = s.filled (omega (arith, e)) (omega (arith, e, l)) in (omega (arith, w.0, w.1, e, l), omega (arith, w.0, w.1, e, l))

    pub cell_stored : {asked k₀ v₀ k v : List ℕ} → HoldsAsked g (items_of g) By q asked → StoredAt (get_or asked c 0) (q * 64 + c) k₀ v₀ k v → ShiftAt g k₀ v₀ q c
        → CellIs g k v q c (cell_of g q c)
    cell_stored {asked} {k₀} {v₀} {k} {v} K s h = go (cell_of g q c) refl
      where
        go : (o : Option Action) → cell_of g q c ≡ o → CellIs g k v q c o
        go none e =
            let f : (x : Action) → AskedOf g q c x → ⊥ = λ x a. let w = cell-some g (FirstByRules g) (first? g) (terminal_codes g) (first_in g) a in let z = w.1 in clash cc in
            let z = nothing_asked K f in
            let w = s.kept (omega (arith, z)) in
            let u = h.empty (f (S 0)) in
            record { kind = w.0 ∙ u.0; value = w.1 ∙ u.1 }
        go (some (S n)) e =
            let w = cell_moves g (FirstByRules g) (first? g) (terminal_codes g) (first_in g) q c n (S n) e refl in
            let z = K.every c (S 0) low (asked_flags w.asked) in
            let y = s.kept (omega (arith, z)) in
            let u = h.shift w.asked in
            record { kind = y.0 ∙ u.0; value = y.1 ∙ u.1 ∙ sym w.next_is }
        go (some (N n)) e =
            let w = cell_moves g (FirstByRules g) (first? g) (terminal_codes g) (first_in g) q c n (N n) e refl in
            let z : S (goto g q c) ≡ N n = sym (ap (λ (b : Bool). cond b (S (goto g q c)) (N (goto g q c))) (lt-ltb c 64 low)) ∙ w.is in clash cc
        go (some (A i)) e =
            let a = cell_asked g (FirstByRules g) (first? g) (terminal_codes g) (first_in g) q c (A i) e in
            let w = stored_announce s (K.every c (A i) low (asked_flags a)) (rule_low a) in
            record { kind = w.0; value = w.1 }
        go (some (P n)) e =
            let a = cell_asked g (FirstByRules g) (first? g) (terminal_codes g) (first_in g) q c (P n) e in
            let w = stored_pop s (K.every c (P n) low (asked_flags a)) (pop_low n) in
            record { kind = w.0; value = w.1 }

  -- ---- one state

  pub state_filled : {q : ℕ} {asked k₀ v₀ k v : List ℕ} → HoldsAsked g (items_of g) By q asked → FillsState asked q 64 k₀ v₀ k v → StateFilled g q k₀ v₀ k v
  state_filled {q} K f = record { here = λ c l h. cell_stored q c l K (f.here c l) h; other = f.other }

  -- ---- all states

  moved_cell : {k₁ v₁ k v : List ℕ} {p c : ℕ} {o : Option Action} → KeptAt k₁ v₁ k v (p * 64 + c) → CellIs g k₁ v₁ p c o → CellIs g k v p c o
  moved_cell w a = record { kind = w.kind ∙ a.kind; value = w.value ∙ a.value }

  moved_shift : {k₀ v₀ k v : List ℕ} {p c : ℕ} → KeptAt k₀ v₀ k v (p * 64 + c) → ShiftAt g k₀ v₀ p c → ShiftAt g k v p c
  moved_shift w a = record {
    shift = λ h. let u = a.shift h in (w.kind ∙ u.0, w.value ∙ u.1);
    empty = λ h. let u = a.empty h in (w.kind ∙ u.0, w.value ∙ u.1);
  }

  pub filling_more : {q : ℕ} {k₀ v₀ k₁ v₁ k v : List ℕ} → 1 ≤ q → Filling g q k₀ v₀ k₁ v₁ → Agree g q → StateFilled g q k₁ v₁ k v → Filling g (q + 1) k₀ v₀ k v
  filling_more {q} {k₀} {v₀} {k₁} {v₁} {k} {v} one f a s = record {
    agree = λ p b l. agrees p b l (ℕ_discrete p q);
    done = λ p c b l n h. cells p c b l n h (ℕ_discrete p q);
    rest = λ y o. kept_then (f.rest y (wider o)) (s.other y (outside o));
  }
    where
      agrees : (p : ℕ) → 1 ≤ p → p < q + 1 → Dec (p ≡ q) → Agree g p
      agrees p b l (yes e) = subst (Agree g) (sym e) a
      agrees p b l (no n) = f.agree p b (omega (arith, l, n))

      here : (c : ℕ) → c < 64 → ShiftAt g k₀ v₀ q c → CellIs g k v q c (cell_of g q c)
      here c n h = s.here c n (moved_shift (f.rest (q * 64 + c) (inr (omega arith))) h)

      cells : (p c : ℕ) → 1 ≤ p → p < q + 1 → c < 64 → ShiftAt g k₀ v₀ p c → Dec (p ≡ q) → CellIs g k v p c (cell_of g p c)
      cells p c b l n h (yes e) = subst (λ (x : ℕ). CellIs g k v x c (cell_of g x c)) (sym e) (here c n (subst (λ (x : ℕ). ShiftAt g k₀ v₀ x c) e h))
      cells p c b l n h (no d) = moved_cell (s.other (p * 64 + c) (inl (omega (arith, l, n, d)))) (f.done p c b (omega (arith, l, d)) n h)

      wider : {y : ℕ} → (y < 64) ⊎ ((q + 1) * 64 ≤ y) → (y < 64) ⊎ (q * 64 ≤ y)
      wider (inl l) = inl l
      wider (inr l) = inr (omega (arith, l))

      outside : {y : ℕ} → (y < 64) ⊎ ((q + 1) * 64 ≤ y) → (y < q * 64) ⊎ (q * 64 + 64 ≤ y)
      outside (inl l) = inl (omega (arith, l, one))
      outside (inr l) = inr (omega (arith, l))
