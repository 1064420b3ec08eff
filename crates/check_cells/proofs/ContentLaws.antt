-- Cells in memory against what is asked of them.
use Prim.Native.Nat.{ℕ, suc, ◌+◌, ◌*◌, ◌-◌, ◌≤◌, ◌<◌}
use mathlib.Core.Path.{◌≡◌, refl, sym, ap, ap₂, subst, ◌∙◌}
use mathlib.Core.Logic.{◌⊎◌, inl, inr}
use mathlib.Core.Bool.{Bool, true, cond, ◌&&◌}
use mathlib.Core.List.{List}
use mathlib.Core.Option.{Option, some, none}
use native.Mathlib.Decide.{ℕ_discrete, dec_le}
use native.Mathlib.Omega.{arith}
use borrow.Author.Tests.{le-leb, lt-leb}
use lib.Dec.{leb, eqb}
use lib.ListN.{get_or}
use Rattle.language.specs.Grammar.{Grammar, IsNonterminal}
use Rattle.language.proofs.GrammarLaws.{rule_range}
use Rattle.leftcorner.specs.Table.{Table, Action, S, N, A, P, next_state, action_for}
use Rattle.leftcorner.specs.Construction.{forget, ActionAt, MovedBy, Asked, to_move, CellsMeet}
use Rattle.leftcorner.proofs.ReadOff.{clash, action_is, action_back}
use Rattle.fixpoint.specs.Flags.{On}
use Rattle.fixpoint.specs.declared.Found.{Found}
use Rattle.fixpoint.specs.Misses.{Any, Misses}
use Rattle.fixpoint.proofs.PassLaws.{set_on}
use Rattle.memory.specs.Memory.{kind_of, value_of, pop_value}
use Rattle.memory.specs.Held.{HoldsTable}
use Rattle.analysis.specs.FirstBy.{FirstBy}
use Rattle.moves.specs.Moves.{next_at}
use Rattle.moves.specs.Flags.{HoldsMoves}
use Rattle.moves.proofs.MoveLaws.{next_goto}
use Rattle.moves.proofs.NextLaws.{next_line, line_next}
use Rattle.cells.specs.Demands.{demand_of, HoldsAsked}
use Rattle.cells.proofs.AskedLaws.{Askable, a_shift, an_announce, a_pop, pop_value_lem, same_action, some_demand, askable, asked_low}
use Rattle.check_cells.specs.Contents.{demand_at, GotoMeets}

-- ---- one cell

-- what a line, or none, would be asked as
abbrev held_demand : Option Action → ℕ
held_demand none = 0
held_demand (some x) = demand_of x

kind_demand : (o : Option Action) → cond (eqb (kind_of o) 0) 0 (cond (eqb (kind_of o) 1) 256 (kind_of o * 256 + value_of o)) ≡ held_demand o
kind_demand none = refl
kind_demand (some (S s)) = refl
kind_demand (some (N s)) = refl
kind_demand (some (A i)) = omega arith
kind_demand (some (P n)) = omega arith

pop_back : (n m : ℕ) → m ≤ 15 → pop_value n ≡ m → n ≡ suc m
pop_back n m l e = go (dec_le 1 n) (dec_le n 255)
  where
    low : n ≤ 0 → pop_value n ≡ 255
    low h = ap (λ (b : Bool). cond (b && leb n 255) (n - 1) 255) (lt-leb 1 n (omega arith))

    high : 1 ≤ n → 255 < n → pop_value n ≡ 255
    high h k = ap (λ (b : Bool). cond (b && leb n 255) (n - 1) 255) (le-leb 1 n h) ∙ ap (λ (b : Bool). cond (true && b) (n - 1) 255) (lt-leb n 255 k)

    inside : 1 ≤ n → n ≤ 255 → pop_value n ≡ n - 1
    inside h k = ap (λ (b : Bool). cond (b && leb n 255) (n - 1) 255) (le-leb 1 n h) ∙ ap (λ (b : Bool). cond (true && b) (n - 1) 255) (le-leb n 255 k)

    go : Dec (1 ≤ n) → Dec (n ≤ 255) → n ≡ suc m
    go (no f) d = absurd (omega (arith, low (omega arith)))
    go (yes h) (no f) = absurd (omega (arith, high h (omega arith)))
    go (yes h) (yes k) = omega (arith, inside h k)

-- a line that has the number of what is asked is the one that is asked for
same_forget : {x : Action} (y : Action) → Askable x → ((i : ℕ) → y ≡ A i → i ≤ 127) → demand_of y ≡ demand_of x → forget y ≡ x
same_forget (S s) a f e = same_action a_shift a e
same_forget (N s) a f e = absurd (some_demand a (sym e))
same_forget (A i) a f e = same_action (an_announce i (f i refl)) a e
same_forget (P n) a_shift f e = absurd (omega (arith, e))
same_forget (P n) (an_announce i l) f e = absurd (omega (arith, e))
same_forget (P n) (a_pop m l) f e = ap P (pop_back n m l (let z : pop_value n ≡ m = omega (arith, e, pop_value_lem m l) in z))

next_forget : {s : ℕ} (x : Action) → next_state x ≡ some s → forget x ≡ S 0
next_forget (S u) e = refl
next_forget (N u) e = refl
next_forget (A i) e = clash cc
next_forget (P n) e = clash cc

module _ (g : Grammar) (t : Table) {items entries kernels lookaheads kinds values gotos : List ℕ} {rules strings lines : ℕ}
    (H : HoldsTable g t items entries kernels lookaheads kinds values gotos rules strings lines)
    {codes : ℕ} (nul fst : List ℕ) (count : codes ≡ suc g.terminals) {q : ℕ} (lq : q < 256) where
  asked_moves : {X : ℕ} → Asked g t (FirstBy codes nul fst) q X (S 0) → (i : ℕ) × (n : ℕ) × MovedBy g t q X i n
  asked_moves (to_move {i = i} {n = n} m) = (i, n, m)

  rule_small : {X : ℕ} (y : Action) → ActionAt g t q X y → (i : ℕ) → y ≡ A i → i ≤ 127
  rule_small {X} y m i e =
      let r = H.fits.rule_declared q X i (subst (ActionAt g t q X) e m) in
      omega (arith, (rule_range g i r.1).1, H.formed.few_rules)

  demand_held : (c : ℕ) → c < 64 → demand_at kinds values q c ≡ held_demand (action_for t.actions q c)
  unfolding demand_at
  demand_held c l =
      ap₂ (λ (k v : ℕ). cond (eqb k 0) 0 (cond (eqb k 1) 256 (k * 256 + v))) (H.holds_actions.kind_is q c lq l) (H.holds_actions.value_is q c lq l)
      ∙ kind_demand (action_for t.actions q c)

  goto_at : (b : ℕ) → get_or gotos (q * 64 + b) 0 ≡ next_at kinds values gotos q (64 + b)
  goto_at b =
      let z : 64 + b - 64 ≡ b = omega arith in
      ap (λ (n : ℕ). get_or gotos (q * 64 + n) 0) (sym z) ∙ next_goto kinds values gotos q (64 + b) (omega arith)

  module _ {moves asked : List ℕ} (M : HoldsMoves g t q moves) (hold : HoldsAsked g t (FirstBy codes nul fst) q asked) where
    few_codes : codes ≤ 64
    few_codes = omega (arith, H.formed.few_terminals)

    meets_codes : CellsMeet g t (FirstBy codes nul fst) q → (c : ℕ) → c < codes → get_or asked c 0 ≡ demand_at kinds values q c
    meets_codes m c l = go (action_for t.actions q c) refl ∙ sym (demand_held c low)
      where
        low : c < 64
        low = omega (arith, few_codes)

        filled_by : (y : Action) → ActionAt g t q c y → get_or asked c 0 ≡ demand_of y
        filled_by (S s) h = hold.every c (S 0) low (m.asked c (S s) h)
        filled_by (N s) h = absurd (omega (arith, (H.fits.form.goto_kind q c s h).0))
        filled_by (A i) h = hold.every c (A i) low (m.asked c (A i) h)
        filled_by (P n) h = hold.every c (P n) low (m.asked c (P n) h)

        unasked : action_for t.actions q c ≡ none → Dec (get_or asked c 0 ≡ 0) → get_or asked c 0 ≡ 0
        unasked e (yes z) = z
        unasked e (no n) =
            let x = hold.only c low (set_on n) in
            let y = m.filled c x.0 x.1 in
            let z : none ≡ some y.0 = sym e ∙ action_is g t H.fits.form q c y.0 y.1 in clash cc

        go : (o : Option Action) → action_for t.actions q c ≡ o → get_or asked c 0 ≡ held_demand o
        go none e = unasked e (ℕ_discrete (get_or asked c 0) 0)
        go (some y) e = filled_by y (action_back t.actions q c y e)

    meets_gotos : CellsMeet g t (FirstBy codes nul fst) q → (b : ℕ) → b < 64 → GotoMeets moves gotos q b
    meets_gotos m b l = record { filled = to_goto; asked = to_moves }
      where
        to_goto : On moves (64 + b) → On gotos (q * 64 + b)
        to_goto on =
            let x = M.only (64 + b) (omega arith) on in
            let y = m.filled (64 + b) (S 0) (to_move x.2) in
            go y.0 y.1 y.2
          where
            there : {s : ℕ} (y : Action) → ActionAt g t q (64 + b) y → next_state y ≡ some s → On gotos (q * 64 + b)
            there y h e = let n = next_line g t H y h e in set_on (λ z. n.some_state (sym n.is_next ∙ (sym (goto_at b) ∙ z)))

            go : (y : Action) → ActionAt g t q (64 + b) y → forget y ≡ S 0 → On gotos (q * 64 + b)
            go (S s) h e = there (S s) h refl
            go (N s) h e = there (N s) h refl
            go (A i) h e = clash cc
            go (P n) h e = clash cc

        to_moves : On gotos (q * 64 + b) → On moves (64 + b)
        to_moves on =
            let y = line_next g t H q (64 + b) lq (omega arith) (λ z. on.nonzero (goto_at b ∙ z)) in
            let x = asked_moves (subst (Asked g t (FirstBy codes nul fst) q (64 + b)) (next_forget y.0 y.2) (m.asked (64 + b) y.0 y.1)) in
            M.every (64 + b) x.0 x.1 x.2

    -- a code or nonterminal that is named shows that the cells are not those of the construction
    pub refutes_cell : {r : Found} {c : ℕ} → Misses Any (λ x. get_or asked x 0 ≡ demand_at kinds values q x) 0 codes r → r ≡ Found.At c
        → CellsMeet g t (FirstBy codes nul fst) q → ⊥
    refutes_cell {c = c} f e m = let h = f.found c e in h.3 (meets_codes m c h.1)

    pub refutes_goto : {r : Found} {b : ℕ} → Misses Any (GotoMeets moves gotos q) 0 64 r → r ≡ Found.At b → CellsMeet g t (FirstBy codes nul fst) q → ⊥
    refutes_goto {b = b} f e m = let h = f.found b e in h.3 (meets_gotos m b h.1)

    pub cells_meets : ((c : ℕ) → c < codes → get_or asked c 0 ≡ demand_at kinds values q c) → ((b : ℕ) → b < 64 → GotoMeets moves gotos q b)
        → CellsMeet g t (FirstBy codes nul fst) q
    cells_meets same goes = record { filled = λ X x h. fill X x h (asked_low g t H nul fst count h); asked = λ X y h. ask X y h }
      where
        nonterminal : (X : ℕ) → IsNonterminal g X → (X ≡ 64 + (X - 64)) × (X - 64 < 64)
        nonterminal X k = (omega (arith, k.0), omega (arith, k.1, H.formed.few_nonterminals))

        fill : (X : ℕ) (x : Action) → Asked g t (FirstBy codes nul fst) q X x → (X < codes) ⊎ (IsNonterminal g X × (x ≡ S 0))
            → (y : Action) × ActionAt g t q X y × (forget y ≡ x)
        fill X x h (inl l) = go (action_for t.actions q X) refl (sym (demand_held X low) ∙ (sym (same X l) ∙ hold.every X x low h))
          where
            low : X < 64
            low = omega (arith, few_codes)

            go : (o : Option Action) → action_for t.actions q X ≡ o → held_demand (action_for t.actions q X) ≡ demand_of x → (y : Action) × ActionAt g t q X y × (forget y ≡ x)
            go none e d = absurd (some_demand (askable g t H nul fst count h) (sym d ∙ ap held_demand e))
            go (some y) e d =
                let b = action_back t.actions q X y e in
                (y, b, same_forget y (askable g t H nul fst count h) (rule_small y b) (sym (ap held_demand e) ∙ d))
        fill X x h (inr (k, e)) =
            let n = nonterminal X k in
            let m = asked_moves (subst (Asked g t (FirstBy codes nul fst) q X) e h) in
            let on = (goes (X - 64) n.1).filled (subst (On moves) n.0 (M.every X m.0 m.1 m.2)) in
            let y = line_next g t H q (64 + (X - 64)) lq (omega (arith, n.1)) (λ z. on.nonzero (goto_at (X - 64) ∙ z)) in
            (y.0, subst (λ (Z : ℕ). ActionAt g t q Z y.0) (sym n.0) y.1, next_forget y.0 y.2 ∙ sym e)

        on_cell : (X : ℕ) (y : Action) → X < codes → ActionAt g t q X y → (demand_of y ≡ 0 → ⊥) → Asked g t (FirstBy codes nul fst) q X (forget y)
        on_cell X y l h f =
            let low : X < 64 = omega (arith, few_codes) in
            let d : get_or asked X 0 ≡ demand_of y = same X l ∙ (demand_held X low ∙ ap held_demand (action_is g t H.fits.form q X y h)) in
            let x = hold.only X low (set_on (λ z. f (sym d ∙ z))) in
            subst (Asked g t (FirstBy codes nul fst) q X) (sym (same_forget y (askable g t H nul fst count x.1) (rule_small y h) (sym (x.2 ∙ d)))) x.1

        ask : (X : ℕ) (y : Action) → ActionAt g t q X y → Asked g t (FirstBy codes nul fst) q X (forget y)
        ask X (S s) h = on_cell X (S s) (omega (arith, (H.fits.form.shift_kind q X s h).1)) h (λ e. omega (arith, e))
        ask X (A i) h = on_cell X (A i) (omega (arith, H.fits.announce_kind q X i h)) h (λ e. omega (arith, e))
        ask X (P n) h = on_cell X (P n) (omega (arith, H.fits.pop_kind q X n h)) h (λ e. omega (arith, e))
        ask X (N s) h =
            let k = nonterminal X (H.fits.form.goto_kind q X s h) in
            let n = next_line g t H (N s) h refl in
            let on : On gotos (q * 64 + (X - 64)) = set_on (λ z. n.some_state (sym n.is_next ∙ (ap (next_at kinds values gotos q) k.0 ∙ (sym (goto_at (X - 64)) ∙ z)))) in
            let m = M.only X (omega (arith, k.0)) (subst (On moves) (sym k.0) ((goes (X - 64) k.1).asked on)) in
            to_move m.2
