-- All states' cells are the table's, or the lowest state that has none.
use Prim.Native.Nat.{ℕ, zero, suc, ◌+◌, ◌*◌, ◌≤◌, ◌<◌}
use native.Mathlib.Decide.{dec_le}
use native.Mathlib.Omega.{arith}
use mathlib.Core.Path.{◌≡◌, refl, sym, ap, subst, ◌∙◌}
use mathlib.Core.Logic.{◌⊎◌, inl, inr}
use mathlib.Core.Bool.{Bool, cond}
use mathlib.Core.List.{List}
use mathlib.Core.Option.{Option, some, none}
use borrow.Author.Tests.{le-ltb}
use lib.Dec.{ltb}
use lib.ListN.{length, get_or}
use Rattle.language.specs.Grammar.{Grammar}
use Rattle.leftcorner.specs.Table.{Action, S, N, A, P, action_for, goto_state}
use Rattle.leftcorner.proofs.ReadOff.{clash, action_back, action_is}
use Rattle.analysis.specs.ByRules.{FirstByRules}
use Rattle.analysis.proofs.Decided.{first?}
use Rattle.build_states.specs.States.{states, goto}
use Rattle.build_book.proofs.CellLaws.{cell_moves, cell-some, cell_move}
use Rattle.build_book.proofs.BuiltForm as book
use Rattle.build_book.proofs.BuiltForm.{is_action_lem}
use Rattle.build_states.specs.Lookaheads.{terminal_codes}
use Rattle.build_states.proofs.CodeLaws.{first_in}
use Rattle.build_cells.specs.Fill.{KeptAt}
use Rattle.build_cells.specs.Cells.{table_of, cell_of, AskedOf, Agree, HoldsMoves, HoldsLines, CellIs, Filling, Filled}
use Rattle.build_cells.proofs.HeldLaws.{form}
use Rattle.build_cells.proofs.CellLaws.{place}

module _ {g : Grammar} {m entries kernels lookaheads nul fst : List ℕ} {rules strings lines all codes : ℕ}
    (H : HoldsLines g m entries kernels lookaheads nul fst rules strings lines all codes) where
  abbrev Outside : ℕ → Type 0
  Outside q = 1 ≤ q → q ≤ length (states g) → ⊥

  -- nothing is asked there
  off_agree : (q : ℕ) → Outside q → Agree g q
  off_agree q f = record { one = λ X x y a b. let w = place H a in absurd (f w.0 w.1) }

  -- two different actions are asked at q, and at no state before
  pub filled_conflict : (q : ℕ) (k v gotos : List ℕ) {k₀ v₀ k₁ v₁ : List ℕ} → 1 ≤ q → q ≤ all → Filling g q k₀ v₀ k₁ v₁ → (Agree g q → ⊥) → Filled g k v gotos q
  filled_conflict zero k v gotos a b f n = absurd (omega (arith, a))
  filled_conflict (suc q) k v gotos a b f n = (omega (arith, b, H.state_count), n, below)
    where
      below : (k : ℕ) → k < suc q → Agree g k
      below zero l = off_agree zero (λ u w. omega (arith, u))
      below (suc k) l = f.agree (suc k) (omega arith) l

  -- ---- the table's action lines, by cell

  line_off : (p X : ℕ) → Outside p → action_for (table_of g).actions p X ≡ none
  line_off p X n = go (action_for (table_of g).actions p X) refl
    where
      go : (o : Option Action) → action_for (table_of g).actions p X ≡ o → o ≡ none
      go none e = refl
      go (some x) e =
          let w = book.action_is g (FirstByRules g) (first? g) (terminal_codes g) (first_in g) p X x (action_back (table_of g).actions p X x e) in
          absurd (n w.low w.high)

  line_on : (p X : ℕ) → 1 ≤ p → p ≤ length (states g) → X < 128 → action_for (table_of g).actions p X ≡ cell_of g p X
  line_on p X l h n = go (action_for (table_of g).actions p X) refl
    where
      by_cell : (o : Option Action) → cell_of g p X ≡ o → action_for (table_of g).actions p X ≡ none → none ≡ o
      by_cell none e u = refl
      by_cell (some x) e u =
          let w = action_is g (table_of g) (form H) p X x (is_action_lem g (FirstByRules g) (first? g) (terminal_codes g) (first_in g) p X x l h n e) in clash cc

      go : (o : Option Action) → action_for (table_of g).actions p X ≡ o → o ≡ cell_of g p X
      go none e = by_cell (cell_of g p X) refl e
      go (some x) e = sym (book.action_is g (FirstByRules g) (first? g) (terminal_codes g) (first_in g) p X x (action_back (table_of g).actions p X x e)).holds

  -- the next state of a nonterminal's cell is that of its move
  module _ (p X v : ℕ) (high : 64 ≤ X) (next : AskedOf g p X (S 0) → v ≡ goto g p X) (stays : (AskedOf g p X (S 0) → ⊥) → v ≡ 0) where
    is_goto : cond (ltb X 64) (S (goto g p X)) (N (goto g p X)) ≡ N (goto g p X)
    is_goto = ap (λ (b : Bool). cond b (S (goto g p X)) (N (goto g p X))) (le-ltb X 64 high)

    next_cell : (o : Option Action) → cell_of g p X ≡ o → v ≡ goto_state o
    next_cell none e = stays (λ a. let w = cell-some g (FirstByRules g) (first? g) (terminal_codes g) (first_in g) a in let z = w.1 in clash cc)
    next_cell (some (S s)) e =
        let w = cell_moves g (FirstByRules g) (first? g) (terminal_codes g) (first_in g) p X s (S s) e refl in
        let z : N (goto g p X) ≡ S s = sym (is_goto) ∙ w.is in clash cc
    next_cell (some (N s)) e = let w = cell_moves g (FirstByRules g) (first? g) (terminal_codes g) (first_in g) p X s (N s) e refl in next w.asked ∙ sym w.next_is
    next_cell (some (A i)) e = stays (λ a. let w = cell_move g (FirstByRules g) (first? g) (terminal_codes g) (first_in g) p X a in let z = is_goto in clash cc)
    next_cell (some (P n)) e = stays (λ a. let w = cell_move g (FirstByRules g) (first? g) (terminal_codes g) (first_in g) p X a in let z = is_goto in clash cc)

  -- ---- where all states agree

  module _ {q : ℕ} {k₀ v₀ k v gotos : List ℕ} (above : all < q) (least : q ≤ all + 1) (M : HoldsMoves g k₀ v₀ gotos) (f : Filling g q k₀ v₀ k v) where
    by_place : (Φ : Type 0) (p : ℕ) → (1 ≤ p → p ≤ length (states g) → Φ) → (Outside p → (p ≡ 0) ⊎ (q ≤ p) → Φ) → Φ
    by_place Φ p into out = go (dec_le 1 p) (dec_le p all)
      where
        go : Dec (1 ≤ p) → Dec (p ≤ all) → Φ
        go (yes l) (yes h) = into l (omega (arith, h, H.state_count))
        go (no l) h = out (λ u w. l u) (inl (omega (arith, l)))
        go (yes l) (no h) = out (λ u w. h (omega (arith, w, H.state_count))) (inr (omega (arith, h, least)))

    all_agree : (p : ℕ) → Agree g p
    all_agree p = by_place (Agree g p) p (λ l h. f.agree p l (omega (arith, h, above, H.state_count))) (λ o _. off_agree p o)

    off_ask : (p X : ℕ) → Outside p → AskedOf g p X (S 0) → ⊥
    off_ask p X o a = let w = place H a in o w.0 w.1

    unchanged : (p c : ℕ) → c < 64 → (p ≡ 0) ⊎ (q ≤ p) → KeptAt k₀ v₀ k v (p * 64 + c)
    unchanged p c n (inl e) = f.rest (p * 64 + c) (inl (omega (arith, e, n)))
    unchanged p c n (inr l) = f.rest (p * 64 + c) (inr (omega (arith, l)))

    cell : (p c : ℕ) → p < 256 → c < 64 → CellIs g k v p c (action_for (table_of g).actions p c)
    cell p c l n = by_place (CellIs g k v p c (action_for (table_of g).actions p c)) p into out
      where
        into : 1 ≤ p → p ≤ length (states g) → CellIs g k v p c (action_for (table_of g).actions p c)
        into a b = subst (CellIs g k v p c) (sym (line_on p c a b (omega (arith, n)))) (f.done p c a (omega (arith, b, above, H.state_count)) n (M.shifts p c l n))

        out : Outside p → (p ≡ 0) ⊎ (q ≤ p) → CellIs g k v p c (action_for (table_of g).actions p c)
        out o e =
            let w = unchanged p c n e in
            let u = (M.shifts p c l n).empty (off_ask p c o) in
            subst (CellIs g k v p c) (sym (line_off p c o)) (record { kind = w.kind ∙ u.0; value = w.value ∙ u.1 })

    next_state_lem : (p b : ℕ) → p < 256 → b < 64 → get_or gotos (p * 64 + b) 0 ≡ goto_state (action_for (table_of g).actions p (64 + b))
    next_state_lem p b l n = by_place (get_or gotos (p * 64 + b) 0 ≡ goto_state (action_for (table_of g).actions p (64 + b))) p into out
      where
        into : 1 ≤ p → p ≤ length (states g) → get_or gotos (p * 64 + b) 0 ≡ goto_state (action_for (table_of g).actions p (64 + b))
        into a h =
            next_cell p (64 + b) (get_or gotos (p * 64 + b) 0) (omega arith) (M.nexts p b l n).next (M.nexts p b l n).none (action_for (table_of g).actions p (64 + b))
            (sym (line_on p (64 + b) a h (omega (arith, n))))

        out : Outside p → (p ≡ 0) ⊎ (q ≤ p) → get_or gotos (p * 64 + b) 0 ≡ goto_state (action_for (table_of g).actions p (64 + b))
        out o e = (M.nexts p b l n).none (off_ask p (64 + b) o) ∙ sym (ap goto_state (line_off p (64 + b) o))

    pub filled_all : Filled g k v gotos 0
    filled_all = (all_agree, record { kind_is = λ p c l n. (cell p c l n).kind; value_is = λ p c l n. (cell p c l n).value; goto_is = next_state_lem })
