-- What the verdict (specs/Verdict.antt) is for each of its replies: 0 exactly when the table meets the construction, else the first of 7 to 10, at its
-- lowest state.
use Prim.Native.Nat.{ℕ, zero, suc, ◌≤◌, ◌<◌}
use native.Mathlib.Nat.{not-suc-le-zero}
use native.Mathlib.Omega.{arith}
use native.Mathlib.Decide.{dec_le}
use mathlib.Core.Path.{◌≡◌, refl, sym, ap, ◌∙◌, subst}
use mathlib.Core.List.{List}
use mathlib.Core.Option.{Option, some, none}
use borrow.Author.Count.{below_more}
use Rattle.language.specs.Grammar.{Grammar}
use Rattle.leftcorner.specs.Table.{Table, Action}
use Rattle.leftcorner.specs.Construction.{EntryAt, KernelAt, ActionAt, Has, in_kernel, in_closure, Carries, MovedBy, moved, Asked, to_move, to_announce, to_pop, WellFormed, EntriesMeet, ItemsMeet, LookaheadsMeet, CellsAgree, CellsMeet, MeetsWith}
use Rattle.reply.specs.declared.Kind.{Kind}
use Rattle.reply.specs.declared.Kind.TheVariants.{ItemMismatch, MissingLookahead, Conflict, CellMismatch}
use Rattle.reply.specs.declared.Reply.{Reply}
use Rattle.reply.specs.declared.Reply.TheVariants.{Accepted}
use Rattle.check_verdict.specs.Verdict.{if_fails, lowest, refused, first_of, or_else, after_agree, after_lookaheads, after_items, after_entries, verdict}

-- the lowest number below n of which Φ fails
module _ (Φ : ℕ → Type 0) (test : (q : ℕ) → Dec (Φ q)) where
  pub none_fails : (n : ℕ) → lowest Φ test n ≡ none → (q : ℕ) → q < n → Φ q
  none_fails zero e q l = absurd (not-suc-le-zero l)
  none_fails (suc n) e q l = go (lowest Φ test n) (test n) (λ h. none_fails n h) e
    where
      go : (o : Option ℕ) (d : Dec (Φ n)) → (o ≡ none → (k : ℕ) → k < n → Φ k) → if_fails Φ test n o d ≡ none → Φ q
      go (some k) d rec h = let z : ◌≡◌ {A = ℕ} 0 1 = cc in absurd (omega arith)
      go none (yes p) rec h = below_more Φ n (rec refl) p q (omega arith)
      go none (no f) rec h = let z : ◌≡◌ {A = ℕ} 0 1 = cc in absurd (omega arith)

  pub lowest-none : (n : ℕ) → ((q : ℕ) → q < n → Φ q) → lowest Φ test n ≡ none
  lowest-none zero h = refl
  lowest-none (suc n) h = ap (λ (o : Option ℕ). if_fails Φ test n o (test n)) (lowest-none n (λ q l. h q (omega arith))) ∙ go (test n)
    where
      go : (d : Dec (Φ n)) → if_fails Φ test n none d ≡ none
      go (yes p) = refl
      go (no f) = absurd (f (h n (omega arith)))

  pub lowest-some : (n q : ℕ) → q < n → (Φ q → ⊥) → ((k : ℕ) → k < q → Φ k) → lowest Φ test n ≡ some q
  lowest-some zero q l f h = absurd (not-suc-le-zero l)
  lowest-some (suc n) q l f h = go (dec_le (suc q) n) (λ m. lowest-some n q m f h)
    where
      at_last : (d : Dec (Φ n)) → (Φ n → ⊥) → if_fails Φ test n none d ≡ some n
      at_last (yes p) x = absurd (x p)
      at_last (no x) y = refl

      go : Dec (suc q ≤ n) → (suc q ≤ n → lowest Φ test n ≡ some q) → if_fails Φ test n (lowest Φ test n) (test n) ≡ some q
      go (yes m) rec = ap (λ (o : Option ℕ). if_fails Φ test n o (test n)) (rec m)
      go (no m) rec =
          let e : q ≡ n = omega (arith, m, l) in
          ap (λ (o : Option ℕ). if_fails Φ test n o (test n)) (lowest-none n (λ k j. h k (omega (arith, j, e))))
          ∙ at_last (test n) (subst (λ (k : ℕ). Φ k → ⊥) e f) ∙ ap (λ (k : ℕ). some k) (sym e)

first_zero : (n : Kind) (o : Option ℕ) (r : Reply) → first_of n o r ≡ Accepted 0 → (o ≡ none) × (r ≡ Accepted 0)
first_zero n (some q) r e = let z : ◌≡◌ {A = ℕ} 0 1 = cc in absurd (omega arith)
first_zero n none r e = (refl, e)

else_zero : {Φ : Type 0} (d : Dec Φ) (r : Reply) → or_else d (refused ItemMismatch 0) r ≡ Accepted 0 → Φ × (r ≡ Accepted 0)
else_zero (yes p) r e = (p, e)
else_zero (no f) r e = let z : ◌≡◌ {A = ℕ} 0 1 = cc in absurd (omega arith)

first_accepted : (n : Kind) (o : Option ℕ) (r : Reply) {k : ℕ} → first_of n o r ≡ Accepted k → r ≡ Accepted k
first_accepted n (some q) r e = let z : ◌≡◌ {A = ℕ} 0 1 = cc in absurd (omega arith)
first_accepted n none r e = e

else_accepted : {Φ : Type 0} (d : Dec Φ) (r : Reply) {k : ℕ} → or_else d (refused ItemMismatch 0) r ≡ Accepted k → r ≡ Accepted k
else_accepted (yes p) r e = e
else_accepted (no f) r e = let z : ◌≡◌ {A = ℕ} 0 1 = cc in absurd (omega arith)

first_none : (n : Kind) (o : Option ℕ) (r : Reply) → o ≡ none → first_of n o r ≡ r
first_none n o r e = ap (λ (p : Option ℕ). first_of n p r) e

first_some : (n : Kind) (q : ℕ) (o : Option ℕ) (r : Reply) → o ≡ some q → first_of n o r ≡ refused n q
first_some n q o r e = ap (λ (p : Option ℕ). first_of n p r) e

else_yes : {Φ : Type 0} (d : Dec Φ) (x r : Reply) → Φ → or_else d x r ≡ r
else_yes (yes p) x r h = refl
else_yes (no f) x r h = absurd (f h)

module _ (g : Grammar) (t : Table) (F : List ℕ → ℕ → ℕ → Type 0) (entries? : Dec (EntriesMeet g t)) (items? : (q : ℕ) → Dec (ItemsMeet g t q))
    (lookaheads? : (q : ℕ) → Dec (LookaheadsMeet g t F q)) (agree? : (q : ℕ) → Dec (CellsAgree g t F q)) (cells? : (q : ℕ) → Dec (CellsMeet g t F q)) where
  abbrev after_agree' : Reply
  after_agree' = after_agree g t F entries? items? lookaheads? agree? cells?

  abbrev after_lookaheads' : Reply
  after_lookaheads' = after_lookaheads g t F entries? items? lookaheads? agree? cells?

  abbrev after_items' : Reply
  after_items' = after_items g t F entries? items? lookaheads? agree? cells?

  abbrev after_entries' : Reply
  after_entries' = after_entries g t F entries? items? lookaheads? agree? cells?

  abbrev verdict' : Reply
  verdict' = verdict g t F entries? items? lookaheads? agree? cells?

  module _ (R : WellFormed g t) where
    abbrev Line : ℕ → Type 0
    Line q = (i : ℕ) × (k : ℕ) × (σ : List ℕ) × KernelAt g t q i k σ

    has_some : {q i k : ℕ} → Has g t q i k → Line q
    has_some {i = i} {k = k} (in_kernel {σ = σ} h) = (i, k, σ, h)
    has_some (in_closure j h go e l) = has_some h

    carries_some : {q i k d : ℕ} → Carries g t F q i k d → Line q
    carries_some {i = i} {k = k} (in_kernel {σ = σ} h m) = (i, k, σ, h)
    carries_some (in_closure j h go e l f) = carries_some h

    moved_some : {q X i n : ℕ} → MovedBy g t q X i n → Line q
    moved_some (moved h go) = has_some h

    asked_some : {q X : ℕ} {x : Action} → Asked g t F q X x → Line q
    asked_some (to_move m) = moved_some m
    asked_some (to_announce i e h f) = carries_some h
    asked_some (to_pop j e h) = carries_some h

    -- q is not one of 1 .. states
    abbrev pub Outside : ℕ → Type 0
    Outside q = 1 ≤ q → q ≤ t.states → ⊥

    off_line : (q : ℕ) → Outside q → Line q → ⊥
    off_line q o l = let s = R.kernel_state q l.0 l.1 l.2 l.3 in o s.0 s.1

    off_entry : (q : ℕ) → Outside q → (j : ℕ) (γ : List ℕ) → EntryAt g t j q γ → ⊥
    off_entry q o j γ e = let s = R.entry_state j q γ e in o s.0 s.1

    off_action : (q : ℕ) → Outside q → {X : ℕ} {x : Action} → ActionAt g t q X x → ⊥
    off_action q o {X} {x} a = let s = R.action_state q X x a in o s.0 s.1

    pub off_items : (q : ℕ) → Outside q → ItemsMeet g t q
    off_items q o = record {
      entry_has = λ j γ e. absurd (off_entry q o j γ e);
      entry_only = λ j γ e. absurd (off_entry q o j γ e);
      move_has = λ X s i n x a. absurd (off_action q o a);
      move_only = λ X s i n x a. absurd (off_action q o a);
      named = λ a b. absurd (o a b);
    }

    pub off_lookaheads : (q : ℕ) → Outside q → LookaheadsMeet g t F q
    off_lookaheads q o = record {
      of_move = λ p X i k d β σ x a n h go l. absurd (off_line q o (i, suc k, σ, l));
      of_group = λ j p i d c γ σ r δs εs e re ge h f l. absurd (off_line q o (_, zero, σ, l));
      of_goal = λ γ σ e l. absurd (off_line q o (_, zero, σ, l));
    }

    pub off_agree : (q : ℕ) → Outside q → CellsAgree g t F q
    off_agree q o = record { one = λ X x y a b. absurd (off_line q o (asked_some a)) }

    pub off_cells : (q : ℕ) → Outside q → CellsMeet g t F q
    off_cells q o = record {
      filled = λ X x a. absurd (off_line q o (asked_some a));
      asked = λ X y a. absurd (off_action q o a);
    }

    everywhere : (Φ : ℕ → Type 0) → ((q : ℕ) → Outside q → Φ q) → ((q : ℕ) → q < suc t.states → Φ q) → (q : ℕ) → Φ q
    everywhere Φ off on q = go (dec_le (suc q) (suc t.states))
      where
        go : Dec (suc q ≤ suc t.states) → Φ q
        go (yes l) = on q l
        go (no f) = off q (λ a b. f (omega (arith, b)))

    pub meets : verdict' ≡ Accepted 0 → MeetsWith g t F
    unfolding verdict
    meets e =
        let a = else_zero entries? _ e in
        let b = first_zero ItemMismatch (lowest (ItemsMeet g t) items? (suc t.states)) _ a.1 in
        let c = first_zero MissingLookahead (lowest (LookaheadsMeet g t F) lookaheads? (suc t.states)) _ b.1 in
        let d = first_zero Conflict (lowest (CellsAgree g t F) agree? (suc t.states)) _ c.1 in
        let f = first_zero CellMismatch (lowest (CellsMeet g t F) cells? (suc t.states)) _ d.1 in
        record {
          form = R;
          entries = a.0;
          items = everywhere (ItemsMeet g t) off_items (none_fails (ItemsMeet g t) items? (suc t.states) b.0);
          lookaheads = everywhere (LookaheadsMeet g t F) off_lookaheads (none_fails (LookaheadsMeet g t F) lookaheads? (suc t.states) c.0);
          agree = everywhere (CellsAgree g t F) off_agree (none_fails (CellsAgree g t F) agree? (suc t.states) d.0);
          cells = everywhere (CellsMeet g t F) off_cells (none_fails (CellsMeet g t F) cells? (suc t.states) f.0);
        }

  -- no token is read: "tokens read, else 0"
  pub accepted_zero : {n : ℕ} → verdict' ≡ Accepted n → n ≡ 0
  unfolding verdict
  accepted_zero {n} e =
      let a = else_accepted entries? after_entries' e in
      let b = first_accepted ItemMismatch (lowest (ItemsMeet g t) items? (suc t.states)) after_items' a in
      let c = first_accepted MissingLookahead (lowest (LookaheadsMeet g t F) lookaheads? (suc t.states)) after_lookaheads' b in
      let d = first_accepted Conflict (lowest (CellsAgree g t F) agree? (suc t.states)) after_agree' c in
      let f : Accepted 0 ≡ Accepted n = first_accepted CellMismatch (lowest (CellsMeet g t F) cells? (suc t.states)) (Accepted 0) d in
      cc

  pub past_entries : EntriesMeet g t → verdict' ≡ after_entries'
  unfolding verdict
  past_entries E = else_yes entries? (refused ItemMismatch 0) after_entries' E

  abbrev pub All : (ℕ → Type 0) → Type 0
  All Φ = (q : ℕ) → q < suc t.states → Φ q

  pub record Fails (Φ : ℕ → Type 0) (q : ℕ) : Type 0 where
    pub low : q ≤ t.states
    pub below : (k : ℕ) → k < q → Φ k
    pub fails : Φ q → ⊥

  fail : (Φ : ℕ → Type 0) (test : (q : ℕ) → Dec (Φ q)) (q : ℕ) → Fails Φ q → lowest Φ test (suc t.states) ≡ some q
  fail Φ test q f = lowest-some Φ test (suc t.states) q (omega (arith, f.low)) f.fails f.below

  past_items : All (ItemsMeet g t) → after_entries' ≡ after_items'
  past_items h = first_none ItemMismatch _ after_items' (lowest-none (ItemsMeet g t) items? (suc t.states) h)

  past_lookaheads : All (LookaheadsMeet g t F) → after_items' ≡ after_lookaheads'
  past_lookaheads h = first_none MissingLookahead _ after_lookaheads' (lowest-none (LookaheadsMeet g t F) lookaheads? (suc t.states) h)

  past_agree : All (CellsAgree g t F) → after_lookaheads' ≡ after_agree'
  past_agree h = first_none Conflict _ after_agree' (lowest-none (CellsAgree g t F) agree? (suc t.states) h)

  past_cells : All (CellsMeet g t F) → after_agree' ≡ Accepted 0
  past_cells h = first_none CellMismatch _ (Accepted 0) (lowest-none (CellsMeet g t F) cells? (suc t.states) h)

  -- what the code shows at each of its returns
  pub is_zero : EntriesMeet g t → All (ItemsMeet g t) → All (LookaheadsMeet g t F) → All (CellsAgree g t F) → All (CellsMeet g t F) → verdict' ≡ Accepted 0
  is_zero e a b c d = past_entries e ∙ past_items a ∙ past_lookaheads b ∙ past_agree c ∙ past_cells d

  pub is_list : (EntriesMeet g t → ⊥) → verdict' ≡ refused ItemMismatch 0
  unfolding verdict
  is_list f = go entries?
    where
      go : (d : Dec (EntriesMeet g t)) → or_else d (refused ItemMismatch 0) after_entries' ≡ refused ItemMismatch 0
      go (yes e) = absurd (f e)
      go (no h) = refl

  pub is_seven : (q : ℕ) → EntriesMeet g t → Fails (ItemsMeet g t) q → verdict' ≡ refused ItemMismatch q
  is_seven q e f = past_entries e ∙ first_some ItemMismatch q _ after_items' (fail (ItemsMeet g t) items? q f)

  pub is_eight : (q : ℕ) → EntriesMeet g t → All (ItemsMeet g t) → Fails (LookaheadsMeet g t F) q → verdict' ≡ refused MissingLookahead q
  is_eight q e a f = past_entries e ∙ past_items a ∙ first_some MissingLookahead q _ after_lookaheads' (fail (LookaheadsMeet g t F) lookaheads? q f)

  pub is_nine : (q : ℕ) → EntriesMeet g t → All (ItemsMeet g t) → All (LookaheadsMeet g t F) → Fails (CellsAgree g t F) q → verdict' ≡ refused Conflict q
  is_nine q e a b f = past_entries e ∙ past_items a ∙ past_lookaheads b ∙ first_some Conflict q _ after_agree' (fail (CellsAgree g t F) agree? q f)

  pub is_ten : (q : ℕ) → EntriesMeet g t → All (ItemsMeet g t) → All (LookaheadsMeet g t F) → All (CellsAgree g t F) → Fails (CellsMeet g t F) q → verdict' ≡ refused CellMismatch q
  is_ten q e a b c f = past_entries e ∙ past_items a ∙ past_lookaheads b ∙ past_agree c ∙ first_some CellMismatch q _ (Accepted 0) (fail (CellsMeet g t F) cells? q f)

  pub accepts : MeetsWith g t F → verdict' ≡ Accepted 0
  accepts M = is_zero M.entries (λ q l. M.items q) (λ q l. M.lookaheads q) (λ q l. M.agree q) (λ q l. M.cells q)
