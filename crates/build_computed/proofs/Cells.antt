-- The cells, computed: of what is asked of a cell the first, and the test that nothing else is asked of it. Where the test is passed no
-- cell of the builder's would hold two different actions, and each holds what was computed.
use Prim.Native.Nat.{ℕ, suc, ◌+◌, ◌*◌, ◌/◌, ◌%◌, ◌≤◌, ◌<◌}
use native.Mathlib.Omega.{arith}
use mathlib.Core.Path.{◌≡◌, refl, sym, ap, subst, ◌∙◌}
use mathlib.Core.Logic.{◌⊎◌, inl, inr}
use mathlib.Core.Bool.{Bool, true, false, ◌&&◌}
use mathlib.Core.List.{List, [], ◌∷◌}
use mathlib.Core.Option.{Option, some, none}
use borrow.Author.Tests.{eqb-true, leb-true}
use lib.Dec.{eqb, leb}
use lib.ListN.{length}
use Rattle.language.specs.Grammar.{Grammar}
use Rattle.language.specs.Sentence.{In, here, there}
use Rattle.language.proofs.GrammarLaws.{rule_range}
use Rattle.language.specs.WellFormed as grammar
use Rattle.leftcorner.proofs.ReadOff.{clash}
use Rattle.std.specs.Prelude.{◌↔◌}
use Rattle.leftcorner.specs.Table.{Action, S, N, A, P, Table, next_state}
use Rattle.leftcorner.specs.Construction.{Asked, to_move, to_announce, to_pop, CellsAgree, forget}
use Rattle.analysis.specs.ByRules.{FirstByRules}
use Rattle.analysis.proofs.Decided.{first?}
use Rattle.build_states.specs.Strings.{entry_strings}
use Rattle.build_states.proofs.EntryLaws.{lines_length}
use Rattle.build_states.specs.States.{Kernel, range, total, states}
use Rattle.build_states.proofs.Lists.{in_range}
use Rattle.build_book.proofs.LineLaws.{item_table, moved_alone}
use Rattle.build_states.proofs.Limits.{Limits}
use Rattle.build_states.proofs.StateLaws.{first_kernels, goes_to_lem}
use Rattle.build_book.proofs.BuiltForm.{asked_place}
use Rattle.build_book.specs.Text.{table_text}
use Rattle.build_book.specs.Book.{text_reply}
use Rattle.build_states.specs.Lookaheads.{bare}
use Rattle.build_book.proofs.CellLaws.{cell, cell_asked, cell_moves, cell-some}
use Rattle.build_states.specs.Lookaheads.{terminal_codes}
use Rattle.build_states.proofs.CodeLaws.{first_in, codes_low}
use Rattle.build_book.specs.Builder.{builder_table, builder_reply}
use Rattle.build_book.proofs.BuilderLaws.{replies_text, table_text_lem}
use Rattle.build_computed.proofs.Work.{work}
use Rattle.build_computed.proofs.First.{and_true, first_of, nulls, null_closed, next_begins, terminal_begins, nullable_is, begins_is, first_is}
use Rattle.build_computed.proofs.Moves.{every, closes, discover, goto_in}
use Rattle.build_computed.proofs.States.{states_computed, goto_computed}
use Rattle.build_computed.proofs.Lookaheads.{looks}
use Rattle.build_computed.proofs.Asked.{asks, wants, asked_computed, computed_asked}

-- ---- numbers

-- 0 for an empty cell
abbrev pub number_of : Option Action → ℕ
number_of none = 0
number_of (some (S s)) = 256 + s
number_of (some (N s)) = 256 + s
number_of (some (A i)) = 512 + i
number_of (some (P n)) = 768 + n

abbrev pub or_later : Bool → ℕ → ℕ → ℕ
or_later true v w = v
or_later false v w = w

-- the first number that is asked at X
abbrev pub asked_at : List ℕ → ℕ → ℕ
asked_at [] X = 0
asked_at (a ∷ al) X = or_later (eqb (a / 1024) X) (a % 1024) (asked_at al X)

-- ---- the test

-- each of l is the first of al at its symbol
abbrev pub are_first : List ℕ → List ℕ → Bool
are_first al [] = true
are_first al (a ∷ l) = eqb (asked_at al (a / 1024)) (a % 1024) && are_first al l

abbrev pub agree : List ℕ → Bool
agree al = are_first al al

module _ (g : Grammar) (b : Table) where
  abbrev pub all_agree : List ℕ → List ℕ → List Kernel → List ℕ → List ℕ → Bool
  all_agree nl fl ks ls [] = true
  all_agree nl fl ks ls (q ∷ qs) = agree (asks g b nl fl ks ls q) && all_agree nl fl ks ls qs

  abbrev pub test_looks : List ℕ → List ℕ → List Kernel → Option (List ℕ) → Bool
  test_looks nl fl ks none = false
  test_looks nl fl ks (some ls) = all_agree nl fl ks ls (range 1 (length ks))

  abbrev pub test_begins : List ℕ → List Kernel → Option (List ℕ) → Bool
  test_begins nl ks none = false
  test_begins nl ks (some fl) = test_looks nl fl ks (looks g b nl fl ks 100000)

  abbrev pub test_states : ℕ → List Kernel → Bool
  test_states n ks = every (closes g b) ks && (eqb (length ks) n && (leb n 255 && leb (total ks) 1023))

  abbrev pub test_parts : List ℕ → List Kernel → ℕ → Bool
  test_parts nl ks n =
      (null_closed nl g.rules && leb (length b.entries) 127)
      && (test_states n ks && test_begins nl ks (work (next_begins nl g.rules) 100000 (terminal_begins g.terminals) []))

  -- the table has n states, and no cell would hold two different actions
  abbrev pub table_test : ℕ → Bool
  table_test n = test_parts (nulls g.rules g.nonterminals) (discover g b n 0 (first_kernels g)) n

-- ---- what the parts of the test say

first_at : (al l : List ℕ) (a : ℕ) → are_first al l ≡ true → In a l → asked_at al (a / 1024) ≡ a % 1024
first_at al (a ∷ l) c e here = eqb-true (asked_at al (a / 1024)) (a % 1024) (and_true (eqb (asked_at al (a / 1024)) (a % 1024)) (are_first al l) e).0
first_at al (c ∷ l) a e (there m) = first_at al l a (and_true (eqb (asked_at al (c / 1024)) (c % 1024)) (are_first al l) e).1 m
first_at al [] a e m = elim m [ ]

agreed : (al : List ℕ) (X v : ℕ) → agree al ≡ true → v < 1024 → In (X * 1024 + v) al → asked_at al X ≡ v
agreed al X v e l m =
    let x : X ≡ (X * 1024 + v) / 1024 = omega (arith, l) in
    let w : (X * 1024 + v) % 1024 ≡ v = omega (arith, l) in
    ap (asked_at al) x ∙ first_at al al (X * 1024 + v) e m ∙ w

-- a number that is not 0 is asked
asked_in : (al : List ℕ) (X : ℕ) → (asked_at al X ≡ 0) ⊎ ((asked_at al X < 1024) × In (X * 1024 + asked_at al X) al)
asked_in [] X = inl refl
asked_in (a ∷ al) X = go (eqb (a / 1024) X) refl (asked_in al X)
  where
    Now : Bool → Type 0
    Now t = let v = or_later t (a % 1024) (asked_at al X) in (v ≡ 0) ⊎ ((v < 1024) × In (X * 1024 + v) (a ∷ al))

    go : (t : Bool) → eqb (a / 1024) X ≡ t → (asked_at al X ≡ 0) ⊎ ((asked_at al X < 1024) × In (X * 1024 + asked_at al X) al) → Now t
    go true e h =
        let z : a ≡ X * 1024 + a % 1024 = omega (arith, eqb-true (a / 1024) X e) in
        inr (omega arith, subst (λ (k : ℕ). In k (a ∷ al)) z here)
    go false e (inl h) = inl h
    go false e (inr h) = inr (h.0, there h.1)

agree_at : (g : Grammar) (b : Table) (nl fl : List ℕ) (ks : List Kernel) (ls qs : List ℕ) (q : ℕ) → all_agree g b nl fl ks ls qs ≡ true → In q qs
    → agree (asks g b nl fl ks ls q) ≡ true
agree_at g b nl fl ks ls (q ∷ qs) p e here = (and_true (agree (asks g b nl fl ks ls q)) (all_agree g b nl fl ks ls qs) e).0
agree_at g b nl fl ks ls (p ∷ qs) q e (there m) =
    agree_at g b nl fl ks ls qs q (and_true (agree (asks g b nl fl ks ls p)) (all_agree g b nl fl ks ls qs) e).1 m
agree_at g b nl fl ks ls [] q e m = elim m [ ]

-- ---- a number tells its action

abbrev pub Told : Action → ℕ → Type 0
Told x w = ((x ≡ S 0) × (w < 512)) ⊎ (((i : ℕ) × (x ≡ A i) × (i ≤ 127) × (w ≡ 512 + i)) ⊎ ((n : ℕ) × (x ≡ P n) × (w ≡ 768 + n)))

same_told : (x y : Action) {v w : ℕ} → Told x v → Told y w → v ≡ w → x ≡ y
same_told x y (inl a) (inl b) e = a.0 ∙ sym b.0
same_told x y (inl a) (inr (inl b)) e = absurd (omega (arith, a.1, b.3, e))
same_told x y (inl a) (inr (inr b)) e = absurd (omega (arith, a.1, b.2, e))
same_told x y (inr (inl a)) (inl b) e = absurd (omega (arith, a.3, b.1, e))
same_told x y (inr (inl a)) (inr (inl b)) e = let z : a.0 ≡ b.0 = omega (arith, a.3, b.3, e) in a.1 ∙ ap A z ∙ sym b.1
same_told x y (inr (inl a)) (inr (inr b)) e = absurd (omega (arith, a.2, a.3, b.2, e))
same_told x y (inr (inr a)) (inl b) e = absurd (omega (arith, a.2, b.1, e))
same_told x y (inr (inr a)) (inr (inl b)) e = absurd (omega (arith, a.2, b.2, b.3, e))
same_told x y (inr (inr a)) (inr (inr b)) e = let z : a.0 ≡ b.0 = omega (arith, a.2, b.2, e) in a.1 ∙ ap P z ∙ sym b.1

-- ---- the test is passed

module _ (g : Grammar) (W : grammar.WellFormed g) (n : ℕ) (passed : table_test g (bare g) n ≡ true) where
  unfoldable pub null_list : List ℕ
  null_list = nulls g.rules g.nonterminals

  unfoldable pub kernel_list : List Kernel
  kernel_list = discover g (bare g) n 0 (first_kernels g)

  abbrev begins : Option (List ℕ)
  begins = work (next_begins null_list g.rules) 100000 (terminal_begins g.terminals) []

  pub record Parts : Type 0 where
    pub nulls_closed : null_closed null_list g.rules ≡ true
    pub few : length (entry_strings g) ≤ 127
    pub ends : every (closes g (bare g)) kernel_list ≡ true
    pub many : length kernel_list ≡ n
    pub few_states : n ≤ 255
    pub few_lines : total kernel_list ≤ 1023
    pub rows : test_begins g (bare g) null_list kernel_list begins ≡ true

  pub parts : Parts
  unfolding null_list kernel_list
  parts =
      let rows = test_begins g (bare g) null_list kernel_list begins in
      let a = and_true (null_closed null_list g.rules && leb (length (bare g).entries) 127) (test_states g (bare g) n kernel_list && rows) passed in
      let b = and_true (null_closed null_list g.rules) (leb (length (bare g).entries) 127) a.0 in
      let c = and_true (test_states g (bare g) n kernel_list) rows a.1 in
      let d = and_true (every (closes g (bare g)) kernel_list) (eqb (length kernel_list) n && (leb n 255 && leb (total kernel_list) 1023)) c.0 in
      let e = and_true (eqb (length kernel_list) n) (leb n 255 && leb (total kernel_list) 1023) d.1 in
      let f = and_true (leb n 255) (leb (total kernel_list) 1023) e.1 in
      record {
        nulls_closed = b.0;
        few = omega (arith, leb-true (length (bare g).entries) 127 b.1, lines_length 1 (entry_strings g));
        ends = d.0;
        many = eqb-true (length kernel_list) n e.0;
        few_states = leb-true n 255 f.0;
        few_lines = leb-true (total kernel_list) 1023 f.1;
        rows = c.1;
      }

  pub same : states g ≡ kernel_list
  unfolding kernel_list
  same = let p = parts in states_computed g W p.few n p.few_states p.ends (omega (arith, p.many))

  -- what the test computed on the way
  pub record Found : Type 0 where
    pub fl : List ℕ
    pub begun : begins ≡ some fl
    pub F_is : (β : List ℕ) (d c : ℕ) → In c (first_of null_list fl β d) ↔ FirstByRules g β d c
    pub ls : List ℕ
    pub done : looks g (bare g) null_list fl kernel_list 100000 ≡ some ls
    pub agreeing : all_agree g (bare g) null_list fl kernel_list ls (range 1 (length kernel_list)) ≡ true

  pub found : Found
  unfolding null_list
  found = begun begins refl parts.rows
    where
      IsFirst : List ℕ → Type 0
      IsFirst fl = (β : List ℕ) (d c : ℕ) → In c (first_of null_list fl β d) ↔ FirstByRules g β d c

      looked : (fl : List ℕ) → begins ≡ some fl → IsFirst fl → (o : Option (List ℕ)) → looks g (bare g) null_list fl kernel_list 100000 ≡ o
          → test_looks g (bare g) null_list fl kernel_list o ≡ true → Found
      looked fl e F none k t = clash cc
      looked fl e F (some ls) k t = record { fl = fl; begun = e; F_is = F; ls = ls; done = k; agreeing = t }

      begun : (o : Option (List ℕ)) → begins ≡ o → test_begins g (bare g) null_list kernel_list o ≡ true → Found
      begun none e t = clash cc
      begun (some fl) e t =
          let N = nullable_is g W g.nonterminals parts.nulls_closed in
          looked fl e (first_is g W null_list N fl (begins_is g W null_list N 100000 fl e)) (looks g (bare g) null_list fl kernel_list 100000) refl t

  few_states : length (states g) ≤ 255
  few_states = let p = parts in omega (arith, ap length same, p.many, p.few_states)

  few_lines : total (states g) ≤ 1023
  few_lines = let p = parts in omega (arith, ap total same, p.few_lines)

  pub limits : Limits g
  limits = record { formed = W; few_entries = parts.few; few_states = few_states; few_lines = few_lines }

  abbrev IsState : ℕ → Type 0
  IsState q = (1 ≤ q) × (q ≤ length (states g))

  abbrev Asks : ℕ → ℕ → Action → Type 0
  Asks q X x = Asked g (item_table g (FirstByRules g) (first? g) (terminal_codes g) (first_in g)) (FirstByRules g) q X x

  -- what is asked of the cells of state q, as numbers, and the number of an action there
  abbrev pub asks_of : ℕ → List ℕ
  asks_of q = asks g (bare g) null_list found.fl kernel_list found.ls q

  abbrev pub number : ℕ → ℕ → Action → ℕ
  number q X x = wants g (bare g) null_list found.fl kernel_list q X x

  pub asked_number : (q X : ℕ) (x : Action) → IsState q → Asks q X x → asked_at (asks_of q) X ≡ number q X x
  asked_number q X x h a =
      let c = asked_computed g limits kernel_list same parts.ends null_list found.fl found.F_is 100000 found.ls found.done h.0
      h.1 a in
      let m = in_range 1 (length kernel_list) q h.0 (omega (arith, h.1, ap length same)) in
      let t = agree_at g (bare g) null_list found.fl kernel_list found.ls (range 1 (length kernel_list)) q found.agreeing m in
      agreed (asks_of q) X (number q X x) t c.low c.stands

  pub told : (q X : ℕ) (x : Action) → IsState q → Asks q X x → Told x (number q X x)
  told q X x s (to_move {i = i} {n = k} m) =
      let u = goes_to_lem g limits q X i k s.0 s.1 (moved_alone g (FirstByRules g) (first? g) (terminal_codes g) (first_in g) m) in
      inl (refl, omega (arith, goto_computed g W parts.few kernel_list same parts.ends q X, u.high, few_states))
  told q X x s (to_announce i e c f) = inr (inl (i, refl, omega (arith, (rule_range g i e).1, W.few_rules), refl))
  told q X x s (to_pop k {γ = γ} e c) = inr (inr (suc (length γ), refl, refl))

  abbrev pub cell_of : ℕ → ℕ → Option Action
  cell_of q X = cell g (FirstByRules g) (first? g) (terminal_codes g) (first_in g) q X

  pub number_is : (q X : ℕ) → IsState q → number_of (cell_of q X) ≡ asked_at (asks_of q) X
  number_is q X s = go (cell_of q X) refl
    where
      moves : (k : ℕ) (y : Action) → cell_of q X ≡ some y → next_state y ≡ some k → k ≡ goto_in g (bare g) kernel_list q X
      moves k y e h =
          (cell_moves g (FirstByRules g) (first? g) (terminal_codes g) (first_in g) q X k y e h).next_is
          ∙ goto_computed g W parts.few kernel_list same parts.ends q X

      same_number : (y : Action) → cell_of q X ≡ some y → number_of (some y) ≡ number q X (forget y)
      same_number (S k) e = ap (λ (z : ℕ). 256 + z) (moves k (S k) e refl)
      same_number (N k) e = ap (λ (z : ℕ). 256 + z) (moves k (N k) e refl)
      same_number (A i) e = refl
      same_number (P k) e = refl

      empty : cell_of q X ≡ none → (asked_at (asks_of q) X ≡ 0) ⊎ ((asked_at (asks_of q) X < 1024) × In (X * 1024 + asked_at (asks_of q) X) (asks_of q))
          → 0 ≡ asked_at (asks_of q) X
      empty e (inl z) = sym z
      empty e (inr z) =
          let a = computed_asked g limits kernel_list same parts.ends null_list found.fl found.F_is 100000 found.ls found.done q X
          (asked_at (asks_of q) X) s.0 s.1 z.0 z.1 in
          let y = cell-some g (FirstByRules g) (first? g) (terminal_codes g) (first_in g) a.1 in
          let c : none ≡ some y.0 = sym e ∙ y.1 in
          clash cc

      go : (c : Option Action) → cell_of q X ≡ c → number_of c ≡ asked_at (asks_of q) X
      go none e = empty e (asked_in (asks_of q) X)
      go (some y) e =
          same_number y e ∙ sym (asked_number q X (forget y) s (cell_asked g (FirstByRules g) (first? g) (terminal_codes g) (first_in g) q X y e))

  -- no cell would hold two different actions
  agrees : (q : ℕ) → CellsAgree g (item_table g (FirstByRules g) (first? g) (terminal_codes g) (first_in g)) (FirstByRules g) q
  agrees q = record {
    one = λ X x y a b.
        let p = asked_place g (FirstByRules g) (first? g) (terminal_codes g) (first_in g) limits (codes_low g) a in
        let s : IsState q = (p.0, p.1) in
        same_told x y (told q X x s a) (told q X y s b) (sym (asked_number q X x s a) ∙ asked_number q X y s b);
  }

  -- so the builder refuses nothing of the grammar, but for the length of its book
  pub replies : (room : ℕ) → builder_reply g room ≡ text_reply (table_text (builder_table g)) room
  replies room =
      replies_text g room (record { few_entries = parts.few; few_states = few_states; few_lines = few_lines }) agrees
      ∙ ap (λ (l : List ℕ). text_reply l room) (sym (table_text_lem g))
