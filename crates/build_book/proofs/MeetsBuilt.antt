-- The book that the builder writes meets the construction, where no cell would hold two actions.
use Prim.Native.Nat.{ℕ, zero, suc, ◌+◌, ◌*◌, ◌≤◌}
use native.Mathlib.Omega.{arith}
use mathlib.Core.Path.{◌≡◌, refl, sym, ap, subst, ◌∙◌}
use mathlib.Core.Logic.{◌⊎◌, inl, inr}
use mathlib.Core.List.{List}
use mathlib.Core.Option.{some}
use lib.ListN.{length}
use Rattle.language.specs.Grammar.{Grammar, at, IsNonterminal}
use Rattle.language.specs.Sentence.{In, here, Reachable}
use Rattle.language.proofs.Strings.{AllDeclared}
use Rattle.leftcorner.specs.Table.{EntryLine, Action, Table, next_state}
use Rattle.leftcorner.specs.Construction.{forget, entry_item, EntryAt, KernelAt, ActionAt, MovedBy, Carries, Asked, to_move, ItemsMeet, LookaheadsMeet, CellsAgree, CellsMeet, MeetsWith}
use Rattle.build_states.specs.Strings.{entry_strings, entry_lines}
use Rattle.build_states.proofs.EntryLaws.{entry_line, entry_number, entries_meet}
use Rattle.build_states.specs.States.{Kernel, item_of, dot_of, alone, states, kernel_of, goto}
use Rattle.build_book.proofs.Over.{goes_over, moved_over, carries_over}
use Rattle.build_states.proofs.Limits.{Limits}
use Rattle.build_states.proofs.MoveLaws.{item_of_lem, dot_of_lem, in_move, move_only, moved_dot}
use Rattle.build_states.proofs.StateLaws.{more_states, entry_kernel, Reached, entry_or, Goto, goes_to_lem}
use Rattle.build_states.specs.Lookaheads as look
use Rattle.build_states.specs.Lookaheads.{bare, entry_of, Lookahead}
use Rattle.build_book.proofs.LineLaws.{item_table, codes, code_every, of_line, moved_alone, alone_moved}
use Rattle.build_book.proofs.Carried.{looked, look_low}
use Rattle.build_book.proofs.Live.{in_one}
use Rattle.build_book.proofs.CellLaws.{goes_to, move_next, cell_asked, cell_moves, cell_move}
use Rattle.build_book.proofs.CellCases.{cell_filled}
use Rattle.build_book.proofs.BuiltForm.{full_table, states_both, built_entries, entries_both, to_built, from_built, asked_built, built_asked, built_line, action_is, is_action_lem, asked_place, asked_moved, entry_of_lem, built_form}

module _ (g : Grammar) (F : List ℕ → ℕ → ℕ → Type 0) (F? : (β : List ℕ) (d c : ℕ) → Dec (F β d c)) (first-codes : List ℕ)
    (F-in : (β : List ℕ) (d c : ℕ) → F β d c → (c ≡ d) ⊎ In c first-codes) (L : Limits g) (codes_low : (c : ℕ) → In c first-codes → c ≤ g.terminals) where
  abbrev t : Table
  t = item_table g F F? first-codes F-in

  abbrev u : Table
  u = full_table g F F? first-codes F-in

  same : u.entries ≡ entry_lines 1 (entry_strings g)
  same = built_entries g F F? first-codes F-in

  -- ---- items

  kernel_line : (q x i n : ℕ) → 1 ≤ q → q ≤ length (states g) → In x (kernel_of g q) → item_of x ≡ i → dot_of x ≡ n → (σ : List ℕ) × KernelAt g u q i n σ
  kernel_line q x i n l h m a c =
      let σ = codes g F F? first-codes F-in q x in (
        σ,
        to_built g F F? first-codes F-in q i n σ (subst (λ (z : ℕ). KernelAt g t q i z σ) c
            (subst (λ (z : ℕ). KernelAt g t q z (dot_of x) σ) a (of_line g F F? first-codes F-in q x l h m))),
      )

  pub entry_has : (k q : ℕ) (γ : List ℕ) → EntryAt g u k q γ → (σ : List ℕ) × KernelAt g u q (entry_item g u k) zero σ
  entry_has k q γ e =
      let l = entry_line g u same k e in
      let w = entry_kernel g k l.1 l.2 in
      let r = kernel_line k ((length g.rules + k) * 16) (entry_item g u k) zero l.1 (omega (arith, l.2, more_states g))
      (subst (λ (z : Kernel). In ((length g.rules + k) * 16) z) (sym w) here) (omega arith) (omega arith) in
      (r.0, subst (λ (z : ℕ). KernelAt g u z (entry_item g u k) zero r.0) (sym l.0) r.1)

  entry_only : (k q : ℕ) (γ : List ℕ) → EntryAt g u k q γ → (i n : ℕ) (σ : List ℕ) → KernelAt g u q i n σ → (i ≡ entry_item g u k) × (n ≡ zero)
  entry_only k q γ e i n σ m =
      let l = entry_line g u same k e in
      let w = built_line g F F? first-codes F-in q i n σ m in
      let x = in_one (subst (λ (z : Kernel). In w.number z) (ap (kernel_of g) l.0 ∙ entry_kernel g k l.1 l.2) w.stands) in
      (omega (arith, w.item, x), omega (arith, w.dot, x))

  to_items : {q X i n : ℕ} → MovedBy g u q X i n → MovedBy g t q X i n
  to_items {q = q} m = moved_over g u t (sym (entries_both g F F? first-codes F-in)) q q (λ i k σ h. (σ, from_built g F F? first-codes F-in q i k σ h)) m

  pub from_items : {q X i n : ℕ} → MovedBy g t q X i n → MovedBy g u q X i n
  from_items {q = q} m = moved_over g t u (entries_both g F F? first-codes F-in) q q (λ i k σ h. (σ, to_built g F F? first-codes F-in q i k σ h)) m

  -- a line with a next state goes to the state that has the moved items
  pub record Target (q X s : ℕ) : Type 0 where
    pub next_is : s ≡ goto g q X
    pub low : 1 ≤ q
    pub high : q ≤ length (states g)
    pub goes : Goto g q X

  pub target : (q X s : ℕ) (x : Action) → ActionAt g u q X x → next_state x ≡ some s → Target q X s
  target q X s x a n =
      let w = action_is g F F? first-codes F-in q X x a in
      let y = cell_moves g F F? first-codes F-in q X s x w.holds n in
      let m = asked_moved g F F? first-codes F-in L codes_low y.asked in
      record { next_is = y.next_is; low = w.low; high = w.high; goes = goes_to_lem g L q X m.0 m.1 w.low w.high (moved_alone g F F? first-codes F-in m.2) }

  pub move_has : (q X s i n : ℕ) (x : Action) → ActionAt g u q X x → next_state x ≡ some s → MovedBy g u q X i n → (σ : List ℕ) × KernelAt g u s i n σ
  move_has q X s i n x a e m =
      let y = target q X s x a e in
      let v = moved_alone g F F? first-codes F-in (to_items m) in
      let d = moved_dot g L.formed L.few_entries (kernel_of g q) v in
      let z = y.goes in
      let r = kernel_line (goto g q X) (i * 16 + n) i n z.low z.high
      (subst (λ (k : Kernel). In (i * 16 + n) k) (sym z.kernel) (in_move g L.formed L.few_entries (kernel_of g q) v)) (item_of_lem i n d) (dot_of_lem i n d) in
      (r.0, subst (λ (p : ℕ). KernelAt g u p i n r.0) (sym y.next_is) r.1)

  moves_only : (q X s : ℕ) (x : Action) → ActionAt g u q X x → next_state x ≡ some s → (j m : ℕ) (σ : List ℕ) → KernelAt g u s j m σ → MovedBy g u q X j m
  moves_only q X s x a e j m σ h =
      let y = target q X s x a e in
      let w = built_line g F F? first-codes F-in s j m σ h in
      let v = move_only g (kernel_of g q) X w.number (subst (λ (k : Kernel). In w.number k) (ap (kernel_of g) y.next_is ∙ y.goes.kernel) w.stands) in
      from_items (alone_moved g F F? first-codes F-in y.low y.high
      (subst (λ (z : ℕ). MovedBy g (alone g (kernel_of g q)) 1 X z m) (sym w.item)
      (subst (λ (z : ℕ). MovedBy g (alone g (kernel_of g q)) 1 X (item_of w.number) z) (sym w.dot) v)))

  named : (q : ℕ) → 1 ≤ q → q ≤ u.states → ((k : ℕ) × (γ : List ℕ) × EntryAt g u k q γ) ⊎ ((p : ℕ) × (X : ℕ) × (x : Action) × ActionAt g u p X x × (next_state x ≡ some q))
  named q l h = go (entry_or g q (omega (arith, h, states_both g F F? first-codes F-in)))
    where
      go : (q ≤ length (entry_strings g)) ⊎ Reached g q
          → ((k : ℕ) × (γ : List ℕ) × EntryAt g u k q γ) ⊎ ((p : ℕ) × (X : ℕ) × (x : Action) × ActionAt g u p X x × (next_state x ≡ some q))
      go (inl e) = let r = entry_of_lem g L (full_table g F F? first-codes F-in) (built_entries g F F? first-codes F-in) q l e in inl (q, r.0, r.1)
      go (inr r) =
          let p = r.from in
          let X = r.symbol in
          let hp : p ≤ length (states g) = omega (arith, r.earlier, h, states_both g F F? first-codes F-in) in
          let m = alone_moved g F F? first-codes F-in r.low hp (move_only g (kernel_of g p) X r.some_item.0 r.some_item.1) in
          let x = asked_place g F F? first-codes F-in L codes_low (to_move m) in
          inr (
            p,
            X,
            goes_to g F F? first-codes F-in p X,
            is_action_lem g F F? first-codes F-in p X (goes_to g F F? first-codes F-in p X) r.low hp x.2
                (cell_move g F F? first-codes F-in p X (to_move m)),
            move_next g F F? first-codes F-in p X ∙ ap (λ (z : ℕ). some z) r.back,
          )

  pub built_items : (q : ℕ) → ItemsMeet g u q
  built_items q = record {
    entry_has = λ k γ e. entry_has k q γ e;
    entry_only = λ k γ e. entry_only k q γ e;
    move_has = λ X s i n x. move_has q X s i n x;
    move_only = λ X s i n x a e _. moves_only q X s x a e;
    named = named q;
  }

  -- ---- lookaheads

  looks : {q i k d : ℕ} → Carries g u F q i k d → Lookahead g F q i k d
  looks c = looked g F F? first-codes F-in (carries_over g u t (sym (entries_both g F F? first-codes F-in)) F (from_built g F F? first-codes F-in) c)

  -- a lookahead stands in the codes of its line
  in_codes : (q i k d : ℕ) (σ : List ℕ) → KernelAt g u q i k σ → Lookahead g F q i k d → In d σ
  in_codes q i k d σ m c =
      let w = built_line g F F? first-codes F-in q i k σ m in
      subst (λ (z : List ℕ). In d z) (sym w.codes_are)
      (code_every g F F? first-codes F-in q w.number d (look_low g F F? first-codes F-in L codes_low c)
      (subst (λ (z : ℕ). Lookahead g F q z (dot_of w.number) d) w.item (subst (λ (z : ℕ). Lookahead g F q i z d) w.dot c)))

  pub built_lookaheads : (q : ℕ) → LookaheadsMeet g u F q
  built_lookaheads q = record {
    of_move = λ p X i k d β σ x a n c go m.
        in_codes q i (suc k) d σ m
        (subst (λ (z : ℕ). Lookahead g F z i (suc k) d) (sym (target p X q x a n).next_is) (look.of_move (looks c) (goes_over g u (bare g) same go)));
    of_group = λ k p i d c γ σ r δs εs e re ge h f m.
        let z : entry_of g γ ≡ q = entry_number g (bare g) refl k (bare_entry k e) ∙ sym (entry_line g u same k e).0 in
        let w : entry_of g γ ≡ k = entry_number g (bare g) refl k (bare_entry k e) in
        in_codes q (entry_item g u k) zero c σ m
        (subst (λ (n : ℕ). Lookahead g F q (entry_item g (bare g) n) zero c) w
        (subst (λ (n : ℕ). Lookahead g F n (entry_item g (bare g) (entry_of g γ)) zero c) z (look.of_group i δs γ εs re (looks h) ge f)));
    of_goal = λ γ σ e m. in_codes q (entry_item g u 1) zero 0 σ m
        (subst (λ (n : ℕ). Lookahead g F n (entry_item g (bare g) 1) zero zero) (sym (entry_line g u same 1 e).0) look.of_goal);
  }
    where
      bare_entry : (k : ℕ) {s : ℕ} {γ : List ℕ} → EntryAt g u k s γ → EntryAt g (bare g) k s γ
      bare_entry zero e = e
      bare_entry (suc j) e = sym (ap (λ (l : List EntryLine). at l j) same) ∙ e

  -- ---- cells

  module _ (agree : (q : ℕ) → CellsAgree g t F q) where
    pub built_agree : (q : ℕ) → CellsAgree g u F q
    built_agree q = record { one = λ X x y a c. (agree q).one X x y (built_asked g F F? first-codes F-in a) (built_asked g F F? first-codes F-in c) }

    filled : (q X : ℕ) (x : Action) → Asked g t F q X x → (y : Action) × ActionAt g u q X y × (forget y ≡ x)
    filled q X x a =
        let p = asked_place g F F? first-codes F-in L codes_low a in
        let y = cell_filled g F F? first-codes F-in q (agree q) a in
        (y.0, is_action_lem g F F? first-codes F-in q X y.0 p.0 p.1 p.2 y.1, y.2)

    pub built_cells : (q : ℕ) → CellsMeet g u F q
    built_cells q = record {
      filled = λ X x a. filled q X x (built_asked g F F? first-codes F-in a);
      asked = λ X y m. asked_built g F F? first-codes F-in (cell_asked g F F? first-codes F-in q X y (action_is g F F? first-codes F-in q X y m).holds);
    }

    -- for every grammar whose nonterminals are all reached, with a first that is never empty
    pub meets_built : ((β : List ℕ) → AllDeclared g β → (d : ℕ) → (c : ℕ) × F β d c) → ((X : ℕ) → IsNonterminal g X → Reachable g X) → MeetsWith g u F
    meets_built F-some reach = record {
      form = built_form g F F? first-codes F-in L codes_low F-some reach;
      entries = entries_meet g u same;
      items = built_items;
      lookaheads = built_lookaheads;
      agree = built_agree;
      cells = built_cells;
    }
