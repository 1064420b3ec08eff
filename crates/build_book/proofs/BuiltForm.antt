-- The book as a table: its lines are well formed, and it has the entries of the construction.
use Prim.Native.Nat.{ℕ, zero, suc, ◌≤◌, ◌<◌}
use native.Mathlib.Omega.{arith}
use mathlib.Core.Path.{◌≡◌, refl, sym, ap, subst}
use mathlib.Core.Logic.{◌⊎◌, inl, inr}
use mathlib.Core.Bool.{Bool, true, false, cond}
use mathlib.Core.List.{List}
use mathlib.Core.Option.{some}
use borrow.Author.Tests.{ltb-true, ltb-false}
use lib.Dec.{ltb}
use lib.ListN.{length}
use Rattle.language.specs.Grammar.{Grammar, Rule, rule_at, concat, IsTerminal, IsNonterminal}
use Rattle.language.specs.Sentence.{In, Reachable}
use Rattle.language.proofs.Strings.{AllDeclared}
use Rattle.language.proofs.GrammarLaws.{at_below}
use Rattle.leftcorner.specs.Table.{Action, S, N, Table}
use Rattle.leftcorner.specs.Construction.{entry_item, EntryAt, KernelAt, ActionAt, MovedBy, moved, WellFormed, Asked, to_move, to_announce, to_pop}
use Rattle.leftcorner.proofs.Closure.{has_of}
use Rattle.leftcorner.proofs.ReadOff.{clash}
use Rattle.build_states.specs.Strings.{entry_strings, entry_lines}
use Rattle.build_states.proofs.EntryLaws.{entry_at_lem, entry_line, one_entry}
use Rattle.build_states.specs.States.{Kernel, item_of, range, alone, states, kernel_of, goto}
use Rattle.build_states.proofs.Lists.{in_range, range_in}
use Rattle.build_book.proofs.Over.{symbols_over, asked_over}
use Rattle.build_states.proofs.Limits.{Limits, bounded, code_low, symbols_item}
use Rattle.build_states.proofs.MoveLaws.{move_only}
use Rattle.build_states.proofs.StateLaws.{more_states, entry_kernel, Reached, entry_or}
use Rattle.build_book.specs.Built.{items, built}
use Rattle.build_book.proofs.LineLaws.{item_table, same_entries, code_every, Line, line_of, has_state}
use Rattle.build_book.proofs.Carried.{looked, first_low, look_low}
use Rattle.build_book.proofs.Live.{in_one, every_live}
use Rattle.build_book.proofs.CellLaws.{cell, cell_moves, of_in, in_of}

-- a table that has the entries of g
module _ (g : Grammar) (L : Limits g) (t : Table) (same : t.entries ≡ entry_lines 1 (entry_strings g)) where
  -- entry q's line
  pub entry_of_lem : (q : ℕ) → 1 ≤ q → q ≤ length (entry_strings g) → (γ : List ℕ) × EntryAt g t q q γ
  entry_of_lem zero l h = absurd (omega (arith, l))
  entry_of_lem (suc j) l h = let a = at_below (entry_strings g) j h in (a.0, entry_at_lem g t same j a.1)

  -- item i is a rule, or an entry's
  abbrev pub Known : ℕ → Type 0
  Known i = ((r : Rule) × (rule_at g i ≡ some r)) ⊎ ((j : ℕ) × (s : ℕ) × (γ : List ℕ) × (i ≡ entry_item g t j) × EntryAt g t j s γ)

  moved_known : (k : Kernel) {X i n : ℕ} → MovedBy g (alone g k) 1 X i n → Known i
  moved_known k {i = i} (moved h go) =
      let w = (bounded g L.formed (alone g k) refl go).within in
      let s = ap length (symbols_over g (alone g k) t (sym same) i) in
      symbols_item g L.formed t same i (omega (arith, w, s))

  -- every kernel item is one
  pub kernel_known : (q x : ℕ) → 1 ≤ q → q ≤ length (states g) → In x (kernel_of g q) → Known (item_of x)
  kernel_known q x l h m = go (entry_or g q h)
    where
      go : (q ≤ length (entry_strings g)) ⊎ Reached g q → Known (item_of x)
      go (inl e) =
          let k = in_one (subst (λ (z : Kernel). In x z) (entry_kernel g q l e) m) in
          let w = entry_of_lem q l e in
          inr (q, q, w.0, omega (arith, k), w.1)
      go (inr r) = moved_known (kernel_of g r.from) (move_only g (kernel_of g r.from) r.symbol x (subst (λ (z : Kernel). In x z) r.kernel m))

module _ (g : Grammar) (F : List ℕ → ℕ → ℕ → Type 0) (F? : (β : List ℕ) (d c : ℕ) → Dec (F β d c)) (first-codes : List ℕ)
    (F-in : (β : List ℕ) (d c : ℕ) → F β d c → (c ≡ d) ⊎ In c first-codes) where
  abbrev t : Table
  t = item_table g F F? first-codes F-in

  abbrev pub full_table : Table
  full_table = built g F F? first-codes F-in

  -- ---- it is `items`, with action lines

  pub built_entries : full_table.entries ≡ entry_lines 1 (entry_strings g)
  unfolding built items
  built_entries = refl

  pub entries_both : t.entries ≡ full_table.entries
  unfolding built
  entries_both = refl

  pub to_built : (q i k : ℕ) (σ : List ℕ) → KernelAt g t q i k σ → KernelAt g full_table q i k σ
  unfolding built
  to_built q i k σ m = m

  pub from_built : (q i k : ℕ) (σ : List ℕ) → KernelAt g full_table q i k σ → KernelAt g t q i k σ
  unfolding built
  from_built q i k σ m = m

  pub states_both : full_table.states ≡ length (states g)
  unfolding built items
  states_both = refl

  pub asked_built : {q X : ℕ} {x : Action} → Asked g t F q X x → Asked g full_table F q X x
  asked_built a = asked_over g t full_table entries_both F to_built a

  pub built_asked : {q X : ℕ} {x : Action} → Asked g full_table F q X x → Asked g t F q X x
  built_asked a = asked_over g full_table t (sym entries_both) F from_built a

  pub built_line : (q i n : ℕ) (σ : List ℕ) → KernelAt g full_table q i n σ → Line g F F? first-codes F-in q i n σ
  built_line q i n σ m = line_of g F F? first-codes F-in q i n σ (from_built q i n σ m)

  -- an action line of the book is what its cell holds
  pub record Action-is (q X : ℕ) (x : Action) : Type 0 where
    pub low : 1 ≤ q
    pub high : q ≤ length (states g)
    pub holds : cell g F F? first-codes F-in q X ≡ some x

  pub action_is : (q X : ℕ) (x : Action) → ActionAt g full_table q X x → Action-is q X x
  unfolding built
  action_is q X x m =
      let r = of_in g F F? first-codes F-in (range 1 (length (states g))) q X x m in
      let z = range_in 1 (length (states g)) q r.0 in
      record { low = z.0; high = omega (arith, z.1); holds = r.2 }

  pub is_action_lem : (q X : ℕ) (x : Action) → 1 ≤ q → q ≤ length (states g) → X < 128 → cell g F F? first-codes F-in q X ≡ some x → ActionAt g full_table q X x
  unfolding built
  is_action_lem q X x l h n e = in_of g F F? first-codes F-in q X (range 1 (length (states g))) x (in_range 1 (length (states g)) q l (omega (arith, h)))
      (in_range 0 128 X (omega arith) (omega (arith, n))) e

  module _ (L : Limits g) (codes_low : (c : ℕ) → In c first-codes → c ≤ g.terminals) where
    -- ---- what is asked is asked of a state, on a symbol

    moved_kind : {q X i n : ℕ} → MovedBy g t q X i n → IsTerminal g X ⊎ IsNonterminal g X
    moved_kind (moved h go) = (bounded g L.formed t (same_entries g F F? first-codes F-in) go).kind

    moved_state : {q X i n : ℕ} → MovedBy g t q X i n → (1 ≤ q) × (q ≤ length (states g))
    moved_state (moved h go) = has_state g F F? first-codes F-in h

    pub asked_place : {q X : ℕ} {x : Action} → Asked g t F q X x → (1 ≤ q) × (q ≤ length (states g)) × (X < 128)
    asked_place (to_move m) =
        let s = moved_state m in
        (s.0, s.1, (code_low g L.formed t (same_entries g F F? first-codes F-in) (moved_kind m)).1)
    asked_place (to_announce i {r = r} e h f) =
        let s = has_state g F F? first-codes F-in (has_of g t h) in
        let n = first_low g F F? first-codes F-in L codes_low (concat r.groups) (look_low g F F? first-codes F-in L codes_low (looked g F F? first-codes F-in h)) f in
        (s.0, s.1, omega (arith, n, L.formed.few_terminals))
    asked_place (to_pop k e h) =
        let s = has_state g F F? first-codes F-in (has_of g t h) in
        let n = look_low g F F? first-codes F-in L codes_low (looked g F F? first-codes F-in h) in
        (s.0, s.1, omega (arith, n, L.formed.few_terminals))

    pub asked_moved : {q X : ℕ} → Asked g t F q X (S 0) → (i : ℕ) × (n : ℕ) × MovedBy g t q X i n
    asked_moved (to_move {i = i} {n = n} m) = (i, n, m)

    asked_kind : {q X : ℕ} → Asked g t F q X (S 0) → IsTerminal g X ⊎ IsNonterminal g X
    asked_kind a = moved_kind (asked_moved a).2

    -- ---- the form

    kind_shift : (X s q : ℕ) → cond (ltb X 64) (S (goto g q X)) (N (goto g q X)) ≡ S s → IsTerminal g X ⊎ IsNonterminal g X → IsTerminal g X
    kind_shift X s q = go (ltb X 64) refl
      where
        go : (c : Bool) → ltb X 64 ≡ c → cond c (S (goto g q X)) (N (goto g q X)) ≡ S s → IsTerminal g X ⊎ IsNonterminal g X → IsTerminal g X
        go true h e (inl k) = k
        go true h e (inr k) = absurd (omega (arith, ltb-true X 64 h, k.0))
        go false h e k = clash cc

    kind_goto : (X s q : ℕ) → cond (ltb X 64) (S (goto g q X)) (N (goto g q X)) ≡ N s → IsTerminal g X ⊎ IsNonterminal g X → IsNonterminal g X
    kind_goto X s q = go (ltb X 64) refl
      where
        go : (c : Bool) → ltb X 64 ≡ c → cond c (S (goto g q X)) (N (goto g q X)) ≡ N s → IsTerminal g X ⊎ IsNonterminal g X → IsNonterminal g X
        go true h e k = clash cc
        go false h e (inl k) = absurd (omega (arith, ltb-false X 64 h, k.1, L.formed.few_terminals))
        go false h e (inr k) = k

    module _ (F-some : (β : List ℕ) → AllDeclared g β → (d : ℕ) → (c : ℕ) × F β d c) (reach : (X : ℕ) → IsNonterminal g X → Reachable g X) where
      some_code : (q i k : ℕ) (σ : List ℕ) → KernelAt g full_table q i k σ → (d : ℕ) × In d σ
      some_code q i k σ m =
          let l = built_line q i k σ m in
          let c = every_live g F L.formed F-some reach L q l.number l.low l.high l.stands in (
            c.0,
            subst (λ (z : List ℕ). In c.0 z) (sym l.codes_are)
                (code_every g F F? first-codes F-in q l.number c.0 (look_low g F F? first-codes F-in L codes_low c.1) c.1),
          )

      pub built_form : WellFormed g full_table
      built_form = record {
        one_entry = one_entry g full_table built_entries;
        one_action = λ q X x y a c. let u = (action_is q X x a).holds in let v = (action_is q X y c).holds in let w : x ≡ y = cc in w;
        some_code = some_code;
        item_declared = λ q i k σ m. let l = built_line q i k σ m in subst (Known g L full_table built_entries) (sym l.item) (kernel_known g L full_table built_entries q l.number l.low l.high l.stands);
        kernel_state = λ q i k σ m. let l = built_line q i k σ m in (l.low, omega (arith, l.high, states_both));
        entry_state = λ k s γ e. let l = entry_line g full_table built_entries k e in (omega (arith, l.0, l.1), omega (arith, l.0, l.2, more_states g, states_both));
        action_state = λ q X x a. let w = action_is q X x a in (w.low, omega (arith, w.high, states_both));
        shift_kind = λ q a s m. let w = cell_moves g F F? first-codes F-in q a s (S s) (action_is q a (S s) m).holds refl in kind_shift a s q w.is (asked_kind w.asked);
        goto_kind = λ q X s m. let w = cell_moves g F F? first-codes F-in q X s (N s) (action_is q X (N s) m).holds refl in kind_goto X s q w.is (asked_kind w.asked);
      }
