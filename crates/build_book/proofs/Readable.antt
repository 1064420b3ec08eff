-- The lines of the book are as a table reader asks, line by line: their figures, their order and what they name.
use Prim.Native.Nat.{ℕ, suc, ◌+◌, ◌≤◌}
use native.Mathlib.Omega.{arith}
use mathlib.Core.Path.{◌≡◌, refl, sym, ap, subst, ◌∙◌}
use mathlib.Core.Logic.{◌⊎◌, inl, inr}
use mathlib.Core.List.{List, [], ◌∷◌}
use mathlib.Core.Option.{some}
use lib.ListN.{length}
use Rattle.language.specs.Grammar.{Grammar, Rule, rule_at, concat, IsTerminal, IsNonterminal}
use Rattle.language.specs.Sentence.{In, here, there}
use Rattle.language.proofs.GrammarLaws.{rule_range}
use Rattle.language.proofs.Strings.{AllDeclared}
use Rattle.language.specs.Rising.{RisingFrom}
use Rattle.leftcorner.specs.Table.{E, Action, S, N, A, P, Table, symbols_of, next_state}
use Rattle.leftcorner.specs.Construction.{EntryAt, KernelAt, ActionAt, MovedBy, moved, Asked, to_announce, to_pop, WellFormed}
use Rattle.leftcorner.proofs.ItemStrings.{wanted_declared}
use Rattle.table_order.specs.Order.{kernel_key, action_key}
use Rattle.table_order.proofs.OrderLaws.{RisingBy}
use Rattle.table_order.proofs.UseLaws.{EntriesFollow}
use Rattle.build_states.specs.Strings.{entry_strings, entry_lines}
use Rattle.build_states.proofs.Distinct.{in_at}
use Rattle.build_states.proofs.EntryLaws.{goal_at, some_entry, strings_distinct, entry_at_lem, entry_line, lines_length}
use Rattle.build_states.specs.States.{Kernel, item_of, dot_of, alone, states, kernel_of, total}
use Rattle.build_book.proofs.Over.{symbols_over}
use Rattle.build_states.proofs.Limits.{Limits, declared, bounded, wanted_short, wanted_filled}
use Rattle.build_states.proofs.MoveLaws.{move_only}
use Rattle.build_states.proofs.StateLaws.{more_states, entry_kernel, kernels_rising, Reached, entry_or}
use Rattle.build_book.specs.Built.{items, built}
use Rattle.build_book.proofs.LineLaws.{item_table, same_entries, codes_rising, code_only}
use Rattle.build_book.proofs.Carried.{looked, first_low, look_low}
use Rattle.build_book.proofs.Live.{in_one}
use Rattle.build_book.proofs.CellLaws.{cell_asked}
use Rattle.build_book.proofs.Once.{Once, SameEntry, entries_once, kernels_rise, kernels_count, actions_rise}
use Rattle.build_book.proofs.EntryOrder.{entries_follow}
use Rattle.build_book.proofs.BuiltForm.{full_table, built_entries, states_both, built_line, action_is}
use Rattle.build_book.proofs.MeetsBuilt.{entry_has, target}

-- "at least one symbol", at most 15, each declared
pub record EntryForm (g : Grammar) (t : Table) (s : ℕ) (γ : List ℕ) : Type 0 where
  pub state : (1 ≤ s) × (s ≤ t.states)
  pub some_symbol : 1 ≤ length γ
  pub short : length γ ≤ 15
  pub symbols : AllDeclared g γ

-- "Codes are the context, at least one, rising", each 0 or a terminal
pub record KernelForm (g : Grammar) (t : Table) (q i k : ℕ) (σ : List ℕ) : Type 0 where
  pub state : (1 ≤ q) × (q ≤ t.states)
  pub item : (1 ≤ i) × (i ≤ length g.rules + length t.entries)
  pub dot : k ≤ length (symbols_of g t i)
  pub small : k ≤ 15
  pub some_code : (d : ℕ) × In d σ
  pub rising : RisingFrom 0 σ
  pub codes_low : (d : ℕ) → In d σ → d ≤ g.terminals

-- what the last field of an action line names, and the kind of its symbol
abbrev pub Names : Grammar → Table → ℕ → Action → Type 0
Names g t X (S s) = IsTerminal g X × (1 ≤ s) × (s ≤ t.states)
Names g t X (N s) = IsNonterminal g X × (1 ≤ s) × (s ≤ t.states)
Names g t X (A i) = (X ≤ g.terminals) × (1 ≤ i) × (i ≤ length g.rules)
Names g t X (P n) = (X ≤ g.terminals) × (n ≤ 16)

pub record Readable (g : Grammar) (t : Table) : Type 0 where
  pub some_state : 1 ≤ t.states
  pub few_states : t.states ≤ 255
  pub some_entry : 1 ≤ length t.entries
  pub few_entries : length t.entries ≤ 127
  pub some_kernel : 1 ≤ length t.kernels
  pub few_kernels : length t.kernels ≤ 1023
  pub entries_once : Once SameEntry t.entries
  pub entries_follow : EntriesFollow g.rules t.entries
  pub kernels_rise : RisingBy kernel_key t.kernels
  pub actions_rise : RisingBy action_key t.actions
  pub entry : (s : ℕ) (γ : List ℕ) → In (E s γ) t.entries → EntryForm g t s γ
  pub kernel : (q i k : ℕ) (σ : List ℕ) → KernelAt g t q i k σ → KernelForm g t q i k σ
  pub action : (q X : ℕ) (x : Action) → ActionAt g t q X x → (1 ≤ q) × (q ≤ t.states) × Names g t X x

pub has_line : {A : Type 0} {x : A} {l : List A} → In x l → 1 ≤ length l
has_line here = omega arith
has_line (there m) = omega arith

module _ (g : Grammar) (F : List ℕ → ℕ → ℕ → Type 0) (F? : (β : List ℕ) (d c : ℕ) → Dec (F β d c)) (first-codes : List ℕ)
    (F-in : (β : List ℕ) (d c : ℕ) → F β d c → (c ≡ d) ⊎ In c first-codes) (L : Limits g) (codes_low : (c : ℕ) → In c first-codes → c ≤ g.terminals)
    (R : WellFormed g (full_table g F F? first-codes F-in)) where
  abbrev t : Table
  t = item_table g F F? first-codes F-in

  abbrev u : Table
  u = full_table g F F? first-codes F-in

  same : u.entries ≡ entry_lines 1 (entry_strings g)
  same = built_entries g F F? first-codes F-in

  entries_many : length u.entries ≡ length (entry_strings g)
  entries_many = ap length same ∙ lines_length 1 (entry_strings g)

  states_many : u.states ≡ length (states g)
  states_many = states_both g F F? first-codes F-in

  -- ---- entry lines

  entry_form : (s : ℕ) (γ : List ℕ) → In (E s γ) u.entries → EntryForm g u s γ
  entry_form s γ m =
      let a = in_at m in
      let w = entry_line g u same (suc a.0) a.1 in
      record {
        state = R.entry_state (suc a.0) s γ a.1;
        some_symbol = wanted_filled g L.formed u same w.3;
        short = wanted_short g L.formed u same w.3;
        symbols = wanted_declared g u (declared g L.formed) γ w.3;
      }

  -- ---- kernel lines

  -- the dot of a kernel item is not past its end
  dot_within : (q x : ℕ) → 1 ≤ q → q ≤ length (states g) → In x (kernel_of g q) → dot_of x ≤ length (symbols_of g u (item_of x))
  dot_within q x l h m = go (entry_or g q h)
    where
      of_moved : (k : Kernel) {X i n : ℕ} → MovedBy g (alone g k) 1 X i n → n ≤ length (symbols_of g u i)
      of_moved k {i = i} (moved h go) =
          let w = bounded g L.formed (alone g k) refl go in
          let s = ap length (symbols_over g (alone g k) u (sym same) i) in
          omega (arith, w.within, s)

      go : (q ≤ length (entry_strings g)) ⊎ Reached g q → dot_of x ≤ length (symbols_of g u (item_of x))
      go (inl e) =
          let z = in_one (subst (λ (k : Kernel). In x k) (entry_kernel g q l e) m) in
          omega (arith, z)
      go (inr c) = of_moved (kernel_of g c.from) (move_only g (kernel_of g c.from) c.symbol x (subst (λ (k : Kernel). In x k) c.kernel m))

  item_range : (i : ℕ) → ((r : Rule) × (rule_at g i ≡ some r)) ⊎ ((j : ℕ) × (s : ℕ) × (γ : List ℕ) × (i ≡ length g.rules + j) × EntryAt g u j s γ)
      → (1 ≤ i) × (i ≤ length g.rules + length u.entries)
  item_range i (inl h) = let n = rule_range g i h.1 in (n.0, omega (arith, n.1))
  item_range i (inr h) = let n = entry_line g u same h.0 h.4 in (omega (arith, h.3, n.1), omega (arith, h.3, n.2, entries_many))

  kernel_form : (q i k : ℕ) (σ : List ℕ) → KernelAt g u q i k σ → KernelForm g u q i k σ
  kernel_form q i k σ m =
      let w = built_line g F F? first-codes F-in q i k σ m in
      let d = dot_within q w.number w.low w.high w.stands in
      record {
        state = R.kernel_state q i k σ m;
        item = item_range i (R.item_declared q i k σ m);
        dot = subst (λ (z : ℕ). k ≤ length (symbols_of g u z)) (sym w.item) (omega (arith, d, w.dot));
        small = omega (arith, w.dot);
        some_code = R.some_code q i k σ m;
        rising = subst (RisingFrom 0) (sym w.codes_are) (codes_rising g F F? first-codes F-in q w.number);
        codes_low = λ c n. (code_only g F F? first-codes F-in q w.number c (subst (λ (z : List ℕ). In c z) w.codes_are n)).1;
      }

  -- ---- action lines

  next_state_lem : (q X s : ℕ) (x : Action) → ActionAt g u q X x → next_state x ≡ some s → (1 ≤ s) × (s ≤ u.states)
  next_state_lem q X s x a e =
      let y = target g F F? first-codes F-in L codes_low q X s x a e in
      (omega (arith, y.next_is, y.goes.low), omega (arith, y.next_is, y.goes.high, states_many))

  announced : (X i : ℕ) {q : ℕ} → Asked g t F q X (A i) → Names g u X (A i)
  announced X i (to_announce _ {r = r} e h f) =
      let n = rule_range g i e in
      (first_low g F F? first-codes F-in L codes_low (concat r.groups) (look_low g F F? first-codes F-in L codes_low (looked g F F? first-codes F-in h)) f, n.0, n.1)

  popped : (X n : ℕ) {q : ℕ} → Asked g t F q X (P n) → Names g u X (P n)
  popped X n (to_pop k {γ = γ} e h) =
      let w = entry_line g t (same_entries g F F? first-codes F-in) k e in
      let s = wanted_short g L.formed t (same_entries g F F? first-codes F-in) w.3 in
      (look_low g F F? first-codes F-in L codes_low (looked g F F? first-codes F-in h), omega (arith, s))

  names : (q X : ℕ) (x : Action) → ActionAt g u q X x → Names g u X x
  names q X (S s) a = let n = next_state_lem q X s (S s) a refl in (R.shift_kind q X s a, n.0, n.1)
  names q X (N s) a = let n = next_state_lem q X s (N s) a refl in (R.goto_kind q X s a, n.0, n.1)
  names q X (A i) a = announced X i (cell_asked g F F? first-codes F-in q X (A i) (action_is g F F? first-codes F-in q X (A i) a).holds)
  names q X (P n) a = popped X n (cell_asked g F F? first-codes F-in q X (P n) (action_is g F F? first-codes F-in q X (P n) a).holds)

  -- ---- all lines

  lines_rise : RisingBy kernel_key u.kernels
  unfolding built items
  lines_rise = kernels_rise g F F? first-codes F-in 1 (states g) (λ j l. kernels_rising g (suc j) (omega arith) l)

  lines_many : length u.kernels ≡ total (states g)
  unfolding built items
  lines_many = kernels_count g F F? first-codes F-in 1 (states g)

  cells_rise : RisingBy action_key u.actions
  unfolding built
  cells_rise = actions_rise g F F? first-codes F-in 1 (length (states g))

  goal_line : 1 ≤ length u.kernels
  goal_line = let k = entry_has g F F? first-codes F-in L codes_low 1 1 (g.goal ∷ []) (entry_at_lem g u same 0 (goal_at g)) in has_line k.1

  pub readable : Readable g u
  readable = record {
    some_state = omega (arith, states_many, some_entry g, more_states g);
    few_states = omega (arith, states_many, L.few_states);
    some_entry = omega (arith, entries_many, some_entry g);
    few_entries = omega (arith, entries_many, L.few_entries);
    some_kernel = goal_line;
    few_kernels = omega (arith, lines_many, L.few_lines);
    entries_once = subst (Once SameEntry) (sym same) (entries_once 1 (entry_strings g) (strings_distinct g));
    entries_follow = subst (EntriesFollow g.rules) (sym same) (entries_follow g);
    kernels_rise = lines_rise;
    actions_rise = cells_rise;
    entry = entry_form;
    kernel = kernel_form;
    action = λ q X x a. let s = R.action_state q X x a in (s.0, s.1, names q X x a);
  }
