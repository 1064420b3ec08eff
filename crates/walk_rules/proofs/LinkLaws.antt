-- Rows that were written from a table in memory are linked.
use Prim.Native.Nat.{ℕ, zero, suc, ◌+◌, ◌*◌, ◌-◌, ◌%◌, ◌≤◌, ◌<◌}
use mathlib.Core.Path.{◌≡◌, refl, sym, ap, ap₂, ◌∙◌}
use mathlib.Core.Bool.{Bool, true, false}
use mathlib.Core.List.{List, [], ◌∷◌, map}
use mathlib.Core.Option.{Option, some, none}
use native.Mathlib.Omega.{arith}
use lib.Dec.{leb}
use lib.ListN.{length, get_or, length-map, length-append, get_or-map, get_or-eq_default}
use borrow.Author.Tests.{leb-true, leb-false}
use Rattle.language.specs.Grammar.{Grammar, Rule, rule_at, at, concat}
use Rattle.language.proofs.GrammarLaws.{not_there, rule_range, range_rule, in_string}
use Rattle.language.specs.Listing.{unit_of, is_unit}
use Rattle.language.specs.Sentence.{In, here, there}
use Rattle.leftcorner.specs.Table.{Table, state_of, entry_from, groups_of, group_entries, automaton}
use Rattle.leftcorner.specs.Construction.{EntryAt, of_group, EntriesMeet}
use Rattle.leftcorner.proofs.ReadOff.{found_entry}
use Rattle.memory.specs.Memory.{HoldsEntries}
use Rattle.memory.proofs.RangeLaws.{entry_range}
use Rattle.check_entries.specs.Uses.{HoldsStrings, HoldsUses, entries_of}
use Rattle.walk_tables.specs.Memory.{figure_of, rules_from, memory_grammar, entry_state}
use Rattle.walk_tables.specs.Memory as memory
use Rattle.walk_tables.proofs.MemoryLaws.{unit_is}
use Rattle.walk_rules.specs.Linked.{Linked}
use Rattle.walk_rules.specs.Rows.{GroupCount, RowLinked, RulesLinked}

-- the entry states of a row, turned round
row_states : (rows : List ℕ) (start i : ℕ) (l : List ℕ) → ((j : ℕ) → j < length l → figure_of rows i (3 + length l - j) ≡ get_or l j 0)
    → map (entry_state start) (memory.group_entries rows i (length l)) ≡ l
row_states rows start i [] f = refl
row_states rows start i (s ∷ l) f =
    ap₂ (λ (x : ℕ) (m : List ℕ). x ∷ m)
    (ap (figure_of rows i) (let e : 4 + length l ≡ 3 + suc (length l) - 0 = omega arith in e) ∙ f 0 (omega arith))
    (row_states rows start i l (λ j h. ap (figure_of rows i) (let e : 3 + length l - j ≡ 3 + suc (length l) - suc j = omega arith in e) ∙ f (suc j) (omega arith)))

-- no memory has more than 255 rules
no_rule : (rows : List ℕ) (n i j : ℕ) → n ≤ j → at (rules_from rows n i) j ≡ none
unfolding rules_from
no_rule rows zero i j h = refl
no_rule rows (suc n) i zero h = absurd (omega arith)
no_rule rows (suc n) i (suc j) h = no_rule rows n (suc i) j (omega arith)

no_memory_rule : (rows : List ℕ) (i : ℕ) → 256 ≤ i → rule_at (memory_grammar rows) i ≡ none
unfolding memory_grammar
no_memory_rule rows zero h = refl
no_memory_rule rows (suc i) h = no_rule rows 255 1 i (omega arith)

-- the symbols of filled groups are no fewer than the groups
few_groups : (γs : List (List ℕ)) → ((γ : List ℕ) → In γ γs → γ ≡ [] → ⊥) → length γs ≤ length (concat γs)
few_groups [] f = omega arith
few_groups ([] ∷ γs) f = absurd (f [] here refl)
few_groups ((X ∷ γ) ∷ γs) f = omega (arith, length-append γ (concat γs), few_groups γs (λ δ m. f δ (there m)))

-- the entries that a rule uses are as many as were counted
counted : (uses : List ℕ) (i n : ℕ) (l : List ℕ) → GroupCount uses i n → length l ≤ 15 → ((j : ℕ) → j < 16 → get_or uses (i * 16 + j) 0 ≡ get_or l j 0)
    → ((j : ℕ) → j < length l → 1 ≤ get_or l j 0) → n ≡ length l
counted uses i n l C few same some_entry = go (leb n (length l)) (leb (length l) n) refl refl
  where
    go : (b d : Bool) → leb n (length l) ≡ b → leb (length l) n ≡ d → n ≡ length l
    go true true p q = omega (arith, leb-true n (length l) p, leb-true (length l) n q)
    go false d p q =
        let h = leb-false n (length l) p in
        absurd (C.used (length l) h (same (length l) (omega (arith, h, C.few)) ∙ get_or-eq_default l 0 {n = length l} (omega arith)))
    go true false p q =
        let h = leb-false (length l) n q in
        absurd (omega (arith, some_entry n h, same n (omega (arith, h, few)), C.behind (omega (arith, h, few))))

module _ (g : Grammar) (t : Table) {items entries uses rows : List ℕ} {rules strings : ℕ} (S : HoldsStrings g t items rules strings) (H : HoldsEntries entries t)
    (U : HoldsUses uses g t) (M : EntriesMeet g t) (R : RulesLinked items entries uses (rules + 1) rows) where
  module _ (i : ℕ) {r : Rule} (is_rule : rule_at g i ≡ some r) where
    abbrev es : List ℕ
    es = entries_of t r

    row : RowLinked items entries uses i rows
    row = R.row i (rule_range g i is_rule).0 (omega (arith, (rule_range g i is_rule).1, S.rule_count))

    entry_of_lem : (j : ℕ) → j < length es → (s : ℕ) × (γ : List ℕ) × EntryAt g t (get_or es j 0) s γ
    entry_of_lem j l =
        let x = found_entry g t S.fits.form r.groups (λ γ m. M.all_wanted γ (of_group i is_rule m)) (get_or es j 0) (in_string es j l) in
        (x.0, _, x.1)

    some_entry : (j : ℕ) → j < length es → 1 ≤ get_or es j 0
    some_entry j l = let x = entry_of_lem j l in (entry_range t refl (get_or es j 0) x.2).0

    few : length es ≤ 15
    few =
        let f = S.formed.formed i is_rule in
        omega (arith, length-map r.groups (entry_from 1 t.entries), few_groups r.groups f.filled, f.short, length-append r.before (concat r.groups))

    groups_is : figure_of rows i 3 ≡ length es
    groups_is = counted uses i (figure_of rows i 3) es row.groups few (U.row i r is_rule) some_entry

    state_is : (j : ℕ) → j < length es → figure_of rows i (3 + length es - j) ≡ (automaton g t).enter (get_or es j 0)
    state_is j l =
        let x = entry_of_lem j l in
        ap (λ (n : ℕ). figure_of rows i (3 + n - j)) (sym groups_is)
        ∙ row.state j (omega (arith, l, groups_is))
        ∙ ap (λ (k : ℕ). get_or entries k 0) (U.row i r is_rule j (omega (arith, l, few)))
        ∙ H.state_is (get_or es j 0) x.0 x.2
        ∙ sym (ap state_of x.2)

    pub pushes : (start : ℕ) → map (entry_state start) (memory.group_entries rows i (figure_of rows i 3)) ≡ map (automaton g t).enter (group_entries g t i)
    pushes start =
        let l = map (automaton g t).enter es in
        let n : length l ≡ length es = length-map es (automaton g t).enter in
        ap (λ (k : ℕ). map (entry_state start) (memory.group_entries rows i k)) (groups_is ∙ sym n)
        ∙ row_states rows start i l
        (λ j h. ap (λ (k : ℕ). figure_of rows i (3 + k - j)) n ∙ state_is j (omega (arith, h, n)) ∙ sym (get_or-map (automaton g t).enter es j 0))
        ∙ ap (λ (o : Option Rule). map (automaton g t).enter (map (entry_from 1 t.entries) (groups_of o))) (sym is_rule)

  unit_figure : (b : Bool) → unit_of b % 2 ≡ unit_of b
  unit_figure true = refl
  unit_figure false = refl

  above_rules : (i : ℕ) → 1 ≤ i → rule_at g i ≡ none → rules + 1 ≤ i
  above_rules i Some-number e = go (leb i rules) refl
    where
      go : (b : Bool) → leb i rules ≡ b → rules + 1 ≤ i
      go true p = let h = range_rule g i Some-number (omega (arith, leb-true i rules p, S.rule_count)) in not_there (sym e ∙ h.1)
      go false p = omega (arith, leb-false i rules p)

  -- above the rules there are zeros
  no_unit : (i : ℕ) → i < 256 → rule_at g i ≡ none → is_unit (rule_at (memory_grammar rows) i) ≡ 0
  unfolding figure_of
  no_unit zero l e = refl
  no_unit (suc i) l e = unit_is rows (suc i) (omega arith) l ∙ ap (λ (x : ℕ). x % 2) (R.rest (suc i * 32 + 2) (omega (arith, above_rules (suc i) (omega arith) e)))

  units_is : (i : ℕ) → is_unit (rule_at (memory_grammar rows) i) ≡ is_unit (rule_at g i)
  units_is i = go (rule_at g i) refl (leb 256 i) refl
    where
      go : (o : Option Rule) → rule_at g i ≡ o → (b : Bool) → leb 256 i ≡ b → is_unit (rule_at (memory_grammar rows) i) ≡ is_unit (rule_at g i)
      go (some r) e b p =
          let d = rule_range g i e in
          unit_is rows i d.0 (omega (arith, d.1, S.formed.few_rules))
          ∙ ap (λ (x : ℕ). x % 2) ((row i e).unit ∙ (S.holds_items.rule_row i e).unit_is)
          ∙ unit_figure r.unit
          ∙ sym (ap is_unit e)
      go none e true p = ap is_unit (no_memory_rule rows i (leb-true 256 i p)) ∙ sym (ap is_unit e)
      go none e false p = no_unit i (leb-false 256 i p) e ∙ sym (ap is_unit e)

  pub linked : (start : ℕ) → Linked rows start g t
  linked start = record {
    pops_is = λ i e. (row i e).pops ∙ (S.holds_items.rule_row i e).mark_is;
    left_is = λ i {r} e.
        let l = (S.formed.formed i e).left_declared in
        omega (arith, (row i e).left, (S.holds_items.rule_row i e).left_is, l.0, l.1, S.formed.few_nonterminals);
    pushes = λ i e. pushes i e start;
    units_is = units_is;
  }
