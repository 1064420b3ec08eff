-- Memory once the states are known, as each later stage asks for it.
use Prim.Native.Nat.{ℕ, zero, suc, ◌+◌, ◌*◌, ◌-◌, ◌≤◌, ◌<◌}
use native.Mathlib.Decide.{dec_le}
use native.Mathlib.Omega.{arith}
use mathlib.Core.Path.{◌≡◌, refl, sym, ap, subst, ◌∙◌}
use mathlib.Core.Bool.{Bool, true, false}
use mathlib.Core.List.{List, []}
use lib.ListN.{length, get_or}
use Rattle.language.specs.Grammar.{Grammar}
use Rattle.language.specs.Sentence.{In}
use Rattle.language.proofs.GrammarLaws.{in_string, in_index}
use Rattle.leftcorner.specs.Table.{Table}
use Rattle.leftcorner.specs.Construction.{EntriesMeet}
use Rattle.items.specs.Layout.{Holds}
use Rattle.fixpoint.specs.Flags.{Decides}
use Rattle.memory.specs.Memory.{HoldsEntries, state_at, item_at, dot_at}
use Rattle.closure.specs.InMemory.{LineIs}
use Rattle.moves.specs.Moves.{next_at}
use Rattle.moves.proofs.MoveLaws.{next_goto, next_shift}
use Rattle.check_entries.specs.Uses.{HoldsStrings, HoldsUses}
use Rattle.build_states.specs.Strings.{entry_strings, entry_lines}
use Rattle.build_states.proofs.EntryLaws.{some_entry, entry_line, entries_meet, lines_length}
use Rattle.build_states.specs.States.{item_of, dot_of, move, states, kernel_of, goto}
use Rattle.build_states.proofs.Lists.{range_in}
use Rattle.build_states.proofs.Limits.{Limits}
use Rattle.build_states.proofs.MoveLaws.{move_only, moved_symbol}
use Rattle.build_states.proofs.StateLaws.{goes_to_lem}
use Rattle.build_book.proofs.BookLaws.{Within}
use Rattle.build_kernel_sets.specs.Cells.{shift_kind}
use Rattle.build_kernels.specs.Discovered.{first_line, next_state, next_some, HoldsStates, SafeStates}
use Rattle.build_lookaheads.specs.StatesHeld.{entry_table, LineOf, StatesHeld}
use Rattle.build_lookaheads.proofs.TableLaws.{entries_fit}
use Rattle.build_moves.specs.Held.{HoldsGrammar, holds_grammar}
use Rattle.build_memory.specs.Stages.{Entered, Stated, Numbered}
use Rattle.build_memory.proofs.PlaceLaws.{Place, place_of, place_low}

pub kind_one : (v : ℕ) → 1 ≤ v → shift_kind v ≡ 1
kind_one zero l = absurd (omega (arith, l))
kind_one (suc v) l = refl

-- ---- figures

module _ {g : Grammar} {items : List ℕ} {terminals goal rules strings : ℕ} (E : Entered g items terminals goal rules strings) where
  pub few_rules : rules ≤ 127
  few_rules = let z = E.rule_count in let y = E.formed.few_rules in omega (arith, z, y)

  pub few_strings : strings ≤ 127
  few_strings = let z = E.entry_count in let y = E.few_entries in omega (arith, z, y)

  pub some_strings : 1 ≤ strings
  some_strings = let z = E.entry_count in let y = some_entry g in omega (arith, z, y)

  pub few_terminals : terminals ≤ 63
  few_terminals = let z = E.terminal_count in let y = E.formed.few_terminals in omega (arith, z, y)

  -- ---- what the search for states asks
  pub grammar_of : HoldsGrammar items rules strings g
  grammar_of = holds_grammar (entry_table g) E.formed refl (E.holds_items (entry_table g) refl) E.rule_count E.entry_count

  pub stated_of : {kernels starts kinds values gotos : List ℕ} {all lines : ℕ} → SafeStates kernels starts (rules + strings) all lines → HoldsStates g kernels starts kinds values gotos all lines
      → Stated g items kernels kinds values gotos terminals goal rules strings all lines
  stated_of {starts = starts} s h = record { entered = E; starts = starts; safe = s; found = h }

module _ {g : Grammar} {items kernels kinds values gotos : List ℕ} {terminals goal rules strings all lines : ℕ}
    (S : Stated g items kernels kinds values gotos terminals goal rules strings all lines) where
  pub limits_of : Limits g
  limits_of = record { formed = S.entered.formed; few_entries = S.entered.few_entries; few_states = S.found.fits.states; few_lines = S.found.fits.lines }

  pub within_of : Within g
  within_of = record { few_entries = S.entered.few_entries; few_states = S.found.fits.states; few_lines = S.found.fits.lines }

  pub few_flags : {n : ℕ} → n ≡ 65536 → lines * 64 ≤ n
  few_flags e = let z = S.safe.some_lines.few in omega (arith, e, z)

  -- ---- kernel lines

  pub place : (l : ℕ) → l < lines → Place (states g) l
  place l h = place_of (states g) l (let z = S.found.line_count in omega (arith, h, z))

  abbrev pub number_at : {l : ℕ} → Place (states g) l → ℕ
  number_at p = get_or (get_or (states g) p.state []) p.index 0

  pub state_at_lem : {l : ℕ} (p : Place (states g) l) → state_at kernels l ≡ suc p.state
  state_at_lem p = ap (state_at kernels) p.is ∙ S.found.holds_sets.line_state p.state p.index p.state_low p.index_low

  pub item_at_lem : {l : ℕ} (p : Place (states g) l) → item_at kernels l ≡ item_of (number_at p)
  item_at_lem p = ap (item_at kernels) p.is ∙ S.found.holds_sets.line_item p.state p.index p.state_low p.index_low

  pub dot_at_lem : {l : ℕ} (p : Place (states g) l) → dot_at kernels l ≡ dot_of (number_at p)
  dot_at_lem p = ap (dot_at kernels) p.is ∙ S.found.holds_sets.line_dot p.state p.index p.state_low p.index_low

  stands : {l : ℕ} (p : Place (states g) l) → In (number_at p) (kernel_of g (suc p.state))
  stands p = in_string (get_or (states g) p.state []) p.index p.index_low

  line_of : (l : ℕ) → l < lines → LineOf g kernels l
  line_of l h =
      let p = place l h in
      let z = state_at_lem p in
      record {
        number = number_at p;
        stands = subst (λ (q : ℕ). In (number_at p) (kernel_of g q)) (sym z) (stands p);
        item = item_at_lem p;
        dot = dot_at_lem p;
        low = omega (arith, z);
        high = let y = p.state_low in omega (arith, z, y);
      }

  of_line : (q x : ℕ) → 1 ≤ q → q ≤ length (states g) → In x (kernel_of g q) → (l : ℕ) × LineIs kernels lines q (item_of x) (dot_of x) l
  of_line zero x a b m = absurd (omega (arith, a))
  of_line (suc p) x a b m =
      let w = in_index m in
      let H = S.found.holds_sets in (
        first_line (states g) p + w.0,
        record {
          within = let z = place_low (states g) p w.0 b w.1 in let y = S.found.line_count in omega (arith, z, y);
          state = H.line_state p w.0 b w.1;
          item = H.line_item p w.0 b w.1 ∙ ap item_of w.2;
          dot = H.line_dot p w.0 b w.1 ∙ ap dot_of w.2;
        },
      )

  -- ---- next states

  next_is : (q X x : ℕ) → 1 ≤ q → q ≤ length (states g) → In x (move g (kernel_of g q) X) → next_at kinds values gotos q X ≡ goto g q X
  next_is q X x a b m = go (dec_le 64 X)
    where
      N : next_state g q X ≡ goto g q X
      N = next_some g q X (λ e. elim (subst (In x) e m) [ ])

      low : X < 128
      low = let z = (range_in 1 127 X (moved_symbol g S.entered.formed S.entered.few_entries (kernel_of g q) (move_only g (kernel_of g q) X x m))).1 in omega (arith, z)

      some : 1 ≤ goto g q X
      some = (goes_to_lem g limits_of q X (item_of x) (dot_of x) a b (move_only g (kernel_of g q) X x m)).low

      go : Dec (64 ≤ X) → next_at kinds values gotos q X ≡ goto g q X
      go (yes l) =
          let z : 64 + (X - 64) ≡ X = omega (arith, l) in
          sym (next_goto kinds values gotos q X l) ∙ S.found.holds_next.goto_is q (X - 64) (omega (arith, low, l)) ∙ ap (next_state g q) z ∙ N
      go (no f) =
          let l : X < 64 = omega (arith, f) in
          let k = S.found.holds_next.kind_is q X l ∙ ap shift_kind N ∙ kind_one (goto g q X) some in
          sym (next_shift kinds values gotos q X l k) ∙ S.found.holds_next.value_is q X l ∙ N

  -- ---- entries

  pub entries_hold : {entries : List ℕ} → Numbered entries strings → (t : Table) → t.entries ≡ entry_lines 1 (entry_strings g) → HoldsEntries entries t
  entries_hold N t same = record {
    state_is = λ k s e. let w = entry_line g t same k e in N.state_is k (let y = S.entered.entry_count in omega (arith, w.2, y)) ∙ sym w.0;
  }

  pub strings_hold : HoldsStrings g (entry_table g) items rules strings
  strings_hold = record {
    formed = S.entered.formed;
    fits = entries_fit g limits_of;
    holds_items = S.entered.holds_items (entry_table g) refl;
    rule_count = S.entered.rule_count;
    entry_count = lines_length 1 (entry_strings g) ∙ S.entered.entry_count;
  }

  pub rules_hold : Holds items rules g
  rules_hold = record { count = S.entered.rule_count; rule_in = (S.entered.holds_items (entry_table g) refl).rule_row }

  pub uses_hold : {uses : List ℕ} (b : Bool) → Decides (EntriesMeet g (entry_table g)) b × (b ≡ true → HoldsUses uses g (entry_table g)) → HoldsUses uses g (entry_table g)
  uses_hold true h = h.1 refl
  uses_hold false h = absurd (h.0.no refl (entries_meet g (entry_table g) refl))

  -- ---- what the search for lookaheads asks

  pub states_held : {entries uses : List ℕ} → Numbered entries strings → HoldsUses uses g (entry_table g)
      → StatesHeld g items entries uses kernels kinds values gotos rules strings lines all (terminals + 1)
  states_held N U = record {
    limits = limits_of;
    rule_count = S.entered.rule_count;
    entry_count = S.entered.entry_count;
    state_count = S.found.state_count;
    code_count = let z = S.entered.terminal_count in omega (arith, z);
    holds_items = S.entered.holds_items (entry_table g) refl;
    holds_entries = entries_hold N (entry_table g) refl;
    holds_uses = U;
    line_of = line_of;
    of_line = of_line;
    next_is = next_is;
  }
