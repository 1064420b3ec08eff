-- The entries of the grammar that was read, and what is past the limits.
use Prim.Native.Nat.{ℕ, ◌+◌, ◌≤◌, ◌<◌}
use native.Mathlib.Omega.{arith}
use mathlib.Core.Path.{◌≡◌, sym, ap, subst}
use mathlib.Core.List.{List}
use lib.ListN.{length}
use Rattle.language.specs.Grammar.{Grammar}
use Rattle.items.specs.Layout.{Shaped}
use Rattle.grammar_header.specs.declared.Heading.{Heading}
use Rattle.grammar.specs.Book.{accepted, grammar_of}
use Rattle.grammar.proofs.GrammarLaws.{accepted_reduced}
use Rattle.grammar.proofs.ReadLaws.{ReadAs}
use Rattle.build_states.specs.Strings.{entry_strings}
use Rattle.build_book.proofs.BookLaws.{Within}
use Rattle.build_entries.specs.Memory.{RulesOnly, Listed}
use Rattle.build_entries.proofs.HoldsLaws.{entries_shaped, entries_held}
use Rattle.build_memory.specs.Stages.{Entered}
use Rattle.build_memory.specs.Memory.{PastLimits}

-- ---- its entries

module _ {gs m : List ℕ} {h : Heading} (R : ReadAs gs h m) (room : 16640 ≤ length m) where
  pub blank_of : RulesOnly R.grammar m h.rules h.goal
  blank_of = record {
    formed = R.holds.formed;
    room = room;
    items_are = R.holds.laid;
    rule_count = sym (ap (λ (k : Heading). k.rules) R.holds.heading);
    goal_is = sym (ap (λ (k : Heading). k.goal) R.holds.heading);
  }

  pub entered_of : {items : List ℕ} {strings : ℕ} → Listed R.grammar (length m) items strings → strings ≤ 127 → Entered R.grammar items h.terminals h.goal h.rules strings
  entered_of {items} {strings} L few =
      let g = R.grammar in
      let D = accepted_reduced gs g R.book_is in
      let B = blank_of in
      let c : length (entry_strings g) ≡ strings = omega (arith, L.count_is, few) in
      let n : length (entry_strings g) ≤ 127 = omega (arith, c, few) in
      let e = L.items_are few in
      record {
        formed = D.formed;
        productive = D.productive;
        reached = D.reachable;
        few_entries = n;
        terminal_count = sym (ap (λ (k : Heading). k.terminals) R.holds.heading);
        goal_is = B.goal_is;
        rule_count = B.rule_count;
        entry_count = c;
        shaped = subst (Shaped items) (let z : length g.rules + length (entry_strings g) ≡ h.rules + strings = omega (arith, B.rule_count, c) in z) (entries_shaped g D.formed n room e);
        holds_items = entries_held g D.formed n room e;
      }

-- ---- past the limits

pub too_large : {gs : List ℕ} {g : Grammar} → grammar_of gs ≡ accepted g → (Within g → ⊥) → PastLimits gs
too_large {g = g} e f = record { grammar = g; book_is = e; past_limits = f }

-- too many entries
pub listed_many : {g : Grammar} {size : ℕ} {items : List ℕ} {strings : ℕ} → Listed g size items strings → 127 < strings → Within g → ⊥
listed_many L l w = let z = w.few_entries in let y = L.count_is in omega (arith, l, y, z)
