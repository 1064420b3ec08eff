-- One more string in memory, or one that is there already.
use Prim.Native.Nat.{ℕ, zero, suc, ◌+◌, ◌*◌, ◌≤◌, ◌<◌}
use mathlib.Core.Path.{◌≡◌, refl, sym, ap, subst, ◌∙◌}
use mathlib.Core.Logic.{◌⊎◌, inl, inr}
use mathlib.Core.Bool.{Bool, true, false, cond}
use mathlib.Core.List.{List, [], ◌∷◌, ◌++◌}
use mathlib.Core.Option.{some}
use native.Mathlib.Nat.{add-zero}
use native.Mathlib.Omega.{arith}
use lib.ListN.{length, get_or, length-append}
use lib.Seq.{sets, length-sets}
use Rattle.language.specs.Grammar.{Grammar, Rule, rule_at, at}
use Rattle.language.specs.Sentence.{In, here, there}
use Rattle.language.proofs.GrammarLaws.{not_there}
use Rattle.leftcorner.specs.Table.{same_string, entry_from}
use Rattle.leftcorner.proofs.ReadOff.{same_string_lem, entry_found}
use Rattle.items.specs.Layout.{entry_row, EntryIn, RuleIn}
use Rattle.items.proofs.StoreLaws.{read_below, read_above}
use Rattle.items.proofs.BuildLaws.{row-length}
use Rattle.items.proofs.TableLaws.{table_entry, table_behind}
use Rattle.items.proofs.LayoutLaws.{table_rule_in, table_entry_in, declared_below, layout_shaped}
use Rattle.table_entries.specs.Memory.{Rows}
use Rattle.table_entries.proofs.MemoryLaws.{shaped_more}
use Rattle.build_states.specs.Strings.{add_string, entry_lines}
use Rattle.build_states.proofs.Distinct.{at_in, in_at, in_end, joined}
use Rattle.build_states.proofs.EntryLaws.{line_at, at_line, lines_length}
use Rattle.build_entries.specs.Memory.{RulesOnly, Fitting, Stored, EntryRoom, Grown}

-- ---- memory before
module _ {g : Grammar} {items : List ℕ} {rules goal : ℕ} (b : RulesOnly g items rules goal) where
  pub stored_blank : Stored g [] (length items) items rules 0
  stored_blank = record
      { formed = b.formed; rule_count = b.rule_count; string_count = refl; fitting = λ γ m. elim m [ ]; room = b.room; items_are = b.items_are }

  pub ready_blank : EntryRoom items rules 0
  ready_blank = record {
    shaped = rw (add-zero rules, ← b.rule_count, b.items_are) (layout_shaped g b.formed (length items) (omega (arith, b.formed.few_rules, b.room)));
    empty = λ j h. ap (λ (m : List ℕ). get_or m j 0) b.items_are ∙ table_behind g.rules [] (length items) j (omega (arith, h, b.rule_count));
    room = b.room;
    few_rules = omega (arith, b.formed.few_rules, b.rule_count);
  }

  pub goal_low : goal < 128
  goal_low = omega (arith, b.goal_is, declared_below g b.formed g.goal (inr b.formed.goal_declared))

-- ---- a row more
module _ {items : List ℕ} {rules strings : ℕ} (R : EntryRoom items rules strings) (few : strings ≤ 127) {γ : List ℕ} (f : Fitting γ)
    {items' : List ℕ} (e : items' ≡ sets items ((rules + strings + 1) * 64) (entry_row γ)) where
  pub grown_more : Grown items items' rules strings (strings + 1)
  grown_more = record {
    ready = record {
      shaped = rw (e, count) (shaped_more items (rules + strings) ((rules + strings + 1) * 64) γ refl (omega (arith, R.room, R.few_rules)) (f.short, f.low) R.shaped);
      empty = λ j h. ap (λ (m : List ℕ). get_or m j 0) e
          ∙ (read_above items (entry_row γ) ((rules + strings + 1) * 64) j (omega (arith, h, row-length 0 255 0 γ [])) ∙ R.empty j (omega (arith, h)));
      room = omega (arith, R.room, ap length e, length-sets items ((rules + strings + 1) * 64) (entry_row γ));
      few_rules = R.few_rules;
    };
    more = omega arith;
    rows = λ j l. ap (λ (m : List ℕ). get_or m j 0) e ∙ read_below items (entry_row γ) ((rules + strings + 1) * 64) j (omega (arith, l));
  }
    where
      count : rules + (strings + 1) ≡ rules + strings + 1
      count = omega arith

-- ---- strings by their numbers
found_in : (k a : ℕ) (l : List (List ℕ)) (γ : List ℕ) → (entry_from k (entry_lines a l) γ ≡ 0 → ⊥) → In γ l
found_in k a [] γ f = absurd (f refl)
found_in k a (δ ∷ l) γ f = go (same_string δ γ) refl (found_in (suc k) (suc a) l γ) f
  where
    go : (b : Bool) → same_string δ γ ≡ b → ((entry_from (suc k) (entry_lines (suc a) l) γ ≡ 0 → ⊥) → In γ l)
        → (cond b k (entry_from (suc k) (entry_lines (suc a) l) γ) ≡ 0 → ⊥) → In γ (δ ∷ l)
    go true e rec f = subst (λ (x : List ℕ). In γ (x ∷ l)) (sym (same_string_lem δ γ e)) here
    go false e rec f = there (rec f)

in_found : {l : List (List ℕ)} {γ : List ℕ} → In γ l → entry_from 1 (entry_lines 1 l) γ ≡ 0 → ⊥
in_found {l} {γ} m z =
    let j = in_at m in
    let r = entry_found (entry_lines 1 l) γ 0 j.0 (1 + j.0) (at_line 1 l j.0 γ j.1) in
    omega (arith, z, r.3)

-- ---- what memory holds
module _ {g : Grammar} {l : List (List ℕ)} {size : ℕ} {items : List ℕ} {rules strings : ℕ} (s : Stored g l size items rules strings) where
  pub lines_count : length (entry_lines 1 l) ≡ strings
  lines_count = lines_length 1 l ∙ s.string_count

  module _ (few : strings ≤ 128) where
    room : suc (length g.rules + length l) * 64 ≤ size
    room = omega (arith, s.formed.few_rules, s.string_count, few, s.room)

    pub rule_in : (i : ℕ) {r : Rule} → rule_at g i ≡ some r → RuleIn items i r
    rule_in zero e = not_there e
    rule_in (suc k) e = rw s.items_are (table_rule_in g.rules l size room k e (s.formed.formed (suc k) e).short)

    pub rows_in : Rows items rules (entry_lines 1 l)
    rows_in = record { row_in = λ k {s} {γ} e. row k (line_at 1 l k s γ e).1 }
      where
        row : (k : ℕ) {γ : List ℕ} → at l k ≡ some γ → EntryIn items (suc (rules + k)) γ
        row k {γ} e = rw (s.items_are, ← s.rule_count) (table_entry_in g.rules l size room k e (s.fitting γ (at_in l k γ e)).short)

  module _ (γ : List ℕ) {x : ℕ} (found : x ≡ entry_from 1 (entry_lines 1 l) γ) where
    pub stored_same : (x ≡ 0 → ⊥) → Stored g (add_string l γ) size items rules strings
    stored_same f = joined l (λ (m : List (List ℕ)). Stored g m size items rules strings) γ (λ _. s)
        (λ out. absurd (out (found_in 1 1 l γ (λ z. f (found ∙ z)))))

    pub stored_more : x ≡ 0 → Fitting γ → {items' : List ℕ} → items' ≡ sets items ((rules + strings + 1) * 64) (entry_row γ)
        → Stored g (add_string l γ) size items' rules (strings + 1)
    stored_more z fits {items'} e = joined l (λ (m : List (List ℕ)). Stored g m size items' rules (strings + 1)) γ
        (λ m. absurd (in_found m (sym found ∙ z))) (λ _. more)
      where
        fitting_more : (δ : List ℕ) → In δ l ⊎ (δ ≡ γ) → Fitting δ
        fitting_more δ (inl m) = s.fitting δ m
        fitting_more δ (inr q) = subst Fitting (sym q) fits

        more : Stored g (l ++ γ ∷ []) size items' rules (strings + 1)
        more = record {
          formed = s.formed;
          rule_count = s.rule_count;
          string_count = length-append l (γ ∷ []) ∙ ap (λ (n : ℕ). n + 1) s.string_count;
          fitting = λ δ m. fitting_more δ (in_end δ γ l m);
          room = s.room;
          items_are = e ∙ (ap (λ (m : List ℕ). sets m ((rules + strings + 1) * 64) (entry_row γ)) s.items_are
              ∙ table_entry g.rules l γ size ((rules + strings + 1) * 64) (omega (arith, s.rule_count, s.string_count)));
        }
