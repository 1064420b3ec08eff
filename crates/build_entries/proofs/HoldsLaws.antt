-- Memory that holds a grammar's entries behind its rules, for those who read its items.
use Prim.Native.Nat.{ℕ, zero, suc, ◌+◌, ◌*◌, ◌≤◌, ◌<◌}
use mathlib.Core.Path.{◌≡◌, refl, sym, ap, subst, ◌∙◌}
use mathlib.Core.List.{List, [], ◌∷◌, ◌++◌, append_assoc, append-nil}
use mathlib.Core.Option.{some}
use native.Mathlib.Decide.{dec_lt}
use native.Mathlib.Nat.{add-zero}
use native.Mathlib.Omega.{arith}
use lib.ListN.{length, get_or, length-append, get_or-eq_default}
use lib.Seq.{sets}
use Rattle.language.specs.Grammar.{Grammar, Rule, at}
use Rattle.language.specs.Sentence.{In, here, there}
use Rattle.language.proofs.GrammarLaws.{in_string, not_there}
use Rattle.language.specs.WellFormed.{WellFormed}
use Rattle.leftcorner.specs.Table.{EntryLine, E, Table, entry_at}
use Rattle.leftcorner.specs.Construction.{Wanted, entry_item}
use Rattle.leftcorner.proofs.ItemStrings.{wanted_declared}
use Rattle.items.specs.Layout.{item_table, entry_row, EntryIn, Shaped}
use Rattle.items.proofs.TableLaws.{table_entry, table_length}
use Rattle.items.proofs.LayoutLaws.{declared_below, layout_shaped}
use Rattle.memory.specs.Memory.{HoldsItems}
use Rattle.table_entries.proofs.MemoryLaws.{shaped_more}
use Rattle.build_states.specs.Strings.{entry_strings, entry_lines}
use Rattle.build_states.proofs.EntryLaws.{strings_wanted}
use Rattle.build_states.proofs.Limits.{declared, wanted_short}
use Rattle.build_entries.specs.Memory.{Fitting, Stored}
use Rattle.build_entries.proofs.StoreLaws.{rule_in, rows_in}

-- rows that are stored one after the other
shaped_all : (rs : List Rule) (γs δs : List (List ℕ)) (size : ℕ) → suc (length rs + length (γs ++ δs)) * 64 ≤ size → ((γ : List ℕ) → In γ δs → Fitting γ)
    → Shaped (item_table rs γs size) (length rs + length γs) → Shaped (item_table rs (γs ++ δs) size) (length rs + length (γs ++ δs))
shaped_all rs γs [] size room fits s = rw (append-nil γs) s
shaped_all rs γs (δ ∷ δs) size room fits s =
    subst (λ (l : List (List ℕ)). Shaped (item_table rs l size) (length rs + length l)) (append_assoc γs (δ ∷ []) δs)
    (shaped_all rs (γs ++ δ ∷ []) δs size (omega (arith, room, ap length (append_assoc γs (δ ∷ []) δs))) (λ γ m. fits γ (there m)) one_more)
  where
    count : length rs + length γs + 1 ≡ length rs + length (γs ++ δ ∷ [])
    count = omega (arith, length-append γs (δ ∷ []))

    one_more : Shaped (item_table rs (γs ++ δ ∷ []) size) (length rs + length (γs ++ δ ∷ []))
    one_more =
        subst (λ (m : List ℕ). Shaped m (length rs + length (γs ++ δ ∷ []))) (table_entry rs γs δ size ((length rs + length γs + 1) * 64) (omega arith))
        (subst (Shaped (sets (item_table rs γs size) ((length rs + length γs + 1) * 64) (entry_row δ))) count
        (shaped_more (item_table rs γs size) (length rs + length γs) ((length rs + length γs + 1) * 64) δ refl
        (omega (arith, room, table_length rs γs size, length-append γs (δ ∷ δs))) ((fits δ here).short, (fits δ here).low) s))

module _ (g : Grammar) (w : WellFormed g) where
  -- a table with these entries, and nothing else
  abbrev bare : Table
  bare = record { states = 0; entries = entry_lines 1 (entry_strings g); kernels = []; actions = [] }

  wanted_fits : (γ : List ℕ) → Wanted g γ → Fitting γ
  wanted_fits γ v = record { short = wanted_short g w bare refl v; low = λ k. go k (dec_lt k (length γ)) }
    where
      go : (k : ℕ) → Dec (k < length γ) → get_or γ k 0 < 128
      go k (yes l) = declared_below g w (get_or γ k 0) (wanted_declared g bare (declared g w) γ v (get_or γ k 0) (in_string γ k l))
      go k (no f) = omega (arith, get_or-eq_default γ 0 {n = k} (omega arith))

  module _ (few : length (entry_strings g) ≤ 127) {size : ℕ} (room : 16640 ≤ size) {items : List ℕ} (e : items ≡ item_table g.rules (entry_strings g) size) where
    pub entries_stored : Stored g (entry_strings g) size items (length g.rules) (length (entry_strings g))
    entries_stored = record
        { formed = w; rule_count = refl; string_count = refl; fitting = λ γ m. wanted_fits γ (strings_wanted g γ m); room = room; items_are = e }

    pub entries_shaped : Shaped items (length g.rules + length (entry_strings g))
    entries_shaped = rw e (shaped_all g.rules [] (entry_strings g) size (omega (arith, w.few_rules)) entries_stored.fitting
        (rw (add-zero (length g.rules)) (layout_shaped g w size (omega (arith, w.few_rules)))))

    pub entries_held : (t : Table) → t.entries ≡ entry_lines 1 (entry_strings g) → HoldsItems items g t
    entries_held t same = record { rule_row = rule_in entries_stored (omega arith); entry_row = λ k s. row k s }
      where
        row : (k s : ℕ) {γ : List ℕ} → entry_at t k ≡ some (E s γ) → EntryIn items (entry_item g t k) γ
        row zero s q = not_there q
        row (suc k) s {γ} q =
            let z : suc (length g.rules + k) ≡ length g.rules + suc k = omega arith in
            subst (λ (n : ℕ). EntryIn items n γ) z
            ((rows_in entries_stored (omega arith)).row_in k (sym (ap (λ (l : List EntryLine). at l k) same) ∙ q))
