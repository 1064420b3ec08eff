-- The item table in memory holds the rules and the entry strings, and is safe to read.
use Prim.Native.Nat.{ℕ, zero, suc, ◌+◌, ◌*◌, ◌≤◌}
use native.Mathlib.Omega.{arith}
use mathlib.Core.Path.{◌≡◌, refl, ap, subst}
use mathlib.Core.List.{List, [], ◌∷◌}
use mathlib.Core.Option.{some}
use lib.ListN.{length}
use Rattle.language.specs.Grammar.{Grammar, Rule, at, rule_at}
use Rattle.language.proofs.GrammarLaws.{not_there}
use Rattle.language.specs.WellFormed as language
use Rattle.leftcorner.specs.Table.{EntryLine, E, Table, entry_at}
use Rattle.leftcorner.specs.Construction.{entry_item}
use Rattle.items.specs.Layout.{item_table, RuleIn, EntryIn, Shaped}
use Rattle.items.proofs.LayoutLaws.{Fits, table_rule_in, table_entry_in, table_shaped, declared_fits, rule_fits}
use Rattle.memory.specs.Memory.{HoldsItems}
use Rattle.memory.specs.Fits as memory
use Rattle.table_entries.specs.Memory.{strings_of}

-- ---- the strings of entry lines
strings_count : (l : List EntryLine) → length (strings_of l) ≡ length l
strings_count [] = refl
strings_count (E s γ ∷ l) = ap suc (strings_count l)

line_string : (l : List EntryLine) (k : ℕ) {s : ℕ} {γ : List ℕ} → at l k ≡ some (E s γ) → at (strings_of l) k ≡ some γ
line_string [] k e = not_there e
line_string (E p δ ∷ l) zero {γ = γ} e = let z : δ ≡ γ = cc in ap (λ (α : List ℕ). some α) z
line_string (E p δ ∷ l) (suc k) e = line_string l k e

string_line : (l : List EntryLine) (k : ℕ) (γ : List ℕ) → at (strings_of l) k ≡ some γ → (s : ℕ) × (at l k ≡ some (E s γ))
string_line [] k γ e = not_there e
string_line (E p δ ∷ l) zero γ e = let z : δ ≡ γ = cc in (p, ap (λ (α : List ℕ). some (E p α)) z)
string_line (E p δ ∷ l) (suc k) γ e = string_line l k γ e

module _ (g : Grammar) (t : Table) (W : language.WellFormed g) (F : memory.Fits g t) (size : ℕ) (room : 16640 ≤ size) where
  abbrev table : List ℕ
  table = item_table g.rules (strings_of t.entries) size

  table_room : suc (length g.rules + length (strings_of t.entries)) * 64 ≤ size
  table_room = omega (arith, room, strings_count t.entries, W.few_rules, F.few_entries)

  pub holds_items : HoldsItems table g t
  holds_items = record { rule_row = rule_row; entry_row = entry_row }
    where
      rule_row : (i : ℕ) {r : Rule} → rule_at g i ≡ some r → RuleIn table i r
      rule_row zero e = not_there e
      rule_row (suc k) e = table_rule_in g.rules (strings_of t.entries) size table_room k e (W.formed (suc k) e).short

      next : (m n : ℕ) → suc (m + n) ≡ m + suc n
      next m n = omega arith

      entry_row : (k s : ℕ) {γ : List ℕ} → entry_at t k ≡ some (E s γ) → EntryIn table (entry_item g t k) γ
      entry_row zero s e = not_there e
      entry_row (suc k) s {γ} e =
          subst (λ (i : ℕ). EntryIn table i γ) (next (length g.rules) k)
          (table_entry_in g.rules (strings_of t.entries) size table_room k (line_string t.entries k e) (F.string_short (suc k) s γ e))

  pub items_shaped : Shaped table (length g.rules + length t.entries)
  items_shaped =
      subst (λ (n : ℕ). Shaped table (length g.rules + n)) (strings_count t.entries)
      (table_shaped g.rules (strings_of t.entries) size table_room (rule_fits g W) entry_fits)
    where
      entry_fits : (k : ℕ) (γ : List ℕ) → at (strings_of t.entries) k ≡ some γ → Fits γ
      entry_fits k γ e =
          let r = string_line t.entries k γ e in
          declared_fits g W γ (F.string_short (suc k) r.0 γ r.1) (F.string_declared (suc k) r.0 γ r.1)
