-- What the table holds, in the readers' terms: memory laid out for a grammar holds it, and is safe to read.
use Prim.Native.Nat.{ℕ, zero, suc, ◌+◌, ◌*◌, ◌-◌, ◌≤◌, ◌<◌}
use mathlib.Core.Path.{◌≡◌, refl, sym, ap, subst, ◌∙◌}
use mathlib.Core.Logic.{◌⊎◌, inl, inr}
use mathlib.Core.List.{List, [], ◌∷◌}
use mathlib.Core.Option.{some}
use native.Mathlib.Nat.{add-zero}
use native.Mathlib.Decide.{dec_lt}
use native.Mathlib.Omega.{arith}
use lib.ListN.{length, get_or, replicate, length-replicate, get_or-eq_default}
use lib.Seq.{sets, length-sets}
use Rattle.language.specs.Grammar.{Grammar, Rule, right, at, rule_at, IsTerminal, IsNonterminal}
use Rattle.language.specs.Listing.{unit_of}
use Rattle.language.specs.Sentence.{In}
use Rattle.language.proofs.GrammarLaws.{not_there, at_below, in_string}
use Rattle.language.specs.WellFormed.{WellFormed}
use Rattle.items.specs.Layout.{body, row, starts_of, item_table, layout, left_at, length_at, symbol_at, RowIs, RuleIn, EntryIn, Holds, Shaped}
use Rattle.items.proofs.StoreLaws.{read_inside, read_below, read_above, read_zeros}
use Rattle.items.proofs.BuildLaws.{body-length}
use Rattle.items.proofs.TableLaws.{table_length, table_front, table_read_rule, table_read_entry}

-- ---- a row's figures
module _ (left mark unit : ℕ) (α φ : List ℕ) where
  figure : (j : ℕ) → j < 4 → get_or (row left mark unit α φ) j 0 ≡ get_or (left ∷ length α ∷ mark ∷ unit ∷ []) j 0
  unfolding row
  figure j h =
      ap (λ (n : ℕ). get_or (sets (body α φ) 0 (left ∷ length α ∷ mark ∷ unit ∷ [])) n 0) (zero_plus j)
      ∙ read_inside (body α φ) (left ∷ length α ∷ mark ∷ unit ∷ []) 0 j h (omega (arith, body-length α φ))
    where
      zero_plus : (n : ℕ) → n ≡ 0 + n
      zero_plus n = omega arith

  behind : (j : ℕ) → 4 ≤ j → get_or (row left mark unit α φ) j 0 ≡ get_or (body α φ) j 0
  unfolding row
  behind j h = read_above (body α φ) (left ∷ length α ∷ mark ∷ unit ∷ []) 0 j (omega arith)

  symbol : (k : ℕ) → k < 15 → get_or (row left mark unit α φ) (16 + k) 0 ≡ get_or α k 0
  unfolding body
  symbol k h =
      behind (16 + k) (omega arith) ∙ (read_below (sets (replicate 64 0) 16 α) φ 32 (16 + k) (omega arith) ∙ go (dec_lt k (length α)))
    where
      go : Dec (k < length α) → get_or (sets (replicate 64 0) 16 α) (16 + k) 0 ≡ get_or α k 0
      go (yes l) = read_inside (replicate 64 0) α 16 k l (omega (arith, length-replicate {A = ℕ} 64 0))
      go (no n) = read_above (replicate 64 0) α 16 (16 + k) (omega arith) ∙ (read_zeros 64 (16 + k) ∙ sym (get_or-eq_default α 0 {n = k} (omega arith)))

  start : length α ≤ 16 → (k : ℕ) → k < 15 → get_or (row left mark unit α φ) (32 + k) 0 ≡ get_or φ k 0
  unfolding body
  start s k h = behind (32 + k) (omega arith) ∙ go (dec_lt k (length φ))
    where
      go : Dec (k < length φ) → get_or (sets (sets (replicate 64 0) 16 α) 32 φ) (32 + k) 0 ≡ get_or φ k 0
      go (yes l) = read_inside (sets (replicate 64 0) 16 α) φ 32 k l (omega (arith, length-sets (replicate 64 0) 16 α, length-replicate {A = ℕ} 64 0))
      go (no n) =
          read_above (sets (replicate 64 0) 16 α) φ 32 (32 + k) (omega arith)
          ∙ (read_above (replicate 64 0) α 16 (32 + k) (omega arith) ∙ (read_zeros 64 (32 + k) ∙ sym (get_or-eq_default φ 0 {n = k} (omega arith))))

  -- memory that agrees with the row, byte for byte
  pub row_is : (m : List ℕ) (i : ℕ) → length α ≤ 16 → ((j : ℕ) → j < 64 → get_or m (i * 64 + j) 0 ≡ get_or (row left mark unit α φ) j 0)
      → RowIs m i left mark unit α φ
  row_is m i s same = record {
    left_is = ap (λ (n : ℕ). get_or m n 0) (sym (add-zero (i * 64))) ∙ (same 0 (omega arith) ∙ figure 0 (omega arith));
    length_is = same 1 (omega arith) ∙ figure 1 (omega arith);
    mark_is = same 2 (omega arith) ∙ figure 2 (omega arith);
    unit_is = same 3 (omega arith) ∙ figure 3 (omega arith);
    symbol_is = λ k l. ap (λ (n : ℕ). get_or m n 0) (group (i * 64) 16 k) ∙ (same (16 + k) (omega arith) ∙ symbol k l);
    start_is = λ k l. ap (λ (n : ℕ). get_or m n 0) (group (i * 64) 32 k) ∙ (same (32 + k) (omega arith) ∙ start s k l);
  }
    where
      group : (a b c : ℕ) → a + b + c ≡ a + (b + c)
      group a b c = omega arith

-- ---- a table's rows
module _ (rs : List Rule) (γs : List (List ℕ)) (size : ℕ) (room : suc (length rs + length γs) * 64 ≤ size) where
  pub table_rule_in : (k : ℕ) {r : Rule} → at rs k ≡ some r → length (right r) ≤ 15 → RuleIn (item_table rs γs size) (suc k) r
  table_rule_in k {r = r} e s =
      row_is r.left (length r.before) (unit_of r.unit) (right r) (starts_of r) (item_table rs γs size) (suc k) (omega arith)
      (λ j l. table_read_rule rs γs size k j e room l)

  pub table_entry_in : (k : ℕ) {γ : List ℕ} → at γs k ≡ some γ → length γ ≤ 15 → EntryIn (item_table rs γs size) (suc (length rs + k)) γ
  table_entry_in k {γ = γ} e s =
      row_is 0 255 0 γ [] (item_table rs γs size) (suc (length rs + k)) (omega arith) (λ j l. table_read_entry rs γs size k j e room l)

-- ---- safe to read
-- a string of at most 15 symbols, each below 128
abbrev pub Fits : List ℕ → Type 0
Fits α = (length α ≤ 15) × ((k : ℕ) → get_or α k 0 < 128)

record RowFits (m : List ℕ) (i : ℕ) : Type 0 where
  low_left : left_at m i < 128
  low_length : length_at m i ≤ 15
  low_symbols : (k : ℕ) → k < 15 → symbol_at m i k < 128

row_fits : {m : List ℕ} {i left mark unit : ℕ} {α φ : List ℕ} → RowIs m i left mark unit α φ → left < 128 → Fits α → RowFits m i
row_fits {α = α} h l f = record {
  low_left = omega (arith, h.left_is, l);
  low_length = omega (arith, h.length_is, f.0);
  low_symbols = λ k lk. omega (arith, h.symbol_is k lk, f.1 k);
}

module _ (rs : List Rule) (γs : List (List ℕ)) (size : ℕ) (room : suc (length rs + length γs) * 64 ≤ size)
    (rules-fit : (k : ℕ) (r : Rule) → at rs k ≡ some r → (r.left < 128) × Fits (right r))
    (entries_fit : (k : ℕ) (γ : List ℕ) → at γs k ≡ some γ → Fits γ) where
  fits : (i : ℕ) → i ≤ length rs + length γs → RowFits (item_table rs γs size) i
  fits zero h = record {
    low_left = omega (arith, table_front rs γs size (0 * 64) (omega arith));
    low_length = omega (arith, table_front rs γs size (0 * 64 + 1) (omega arith));
    low_symbols = λ k l. omega (arith, table_front rs γs size (0 * 64 + 16 + k) (omega arith));
  }
  fits (suc i) h = go (dec_lt i (length rs))
    where
      go : Dec (i < length rs) → RowFits (item_table rs γs size) (suc i)
      go (yes l) = let r = at_below rs i l in let f = rules-fit i r.0 r.1 in row_fits (table_rule_in rs γs size room i r.1 f.1.0) f.0 f.1
      go (no n) =
          let b : i ≡ length rs + (i - length rs) = omega arith in
          let γ = at_below γs (i - length rs) (omega arith) in
          let f = entries_fit (i - length rs) γ.0 γ.1 in
          subst (λ (j : ℕ). RowFits (item_table rs γs size) (suc j)) (sym b)
          (row_fits (table_entry_in rs γs size room (i - length rs) γ.1 f.0) (omega arith) f)

  pub table_shaped : Shaped (item_table rs γs size) (length rs + length γs)
  table_shaped = record {
    room = omega (arith, room, table_length rs γs size);
    lengths = λ i h. (fits i h).low_length;
    lefts = λ i h. (fits i h).low_left;
    symbols = λ i k h l. (fits i h).low_symbols k l;
  }

-- ---- a grammar's layout
pub declared_below : (g : Grammar) → WellFormed g → (X : ℕ) → IsTerminal g X ⊎ IsNonterminal g X → X < 128
declared_below g w X (inl h) = omega (arith, h.1, w.few_terminals)
declared_below g w X (inr h) = omega (arith, h.1, w.few_nonterminals)

module _ (g : Grammar) (w : WellFormed g) where
  pub declared_fits : (α : List ℕ) → length α ≤ 15 → ((X : ℕ) → In X α → IsTerminal g X ⊎ IsNonterminal g X) → Fits α
  declared_fits α s d = (s, λ j. go j (dec_lt j (length α)))
    where
      go : (j : ℕ) → Dec (j < length α) → get_or α j 0 < 128
      go j (yes l) = declared_below g w (get_or α j 0) (d (get_or α j 0) (in_string α j l))
      go j (no n) = omega (arith, get_or-eq_default α 0 {n = j} (omega arith))

  pub rule_fits : (k : ℕ) (r : Rule) → at g.rules k ≡ some r → (r.left < 128) × Fits (right r)
  rule_fits k r e = let f = w.formed (suc k) e in (declared_below g w r.left (inr f.left_declared), declared_fits (right r) f.short f.declared)

  module _ (size : ℕ) (room : suc (length g.rules) * 64 ≤ size) where
    pub layout_holds : Holds (layout g size) (length g.rules) g
    layout_holds = record { count = refl; rule_in = go }
      where
        go : (i : ℕ) {r : Rule} → rule_at g i ≡ some r → RuleIn (layout g size) i r
        go zero e = not_there e
        go (suc k) e = table_rule_in g.rules [] size (omega arith) k e (w.formed (suc k) e).short

    pub layout_shaped : Shaped (layout g size) (length g.rules)
    layout_shaped = subst (Shaped (layout g size)) (add-zero (length g.rules)) (table_shaped g.rules [] size (omega arith) rule_fits (λ k γ e. not_there e))
