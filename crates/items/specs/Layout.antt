-- The item table in memory: one flat slice of bytes, a row of 64 for each item, by item number. Row 0 is unused. Rules come
-- first, then entry strings: "Item i up to r is rule i; item r+k is the string of entry line k."
use Rattle.std.specs.Prelude.{ℕ, ◌+◌, ◌*◌, ◌≤◌, ◌<◌, ◌≡◌, List, [], ◌∷◌, ◌++◌, length, get_or, replicate}
use Rattle.std.proofs.Math.Option.{some}
use Rattle.std.proofs.lemmas.List.Edits.{sets}
use Rattle.language.specs.Grammar.{Grammar, Rule, right, concat, rule_at}
use Rattle.language.specs.Listing.{unit_of}

-- a row's symbols and the marks of what begins a group, all else 0
unfoldable pub body : List ℕ → List ℕ → List ℕ
body α φ = sets (sets (replicate 64 0) 16 α) 32 φ

-- byte 0 the left side, 1 the length of the string, 2 the recognition point (255: none), 3 the unit flag, 16 + k symbol k,
-- 32 + k: 1 where symbol k is the first of a group
unfoldable pub row : ℕ → ℕ → ℕ → List ℕ → List ℕ → List ℕ
row left mark unit α φ = sets (body α φ) 0 (left ∷ length α ∷ mark ∷ unit ∷ [])

-- a 1 for the first symbol of each group, a 0 for every other
abbrev pub group_start : List ℕ → List ℕ
group_start [] = []
group_start (X ∷ γ) = 1 ∷ replicate (length γ) 0

abbrev pub group_starts : List (List ℕ) → List ℕ
group_starts [] = []
group_starts (γ ∷ γs) = group_start γ ++ group_starts γs

abbrev pub starts_of : Rule → List ℕ
starts_of r = replicate (length r.before) 0 ++ group_starts r.groups

abbrev pub row_of : Rule → List ℕ
row_of r = row r.left (length r.before) (unit_of r.unit) (right r) (starts_of r)

-- "Entry items have no recognition point."
abbrev pub entry_row : List ℕ → List ℕ
entry_row γ = row 0 255 0 γ []

abbrev pub entry_rows : List (List ℕ) → List (List ℕ)
entry_rows [] = []
entry_rows (γ ∷ γs) = entry_row γ ∷ entry_rows γs

abbrev pub item_rows : List Rule → List (List ℕ) → List (List ℕ)
item_rows [] γs = entry_rows γs
item_rows (r ∷ rs) γs = row_of r ∷ item_rows rs γs

-- a slice of `size` bytes that holds these rules, then these entry strings, and zeros everywhere else
unfoldable pub item_table : List Rule → List (List ℕ) → ℕ → List ℕ
item_table rs γs size = sets (replicate size 0) 64 (concat (item_rows rs γs))

abbrev pub layout : Grammar → ℕ → List ℕ
layout g size = item_table g.rules [] size

-- ---- what is read off a row
abbrev pub left_at : List ℕ → ℕ → ℕ
left_at m i = get_or m (i * 64) 0

abbrev pub length_at : List ℕ → ℕ → ℕ
length_at m i = get_or m (i * 64 + 1) 0

abbrev pub mark_at : List ℕ → ℕ → ℕ
mark_at m i = get_or m (i * 64 + 2) 0

abbrev pub unit_at : List ℕ → ℕ → ℕ
unit_at m i = get_or m (i * 64 + 3) 0

abbrev pub symbol_at : List ℕ → ℕ → ℕ → ℕ
symbol_at m i k = get_or m (i * 64 + 16 + k) 0

abbrev pub start_at : List ℕ → ℕ → ℕ → ℕ
start_at m i k = get_or m (i * 64 + 32 + k) 0

-- row i of m is that of such an item
pub record RowIs (m : List ℕ) (i left mark unit : ℕ) (α φ : List ℕ) : Type 0 where
  pub left_is : left_at m i ≡ left
  pub length_is : length_at m i ≡ length α
  pub mark_is : mark_at m i ≡ mark
  pub unit_is : unit_at m i ≡ unit
  pub symbol_is : (k : ℕ) → k < 15 → symbol_at m i k ≡ get_or α k 0
  pub start_is : (k : ℕ) → k < 15 → start_at m i k ≡ get_or φ k 0

abbrev pub RuleIn : List ℕ → ℕ → Rule → Type 0
RuleIn m i r = RowIs m i r.left (length r.before) (unit_of r.unit) (right r) (starts_of r)

abbrev pub EntryIn : List ℕ → ℕ → List ℕ → Type 0
EntryIn m i γ = RowIs m i 0 255 0 γ []

-- memory m holds the rules of g, of which there are `rules`
pub record Holds (m : List ℕ) (rules : ℕ) (g : Grammar) : Type 0 where
  pub count : length g.rules ≡ rules
  pub rule_in : (i : ℕ) {r : Rule} → rule_at g i ≡ some r → RuleIn m i r

-- what the code needs of memory to read items 1 to `items`, whatever they mean
pub record Shaped (m : List ℕ) (items : ℕ) : Type 0 where
  pub room : items * 64 + 64 ≤ length m
  pub lengths : (i : ℕ) → i ≤ items → length_at m i ≤ 15
  pub lefts : (i : ℕ) → i ≤ items → left_at m i < 128
  pub symbols : (i k : ℕ) → i ≤ items → k < 15 → symbol_at m i k < 128
