-- The table row after row: it grows at its end, and each row is read back.
use Prim.Native.Nat.{ℕ, zero, suc, ◌+◌, ◌*◌, ◌≤◌, ◌<◌}
use mathlib.Core.Path.{◌≡◌, refl, sym, ap, subst, ◌∙◌}
use mathlib.Core.List.{List, [], ◌∷◌, ◌++◌, append_assoc, append-nil}
use mathlib.Core.Option.{some}
use native.Mathlib.Omega.{arith}
use lib.ListN.{length, get_or, replicate, length-append, length-replicate, get_or-append}
use lib.Seq.{sets, length-sets, get_or-append-add}
use Rattle.language.specs.Grammar.{Rule, right, concat, at}
use Rattle.language.specs.Listing.{unit_of}
use Rattle.language.proofs.GrammarLaws.{not_there}
use Rattle.items.specs.Layout.{row_of, entry_row, starts_of, entry_rows, item_rows, item_table}
use Rattle.items.proofs.StoreLaws.{sets_join, read_inside, read_below, read_above, read_zeros}
use Rattle.items.proofs.BuildLaws.{row-length}

-- rows of 64
abbrev Even : List (List ℕ) → Type 0
Even [] = Unit {0}
Even (ρ ∷ ρs) = (length ρ ≡ 64) × Even ρs

concat-length : (ρs : List (List ℕ)) → Even ρs → length (concat ρs) ≡ length ρs * 64
concat-length [] h = refl
concat-length (ρ ∷ ρs) h = length-append ρ (concat ρs) ∙ omega (arith, h.0, concat-length ρs h.1)

concat_snoc : (ρs : List (List ℕ)) (ρ : List ℕ) → concat (ρs ++ ρ ∷ []) ≡ concat ρs ++ ρ
concat_snoc [] ρ = append-nil ρ
concat_snoc (σ ∷ ρs) ρ = ap (λ (l : List ℕ). σ ++ l) (concat_snoc ρs ρ) ∙ sym (append_assoc σ (concat ρs) ρ)

concat_read : (ρs : List (List ℕ)) (k : ℕ) {ρ : List ℕ} (j : ℕ) → Even ρs → at ρs k ≡ some ρ → j < 64
    → (get_or (concat ρs) (k * 64 + j) 0 ≡ get_or ρ j 0) × (suc k ≤ length ρs)
concat_read [] k j h e l = not_there e
concat_read (σ ∷ ρs) zero {ρ = ρ} j h e l =
    let s : σ ≡ ρ = cc in
    (ap (λ (n : ℕ). get_or (σ ++ concat ρs) n 0) (zero_plus j) ∙ (get_or-append σ (concat ρs) 0 j (omega (arith, h.0)) ∙ ap (λ (r : List ℕ). get_or r j 0) s), omega arith)
  where
    zero_plus : (n : ℕ) → 0 + n ≡ n
    zero_plus n = omega arith
concat_read (σ ∷ ρs) (suc k) j h e l =
    let i = concat_read ρs k j h.1 e l in
    (ap (λ (n : ℕ). get_or (σ ++ concat ρs) n 0) (next (length σ) k j h.0) ∙ (get_or-append-add σ (concat ρs) (k * 64 + j) 0 ∙ i.0), omega (arith, i.1))
  where
    next : (n k j : ℕ) → n ≡ 64 → suc k * 64 + j ≡ n + (k * 64 + j)
    next n k j e = omega arith

even_entries : (γs : List (List ℕ)) → Even (entry_rows γs)
even_entries [] = tt
even_entries (γ ∷ γs) = (row-length 0 255 0 γ [], even_entries γs)

even_rows : (rs : List Rule) (γs : List (List ℕ)) → Even (item_rows rs γs)
even_rows [] γs = even_entries γs
even_rows (r ∷ rs) γs = (row-length r.left (length r.before) (unit_of r.unit) (right r) (starts_of r), even_rows rs γs)

entries_count : (γs : List (List ℕ)) → length (entry_rows γs) ≡ length γs
entries_count [] = refl
entries_count (γ ∷ γs) = ap suc (entries_count γs)

rows_count : (rs : List Rule) (γs : List (List ℕ)) → length (item_rows rs γs) ≡ length rs + length γs
rows_count [] γs = omega (arith, entries_count γs)
rows_count (r ∷ rs) γs = omega (arith, rows_count rs γs)

rows_rule : (rs : List Rule) (r : Rule) → item_rows (rs ++ r ∷ []) [] ≡ item_rows rs [] ++ row_of r ∷ []
rows_rule [] r = refl
rows_rule (q ∷ rs) r = ap (λ (l : List (List ℕ)). row_of q ∷ l) (rows_rule rs r)

entries_entry : (γs : List (List ℕ)) (γ : List ℕ) → entry_rows (γs ++ γ ∷ []) ≡ entry_rows γs ++ entry_row γ ∷ []
entries_entry [] γ = refl
entries_entry (δ ∷ γs) γ = ap (λ (l : List (List ℕ)). entry_row δ ∷ l) (entries_entry γs γ)

rows_entry : (rs : List Rule) (γs : List (List ℕ)) (γ : List ℕ) → item_rows rs (γs ++ γ ∷ []) ≡ item_rows rs γs ++ entry_row γ ∷ []
rows_entry [] γs γ = entries_entry γs γ
rows_entry (q ∷ rs) γs γ = ap (λ (l : List (List ℕ)). row_of q ∷ l) (rows_entry rs γs γ)

at_rule : (rs : List Rule) (γs : List (List ℕ)) (k : ℕ) {r : Rule} → at rs k ≡ some r → at (item_rows rs γs) k ≡ some (row_of r)
at_rule [] γs k e = not_there e
at_rule (q ∷ rs) γs zero {r = r} e = let s : q ≡ r = cc in ap (λ (x : Rule). some (row_of x)) s
at_rule (q ∷ rs) γs (suc k) e = at_rule rs γs k e

at_entries : (γs : List (List ℕ)) (k : ℕ) {γ : List ℕ} → at γs k ≡ some γ → at (entry_rows γs) k ≡ some (entry_row γ)
at_entries [] k e = not_there e
at_entries (δ ∷ γs) zero {γ = γ} e = let s : δ ≡ γ = cc in ap (λ (x : List ℕ). some (entry_row x)) s
at_entries (δ ∷ γs) (suc k) e = at_entries γs k e

at_entry : (rs : List Rule) (γs : List (List ℕ)) (k : ℕ) {γ : List ℕ} → at γs k ≡ some γ → at (item_rows rs γs) (length rs + k) ≡ some (entry_row γ)
at_entry [] γs k {γ = γ} e = subst (λ (n : ℕ). at (entry_rows γs) n ≡ some (entry_row γ)) (zero_plus k) (at_entries γs k e)
  where
    zero_plus : (n : ℕ) → n ≡ 0 + n
    zero_plus n = omega arith
at_entry (q ∷ rs) γs k {γ = γ} e = subst (λ (n : ℕ). at (row_of q ∷ item_rows rs γs) n ≡ some (entry_row γ)) (next (length rs) k) (at_entry rs γs k e)
  where
    next : (m n : ℕ) → suc (m + n) ≡ suc m + n
    next m n = omega arith

-- ---- the table grows
pub table_none : (size : ℕ) → item_table [] [] size ≡ replicate size 0
unfolding item_table
table_none size = refl

grows : (ρs : List (List ℕ)) (ρ : List ℕ) (size base : ℕ) → Even ρs → base ≡ suc (length ρs) * 64
    → sets (sets (replicate size 0) 64 (concat ρs)) base ρ ≡ sets (replicate size 0) 64 (concat (ρs ++ ρ ∷ []))
grows ρs ρ size base h e =
    ap (λ (n : ℕ). sets (sets (replicate size 0) 64 (concat ρs)) n ρ) at_end
    ∙ (sym (sets_join (replicate size 0) (concat ρs) ρ 64) ∙ ap (sets (replicate size 0) 64) (sym (concat_snoc ρs ρ)))
  where
    at_end : base ≡ 64 + length (concat ρs)
    at_end = omega (arith, e, concat-length ρs h)

pub table_rule : (rs : List Rule) (r : Rule) (size base : ℕ) → base ≡ suc (length rs) * 64
    → sets (item_table rs [] size) base (row_of r) ≡ item_table (rs ++ r ∷ []) [] size
unfolding item_table
table_rule rs r size base e =
    grows (item_rows rs []) (row_of r) size base (even_rows rs []) (omega (arith, e, rows_count rs []))
    ∙ ap (λ (l : List (List ℕ)). sets (replicate size 0) 64 (concat l)) (sym (rows_rule rs r))

pub table_entry : (rs : List Rule) (γs : List (List ℕ)) (γ : List ℕ) (size base : ℕ) → base ≡ suc (length rs + length γs) * 64
    → sets (item_table rs γs size) base (entry_row γ) ≡ item_table rs (γs ++ γ ∷ []) size
unfolding item_table
table_entry rs γs γ size base e =
    grows (item_rows rs γs) (entry_row γ) size base (even_rows rs γs) (omega (arith, e, rows_count rs γs))
    ∙ ap (λ (l : List (List ℕ)). sets (replicate size 0) 64 (concat l)) (sym (rows_entry rs γs γ))

-- ---- the table is read
pub table_length : (rs : List Rule) (γs : List (List ℕ)) (size : ℕ) → length (item_table rs γs size) ≡ size
unfolding item_table
table_length rs γs size = length-sets (replicate size 0) 64 (concat (item_rows rs γs)) ∙ length-replicate {A = ℕ} size 0

-- row 0 is empty, and so is what stands behind the last row
pub table_front : (rs : List Rule) (γs : List (List ℕ)) (size j : ℕ) → j < 64 → get_or (item_table rs γs size) j 0 ≡ 0
unfolding item_table
table_front rs γs size j h = read_below (replicate size 0) (concat (item_rows rs γs)) 64 j h ∙ read_zeros size j

pub table_behind : (rs : List Rule) (γs : List (List ℕ)) (size j : ℕ) → suc (length rs + length γs) * 64 ≤ j → get_or (item_table rs γs size) j 0 ≡ 0
unfolding item_table
table_behind rs γs size j h =
    read_above (replicate size 0) (concat (item_rows rs γs)) 64 j (omega (arith, h, concat-length (item_rows rs γs) (even_rows rs γs), rows_count rs γs)) ∙ read_zeros size j

read_row : (ρs : List (List ℕ)) (size k : ℕ) {ρ : List ℕ} (j : ℕ) → Even ρs → at ρs k ≡ some ρ → suc (length ρs) * 64 ≤ size → j < 64
    → get_or (sets (replicate size 0) 64 (concat ρs)) (suc k * 64 + j) 0 ≡ get_or ρ j 0
read_row ρs size k j h e room l =
    let i = concat_read ρs k j h e l in
    let lk : suc k ≤ length ρs = i.1 in
    ap (λ (n : ℕ). get_or (sets (replicate size 0) 64 (concat ρs)) n 0) (group k j)
    ∙ (read_inside (replicate size 0) (concat ρs) 64 (k * 64 + j) (omega (arith, concat-length ρs h)) (omega (arith, length-replicate {A = ℕ} size 0)) ∙ i.0)
  where
    group : (k j : ℕ) → suc k * 64 + j ≡ 64 + (k * 64 + j)
    group k j = omega arith

pub table_read_rule : (rs : List Rule) (γs : List (List ℕ)) (size k : ℕ) {r : Rule} (j : ℕ) → at rs k ≡ some r → suc (length rs + length γs) * 64 ≤ size → j < 64
    → get_or (item_table rs γs size) (suc k * 64 + j) 0 ≡ get_or (row_of r) j 0
unfolding item_table
table_read_rule rs γs size k j e room l = read_row (item_rows rs γs) size k j (even_rows rs γs) (at_rule rs γs k e) (omega (arith, room, rows_count rs γs)) l

pub table_read_entry : (rs : List Rule) (γs : List (List ℕ)) (size k : ℕ) {γ : List ℕ} (j : ℕ) → at γs k ≡ some γ → suc (length rs + length γs) * 64 ≤ size → j < 64
    → get_or (item_table rs γs size) (suc (length rs + k) * 64 + j) 0 ≡ get_or (entry_row γ) j 0
unfolding item_table
table_read_entry rs γs size k j e room l = read_row (item_rows rs γs) size (length rs + k) j (even_rows rs γs) (at_entry rs γs k e) (omega (arith, room, rows_count rs γs)) l
