-- One more entry line in memory.
use Prim.Native.Nat.{ℕ, zero, suc, ◌+◌, ◌*◌, ◌≤◌, ◌<◌}
use mathlib.Core.Path.{◌≡◌, refl, sym, ap, ◌∙◌}
use mathlib.Core.List.{List, [], ◌∷◌, ◌++◌, append-nil, append_assoc}
use mathlib.Core.Bool.{Bool, true, false, ◌||◌}
use mathlib.Core.Option.{some, none}
use native.Mathlib.Decide.{dec_lt, dec_le}
use native.Mathlib.Omega.{arith}
use borrow.Author.Tests.{eq-eqb, ne_eqb}
use lib.Dec.{eqb}
use lib.ListN.{length, get_or, set, length-append}
use lib.Seq.{sets, length-sets}
use Rattle.language.specs.Grammar.{at, concat}
use Rattle.leftcorner.specs.Table.{EntryLine, E}
use Rattle.items.specs.Layout.{entry_row, entry_rows, RowIs, EntryIn, Shaped, length_at, left_at, symbol_at}
use Rattle.items.proofs.StoreLaws.{sets_join, read_below, read_above, read_inside}
use Rattle.items.proofs.BuildLaws.{row-length}
use Rattle.items.proofs.LayoutLaws.{row_is, Fits}
use Rattle.table_lines.specs.Image.{flag}
use Rattle.table_lines.proofs.ImageLaws.{image-set}
use Rattle.table_lines.proofs.ListLaws.{at_last, at_front, at_behind}
use Rattle.table_entries.specs.Memory.{strings_of, state_at, is_entry_state, with_entries, EntryMemory}

-- ---- the rows of the entries, one after the other
entries_snoc : (l : List EntryLine) (s : ℕ) (γ : List ℕ)
    → concat (entry_rows (strings_of (l ++ E s γ ∷ []))) ≡ concat (entry_rows (strings_of l)) ++ entry_row γ
entries_snoc [] s γ = append-nil (entry_row γ)
entries_snoc (E q δ ∷ l) s γ = ap (λ (r : List ℕ). entry_row δ ++ r) (entries_snoc l s γ) ∙ sym (append_assoc (entry_row δ) (concat (entry_rows (strings_of l))) (entry_row γ))

pub entries_length : (l : List EntryLine) → length (concat (entry_rows (strings_of l))) ≡ length l * 64
entries_length [] = refl
entries_length (E q δ ∷ l) = length-append (entry_row δ) (concat (entry_rows (strings_of l))) ∙ omega (arith, row-length 0 255 0 δ [], entries_length l)

pub with_more : (m : List ℕ) (rules : ℕ) (l : List EntryLine) (s : ℕ) (γ : List ℕ) (base : ℕ) → base ≡ (rules + length l + 1) * 64
    → sets (with_entries m rules l) base (entry_row γ) ≡ with_entries m rules (l ++ E s γ ∷ [])
unfolding with_entries
with_more m rules l s γ base e =
    ap (λ (n : ℕ). sets (sets m (suc rules * 64) (concat (entry_rows (strings_of l)))) n (entry_row γ)) at_end
    ∙ (sym (sets_join m (concat (entry_rows (strings_of l))) (entry_row γ) (suc rules * 64)) ∙ ap (sets m (suc rules * 64)) (sym (entries_snoc l s γ)))
  where
    at_end : base ≡ suc rules * 64 + length (concat (entry_rows (strings_of l)))
    at_end = omega (arith, e, entries_length l)

-- ---- a row stored behind row i
module _ (m ρ : List ℕ) (i base : ℕ) (behind : i * 64 + 64 ≤ base) where
  kept : (j : ℕ) → j < 64 → get_or (sets m base ρ) (i * 64 + j) 0 ≡ get_or m (i * 64 + j) 0
  kept j l = read_below m ρ base (i * 64 + j) (omega arith)

  pub left_kept : left_at (sets m base ρ) i ≡ left_at m i
  left_kept = read_below m ρ base (i * 64) (omega arith)

  pub length_kept : length_at (sets m base ρ) i ≡ length_at m i
  length_kept = kept 1 (omega arith)

  pub symbol_kept : (k : ℕ) → k < 15 → symbol_at (sets m base ρ) i k ≡ symbol_at m i k
  symbol_kept k l = read_below m ρ base (i * 64 + 16 + k) (omega arith)

  pub row_kept : {left mark unit : ℕ} {α φ : List ℕ} → RowIs m i left mark unit α φ → RowIs (sets m base ρ) i left mark unit α φ
  row_kept r = record {
    left_is = left_kept ∙ r.left_is;
    length_is = length_kept ∙ r.length_is;
    mark_is = kept 2 (omega arith) ∙ r.mark_is;
    unit_is = kept 3 (omega arith) ∙ r.unit_is;
    symbol_is = λ k l. symbol_kept k l ∙ r.symbol_is k l;
    start_is = λ k l. read_below m ρ base (i * 64 + 32 + k) (omega arith) ∙ r.start_is k l;
  }

-- the row that was stored
pub row_new : (m : List ℕ) (i base : ℕ) (γ : List ℕ) → base ≡ i * 64 → base + 64 ≤ length m → length γ ≤ 15 → EntryIn (sets m base (entry_row γ)) i γ
row_new m i base γ e room short = row_is 0 255 0 γ [] (sets m base (entry_row γ)) i (omega arith) same
  where
    same : (j : ℕ) → j < 64 → get_or (sets m base (entry_row γ)) (i * 64 + j) 0 ≡ get_or (entry_row γ) j 0
    same j l =
        ap (λ (n : ℕ). get_or (sets m base (entry_row γ)) (n + j) 0) (sym e)
        ∙ read_inside m (entry_row γ) base j (omega (arith, row-length 0 255 0 γ [])) (omega arith)

module _ (m : List ℕ) (n base : ℕ) (γ : List ℕ) (e : base ≡ (n + 1) * 64) (room : n * 64 + 128 ≤ length m) (fits : Fits γ) where
  pub shaped_more : Shaped m n → Shaped (sets m base (entry_row γ)) (n + 1)
  shaped_more h = record {
    room = omega (arith, room, length-sets m base (entry_row γ));
    lengths = λ i l. go i l (dec_le i n);
    lefts = λ i l. left i l (dec_le i n);
    symbols = λ i k l b. symbol i k l b (dec_le i n);
  }
    where
      new : EntryIn (sets m base (entry_row γ)) (n + 1) γ
      new = row_new m (n + 1) base γ e (omega arith) fits.0

      last : (i : ℕ) → i ≤ n + 1 → (i ≤ n → ⊥) → i ≡ n + 1
      last i l f = omega arith

      go : (i : ℕ) → i ≤ n + 1 → Dec (i ≤ n) → length_at (sets m base (entry_row γ)) i ≤ 15
      go i l (yes b) = omega (arith, length_kept m (entry_row γ) i base (omega arith), h.lengths i b)
      go i l (no f) = rw (last i l f) (omega (arith, new.length_is, fits.0))

      left : (i : ℕ) → i ≤ n + 1 → Dec (i ≤ n) → left_at (sets m base (entry_row γ)) i < 128
      left i l (yes b) = omega (arith, left_kept m (entry_row γ) i base (omega arith), h.lefts i b)
      left i l (no f) = rw (last i l f) (omega (arith, new.left_is))

      symbol : (i k : ℕ) → i ≤ n + 1 → k < 15 → Dec (i ≤ n) → symbol_at (sets m base (entry_row γ)) i k < 128
      symbol i k l b (yes c) = omega (arith, symbol_kept m (entry_row γ) i base (omega arith) k b, h.symbols i k c b)
      symbol i k l b (no f) = rw (last i l f) (omega (arith, new.symbol_is k b, fits.1 k))

-- ---- entry states and named states
named_snoc : (l : List EntryLine) (s : ℕ) (γ : List ℕ) (q : ℕ) → is_entry_state (l ++ E s γ ∷ []) q ≡ is_entry_state l q || eqb s q
named_snoc [] s γ q = or_false (eqb s q)
  where
    or_false : (b : Bool) → b || false ≡ b
    or_false true = refl
    or_false false = refl
named_snoc (E p δ ∷ l) s γ q = ap (λ (b : Bool). eqb p q || b) (named_snoc l s γ q) ∙ or_assoc (eqb p q) (is_entry_state l q) (eqb s q)
  where
    or_assoc : (a b c : Bool) → a || (b || c) ≡ a || b || c
    or_assoc true b c = refl
    or_assoc false b c = refl

or_true : (b : Bool) → b || true ≡ true
or_true true = refl
or_true false = refl

or_false : (b : Bool) → b || false ≡ b
or_false true = refl
or_false false = refl

module _ (l : List EntryLine) (s : ℕ) (γ : List ℕ) where
  named_here : flag (is_entry_state (l ++ E s γ ∷ []) s) ≡ 1
  named_here = ap flag (named_snoc l s γ s ∙ (ap (λ (b : Bool). is_entry_state l s || b) (eq-eqb s s refl) ∙ or_true (is_entry_state l s)))

  named_other : (q : ℕ) → (q ≡ s → ⊥) → flag (is_entry_state (l ++ E s γ ∷ []) q) ≡ flag (is_entry_state l q)
  named_other q f = ap flag (named_snoc l s γ q ∙ (ap (λ (b : Bool). is_entry_state l q || b) (ne_eqb s q (λ e. f (sym e))) ∙ or_false (is_entry_state l q)))

  state_here : (n : ℕ) → n ≡ length l + 1 → state_at (l ++ E s γ ∷ []) n ≡ s
  state_here zero e = absurd (omega arith)
  state_here (suc k) e = rw (let q : k ≡ length l = omega arith in q) (rw (at_last l (E s γ)) refl)

  state_other : (n : ℕ) → (n ≡ length l + 1 → ⊥) → state_at (l ++ E s γ ∷ []) n ≡ state_at l n
  state_other zero f = refl
  state_other (suc k) f = rw (at_front l (E s γ) k (λ e. f (omega arith))) refl

-- ---- all of it
module _ {m : List ℕ} {rules a b : ℕ} {l : List EntryLine} {items states named : List ℕ} (h : EntryMemory m rules a b l items states named)
    (s : ℕ) (γ : List ℕ) (fits : Fits γ) (room : (rules + length l) * 64 + 128 ≤ length items) where
  next_count : rules + length (l ++ E s γ ∷ []) ≡ rules + length l + 1
  next_count = ap (λ (n : ℕ). rules + n) (length-append l (E s γ ∷ [])) ∙ omega arith

  module _ {items' states' named' : List ℕ} (i : items' ≡ sets items ((rules + length l + 1) * 64) (entry_row γ))
      (st : states' ≡ set states (length l + 1) s) (nm : named' ≡ set named s 1) where
    pub memory_more : EntryMemory m rules a b (l ++ E s γ ∷ []) items' states' named'
    memory_more = record {
      items_are = i ∙ (ap (λ (x : List ℕ). sets x ((rules + length l + 1) * 64) (entry_row γ)) h.items_are ∙ with_more m rules l s γ ((rules + length l + 1) * 64) refl);
      states_are = st ∙ (ap (λ (x : List ℕ). set x (length l + 1) s) h.states_are
          ∙ image-set a (state_at l) (state_at (l ++ E s γ ∷ [])) (length l + 1) s (state_here l s γ (length l + 1) refl) (state_other l s γ));
      named_are = nm ∙ (ap (λ (x : List ℕ). set x s 1) h.named_are
          ∙ image-set b (λ q. flag (is_entry_state l q)) (λ q. flag (is_entry_state (l ++ E s γ ∷ []) q)) s 1 (named_here l s γ) (named_other l s γ));
      shaped = rw (next_count, i) (shaped_more items (rules + length l) ((rules + length l + 1) * 64) γ refl room fits h.shaped);
      rows = record { row_in = λ k e. rw i (rows_at k e (dec_lt k (length l))) };
      empty = λ j q. ap (λ (x : List ℕ). get_or x j 0) i
          ∙ (read_above items (entry_row γ) ((rules + length l + 1) * 64) j (omega (arith, q, next_count, row-length 0 255 0 γ [])) ∙ h.empty j (omega (arith, q, next_count)));
    }
      where
        rows_at : (k : ℕ) {p : ℕ} {δ : List ℕ} → at (l ++ E s γ ∷ []) k ≡ some (E p δ) → Dec (k < length l)
            → EntryIn (sets items ((rules + length l + 1) * 64) (entry_row γ)) (suc (rules + k)) δ
        rows_at k {p} {δ} e (yes c) =
            row_kept items (entry_row γ) (suc (rules + k)) ((rules + length l + 1) * 64) (omega arith)
            (h.rows.row_in k (sym (at_front l (E s γ) k (λ q. omega arith)) ∙ e))
        rows_at k {p} {δ} e (no f) = go (dec_lt (length l) k)
          where
            go : Dec (length l < k) → EntryIn (sets items ((rules + length l + 1) * 64) (entry_row γ)) (suc (rules + k)) δ
            go (yes c) = let z : none ≡ some (E p δ) = sym (at_behind l k c) ∙ (sym (at_front l (E s γ) k (λ q. omega arith)) ∙ e) in let y : ◌≡◌ {A = ℕ} 0 1 = cc in absurd (omega arith)
            go (no c) =
                let q : k ≡ length l = omega arith in
                let w : some (E s γ) ≡ some (E p δ) = sym (at_last l (E s γ)) ∙ (ap (λ (n : ℕ). at (l ++ E s γ ∷ []) n) (sym q) ∙ e) in
                let d : γ ≡ δ = cc in
                rw (← d, q) (row_new items (suc (rules + length l)) ((rules + length l + 1) * 64) γ (omega arith) (omega arith) fits.0)
