-- A number that is read is spelled by its digits, its digits are read as that number, and a leading zero is torn. A letter that is read is
-- one of A to Z, spelled as itself, and each of them is read so.
use Prim.Native.Nat.{ℕ, zero, suc, ◌+◌, ◌-◌, ◌*◌, ◌/◌, ◌%◌, ◌≤◌}
use mathlib.Core.Path.{◌≡◌, refl, sym, ap, subst, ◌∙◌}
use mathlib.Core.List.{List, [], ◌∷◌, ◌++◌}
use mathlib.Core.Bool.{Bool, true, false, cond}
use native.Mathlib.Decide.{dec_le}
use native.Mathlib.Omega.{arith}
use borrow.Author.Tests.{eqb-true, eqb-false}
use lib.Dec.{eqb}
use lib.ListN.{length, drop, length-append}
use lib.Seq.{append_snoc}
use Rattle.range.specs.Range.{within}
use Rattle.range.proofs.RangeLaws.{true-within}
use Rattle.text.specs.declared.Cursor.{Cursor}
use Rattle.text.specs.declared.Class.{Class}
use Rattle.text.specs.declared.Class.TheVariants as class
use Rattle.text.specs.declared.Field.{Field}
use Rattle.text.specs.declared.Field.TheVariants as field
use Rattle.text.specs.Digits.{digits}
use Rattle.text.specs.Field.{class_of, end_of, add_digit, closed, on_digit, digits_from, by_class, field_of, field_at}
use Rattle.text.specs.Promise.{ending, Spelled, NumberPromise}
use Rattle.text.proofs.ClassLaws.{class_digit, class_letter, digit_range, letter_range}
use Rattle.text.proofs.DigitsLaws.{digits_one, digits_more}
use Rattle.text.proofs.FieldLaws.{first_digit}
use Rattle.text.proofs.NumberLaws.{as_digits, zero_field, Of, of_each, of_closed}
use Rattle.text.proofs.SpellLaws.{Spells, spells_behind, spells_as, end_spells, spelled}

-- ---- the digits of a number, of which u was read before `at`
abbrev Grows : List ℕ → ℕ → ℕ → ℕ → Cursor → Type 0
Grows l at u v d = (u ≤ v) × (v ≤ 65535 → (from : ℕ) → at ≡ from + length (digits u) → Spells (digits u ++ l) from (digits v) d)

grown : (u b : ℕ) → 1 ≤ u * 10 + (b - 48) → (1 ≤ add_digit u b) × (add_digit u b ≤ 65536)
unfolding add_digit
grown u b h = (omega arith, omega arith)

-- by one digit
grows_on : (b : ℕ) (l : List ℕ) (at u : ℕ) → 1 ≤ u → u ≤ 65536 → 48 ≤ b → b ≤ 57 → (v : ℕ) (d : Cursor)
    → Grows l (at + 1) (add_digit u b) v d → Grows (b ∷ l) at u v d
unfolding add_digit
grows_on b l at u some most low high v d h = (
  omega (arith, h.0),
  λ m from e.
      let g : digits (add_digit u b) ≡ digits u ++ b ∷ [] = digits_more u b (add_digit u b) some (omega (arith, h.0)) low high (omega (arith, h.0)) in
      spells_as (ap (λ (w : List ℕ). w ++ l) g ∙ append_snoc (digits u) b l) refl
      (h.1 m from (omega (arith, e, ap length g, length-append (digits u) (b ∷ [])))),
)

digits_grow : (L : ℕ → Cursor → Type 0) (l : List ℕ) (at u : ℕ) → 1 ≤ u → u ≤ 65536 → Of (Grows l at u) L (digits_from l at u)
unfolding digits_from
digits_grow L [] at u some most = tt
digits_grow L (b ∷ l) at u some most = go (class_of b) refl (λ p q. digits_grow L l (at + 1) (add_digit u b) p q)
  where
    over : Of (Grows (b ∷ l) at u) L (closed (field.Number u) (end_of (b ∷ l) at))
    over = of_closed (Grows (b ∷ l) at u) L (field.Number u) (end_of (b ∷ l) at) (λ d h. (omega arith, λ m from e. spells_behind (digits u) e (end_spells (b ∷ l) at h)))

    go : (k : Class) → class_of b ≡ k
        → (1 ≤ add_digit u b → add_digit u b ≤ 65536 → Of (Grows l (at + 1) (add_digit u b)) L (digits_from l (at + 1) (add_digit u b)))
        → Of (Grows (b ∷ l) at u) L (on_digit k (digits_from l (at + 1) (add_digit u b)) (closed (field.Number u) (end_of (b ∷ l) at)))
    go class.Digit e h =
        let r = digit_range b e in
        let g = grown u b (omega arith) in
        of_each (grows_on b l at u some most r.0 r.1) (λ c d p. p) (digits_from l (at + 1) (add_digit u b)) (h g.0 g.1)
    go class.Letter e h = over
    go class.Mark e h = over
    go class.Other e h = over

-- ---- a field
abbrev Written : List ℕ → ℕ → ℕ → Cursor → Type 0
Written l at v d = v ≤ 65535 → Spells l at (digits v) d

abbrev Lettered : List ℕ → ℕ → ℕ → Cursor → Type 0
Lettered l at b d = ((65 ≤ b) × (b ≤ 90)) × Spells l at (b ∷ []) d

abbrev FieldSpells : List ℕ → ℕ → Field → Type 0
FieldSpells l at f = Of (Written l at) (Lettered l at) f

-- a first digit that is not 0
begins : (b : ℕ) (l : List ℕ) (at : ℕ) → 48 ≤ b → b ≤ 57 → (v : ℕ) (d : Cursor) → Grows l (at + 1) (add_digit 0 b) v d → Written (b ∷ l) at v d
unfolding add_digit
begins b l at low high v d h m =
    let g : digits (add_digit 0 b) ≡ b ∷ [] = digits_one (add_digit 0 b) (omega arith) ∙ ap (λ (x : ℕ). x ∷ []) (omega arith) in
    spells_as (ap (λ (w : List ℕ). w ++ l) g) refl (h.1 m at (omega (arith, ap length g)))

class_written : (k : Class) (b : ℕ) (l : List ℕ) (at : ℕ) → class_of b ≡ k → (b ≡ 48 → ⊥) → FieldSpells (b ∷ l) at (by_class k b l at)
unfolding digits_from
class_written class.Digit b l at k z =
    let r = digit_range b k in
    let g = grown 0 b (omega (arith, r.0, z)) in
    as_digits (FieldSpells (b ∷ l) at) tt at b l
    (simp k (of_each (begins b l at r.0 r.1) (λ c d p. p) (digits_from l (at + 1) (add_digit 0 b)) (digits_grow (Lettered (b ∷ l) at) l (at + 1) (add_digit 0 b) g.0 g.1)))
class_written class.Letter b l at k z =
    of_closed (Written (b ∷ l) at) (Lettered (b ∷ l) at) (field.Letter b) (end_of l (at + 1))
    (λ d h. (letter_range b k, spells_behind (b ∷ []) (omega arith) (end_spells l (at + 1) h)))
class_written class.Mark b l at k z = of_closed (Written (b ∷ l) at) (Lettered (b ∷ l) at) (field.Mark b) (end_of l (at + 1)) (λ d h. tt)
class_written class.Other b l at k z = tt

-- a first digit that is 0
zero_written : (l : List ℕ) (at : ℕ) → FieldSpells (48 ∷ l) at (field_of (48 ∷ l) at)
zero_written l at =
    zero_field (FieldSpells (48 ∷ l) at) tt at l
    (λ d h m. spells_as refl (sym (digits_one 0 (omega arith))) (spells_behind (48 ∷ []) (omega arith) (end_spells l (at + 1) h)))

field_written : (l : List ℕ) (at : ℕ) → FieldSpells l at (field_of l at)
field_written [] at = tt
field_written (b ∷ l) at = go (eqb b 48) refl
  where
    go : (t : Bool) → eqb b 48 ≡ t → FieldSpells (b ∷ l) at (field_of (b ∷ l) at)
    go true e = subst (λ (x : ℕ). FieldSpells (x ∷ l) at (field_of (x ∷ l) at)) (sym (eqb-true b 48 e)) (zero_written l at)
    go false e = class_written (class_of b) b l at refl (eqb-false b 48 e)

-- ---- digits are read as their number
module _ (l : List ℕ) where
  digit_on : (b n v w : ℕ) → 48 ≤ b → b ≤ 57 → w ≤ 65535 → w ≡ v * 10 + (b - 48) → digits_from (b ∷ l) n v ≡ digits_from l (n + 1) w
  unfolding digits_from add_digit
  digit_on b n v w low high m e = simp (class_digit b low high) (ap (digits_from l (n + 1)) (omega arith))

  one_digit : (at v : ℕ) → 1 ≤ v → v ≤ 9 → field_of ((48 + v) ∷ l) at ≡ digits_from l (at + 1) v
  one_digit at v some few = first_digit (48 + v) l at (omega arith) (omega arith) ∙ ap (digits_from l (at + 1)) (omega arith)

-- by induction over v / 10; k bounds it
digits_read : (k v : ℕ) → v ≤ k → 1 ≤ v → v ≤ 65535 → (l : List ℕ) (at : ℕ) → field_of (digits v ++ l) at ≡ digits_from l (at + length (digits v)) v
digits_read zero v h some m l at = absurd (omega arith)
digits_read (suc k) v h some m l at = go (dec_le v 9) (λ n. digits_read k (v / 10) (omega arith) (omega arith) (omega arith) ((48 + v % 10) ∷ l) at)
  where
    go : Dec (v ≤ 9) → (10 ≤ v → field_of (digits (v / 10) ++ (48 + v % 10) ∷ l) at ≡ digits_from ((48 + v % 10) ∷ l) (at + length (digits (v / 10))) (v / 10))
        → field_of (digits v ++ l) at ≡ digits_from l (at + length (digits v)) v
    go (yes n) r = rw (digits_one v n) (one_digit l at v some n)
    go (no n) r =
        let e = digits_more (v / 10) (48 + v % 10) v (omega arith) (omega arith) (omega arith) (omega arith) (omega arith) in
        ap (λ (w : List ℕ). field_of w at) (ap (λ (w : List ℕ). w ++ l) e ∙ append_snoc (digits (v / 10)) (48 + v % 10) l)
        ∙ (r (omega arith)
        ∙ (digit_on l (48 + v % 10) (at + length (digits (v / 10))) (v / 10) v (omega arith) (omega arith) m (omega arith)
        ∙ ap (λ (n : ℕ). digits_from l n v) (omega (arith, ap length e, length-append (digits (v / 10)) ((48 + v % 10) ∷ [])))))

-- and the byte that ends the field
number_ends : (t : Bool) (l : List ℕ) (at v : ℕ) → digits_from (ending t ∷ l) at v ≡ field.Number v (record { at = at + 1; ended = t })
unfolding digits_from end_of class_of within
number_ends true l at v = refl
number_ends false l at v = refl

zero_ends : (t : Bool) (l : List ℕ) (at : ℕ) → field_of (digits 0 ++ ending t ∷ l) at ≡ field.Number 0 (record { at = at + length (digits 0) + 1; ended = t })
unfolding digits_from add_digit end_of class_of within
zero_ends true l at = rw (digits_one 0 (omega arith)) refl
zero_ends false l at = rw (digits_one 0 (omega arith)) refl

number_at : (v : ℕ) → v ≤ 65535 → (t : Bool) (l : List ℕ) (at : ℕ) → field_of (digits v ++ ending t ∷ l) at ≡ field.Number v (record { at = at + length (digits v) + 1; ended = t })
number_at zero m t l at = zero_ends t l at
number_at (suc v) m t l at = digits_read (suc v) (suc v) (omega arith) (omega arith) m (ending t ∷ l) at ∙ number_ends t l (at + length (digits (suc v))) (suc v)

-- ---- a letter, and the byte that ends the field
letter_ends : (t : Bool) (b : ℕ) (l : List ℕ) (at : ℕ) → 65 ≤ b → b ≤ 90
    → field_of (b ∷ ending t ∷ l) at ≡ field.Letter b (record { at = at + 1 + 1; ended = t })
unfolding end_of
letter_ends true b l at low high = simp (class_letter b low high)
letter_ends false b l at low high = simp (class_letter b low high)

-- ---- a digit after a first 0
zero_torn : (b : ℕ) (l : List ℕ) (at : ℕ) → class_of b ≡ class.Digit → field_of (48 ∷ b ∷ l) at ≡ field.Broken
zero_torn b l at e = let r = digit_range b e in simp (class_digit 48 (omega arith) (omega arith), true-within 48 b 57 r.0 r.1)

-- ---- the field at a cursor
module _ (s : List ℕ) (c : Cursor) where
  abbrev SpelledHere : Field → Type 0
  SpelledHere f = Of (λ v d. v ≤ 65535 → Spelled s c (digits v) d) (λ b d. ((65 ≤ b) × (b ≤ 90)) × Spelled s c (b ∷ []) d) f

  spelled_here : SpelledHere (field_at s c)
  unfolding field_at
  spelled_here = go c.ended refl
    where
      go : (t : Bool) → c.ended ≡ t → SpelledHere (cond t field.Broken (field_of (drop c.at s) c.at))
      go true e = tt
      go false e =
          of_each (λ v d h m. spelled s c e (h m)) (λ b d h. (h.0, spelled s c e h.1)) (field_of (drop c.at s) c.at)
          (field_written (drop c.at s) c.at)

  pub number_written : (v : ℕ) (d : Cursor) → v ≤ 65535 → field_at s c ≡ field.Number v d → Spelled s c (digits v) d
  number_written v d m e = subst SpelledHere e spelled_here m

  pub letter_written : (b : ℕ) (d : Cursor) → field_at s c ≡ field.Letter b d → ((65 ≤ b) × (b ≤ 90)) × Spelled s c (b ∷ []) d
  letter_written b d e = subst SpelledHere e spelled_here

  pub written_number : (v : ℕ) (d : Cursor) → v ≤ 65535 → Spelled s c (digits v) d → field_at s c ≡ field.Number v d
  unfolding field_at
  written_number v d m h =
      simp h.going
      (ap (λ (l : List ℕ). field_of l c.at) h.bytes
      ∙ (number_at v m d.ended (drop d.at s) c.at ∙ ap (λ (n : ℕ). field.Number v (record { at = n; ended = d.ended })) (sym h.place)))

  pub written_letter : (b : ℕ) (d : Cursor) → 65 ≤ b → b ≤ 90 → Spelled s c (b ∷ []) d → field_at s c ≡ field.Letter b d
  unfolding field_at
  written_letter b d low high h =
      simp h.going
      (ap (λ (l : List ℕ). field_of l c.at) h.bytes
      ∙ (letter_ends d.ended b (drop d.at s) c.at low high
      ∙ ap (λ (n : ℕ). field.Letter b (record { at = n; ended = d.ended })) (omega (arith, h.place))))

  leading_zero : (b : ℕ) (l : List ℕ) → drop c.at s ≡ 48 ∷ b ∷ l → class_of b ≡ class.Digit → field_at s c ≡ field.Broken
  unfolding field_at
  leading_zero b l e k = go c.ended
    where
      go : (t : Bool) → cond t field.Broken (field_of (drop c.at s) c.at) ≡ field.Broken
      go true = refl
      go false = ap (λ (w : List ℕ). field_of w c.at) e ∙ zero_torn b l c.at k

pub number_promise : NumberPromise
number_promise s c = record {
  number_written = number_written s c;
  written_number = written_number s c;
  leading_zero = leading_zero s c;
}
