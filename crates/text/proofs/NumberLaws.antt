-- How a number goes on at the next byte, and what holds of a field where it is a number or a letter.
use Prim.Native.Nat.{ℕ, ◌+◌, ◌<◌, ◌≤◌}
use mathlib.Core.Path.{◌≡◌, refl, sym, subst}
use mathlib.Core.Bool.{Bool, true, false, cond}
use mathlib.Core.List.{List, [], ◌∷◌}
use native.Mathlib.Omega.{arith}
use borrow.Author.Tests.{ne_eqb}
use lib.ListN.{length, get_or, drop}
use Rattle.range.specs.Range.{within}
use Rattle.range.proofs.RangeLaws.{within-true}
use Rattle.text.specs.declared.Cursor.{Cursor}
use Rattle.text.specs.declared.Class.TheVariants as class
use Rattle.text.specs.declared.End.{End}
use Rattle.text.specs.declared.End.TheVariants.{Past, Missing}
use Rattle.text.specs.declared.Field.{Field}
use Rattle.text.specs.declared.Field.TheVariants as field
use Rattle.text.specs.Field.{class_of, end_of, add_digit, closed, digits_from, padded, by_class, field_of}
use Rattle.text.proofs.Bytes.{here, past}
use Rattle.text.proofs.ClassLaws.{class_digit, no_digit, outside}

module _ (s : List ℕ) (i v : ℕ) where
  pub none_left : length s ≤ i → digits_from (drop i s) i v ≡ field.Broken
  unfolding digits_from
  none_left h = simp (past s i h)

  module _ (h : i < length s) where
    pub one_more : 48 ≤ get_or s i 0 → get_or s i 0 ≤ 57 → digits_from (drop i s) i v ≡ digits_from (drop (i + 1) s) (i + 1) (add_digit v (get_or s i 0))
    unfolding digits_from
    one_more l m = simp (here s i h, class_digit (get_or s i 0) l m)

    pub no_more : (48 ≤ get_or s i 0 → get_or s i 0 ≤ 57 → ⊥) → digits_from (drop i s) i v ≡ closed (field.Number v) (end_of (drop i s) i)
    unfolding digits_from
    no_more n = rw (here s i h) (no_digit (get_or s i 0) n _ _)

-- ---- a field that begins with a digit is its digits, or torn
pub as_digits : (P : Field → Type 0) → P field.Broken → (at b : ℕ) (l : List ℕ) → P (digits_from (b ∷ l) at 0) → P (by_class class.Digit b l at)
as_digits P torn at b l h = go (padded (b ∷ l))
  where
    go : (t : Bool) → P (cond t field.Broken (digits_from (b ∷ l) at 0))
    go true = torn
    go false = h

-- one that begins with `0` is 0, and ends after it, or torn
pub zero_alone : (l : List ℕ) (at : ℕ) → by_class class.Digit 48 l at ≡ closed (field.Number 0) (end_of l (at + 1))
unfolding digits_from add_digit end_of class_of within
zero_alone [] at = refl
zero_alone (x ∷ l) at = go (within 48 x 57) refl
  where
    go : (t : Bool) → within 48 x 57 ≡ t → cond t field.Broken (digits_from (48 ∷ x ∷ l) at 0) ≡ closed (field.Number 0) (end_of (x ∷ l) (at + 1))
    go true e = let r = within-true 48 x 57 e in simp (ne_eqb x 44 (λ q. omega (arith, r.0)), ne_eqb x 10 (λ q. omega (arith, r.0)))
    go false e = no_digit x (outside 48 x 57 e) _ _

pub zero_field : (P : Field → Type 0) → P field.Broken → (at : ℕ) (l : List ℕ) → ((d : Cursor) → end_of l (at + 1) ≡ Past d → P (field.Number 0 d))
    → P (field_of (48 ∷ l) at)
unfolding class_of within
zero_field P torn at l h = subst P (sym (zero_alone l at)) (ends (end_of l (at + 1)) refl)
  where
    ends : (e : End) → end_of l (at + 1) ≡ e → P (closed (field.Number 0) e)
    ends (Past d) q = h d q
    ends Missing q = torn

-- ---- N of a field where it is a number, L where it is a letter, nothing where it is neither
abbrev pub Of : (ℕ → Cursor → Type 0) → (ℕ → Cursor → Type 0) → Field → Type 0
Of N L (field.Number v d) = N v d
Of N L (field.Letter b d) = L b d
Of N L (field.Mark b d) = Unit {0}
Of N L field.Broken = Unit {0}

abbrev pub Any : ℕ → Cursor → Type 0
Any v d = Unit {0}

abbrev pub OfNumber : (ℕ → Cursor → Type 0) → Field → Type 0
OfNumber P f = Of P Any f

pub of_any : (P : ℕ → Cursor → Type 0) → ((v : ℕ) (d : Cursor) → P v d) → (f : Field) → OfNumber P f
of_any P h (field.Number v d) = h v d
of_any P h (field.Mark b d) = tt
of_any P h (field.Letter b d) = tt
of_any P h field.Broken = tt

pub of_each : {N M L K : ℕ → Cursor → Type 0} → ((v : ℕ) (d : Cursor) → N v d → M v d) → ((b : ℕ) (d : Cursor) → L b d → K b d)
    → (f : Field) → Of N L f → Of M K f
of_each h g (field.Number v d) p = h v d p
of_each h g (field.Letter b d) p = g b d p
of_each h g (field.Mark b d) p = tt
of_each h g field.Broken p = tt

pub of_closed : (N L : ℕ → Cursor → Type 0) (f : Cursor → Field) (e : End) → ((d : Cursor) → e ≡ Past d → Of N L (f d)) → Of N L (closed f e)
of_closed N L f (Past d) h = h d refl
of_closed N L f Missing h = tt
