-- A line that was written is read as its letter and its numbers.
use Prim.Native.Nat.{ℕ, zero, suc, ◌+◌, ◌≤◌, ◌<◌}
use native.Mathlib.Omega.{arith}
use mathlib.Core.Path.{◌≡◌, refl, sym, ap, ap₂, subst, ◌∙◌}
use mathlib.Core.Bool.{Bool, true, false}
use mathlib.Core.List.{List, [], ◌∷◌, ◌++◌, append_assoc, append-nil}
use borrow.Author.Tests.{leb-true}
use lib.Dec.{leb}
use lib.ListN.{length, drop, length-append}
use lib.Seq.{drop-length, append_snoc, drop-drop, drop-append_seam}
use Rattle.language.proofs.TestLaws.{both_true}
use Rattle.text.specs.declared.End.TheVariants.{Past}
use Rattle.text.specs.declared.Field.TheVariants as field
use Rattle.text.specs.Digits.{digits}
use Rattle.text.specs.Field.{end_of, field_at}
use Rattle.text.specs.Promise.{ending}
use Rattle.text.proofs.ClassLaws.{class_letter}
use Rattle.text.proofs.Promise.{written_number}
use Rattle.digits.specs.Exact.{exact_at}
use Rattle.digits.proofs.CapLaws.{field_exact}
use Rattle.table_lines.specs.Line.{whole, broken, numbers_from, line_at, all_at_most}
use Rattle.build_book.specs.Text.{fields, line}

-- w is what s has from `at` on; so w and s give the place
pub record Rest (s : List ℕ) (at : ℕ) (w : List ℕ) : Type 0 where
  pub bytes : drop at s ≡ w
  pub place : at + length w ≡ length s

pub rest_all : (s : List ℕ) → Rest s 0 s
rest_all s = record { bytes = refl; place = omega arith }

pub rest_none : (s : List ℕ) → Rest s (length s) []
rest_none s = record { bytes = drop-length s; place = omega arith }

pub rest_past : (s : List ℕ) {at : ℕ} (a : List ℕ) {w : List ℕ} → Rest s at (a ++ w) → Rest s (at + length a) w
rest_past s {at} a {w} r = record {
  bytes = sym (drop-drop (length a) at s) ∙ (ap (drop (length a)) r.bytes ∙ drop-append_seam a w);
  place = omega (arith, r.place, length-append a w);
}

pub rest_same : {s w : List ℕ} {at end : ℕ} → Rest s at w → Rest s end w → at ≡ end
rest_same r q = omega (arith, r.place, q.place)

pub rest_as : {s w v : List ℕ} {at : ℕ} → w ≡ v → Rest s at w → Rest s at v
rest_as {s} {at = at} e r = subst (λ (z : List ℕ). Rest s at z) e r

-- ---- what stands after a letter or a number: a comma and the next number, or the line's LF
abbrev over : List ℕ → Bool
over [] = true
over (v ∷ vs) = false

-- past that byte
abbrev behind : List ℕ → List ℕ → List ℕ
behind [] l = l
behind (v ∷ vs) l = digits v ++ (fields vs ++ 10 ∷ l)

parted : (vs l : List ℕ) → fields vs ++ 10 ∷ l ≡ ending (over vs) ∷ behind vs l
parted [] l = refl
parted (v ∷ vs) l = ap (λ (z : List ℕ). 44 ∷ z) (append_assoc (digits v) (fields vs) (10 ∷ l))

ends : (vs l : List ℕ) (at : ℕ) → end_of (ending (over vs) ∷ behind vs l) at ≡ Past (record { at = at + 1; ended = over vs })
unfolding end_of
ends [] l at = refl
ends (v ∷ vs) l at = refl

-- ---- the fields
module _ (s : List ℕ) where
  number_past : (v : ℕ) (vs l : List ℕ) {at : ℕ} → Rest s at (behind (v ∷ vs) l) → Rest s (at + length (digits v) + 1) (behind vs l)
  number_past v vs l r = rest_past s (ending (over vs) ∷ []) (rest_as (parted vs l) (rest_past s (digits v) r))

  number_read : (v : ℕ) (vs l : List ℕ) (at : ℕ) → v ≤ 65535 → Rest s at (behind (v ∷ vs) l)
      → field_at s (record { at = at; ended = false }) ≡ field.Number v (record { at = at + length (digits v) + 1; ended = over vs })
  number_read v vs l at h r =
      written_number s _ v _ h (record {
        going = refl;
        bytes = r.bytes ∙ ap (λ (w : List ℕ). digits v ++ w) (parted vs l ∙ ap (λ (w : List ℕ). ending (over vs) ∷ w) (sym (number_past v vs l r).bytes));
        place = refl;
      })

  letter_read : (letter : ℕ) (vs l : List ℕ) (at : ℕ) → 65 ≤ letter → letter ≤ 90 → Rest s at (letter ∷ ending (over vs) ∷ behind vs l)
      → field_at s (record { at = at; ended = false }) ≡ field.Letter letter (record { at = at + 1 + 1; ended = over vs })
  unfolding field_at
  letter_read letter vs l at a b r = simp (r.bytes, class_letter letter a b, ends vs l (at + 1))

  -- ---- the numbers of a line, and a line
  numbers_read : (letter k : ℕ) (vs l ns : List ℕ) (at : ℕ) {end : ℕ} → length (behind vs l) < k → all_at_most 65535 vs ≡ true → Rest s at (behind vs l) → Rest s end l
      → numbers_from k s letter (record { at = at; ended = over vs }) ns ≡ whole letter (ns ++ vs) end
  unfolding numbers_from
  numbers_read letter zero vs l ns at h a r q = absurd (omega arith)
  numbers_read letter (suc k) [] l ns at h a r q = ap₂ (whole letter) (sym (append-nil ns)) (rest_same r q)
  numbers_read letter (suc k) (v ∷ vs) l ns at {end} h a r q =
      let b = both_true (leb v 65535) (all_at_most 65535 vs) a in
      let p = number_past v vs l r in
      let f = number_read v vs l at (leb-true v 65535 b.0) r in
      let x : exact_at s at ≡ v = omega (arith, field_exact s (record { at = at; ended = false }) f, leb-true v 65535 b.0) in
      simp (f, x)
      (numbers_read letter k vs l (ns ++ v ∷ []) (at + length (digits v) + 1) (omega (arith, h, r.place, p.place)) b.1 p q
      ∙ ap (λ (z : List ℕ). whole letter z end) (append_snoc ns v vs))

  pub line_read : (letter : ℕ) (vs l : List ℕ) {at end : ℕ} → 65 ≤ letter → letter ≤ 90 → all_at_most 65535 vs ≡ true → Rest s at (line letter vs ++ l) → Rest s end l
      → line_at s at ≡ whole letter vs end
  unfolding line_at
  line_read letter vs l {at} a b h r q =
      let w = rest_as (ap (λ (z : List ℕ). letter ∷ z) (append_snoc (fields vs) 10 l ∙ parted vs l)) r in
      let p = rest_past s (ending (over vs) ∷ []) (rest_past s (letter ∷ []) w) in
      simp (letter_read letter vs l at a b w) (numbers_read letter (length s) vs l [] (at + 1 + 1) (omega (arith, p.place)) h p q)

  -- there is no line at the book's end
  pub no_line : (at : ℕ) → Rest s at [] → line_at s at ≡ broken
  unfolding line_at field_at
  no_line at r = simp r.bytes
