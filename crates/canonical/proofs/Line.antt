-- A line that is read is, byte for byte, the line that its letter and its numbers are written as.
use Prim.Native.Nat.{ℕ, zero, suc, ◌<◌, ◌≤◌}
use mathlib.Core.Path.{◌≡◌, refl, sym, ap, subst, ◌∙◌}
use mathlib.Core.List.{List, [], ◌∷◌, ◌++◌, append_assoc, append-nil}
use mathlib.Core.Bool.{Bool, true, false}
use native.Mathlib.Omega.{arith}
use borrow.Author.Tests.{leb-true}
use lib.Dec.{leb}
use lib.ListN.{length, get_or, drop, drop_of_length-le}
use lib.Seq.{append_snoc, drop-cons}
use Rattle.language.proofs.TestLaws.{both_true}
use Rattle.range.proofs.TestLaws.{all_cond}
use Rattle.text.specs.declared.Cursor.{Cursor}
use Rattle.text.specs.declared.Field.TheVariants as field
use Rattle.text.specs.Digits.{digits}
use Rattle.text.specs.Field.{field_at}
use Rattle.text.specs.Promise.{ending}
use Rattle.text.proofs.ElseLaws.{all_number, all_letter}
use Rattle.text.proofs.Promise.{number_written, letter_written}
use Rattle.digits.specs.Exact.{exact_at}
use Rattle.digits.proofs.CapLaws.{field_exact}
use Rattle.table_lines.specs.Line.{TextLine, whole, broken, numbers_from, line_at, all_at_most}
use Rattle.build_book.specs.Text.{fields, line}

module _ (s : List ℕ) where
  -- a number up to 65,535 is spelled by its digits
  exact_written : (c d : Cursor) (v : ℕ) → field_at s c ≡ field.Number v d → exact_at s c.at ≤ 65535
      → drop c.at s ≡ digits (exact_at s c.at) ++ ending d.ended ∷ drop d.at s
  exact_written c d v f m =
      let q : v ≡ exact_at s c.at = omega (arith, field_exact s c f, m) in
      subst (λ (n : ℕ). drop c.at s ≡ digits n ++ ending d.ended ∷ drop d.at s) q (number_written s c v d (omega (arith, q, m)) f).bytes

  -- the numbers ms are ns and more; from the byte before c on, s has these as fields, and the line ends before `past`
  record Rest (c : Cursor) (ns ms : List ℕ) (past : ℕ) : Type 0 where
    numbers : List ℕ
    all : ms ≡ ns ++ numbers
    bytes : all_at_most 65535 numbers ≡ true → ending c.ended ∷ drop c.at s ≡ fields numbers ++ 10 ∷ drop past s

  rest_none : (c : Cursor) (ns : List ℕ) → c.ended ≡ true → Rest c ns ns c.at
  rest_none c ns e = record { numbers = []; all = sym (append-nil ns); bytes = λ m. ap (λ (b : Bool). ending b ∷ drop c.at s) e }

  rest_more : (c d : Cursor) (v : ℕ) {ns ms : List ℕ} {past : ℕ} → c.ended ≡ false → field_at s c ≡ field.Number v d
      → Rest d (ns ++ exact_at s c.at ∷ []) ms past → Rest c ns ms past
  rest_more c d v {ns} {ms} {past} e f r = record {
    numbers = exact_at s c.at ∷ r.numbers;
    all = r.all ∙ append_snoc ns (exact_at s c.at) r.numbers;
    bytes = λ m.
        let b = both_true (leb (exact_at s c.at) 65535) (all_at_most 65535 r.numbers) m in
        ap (λ (t : Bool). ending t ∷ drop c.at s) e
        ∙ ap (λ (l : List ℕ). 44 ∷ l)
        (exact_written c d v f (leb-true (exact_at s c.at) 65535 b.0)
        ∙ (ap (λ (l : List ℕ). digits (exact_at s c.at) ++ l) (r.bytes b.1)
        ∙ sym (append_assoc (digits (exact_at s c.at)) (fields r.numbers) (10 ∷ drop past s))));
  }

  -- the numbers of a line
  abbrev NumbersAre : ℕ → Cursor → List ℕ → TextLine → Type 0
  NumbersAre letter c ns (whole b ms past) = (b ≡ letter) × Rest c ns ms past
  NumbersAre letter c ns broken = Unit {0}

  numbers_are : (k letter : ℕ) (c : Cursor) (ns : List ℕ) → NumbersAre letter c ns (numbers_from k s letter c ns)
  unfolding numbers_from
  numbers_are zero letter c ns = tt
  numbers_are (suc k) letter c ns =
      all_cond (NumbersAre letter c ns) c.ended (λ e. (refl, rest_none c ns e))
      (λ e. all_number (NumbersAre letter c ns) (field_at s c)
      (λ v d f. more (numbers_from k s letter d (ns ++ exact_at s c.at ∷ [])) v d e f (numbers_are k letter d (ns ++ exact_at s c.at ∷ []))) tt)
    where
      more : (x : TextLine) (v : ℕ) (d : Cursor) → c.ended ≡ false → field_at s c ≡ field.Number v d
          → NumbersAre letter d (ns ++ exact_at s c.at ∷ []) x → NumbersAre letter c ns x
      more (whole b ms past) v d e f h = (h.0, rest_more c d v e f h.1)
      more broken v d e f h = tt

  -- a line
  module _ (at : ℕ) where
    abbrev LineIs : TextLine → Type 0
    LineIs (whole letter ns past) = all_at_most 65535 ns ≡ true → drop at s ≡ line letter ns ++ drop past s
    LineIs broken = Unit {0}

    line_is : LineIs (line_at s at)
    unfolding line_at
    line_is = all_letter LineIs (field_at s _) (λ b c f. from b c f (numbers_from (length s) s b c []) (numbers_are (length s) b c [])) tt
      where
        from : (b : ℕ) (c : Cursor) → field_at s (record { at = at; ended = false }) ≡ field.Letter b c → (x : TextLine) → NumbersAre b c [] x → LineIs x
        from b c f (whole letter ns past) h = λ m.
            (letter_written s _ b c f).1.bytes
            ∙ (ap (λ (l : List ℕ). b ∷ l) (h.1.bytes (subst (λ (l : List ℕ). all_at_most 65535 l ≡ true) h.1.all m)
            ∙ (ap (λ (l : List ℕ). fields l ++ 10 ∷ drop past s) (sym h.1.all) ∙ sym (append_snoc (fields ns) 10 (drop past s))))
            ∙ ap (λ (x : ℕ). line x ns ++ drop past s) (sym h.0))
        from b c f broken h = tt

    pub line_written : {letter : ℕ} {ns : List ℕ} {past : ℕ} → line_at s at ≡ whole letter ns past → all_at_most 65535 ns ≡ true
        → drop at s ≡ line letter ns ++ drop past s
    line_written e = subst LineIs e line_is

-- ---- the numbers of a line by place
pub one_more : (ns : List ℕ) (j : ℕ) {r : List ℕ} → j < length ns → drop (suc j) ns ≡ r → drop j ns ≡ get_or ns j 0 ∷ r
one_more ns j h e = drop-cons ns j 0 h ∙ ap (λ (l : List ℕ). get_or ns j 0 ∷ l) e

pub no_more : (ns : List ℕ) (j : ℕ) → length ns ≤ j → drop j ns ≡ []
no_more ns j h = drop_of_length-le ns h
