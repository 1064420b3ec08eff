-- A line that is taken is a whole line of the book, judged fine, and ends past its beginning.
use Prim.Native.Nat.{ℕ, zero, suc, ◌≤◌, ◌<◌}
use mathlib.Core.Path.{◌≡◌, refl, ap, subst, ◌∙◌}
use mathlib.Core.List.{List, []}
use mathlib.Core.Bool.{false}
use native.Mathlib.Omega.{arith}
use lib.ListN.{length}
use Rattle.range.proofs.TestLaws.{all_cond}
use Rattle.text.specs.declared.Cursor.{Cursor}
use Rattle.text.specs.declared.Field.TheVariants as field
use Rattle.text.specs.Field.{field_at}
use Rattle.text.proofs.ElseLaws.{all_number, all_letter}
use Rattle.text.proofs.OnwardLaws.{Between, onward}
use Rattle.leftcorner.proofs.ReadOff.{clash}
use Rattle.table_lines.specs.declared.Judgement.{Judgement}
use Rattle.table_lines.specs.declared.Judgement.TheVariants.{Fine, Faulty}
use Rattle.table_lines.specs.Line.{TextLine, whole, broken, numbers_from, line_at, on_line}
use Rattle.table_lines.specs.Block.{takes, stops, judged}

-- ---- where a line ends
module _ (s : List ℕ) (at : ℕ) where
  abbrev Ends : TextLine → Type 0
  Ends (whole letter ns next) = (at < next) × (next ≤ length s)
  Ends broken = Unit {0}

  numbers_end : (k letter : ℕ) (c : Cursor) (ns : List ℕ) → Between at (length s) c → Ends (numbers_from k s letter c ns)
  unfolding numbers_from
  numbers_end zero letter c ns b = tt
  numbers_end (suc k) letter c ns b =
      all_cond Ends c.ended (λ e. b)
      (λ e. all_number Ends (field_at s c)
      (λ v d f. let o = onward s c (field.Number v d) f in numbers_end k letter d _ (omega (arith, b.0, o.0), o.1)) tt)

  -- past its beginning, and in the book
  pub line_ends : {letter : ℕ} {ns : List ℕ} {next : ℕ} → line_at s at ≡ whole letter ns next → (at < next) × (next ≤ length s)
  unfolding line_at
  line_ends e = subst Ends e (all_letter Ends (field_at s c) (λ b d f. numbers_end (length s) b d [] (onward s c (field.Letter b d) f)) tt)
    where
      c : Cursor
      c = record { at = at; ended = false }

-- ---- what holds of each way out holds of what is done with a line
module _ {A : Type 0} (P : A → Type 0) {f : ℕ → List ℕ → ℕ → A} {y : A} where
  pub all_line : (l : TextLine) → ((letter : ℕ) (ns : List ℕ) (next : ℕ) → l ≡ whole letter ns next → P (f letter ns next)) → P y → P (on_line l f y)
  all_line (whole letter ns next) h k = h letter ns next refl
  all_line broken h k = k

-- a line that is judged does not end the block
pub judged_goes : {A B : Type 0} (j : Judgement) (at : ℕ) (x : A) (next : ℕ) → judged j at x next ≡ stops → B
judged_goes Fine at x next e = clash cc
judged_goes (Faulty k) at x next e = clash cc

-- ---- a line that is taken
pub record Came {A : Type 0} (s : List ℕ) (at : ℕ) (J : ℕ → List ℕ → Judgement) (make : ℕ → List ℕ → A) (x : A) (past : ℕ) : Type 0 where
  pub letter : ℕ
  pub numbers : List ℕ
  pub line_is : line_at s at ≡ whole letter numbers past
  pub fine : J letter numbers ≡ Fine
  pub made : make letter numbers ≡ x

module _ {A : Type 0} (s : List ℕ) (at : ℕ) (J : ℕ → List ℕ → Judgement) (make : ℕ → List ℕ → A) where
  pub judged_came : {x : A} {past : ℕ} (letter : ℕ) (ns : List ℕ) (next : ℕ) → line_at s at ≡ whole letter ns next
      → judged (J letter ns) at (make letter ns) next ≡ takes x past → Came s at J make x past
  judged_came {x} {past} letter ns next e = go (J letter ns) refl
    where
      go : (j : Judgement) → J letter ns ≡ j → judged j at (make letter ns) next ≡ takes x past → Came s at J make x past
      go Fine f q =
          let n : next ≡ past = cc in
          let m : make letter ns ≡ x = cc in
          record { letter = letter; numbers = ns; line_is = e ∙ ap (whole letter ns) n; fine = f; made = m }
      go (Faulty k) f q = clash cc

pub came_onward : {A : Type 0} {s : List ℕ} {at : ℕ} {J : ℕ → List ℕ → Judgement} {make : ℕ → List ℕ → A} {x : A} {past : ℕ} → Came s at J make x past → at < past
came_onward {s = s} {at = at} c = (line_ends s at c.line_is).0
