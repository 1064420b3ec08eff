-- The numbers of a line are read with a budget, the length of the book. It suffices for every line: a larger one reads the same.
use Prim.Native.Nat.{ℕ, zero, suc, ◌+◌, ◌≤◌, ◌<◌}
use mathlib.Core.Path.{◌≡◌, refl}
use mathlib.Core.List.{List, [], ◌∷◌, ◌++◌}
use mathlib.Core.Bool.{Bool, true, false, cond}
use native.Mathlib.Omega.{arith}
use lib.ListN.{length}
use Rattle.text.specs.declared.Cursor.{Cursor}
use Rattle.text.specs.declared.Field.{Field}
use Rattle.text.specs.declared.Field.TheVariants as field
use Rattle.text.specs.Field.{field_at, on_number, on_letter}
use Rattle.text.proofs.OnwardLaws.{onward}
use Rattle.digits.specs.Exact.{exact_at}
use Rattle.table_lines.specs.Line.{TextLine, whole, broken, numbers_from, line_at}

module _ (s : List ℕ) where
  -- two budgets that reach past the book's end from c on
  numbers_enough : (k m letter : ℕ) (c : Cursor) (ns : List ℕ) → c.at ≤ length s → length s < c.at + k → length s < c.at + m
      → numbers_from k s letter c ns ≡ numbers_from m s letter c ns
  unfolding numbers_from
  numbers_enough zero m letter c ns b h l = absurd (omega arith)
  numbers_enough (suc k) zero letter c ns b h l = absurd (omega arith)
  numbers_enough (suc k) (suc m) letter c ns b h l =
      go c.ended (field_at s c) refl (λ d x y z. numbers_enough k m letter d (ns ++ exact_at s c.at ∷ []) x y z)
    where
      rest : ℕ → Cursor → TextLine
      rest j d = numbers_from j s letter d (ns ++ exact_at s c.at ∷ [])

      go : (t : Bool) (f : Field) → field_at s c ≡ f → ((d : Cursor) → d.at ≤ length s → length s < d.at + k → length s < d.at + m → rest k d ≡ rest m d)
          → cond t (whole letter ns c.at) (on_number f (λ v d. rest k d) broken) ≡ cond t (whole letter ns c.at) (on_number f (λ v d. rest m d) broken)
      go true f e r = refl
      go false (field.Number v d) e r = let o = onward s c (field.Number v d) e in r d o.1 (omega (arith, h, o.0)) (omega (arith, l, o.0))
      go false (field.Mark b d) e r = refl
      go false (field.Letter b d) e r = refl
      go false field.Broken e r = refl

  pub budget_suffices : (at k : ℕ) → length s ≤ k
      → on_letter (field_at s (record { at = at; ended = false })) (λ letter c. numbers_from k s letter c []) broken ≡ line_at s at
  unfolding line_at
  budget_suffices at k h = go (field_at s start) refl
    where
      start : Cursor
      start = record { at = at; ended = false }

      go : (f : Field) → field_at s start ≡ f
          → on_letter f (λ letter c. numbers_from k s letter c []) broken ≡ on_letter f (λ letter c. numbers_from (length s) s letter c []) broken
      go (field.Letter b c) e = let o = onward s start (field.Letter b c) e in numbers_enough k (length s) b c [] o.1 (omega (arith, h, o.0)) (omega (arith, o.0))
      go (field.Number v c) e = refl
      go (field.Mark b c) e = refl
      go field.Broken e = refl
