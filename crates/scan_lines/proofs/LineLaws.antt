-- Where a line that was read stands.
use Prim.Native.Nat.{ℕ, ◌+◌, ◌<◌, ◌≤◌}
use mathlib.Core.Path.{◌≡◌, subst}
use mathlib.Core.List.{List, [], ◌∷◌}
use mathlib.Core.Bool.{Bool, true, false, cond, ◌&&◌}
use native.Mathlib.Omega.{arith}
use lib.ListN.{length, drop, length-drop}
use lib.Dec.{leb, eqb}
use Rattle.text.specs.declared.Cursor.{Cursor}
use Rattle.text.specs.declared.Field.TheVariants as field
use Rattle.text.specs.Field.{field_at}
use Rattle.text.proofs.ElseLaws.{all_number, all_letter}
use Rattle.text.proofs.OnwardLaws.{onward}
use Rattle.scan_lines.specs.declared.Line.{Line}
use Rattle.scan_lines.specs.declared.Text.{Text}
use Rattle.scan_lines.specs.declared.Text.TheVariants as text
use Rattle.scan_lines.specs.declared.Parsed.{Parsed}
use Rattle.scan_lines.specs.declared.Parsed.TheVariants as parsed
use Rattle.scan_lines.specs.Line.{text_byte, text_end, text_from, on_text, line_after, line_at}
use Rattle.scan_lines.specs.Within.{Within}

-- of a text that was read, that its end is not before `low`, and before `high`
abbrev TextIn : ℕ → ℕ → Text → Type 0
TextIn low high (text.Until end) = (low ≤ end) × (end < high)
TextIn low high text.Broken = Unit {0}

end_in : (low high at n : ℕ) → low ≤ at → at < high → TextIn low high (text_end at n)
unfolding text_end
end_in low high at n l h = go (leb 1 n && leb n 30)
  where
    go : (t : Bool) → TextIn low high (cond t (text.Until at) text.Broken)
    go true = (l, h)
    go false = tt

text_in : (l : List ℕ) (low high at n : ℕ) → low ≤ at → (0 < length l → at + length l ≤ high) → TextIn low high (text_from l at n)
unfolding text_from
text_in [] low high at n p q = tt
text_in (b ∷ l) low high at n p q =
    let m : at + length (b ∷ l) ≤ high = q (omega arith) in
    go (eqb b 10) (text_byte b) m (text_in l low high (at + 1) (n + 1) (omega arith) (λ z. omega arith))
  where
    go : (t u : Bool) → at + length (b ∷ l) ≤ high → TextIn low high (text_from l (at + 1) (n + 1))
        → TextIn low high (cond t (text_end at n) (cond u (text_from l (at + 1) (n + 1)) text.Broken))
    go true u m r = end_in low high at n p (omega arith)
    go false true m r = r
    go false false m r = tt

-- of a line that was read, that it begins at `at` and stands in the file
abbrev LineIn : List ℕ → ℕ → Parsed → Type 0
LineIn s at (parsed.Line line) = (at < line.text) × Within s line
LineIn s at parsed.Broken = Unit {0}

module _ (s : List ℕ) (at : ℕ) where
  after_in : (sequence letter : ℕ) (c : Cursor) → at < c.at → LineIn s at (line_after s sequence letter c)
  unfolding line_after
  after_in sequence letter c h =
      go c.ended (text_from (drop c.at s) c.at 0)
      (text_in (drop c.at s) c.at (length s) c.at 0 (omega arith) (λ z. omega (arith, length-drop c.at s)))
    where
      go : (t : Bool) (x : Text) → TextIn c.at (length s) x
          → LineIn s at
          (cond t parsed.Broken (on_text x (λ end. parsed.Line (record { sequence = sequence; letter = letter; text = c.at; end = end }))))
      go true x p = tt
      go false (text.Until end) p = (h, record { some_text = p.0; inside = p.1 })
      go false text.Broken p = tt

  pub line_in : {line : Line} → line_at s at ≡ parsed.Line line → (at < line.text) × Within s line
  unfolding line_at
  line_in e =
      subst (LineIn s at) e
      (all_number (LineIn s at) (field_at s (record { at = at; ended = false }))
      (λ sequence c p.
      all_letter (LineIn s at) (field_at s c)
      (λ letter d q. after_in sequence letter d (omega (arith, (onward s _ (field.Number sequence c) p).0, (onward s c (field.Letter letter d) q).0)))
      tt)
      tt)
