-- How a text goes on at the next byte.
use Prim.Native.Nat.{ℕ, ◌+◌, ◌<◌, ◌≤◌}
use mathlib.Core.Path.{◌≡◌}
use mathlib.Core.List.{List}
use mathlib.Core.Bool.{true, false}
use borrow.Author.Tests.{eq-eqb, ne_eqb}
use lib.ListN.{length, get_or, drop}
use Rattle.text.proofs.Bytes.{here, past}
use Rattle.scan_lines.specs.declared.Text.TheVariants as text
use Rattle.scan_lines.specs.Line.{text_byte, text_end, text_from}

module _ (s : List ℕ) (i n : ℕ) where
  pub text_over : length s ≤ i → text_from (drop i s) i n ≡ text.Broken
  unfolding text_from
  text_over h = simp (past s i h)

  module _ (h : i < length s) where
    pub text_end_lem : get_or s i 0 ≡ 10 → text_from (drop i s) i n ≡ text_end i n
    unfolding text_from
    text_end_lem e = simp (here s i h, eq-eqb _ _ e)

    module _ (f : get_or s i 0 ≡ 10 → ⊥) where
      pub text_more : text_byte (get_or s i 0) ≡ true → text_from (drop i s) i n ≡ text_from (drop (i + 1) s) (i + 1) (n + 1)
      unfolding text_from
      text_more e = simp (here s i h, ne_eqb _ _ f, e)

      pub text_broken : text_byte (get_or s i 0) ≡ false → text_from (drop i s) i n ≡ text.Broken
      unfolding text_from
      text_broken e = simp (here s i h, ne_eqb _ _ f, e)
