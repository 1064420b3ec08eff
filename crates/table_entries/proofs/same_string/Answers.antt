-- The row and the numbers are as long as each other, and the rest is `is_part`'s.
use Prim.Native.Nat.{ℕ, ◌+◌}
use mathlib.Core.Path.{ap, ◌∙◌}
use native.Mathlib.Omega.{arith}
use borrow.Author.Tests.{ne_eqb}
use Rattle.leftcorner.specs.Table.{same_string}
use Rattle.table_entries.proofs.StringLaws.{row_long, row_part, numbers_part}
use Rattle.table_entries.proofs.same_string.Goals as goal

pub returns-else-len-count : goal.returns-else-len-count
returns-else-len-count c =
    λ γ ns row h.
    ne_eqb _ _ c.if-len-count.false
    ∙ row_long row h (λ e. c.if-len-count.false (ap (λ (n : ℕ). n + 1) c.length_of-len.ensures.0 ∙ e)) c.requires.le_count.0

pub returns-then-len-count : goal.returns-then-len-count
returns-then-len-count c =
    let len = c.length_of-len.ensures in
    λ γ ns row h.
    c.is_part.ensures γ (row_part row len.0 len.1)
    ∙ ap (same_string γ) (numbers_part h (omega (arith, c.if-len-count.true, len.1, c.requires.le_count.1)))
