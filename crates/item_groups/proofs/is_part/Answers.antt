use mathlib.Core.Path.{◌∙◌}
use native.Mathlib.Omega.{arith}
use Rattle.item_groups.proofs.StringLaws.{part_long, part_other, part_same}
use Rattle.item_groups.proofs.is_part.Goals as goal

pub returns-then-n-string : goal.returns-then-n-string
returns-then-n-string c = λ γ part. part_long part _ c.if-n-string.true

pub returns-then-symbol_of-symbol : goal.returns-then-symbol_of-symbol
returns-then-symbol_of-symbol c =
    λ γ part.
    part_other part _ c.if-n-string.false _ (omega arith)
    (λ e. c.if-symbol_of-symbol.true (c.symbol_of.ensures.0 ∙ e))

pub returns : goal.returns
returns c = λ γ part. part_same part _ c.if-n-string.false (λ k l. c.loop-k.invariant k (omega (arith, l)))
