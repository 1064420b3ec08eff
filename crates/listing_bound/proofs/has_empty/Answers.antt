use mathlib.Core.Path.{sym}
use native.Mathlib.Omega.{arith}
use Rattle.listing_bound.proofs.EmptyLaws.{row_empty, rows_filled}
use Rattle.listing_bound.proofs.has_empty.Goals as goal

pub returns-then-length_of-eq0 : goal.returns-then-length_of-eq0
returns-then-length_of-eq0 c =
    let a = c.args in
    λ g h. sym (row_empty g a.items.now a.rules h c.loop-i.i c.loop-i.auto.i (omega arith) (omega (arith, c.length_of.ensures.0, c.if-length_of-eq0.true)))

pub returns : goal.returns
returns c =
    let a = c.args in
    λ g h. sym (rows_filled g a.items.now a.rules h (λ i l u. c.loop-i.invariant i (omega (arith, u, c.loop-i-test.false)) l))
