use mathlib.Core.Path.{◌∙◌}
use Prim.Native.Nat.{◌<◌}
use native.Mathlib.Omega.{arith}
use lib.ListN.{length}
use Rattle.digits.proofs.ExactLaws.{digit_in}
use Rattle.digits.proofs.OrderLaws.{met_start, met_more, met_longer, met_ended}
use Rattle.digits.proofs.is_below.Goals as goal
use Rattle.digits.proofs.is_below.Goals.{After-order_with-o}

-- both digits stand in the book
inside :
    (c : After-order_with-o)
    → let n = length c.args.s.now in
    (c.loop-o.i < n) × (c.loop-o.j < n)
inside c = (
  digit_in _ _ c.digit_at-x.ensures c.if-x-gt9.false,
  digit_in _ _ c.digit_at-y.ensures c.if-y-gt9.false,
)

pub loop-o-init : goal.loop-o-init
loop-o-init c = met_start c.requires.0 c.requires.1

pub returns-then-x-gt9 : goal.returns-then-x-gt9
returns-then-x-gt9 c =
    c.ends_below.ensures
    ∙ met_ended c.loop-o.invariant c.digit_at-x.ensures
    c.digit_at-y.ensures c.if-x-gt9.true

pub returns-then-y-gt9 : goal.returns-then-y-gt9
returns-then-y-gt9 c =
    met_longer c.loop-o.invariant c.digit_at-x.ensures
    c.digit_at-y.ensures c.if-x-gt9.false c.if-y-gt9.true

pub overflow_add-i : goal.overflow_add-i
overflow_add-i c = record { fits = omega (arith, (inside c).0) }

pub overflow_add-j : goal.overflow_add-j
overflow_add-j c = record { fits = omega (arith, (inside c).1) }

pub loop-o-smaller : goal.loop-o-smaller
loop-o-smaller c = omega (arith, (inside c).0)

pub loop-o-preserved : goal.loop-o-preserved
loop-o-preserved c =
    rw c.order_with-o.ensures (met_more c.loop-o.invariant
    c.digit_at-x.ensures c.digit_at-y.ensures c.if-x-gt9.false
    c.if-y-gt9.false)
