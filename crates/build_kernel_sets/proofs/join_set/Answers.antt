-- The set that was found, or one more.
use mathlib.Core.Path.{refl}
use native.Mathlib.Omega.{arith}
use Rattle.build_kernel_sets.proofs.JoinLaws.{joins_known, joins_new}
use Rattle.build_kernel_sets.proofs.join_set.Goals as goal

pub returns-then-p-states : goal.returns-then-p-states
returns-then-p-states c =
    let p = c.requires in
    joins_known _ _ _ _ _ p.bounds p.le_len.0 p.le_len.1 c.find_set-p.ensures.finds_set (omega (arith, c.if-p-states.true))

pub returns : goal.returns
returns c =
    let p = c.requires in
    joins_new _ _ _ _ _ p.bounds p.le_len.0 p.le_len.1 _ refl (omega (arith, p.le_len.2, p.le_len.4))
    c.find_set-p.ensures.finds_set (omega (arith, c.if-p-states.false)) p.le_len.2 p.le_len.3
