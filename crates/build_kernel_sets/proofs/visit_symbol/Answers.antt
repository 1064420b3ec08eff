-- What moves is stored behind the sets, and joins them.
use borrow.Author.Rules.{rules}
use Rattle.build_kernel_sets.proofs.JoinLaws.{joins_none, joins_stored}
use Rattle.build_kernel_sets.proofs.visit_symbol.Goals as goal

pub returns-then-len-eq0 : goal.returns-then-len-eq0
returns-then-len-eq0 c =
    let e = c.pick_moves-len.ensures in
    joins_none _ _ _ _ _ _ _ c.requires.bounds (search rules) e.upper_bound.1 e.sets_after c.if-len-eq0.true

pub returns : goal.returns
returns c =
    let e = c.pick_moves-len.ensures in
    joins_stored _ _ _ _ _ _ _ c.requires.bounds (search rules) e.upper_bound.1 e.sets_after c.join_set.ensures
