-- The entries, then all that is discovered from them, or too many.
use native.Mathlib.Omega.{arith}
use borrow.Author.Rules.{rules}
use Rattle.build_kernel_sets.proofs.LeaveLaws.{one_of}
use Rattle.build_kernels.proofs.FoundLaws.{number_low, safe_states, too_many, holds_states}
use Rattle.build_kernels.proofs.find_states.Goals as goal

pub returns-then-states-gt255-clause-discovers : goal.returns-then-states-gt255-clause-discovers
returns-then-states-gt255-clause-discovers c = λ g H. too_many c.explore_states-states.ensures g H (one_of c.then-states-gt255.either)

pub write_lines-requires-clause-by_index : goal.write_lines-requires-clause-by_index
write_lines-requires-clause-by_index c = let e = c.explore_states-states.ensures in number_low _ _ _ e.bounds.room (omega (arith, c.requires.rules_bound)) e.numbered

pub returns-clause-safe : goal.returns-clause-safe
returns-clause-safe c =
    let e = c.explore_states-states.ensures in
    safe_states e.bounds c.write_lines.ensures c.requires.rules_bound.2 (search rules) c.if-states-gt255.false c.if-lines-gt1023.false e.numbered

pub returns-clause-discovers : goal.returns-clause-discovers
returns-clause-discovers c = λ g H. holds_states c.explore_states-states.ensures g H c.if-states-gt255.false c.if-lines-gt1023.false c.write_lines.ensures
