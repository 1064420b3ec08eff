-- The kernel's flags, closed.
use Rattle.closure.proofs.ReachLaws.{adds_marks, marks_least, covered, holds_closure}
use Rattle.closure.proofs.close_state.Goals as goal

pub close_follow-requires-clause-covered : goal.close_follow-requires-clause-covered
close_follow-requires-clause-covered c =
    let zeros = c.requires.present_value in
    let a = adds_marks 64 zeros.0 c.add_kernel.ensures.adds in
    let w = adds_marks 4096 zeros.1 c.add_kernel.ensures.adds_2 in
    covered _ _ _ _ _ _ _ _ _ c.requires.rules_le_totals.2 a c.close_present.ensures w

pub returns : goal.returns
returns c =
    λ g t H.
    let p = c.requires in
    let zeros = p.present_value in
    holds_closure _ _ _ _ _ _ _ _ _ _ _ _ p.shaped p.lines.item_low p.rules_le_totals.0 p.rules_le_totals.2 g t H
    p.prepared
    (marks_least (adds_marks 64 zeros.0 c.add_kernel.ensures.adds) c.close_present.ensures)
    (marks_least (adds_marks 4096 zeros.1 c.add_kernel.ensures.adds_2) c.close_follow.ensures)
