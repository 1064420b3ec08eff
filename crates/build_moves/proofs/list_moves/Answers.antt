-- The items that are flagged are those of the closure, and what moves of them is listed.
use mathlib.Core.Path.{refl, sym, subst}
use Rattle.analysis.proofs.AddLaws.{adds_then}
use Rattle.closure.proofs.ReachLaws.{adds_marks, marks_least}
use Rattle.build_moves.specs.Moved.{ListsMoves}
use Rattle.build_moves.proofs.HasLaws.{lists_moves}
use Rattle.build_moves.proofs.list_moves.Goals as goal

pub returns-clause-lists_moves : goal.returns-clause-lists_moves
returns-clause-lists_moves c =
    let present = marks_least (adds_marks 64 refl c.flag_kernel.ensures.adds) c.close_present.ensures in
    let held = adds_marks 4096 refl (adds_then c.flag_kernel.ensures.adds_2 c.hold_rules.ensures) in
    subst (ListsMoves _ _ _ _) (sym c.list_moved.ensures.1) (lists_moves c.requires.shaped c.requires.rules_le_count.0 c.requires.numbered present held)
