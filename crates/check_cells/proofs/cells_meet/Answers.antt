use mathlib.Core.Path.{sym, ◌∙◌}
use mathlib.Core.Bool.{true≢false}
use native.Mathlib.Omega.{arith}
use Rattle.fixpoint.proofs.PassLaws.{is_yes, is_no}
use Rattle.check_cells.proofs.ContentLaws.{refutes_cell, refutes_goto, cells_meets}
use Rattle.check_cells.proofs.cells_meet.Goals as goal
use Rattle.check_cells.proofs.cells_meet.Goals.{in-Nothing, in_default}

pub returns-in-Nothing-matches : goal.returns-in-Nothing-matches
returns-in-Nothing-matches c = λ g t items entries kernels lookaheads nul fst rules strings lines H e M h.
    is_yes _
    (cells_meets g t H nul fst e c.requires.asked_len.3 M h
    (λ d l. elim c.match-matches.branch [
      | in-Nothing w ↦ c.find_cell.ensures.none w.in-Nothing.is d (omega arith) l tt
      | in_default w ↦ absurd (true≢false (sym c.if-matches.true ∙ w.matches-is))
    ])
    (λ b l. c.find_goto.ensures.none c.in-Nothing-matches.is b (omega arith) l tt))

pub returns-in_default-matches : goal.returns-in_default-matches
returns-in_default-matches c = λ g t items entries kernels lookaheads nul fst rules strings lines H e M h.
    is_no _ (refutes_goto g t H nul fst e c.requires.asked_len.3 M h c.find_goto.ensures c.in_default-matches.is)

pub returns-else-matches : goal.returns-else-matches
returns-else-matches c = λ g t items entries kernels lookaheads nul fst rules strings lines H e M h.
    rw c.if-matches.false (is_no _ (elim c.match-matches.branch [
      | in-Nothing w ↦ absurd (true≢false (sym w.matches-is ∙ c.if-matches.false))
      | in_default w ↦ refutes_cell g t H nul fst e c.requires.asked_len.3 M h c.find_cell.ensures w.in_default.is
    ]))
