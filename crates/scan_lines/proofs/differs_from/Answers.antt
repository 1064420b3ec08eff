-- `scan_lines::differs_from` meets its contract. Assumes nothing.
use mathlib.Core.Path.{ap}
use mathlib.Core.Bool.{not}
use borrow.Author.Tests.{eq-eqb}
use Rattle.scan_lines.proofs.RepeatLaws.{same_told}
use Rattle.scan_lines.proofs.differs_from.Goals as goal

pub returns-else-before-line : goal.returns-else-before-line
returns-else-before-line c =
    simp (c.in-Line.is, eq-eqb _ _ c.if-before-line.false) (ap not (same_told _ _ _ c.same_text.ensures.same c.same_text.ensures.told))
