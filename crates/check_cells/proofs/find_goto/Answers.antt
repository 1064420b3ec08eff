use borrow.Author.Count.{below_more}
use Rattle.check_cells.proofs.find_goto.Goals as goal

pub loop-b-preserved : goal.loop-b-preserved
loop-b-preserved c = below_more _ c.loop-b.b c.loop-b.invariant (c.goto_meets.ensures.yes c.if-not-goto_meets.false)
