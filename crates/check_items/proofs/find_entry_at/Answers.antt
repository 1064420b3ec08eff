use Rattle.fixpoint.proofs.PassLaws.{from_more}
use Rattle.check_items.proofs.find_entry_at.Goals as goal

pub loop-k-preserved : goal.loop-k-preserved
loop-k-preserved c = from_more _ 1 c.loop-k.k c.loop-k.invariant (c.entry_meets.ensures.yes c.if-not-entry_meets.false)
