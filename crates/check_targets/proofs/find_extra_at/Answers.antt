use Rattle.check_targets.proofs.FaultLaws.{finds_extra}
use Rattle.check_targets.proofs.find_extra_at.Goals as goal

pub returns : goal.returns
returns c = finds_extra _ c.next_of-s.ensures.0 (record { nonzero = c.if-symbols-x-eq0.false }) c.if-s-eq0.false c.find_stray.ensures
