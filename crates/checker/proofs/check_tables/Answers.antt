-- `checker::check_tables` meets its contract. Assumes nothing.
use mathlib.Core.Path.{ap, ◌∙◌}
use Rattle.table.specs.Memory.{as_reply}
use Rattle.checker.specs.Checked.{verdict_of}
use Rattle.checker.proofs.check_tables.Goals as goal

pub returns : goal.returns
unfolding verdict_of
returns c = c.as_reply.ensures ∙ ap as_reply c.load_tables-answer.ensures.value
