use Rattle.inclusions.proofs.AskLaws.{group_row}
use mathlib.Core.Path.{refl}
use Rattle.inclusions.proofs.add_group.Goals as goal

pub returns : goal.returns
returns c = group_row c.if-e-eq0.false refl refl c.item_first.ensures c.add_lines.ensures
