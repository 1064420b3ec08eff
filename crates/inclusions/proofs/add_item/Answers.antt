use Rattle.inclusions.proofs.AskLaws.{item_groups}
use mathlib.Core.Path.{sym, ◌∙◌}
use Rattle.inclusions.proofs.add_item.Goals as goal

pub returns-then-mark_of-at : goal.returns-then-mark_of-at
returns-then-mark_of-at c =
    item_groups c.add_move.ensures c.if-at-totals.true
    (sym c.mark_of.ensures.0 ∙ c.if-mark_of-at.true) c.add_groups.ensures
