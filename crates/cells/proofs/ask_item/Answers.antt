use Rattle.cells.proofs.AskLaws.{announce_asks}
use mathlib.Core.Path.{refl, sym, ◌∙◌}
use Rattle.cells.proofs.ask_item.Goals as goal

pub returns-then-mark_of-k : goal.returns-then-mark_of-k
returns-then-mark_of-k c =
    announce_asks (sym c.mark_of.ensures.0 ∙ c.if-mark_of-k.true) refl c.item_first.ensures c.ask_codes.ensures
