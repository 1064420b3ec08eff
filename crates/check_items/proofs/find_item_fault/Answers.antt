use Rattle.check_items.proofs.find_item_fault.Goals as goal

pub returns-in-At : goal.returns-in-At
returns-in-At c = let h = c.find_entry_at.ensures.found _ c.in-At.is in record { is = (h.0, h.1, h.3) }
