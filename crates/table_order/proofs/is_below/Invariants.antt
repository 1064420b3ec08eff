-- `table_order::is_below` meets its contract. Assumes nothing.
use mathlib.Core.Path.{◌≡◌}
use lib.ListN.{length, drop}
use Rattle.table_order.specs.Order.{below}
use Rattle.table_order.proofs.is_below.Given as goal

abbrev pub invariant-loop-x : goal.invariant-loop-x
invariant-loop-x l = below l.last l.numbers ≡ below (drop (length l.yielded) l.last) (drop (length l.yielded) l.numbers)
