-- `text::digits` meets its contract. The loop's invariant: the number from the start on is the number from here on, with n read. Assumes nothing.
use mathlib.Core.Path.{◌≡◌}
use lib.ListN.{drop}
use Rattle.text.specs.Field.{digits_from}
use Rattle.text.specs.Inner.{summed, Saturated}
use Rattle.text.proofs.digits.Given as goal

abbrev pub invariant-loop-i : goal.invariant-loop-i
invariant-loop-i l = Saturated l.n × (digits_from (drop l.at l.s) l.at (summed l.initial.n) ≡ digits_from (drop l.i l.s) l.i (summed l.n))
