-- `scans::read_lines` meets its contract. The loop's invariant is `Going`. Assumes nothing.
use Prim.Native.Nat.{◌-◌}
use lib.ListN.{length}
use Rattle.scans.specs.File.{all_lines}
use Rattle.scans.proofs.ReadLaws.{Going}
use Rattle.scans.proofs.read_lines.Given as goal

abbrev pub invariant-loop-at : goal.invariant-loop-at
invariant-loop-at l =
    Going l.letters l.file (all_lines l.letters 0 l.file) l.initial.tokens l.tokens l.previous l.at l.count

abbrev pub decreases-loop-at : goal.decreases-loop-at
decreases-loop-at l = length l.file - l.at
