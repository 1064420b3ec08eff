-- `scan_lines::read_text` meets its contract. The loop's invariant: the text from the start on is the text from here on, with the bytes
-- between read. Assumes nothing.
use Prim.Native.Nat.{◌-◌}
use mathlib.Core.Path.{◌≡◌}
use lib.ListN.{drop}
use Rattle.scan_lines.specs.Line.{text_from}
use Rattle.scan_lines.proofs.read_text.Given as goal

abbrev pub invariant-loop-i : goal.invariant-loop-i
invariant-loop-i l = text_from (drop l.at l.file) l.at 0 ≡ text_from (drop l.i l.file) l.i (l.i - l.at)
