-- `table_lines::read_numbers` meets its contract. Before the number k the line has k numbers, and the bytes that are left suffice for the
-- others. Assumes nothing.
use Prim.Native.Nat.{◌-◌}
use mathlib.Core.Path.{◌≡◌}
use mathlib.Core.List.{[]}
use lib.ListN.{length}
use Rattle.table_lines.specs.Line.{numbers_from}
use Rattle.table_lines.proofs.LineLaws.{Going}
use Rattle.table_lines.proofs.read_numbers.Given as goal

abbrev pub invariant-loop-k : goal.invariant-loop-k
invariant-loop-k l =
    (l.p.count ≡ l.k) × Going (numbers_from (length l.s) l.s l.letter l.initial.c []) l.s l.letter l.initial.numbers (length l.s - l.k) l.c l.prior l.p l.numbers
