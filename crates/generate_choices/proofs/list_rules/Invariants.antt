-- What is still to be listed, listed behind what is, makes the whole.
use Rattle.std.proofs.Common.{◌≡◌, ◌+◌, length}
use lib.Seq.{sets}
use Rattle.generate_heights.specs.Rows.{rows_of}
use Rattle.generate_heights.proofs.RowLaws.{rest}
use Rattle.generate_choices.proofs.list_rules.Given as goal

abbrev pub invariant-loop-i : goal.invariant-loop-i
invariant-loop-i l =
    (l.next + length (rest l.items l.x l.rules l.i) ≡ l.at + length (rows_of l.items l.x 1 l.rules))
    × (sets l.choices (512 + l.next) (rest l.items l.x l.rules l.i) ≡ sets l.initial.choices (512 + l.at) (rows_of l.items l.x 1 l.rules))
