-- The rules before rule i are listed and laid out, and the lines go on at `at`.
use mathlib.Core.Path.{◌≡◌}
use lib.ListN.{length}
use Rattle.grammar.proofs.ListLaws.{Listing}
use Rattle.grammar.proofs.read_rules.Given as goal

abbrev pub invariant-loop-i : goal.invariant-loop-i
invariant-loop-i l = record {
  same_length : length l.m ≡ length l.initial.m;
  listing : Listing l.s l.t l.n l.count l.initial.at (length l.initial.m) l.i l.at l.m;
}
