-- `grammar_rule::read_parts` meets its contract. The invariant: some parts are passed, and the progress and the row are theirs.
-- The measure is what is left of the book. Assumes nothing.
use Prim.Native.Nat.{◌-◌}
use mathlib.Core.Path.{◌≡◌}
use lib.ListN.{length}
use Rattle.grammar_rule.proofs.ReadLaws.{Reading}
use Rattle.grammar_rule.proofs.read_parts.Given as goal

abbrev pub invariant-loop-c : goal.invariant-loop-c
invariant-loop-c l = (length l.m ≡ length l.initial.m) × Reading l.s l.t l.n l.initial.c l.initial.m l.base l.c l.p l.m

abbrev pub decreases-loop-c : goal.decreases-loop-c
decreases-loop-c l = length l.s - l.c.at
