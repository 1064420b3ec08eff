-- The flags set are those of the codes passed.
use Rattle.fixpoint.proofs.FlagLaws.{Flagged}
use Rattle.grammar_reduction.specs.InMemory.{Upto}
use Rattle.grammar_reduction.proofs.flag_terminals.Given as goal

abbrev pub invariant-loop-x : goal.invariant-loop-x
invariant-loop-x l = Flagged 128 (Upto l.t) 1 l.x l.flags
