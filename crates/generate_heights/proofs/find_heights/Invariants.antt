-- Round after round; behind the last, or one that adds none, every symbol has its height.
use Prim.Native.Nat.{◌-◌}
use Rattle.language.specs.Grammar.{Grammar}
use Rattle.generate_heights.specs.Heights.{Source, Reached}
use Rattle.generate_heights.proofs.find_heights.Given as goal

abbrev pub invariant-loop-h : goal.invariant-loop-h
invariant-loop-h l = (g : Grammar) → Source l.items l.rules g → Reached g 0 l.initial.heights → Reached g (l.h - 1) l.heights
