-- The rules passed have given their left sides this height, where these had none.
use Prim.Native.Nat.{◌-◌}
use mathlib.Core.Path.{◌≡◌}
use mathlib.Core.Bool.{false}
use Rattle.language.specs.Grammar.{Grammar}
use Rattle.generate_heights.specs.Heights.{Source, Reached}
use Rattle.generate_heights.proofs.RoundLaws.{Round}
use Rattle.generate_heights.proofs.add_heights.Given as goal

abbrev pub invariant-loop-i : goal.invariant-loop-i
invariant-loop-i l =
    ((g : Grammar) → Source l.items l.rules g → Reached g (l.h - 1) l.initial.heights → Round g (l.h - 1) l.h l.i l.heights)
    × (l.added ≡ false → l.heights ≡ l.initial.heights)
