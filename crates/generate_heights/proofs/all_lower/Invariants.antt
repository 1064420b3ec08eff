-- The symbols passed are lower, so the answer is that of the symbols that are left.
use mathlib.Core.Path.{◌≡◌}
use Rattle.language.specs.Tests.{all}
use Rattle.items.specs.Layout.{length_at}
use Rattle.generate_heights.specs.Heights.{symbols_from, is_lower}
use Rattle.generate_heights.proofs.SymbolLaws.{symbols_left}
use Rattle.generate_heights.proofs.all_lower.Given as goal

abbrev pub invariant-loop-k : goal.invariant-loop-k
invariant-loop-k l =
    all (is_lower l.heights l.high) (symbols_from l.items l.i 0 (length_at l.items l.i))
    ≡ all (is_lower l.heights l.high) (symbols_left l.items l.i (length_at l.items l.i) l.k)
