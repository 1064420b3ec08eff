-- The states passed have been left.
use mathlib.Core.Path.{◌≡◌}
use Prim.Native.Nat.{◌≤◌, ◌-◌}
use lib.ListN.{length}
use Rattle.build_kernels.specs.Exploring.{Exploring}
use Rattle.build_kernels.proofs.explore_states.Given as goal

abbrev pub invariant-loop-q : goal.invariant-loop-q
invariant-loop-q l = record {
  low : l.q ≤ l.size.states;
  moved_long : length l.moved ≡ 4096;
  sets_long : length l.sets ≡ length l.initial.sets;
  exploring : Exploring l.items l.rules l.strings l.sets l.starts l.kinds l.values l.gotos l.size.states l.size.lines l.q;
}

abbrev pub decreases-loop-q : goal.decreases-loop-q
decreases-loop-q l = 255 - l.q
