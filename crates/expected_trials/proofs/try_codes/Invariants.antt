-- The codes noted so far, and those that are still to be tried.
use mathlib.Core.Path.{◌≡◌}
use Prim.Native.Nat.{suc}
use lib.ListN.{length, take}
use Rattle.expected_trials.proofs.CodeLaws.{trials, Noting}
use Rattle.expected_trials.proofs.try_codes.Given as goal

abbrev pub invariant-loop-code : goal.invariant-loop-code
invariant-loop-code l = (take l.place l.trial ≡ take l.place l.initial.trial)
    × Noting (trials l.machine (length l.initial.stack) (length l.initial.listing) l.place (take l.place l.initial.trial)) (suc l.machine.terminals) (length l.initial.codes) l.place l.codes l.count l.code
