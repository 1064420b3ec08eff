use Rattle.inclusions.specs.Asks.{RuleAsks, RulesAsk}
use Rattle.closure.proofs.AddingLaws.{Adding}
use Prim.Native.Nat.{ℕ, ◌≤◌, ◌<◌}
use Rattle.fixpoint.specs.Flags.{On}
use Rattle.moves.specs.Moves.{Present}
use Rattle.inclusions.proofs.add_rules.Given as goal

abbrev pub invariant-loop-i : goal.invariant-loop-i
invariant-loop-i l =
    Adding (RulesAsk l.items l.kernels l.kinds l.values l.gotos l.entries l.uses l.nullable l.first l.present l.follow l.totals.rules l.totals.lines l.totals.codes l.p) l.initial.asked
    l.asked
    × ((j : ℕ)
    → 1 ≤ j
    → j < l.i
    → Present l.items l.present j
    → (y : ℕ)
    → RuleAsks l.items l.kernels l.kinds l.values l.gotos l.entries l.uses l.nullable l.first l.follow l.totals.rules l.totals.lines l.totals.codes l.p j y
    → On l.asked y)
