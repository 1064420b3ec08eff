use Rattle.cell_demands.specs.Demands.{Met, Asking}
use Rattle.cells.specs.Demands.{RulesAsk, RuleAsks}
use Prim.Native.Nat.{ℕ, ◌≤◌, ◌<◌}
use Rattle.moves.specs.Moves.{Present}
use Rattle.cells.proofs.ask_rules.Given as goal

abbrev pub invariant-loop-i : goal.invariant-loop-i
invariant-loop-i l =
    Asking (RulesAsk l.items l.nullable l.first l.present l.follow l.totals.rules l.totals.codes) l.initial.asked l.initial.others l.asked l.others
    × ((j : ℕ) → 1 ≤ j → j < l.i → Present l.items l.present j → (c v : ℕ) → RuleAsks l.items l.nullable l.first l.follow l.totals.rules l.totals.codes j c v → Met l.asked l.others c v)
