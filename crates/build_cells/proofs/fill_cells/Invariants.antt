use Prim.Native.Nat.{ℕ}
use mathlib.Core.List.{List}
use Rattle.language.specs.Grammar.{Grammar}
use Rattle.build_cells.specs.Cells.{HoldsLines, Filling}
use Rattle.build_cells.proofs.fill_cells.Given as goal

abbrev pub invariant-loop-q : goal.invariant-loop-q
invariant-loop-q l =
    (g : Grammar) (entries : List ℕ)
    → HoldsLines g l.items entries l.kernels l.lookaheads l.nullable l.first l.totals.rules l.totals.entries l.totals.lines l.totals.states l.totals.codes
    → Filling g l.q l.initial.kinds l.initial.values l.kinds l.values
