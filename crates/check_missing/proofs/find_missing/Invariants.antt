-- The goal, then state by state.
use Rattle.language.specs.Grammar.{Grammar}
use Rattle.leftcorner.specs.Table.{Table}
use Rattle.analysis.specs.FirstBy.{FirstBy}
use Rattle.check_entries.specs.Uses.{HoldsUses}
use Rattle.check_lookaheads.specs.Sources.{LookaheadsBelow}
use Rattle.check_memory.specs.Given.{Given}
use Rattle.check_missing.proofs.find_missing.Given as goal

abbrev pub invariant-loop-p : goal.invariant-loop-p
invariant-loop-p l =
    (g : Grammar) (t : Table)
    → Given g t l.items l.entries l.kernels l.lookaheads l.kinds l.values l.gotos l.named l.totals.rules l.totals.entries l.totals.lines l.totals.states l.totals.codes
    → HoldsUses l.uses g t
    → LookaheadsBelow g t (FirstBy l.totals.codes l.nullable l.first) l.p l.q
