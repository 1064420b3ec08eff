use mathlib.Core.Path.{◌≡◌}
use lib.ListN.{length}
use Rattle.language.specs.Grammar.{Grammar}
use Rattle.leftcorner.specs.Table.{Table}
use Rattle.analysis.specs.FirstBy.{FirstBy}
use Rattle.check_entries.specs.Uses.{HoldsUses}
use Rattle.check_memory.specs.Faults.{Found}
use Rattle.check_memory.specs.Given.{Given}
use Rattle.check_memory.proofs.check_states.Given as goal

abbrev pub invariant-loop-q : goal.invariant-loop-q
invariant-loop-q l =
    (length l.asked ≡ 65536) × ((g : Grammar) (t : Table) → Given g t l.items l.entries l.kernels l.lookaheads l.kinds l.values l.gotos l.named l.totals.rules l.totals.entries l.totals.lines l.totals.states l.totals.codes
    → HoldsUses l.uses g t → Found g t (FirstBy l.totals.codes l.nullable l.first) l.kernels l.totals.lines l.totals.codes l.q l.faults.items l.faults.agree l.faults.cells l.asked)
