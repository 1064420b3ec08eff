use Rattle.cell_demands.specs.Demands.{Asking, CodeAsks}
use Rattle.cell_demands.proofs.DemandLaws.{Below}
use Rattle.cell_demands.proofs.ask_codes.Given as goal

abbrev pub invariant-loop-c : goal.invariant-loop-c
invariant-loop-c l = Asking (CodeAsks l.from l.start l.low l.codes l.demand) l.initial.asked l.initial.others l.asked l.others × Below l.from l.start l.low l.codes l.demand l.asked l.others l.c
