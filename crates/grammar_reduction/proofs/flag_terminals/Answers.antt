use mathlib.Core.Path.{refl}
use native.Mathlib.Omega.{arith}
use Rattle.fixpoint.proofs.FlagLaws.{flag_start, flag_set, flag_end}
use Rattle.grammar_reduction.proofs.flag_terminals.Goals as goal

pub loop-x-init : goal.loop-x-init
loop-x-init c = flag_start c.requires.flags_value

pub loop-x-preserved : goal.loop-x-preserved
loop-x-preserved c = flag_set refl refl c.loop-x.invariant (omega arith) (c.loop-x.auto.x, omega arith)

pub returns : goal.returns
returns c = flag_end c.loop-x.invariant (λ y q. (q.0, omega (arith, q.1)))
