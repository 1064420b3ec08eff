-- The states passed are written.
use Rattle.build_book.specs.Text.{action_text}
use Rattle.build_writer.specs.MemoryTable.{lines_in}
use Rattle.build_writer.proofs.SinkLaws.{Through}
use Rattle.build_writer.proofs.put_actions.Given as goal

abbrev pub invariant-loop-q : goal.invariant-loop-q
invariant-loop-q l = Through (λ p. action_text (lines_in l.kinds l.values l.gotos p)) 1 l.q l.initial.out l.initial.to l.out l.to
