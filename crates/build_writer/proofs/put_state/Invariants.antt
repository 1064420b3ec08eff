-- The symbols passed are written.
use mathlib.Core.List.{[]}
use Rattle.build_book.specs.Text.{action_text}
use Rattle.build_book.specs.Built.{line_if}
use Rattle.build_writer.specs.MemoryTable.{action_in}
use Rattle.build_writer.proofs.SinkLaws.{Through}
use Rattle.build_writer.proofs.put_state.Given as goal

abbrev pub invariant-loop-x : goal.invariant-loop-x
invariant-loop-x l =
    Through (λ X. action_text (line_if l.q X (action_in l.kinds l.values l.gotos l.q X) [])) 0 l.x l.initial.out l.initial.to l.out l.to
