-- The codes passed are written.
use mathlib.Core.List.{[], ◌∷◌}
use Rattle.build_book.specs.Text.{fields}
use Rattle.build_writer.specs.MemoryTable.{set_in}
use Rattle.build_writer.proofs.SinkLaws.{Through}
use Rattle.build_writer.proofs.put_codes.Given as goal

abbrev pub invariant-loop-d : goal.invariant-loop-d
invariant-loop-d l = Through (λ e. fields (set_in l.lookaheads l.l (e ∷ []))) 0 l.d l.initial.out l.initial.to l.out l.to
