-- The symbols passed are written.
use mathlib.Core.List.{[], ◌∷◌}
use Rattle.items.specs.Layout.{symbol_at}
use Rattle.build_book.specs.Text.{fields}
use Rattle.build_writer.proofs.SinkLaws.{Through}
use Rattle.build_writer.proofs.put_symbols.Given as goal

abbrev pub invariant-loop-k : goal.invariant-loop-k
invariant-loop-k l = Through (λ d. fields (symbol_at l.items l.i d ∷ [])) 0 l.k l.initial.out l.initial.to l.out l.to
