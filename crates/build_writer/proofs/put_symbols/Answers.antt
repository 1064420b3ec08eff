use native.Mathlib.Omega.{arith}
use Rattle.build_writer.proofs.SinkLaws.{in_words, through_none, through_more, through_all}
use Prim.Native.Nat.{ℕ}
use mathlib.Core.Path.{ap}
use mathlib.Core.List.{[], ◌∷◌}
use Rattle.build_book.specs.Text.{fields}
use Rattle.build_writer.proofs.TextLaws.{symbols_text}
use Rattle.build_writer.proofs.put_symbols.Goals as goal

pub loop-k-init : goal.loop-k-init
loop-k-init c = through_none _ 0 _ _ (omega arith)

pub loop-k-preserved : goal.loop-k-preserved
loop-k-preserved c = through_more c.loop-k.invariant (in_words (ap (λ (x : ℕ). fields (x ∷ [])) c.symbol_of.ensures.0) c.put_field-to.ensures)

pub returns : goal.returns
returns c = through_all c.loop-k.invariant c.length_of-k-end.result (omega arith) (symbols_text _ _ _ c.length_of-k-end.ensures.0)
