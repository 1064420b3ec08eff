-- No more tokens are counted than are lent.
use Rattle.std.proofs.Common.{sym, arith}
use lib.Seq.{length-take-le}
use Rattle.generator.proofs.AnswerLaws.{tells_few}
use Rattle.vectors.proofs.run_walked_load.Goals as goal

pub slice_bounds-tokens-end : goal.slice_bounds-tokens-end
slice_bounds-tokens-end c = omega (arith, tells_few _ _ _ _ _ c.make_load-made.ensures, c.token_count.ensures, c.make_load-made.auto.tokens)

pub slice_bounds-run_session-end : goal.slice_bounds-run_session-end
slice_bounds-run_session-end c = sym (length-take-le _ _ (omega (arith, tells_few _ _ _ _ _ c.make_load-made.ensures, c.token_count.ensures, c.make_load-made.auto.tokens)))
