-- The tokens passed are from `least` to `most`.
use Rattle.stray_tokens.proofs.StrayLaws.{SpansBefore}
use Rattle.stray_tokens.proofs.span_of.Given as goal

abbrev pub invariant-loop-token : goal.invariant-loop-token
invariant-loop-token l = SpansBefore l.token-index l.tokens l.least l.most
