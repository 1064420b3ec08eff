-- `buraigue_c::buraigue_read_grammar` meets its contract. Assumes nothing.
use mathlib.Core.Path.{ap, ◌∙◌}
use Rattle.grammar.specs.Memory.{as_reply}
use borrow.Author.Rules.{rules}
use Rattle.c_told.proofs.GivenLaws.{told}
use Rattle.buraigue_c.proofs.buraigue_read_grammar.Goals as goal

pub returns : goal.returns
returns c = let e = c.read_grammar.ensures in record { told = told (c.as_reply-reply.ensures ∙ ap as_reply e.answered) c.tell_reply.ensures; stored = e.stored }
