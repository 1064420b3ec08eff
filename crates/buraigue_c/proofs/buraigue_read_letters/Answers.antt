-- `buraigue_c::buraigue_read_letters` meets its contract. Assumes nothing.
use borrow.Author.Rules.{rules}
use Rattle.c_told.proofs.GivenLaws.{told}
use Rattle.buraigue_c.proofs.buraigue_read_letters.Goals as goal

pub returns : goal.returns
returns c = let e = c.read_letters-reply.ensures in record { told = told e.replied c.tell_reply.ensures; stored = e.stored }
