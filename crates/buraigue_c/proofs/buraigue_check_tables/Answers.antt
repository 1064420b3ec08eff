-- `buraigue_c::buraigue_check_tables` meets its contract. Assumes nothing.
use borrow.Author.Rules.{rules}
use Rattle.c_told.proofs.GivenLaws.{told}
use Rattle.buraigue_c.proofs.buraigue_check_tables.Goals as goal

pub returns : goal.returns
returns c = record { told = told c.check_tables-reply.ensures c.tell_reply.ensures }
