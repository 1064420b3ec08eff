-- `buraigue_c::buraigue_build_tables` meets its contract. Assumes nothing.
use borrow.Author.Rules.{rules}
use Rattle.c_told.proofs.GivenLaws.{told}
use Rattle.buraigue_c.proofs.buraigue_build_tables.Goals as goal

pub returns : goal.returns
returns c = let e = c.build_tables-built.ensures in record { told = told e.replied c.tell_reply.ensures; counted = e.counted; written = e.written }
