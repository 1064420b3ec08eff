-- `buraigue_c::buraigue_run_scans` meets its contract. Assumes nothing.
use borrow.Author.Rules.{rules}
use Rattle.buraigue_c.proofs.ToldLaws.{session_told}
use Rattle.buraigue_c.proofs.buraigue_run_scans.Goals as goal

pub returns : goal.returns
returns c = session_told (c.run_scans-answer.ensures.replied, (c.run_scans-answer.ensures.listed, c.run_scans-answer.ensures.cleared)) (c.tell_session.ensures.reply_given, c.tell_session.ensures.rules_after)
