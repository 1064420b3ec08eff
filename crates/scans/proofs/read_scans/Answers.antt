-- `scans::read_scans` meets its contract. Assumes nothing.
use borrow.Author.Rules.{rules}
use Rattle.scans.specs.File.{scans_of}
use Rattle.scans.proofs.read_scans.Goals as goal

pub returns : goal.returns
unfolding scans_of
returns c = search rules
