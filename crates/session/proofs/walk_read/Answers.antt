-- Tokens that were refused, or are walked.
use mathlib.Core.Path.{sym}
use lib.ListN.{length}
use lib.Seq.{length-take-le}
use Rattle.session.proofs.BookLaws.{read_within, read_refused, read_walked}
use Rattle.session.proofs.walk_read.Goals as goal

pub slice_bounds-walk_machine-end : goal.slice_bounds-walk_machine-end
slice_bounds-walk_machine-end c =
    let w = c.args.tokens.now in
    sym (length-take-le _ w (read_within w c.in-Accepted.is c.requires))

pub returns-in-Refused : goal.returns-in-Refused
returns-in-Refused c = λ g t D.
    let k = c.args in
    read_refused g t (length k.stack.now) (length k.listing.now) k.tokens.now c.in-Refused.is c.refuse.ensures

pub returns-in-Accepted : goal.returns-in-Accepted
returns-in-Accepted c = λ g t D.
    let k = c.args in
    read_walked g t (length k.stack.now) (length k.listing.now) k.tokens.now c.in-Accepted.is (c.walk_machine.ensures g t D)
