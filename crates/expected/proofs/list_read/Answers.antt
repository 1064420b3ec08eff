-- Tokens that were refused, or are walked.
use mathlib.Core.Path.{sym, ap, ◌∙◌}
use Prim.Native.Nat.{ℕ}
use native.Mathlib.Omega.{arith}
use lib.ListN.{length, replicate}
use lib.Seq.{length-take-le}
use Rattle.session.proofs.BookLaws.{read_within}
use Rattle.expected.proofs.ListLaws.{read_refused, read_listed}
use Rattle.expected.proofs.list_read.Goals as goal

pub slice_bounds-list_machine-end : goal.slice_bounds-list_machine-end
slice_bounds-list_machine-end c =
    let w = c.args.tokens.now in
    sym (length-take-le _ w (read_within w c.in-Accepted.is c.requires.read_in))

pub list_machine-requires : goal.list_machine-requires
list_machine-requires c =
    let w = c.args.tokens.now in
    let low = read_within w c.in-Accepted.is c.requires.read_in in
    let shorter = length-take-le _ w low in
    record { driven = c.requires.driven; tokens_in_bounds = (omega (arith, low, shorter, c.requires.tokens_in_bounds), c.clear.ensures ∙ ap (λ (i : ℕ). replicate i 0) (sym c.clear.auto.s)) }

pub returns-in-Refused : goal.returns-in-Refused
returns-in-Refused c = λ g t D.
    let k = c.args in
    read_refused g t (length k.stack.now) (length k.listing.now) (length k.codes.now) k.tokens.now c.in-Refused.is c.refuse.ensures

pub returns-in-Accepted : goal.returns-in-Accepted
returns-in-Accepted c = λ g t D.
    let k = c.args in
    read_listed g t (length k.stack.now) (length k.listing.now) (length k.codes.now) k.tokens.now c.in-Accepted.is c.clear.auto.s
    (c.list_machine.ensures g t D)
