-- By the session's reply.
use mathlib.Core.Path.{sym, ◌∙◌}
use native.Mathlib.Omega.{arith}
use lib.ListN.{length, take}
use Rattle.table.specs.Book.{whole}
use Rattle.expected.specs.Expected.{list_for}
use Rattle.expected.proofs.ListLaws.{ends_whole, ends_wrong, refused_is, ends_within, list_is, listed_told, others_told}
use Rattle.expected.proofs.list_machine.Goals as goal

pub list_at-requires : goal.list_at-requires
list_at-requires c =
    let k = c.args in
    let D = c.requires.driven in
    let told = (c.walk_machine.ensures D.0 D.1 D.2).reply_is in
    let low = ends_within D.0 D.1 (length k.stack.now) (length k.listing.now) k.tokens.now D.2 told _ (ends_whole c.in-Ok.is) in
    (low, omega (arith, low, c.requires.tokens_in_bounds.0), omega (arith, D.2.terminals_is, D.2.few_terminals), c.requires.tokens_in_bounds.1)

pub returns-then-kind_number-ne12 : goal.returns-then-kind_number-ne12
returns-then-kind_number-ne12 c = λ g t D.
    let k = c.args in
    let n = length k.stack.now in
    let m = length k.listing.now in
    let T = c.walk_machine.ensures g t D in
    let room = length k.codes.now in
    others_told n m room (list_for room n m (whole g t) k.tokens.now) T (refused_is g t n m k.tokens.now T.reply_is c.in-Err.is)
    (λ z. c.if-kind_number-ne12.true (c.kind_number.ensures ∙ z)) c.requires.tokens_in_bounds.1

pub list_at-requires-in-Err : goal.list_at-requires-in-Err
list_at-requires-in-Err c =
    let k = c.args in
    let D = c.requires.driven in
    let told = (c.walk_machine.ensures D.0 D.1 D.2).reply_is in
    let low = ends_within D.0 D.1 (length k.stack.now) (length k.listing.now) k.tokens.now D.2 told _ (ends_wrong c.in-Err.is (sym c.kind_number.ensures ∙ c.if-kind_number-ne12.false)) in
    (low, omega (arith, low, c.requires.tokens_in_bounds.0), omega (arith, D.2.terminals_is, D.2.few_terminals), c.requires.tokens_in_bounds.1)

pub returns-in-Ok : goal.returns-in-Ok
returns-in-Ok c = λ g t D.
    let k = c.args in
    let p = c.in-Ok.tally.tokens in
    let ends = ends_whole c.in-Ok.is in
    listed_told k.machine.now p (length k.codes.now) (take p k.tokens.now)
    c.walk_machine.auto.stack c.walk_machine.auto.listing
    (list_is g t (length k.stack.now) (length k.listing.now) k.tokens.now D (c.walk_machine.ensures g t D).reply_is p ends (length k.codes.now)) c.list_at.ensures

pub returns-else-kind_number-ne12 : goal.returns-else-kind_number-ne12
returns-else-kind_number-ne12 c = λ g t D.
    let k = c.args in
    let p = c.in-Err.why.place in
    let ends = ends_wrong c.in-Err.is (sym c.kind_number.ensures ∙ c.if-kind_number-ne12.false) in
    listed_told k.machine.now p (length k.codes.now) (take p k.tokens.now)
    c.walk_machine.auto.stack c.walk_machine.auto.listing
    (list_is g t (length k.stack.now) (length k.listing.now) k.tokens.now D (c.walk_machine.ensures g t D).reply_is p ends (length k.codes.now)) c.list_at-in-Err.ensures
