-- A stray token refuses; otherwise the walk over the machine is that of the table's automaton.
use mathlib.Core.Path.{sym, ap, ◌∙◌}
use Prim.Native.Nat.{ℕ}
use lib.ListN.{length}
use Rattle.stray_tokens.specs.Stray.{stray_from}
use Rattle.session.proofs.TableLaws.{stray_session, table_session_lem}
use Rattle.session.proofs.walk_machine.Goals as goal

pub returns-in-At : goal.returns-in-At
returns-in-At c = λ g t D.
    let k = c.args in
    let found = ap (λ (x : ℕ). stray_from x 0 k.tokens.now) (sym D.terminals_is) ∙ (sym c.find_stray-stray.ensures ∙ c.in-At.is) in
    stray_session g t (length k.stack.now) (length k.listing.now) _ k.tokens.now found c.refuse.ensures

pub returns : goal.returns
returns c = λ g t D.
    let k = c.args in
    let none = ap (λ (x : ℕ). stray_from x 0 k.tokens.now) (sym D.terminals_is) ∙ (sym c.find_stray-stray.ensures ∙ c.in_default.is) in
    let walked = c.walk_tokens.ensures in
    table_session_lem g t D (length k.stack.now) (length k.listing.now) k.tokens.now none walked.reply walked.rules walked.cleared
