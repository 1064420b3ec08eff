-- Any fault named refutes what is asked.
use mathlib.Core.Bool.{false≢true}
use Rattle.fixpoint.proofs.PassLaws.{is_no}
use Rattle.check_entries.proofs.FaultLaws.{refutes}
use Rattle.check_entries.proofs.entries_meet.Goals as goal

pub returns-in_default : goal.returns-in_default
returns-in_default c =
    let f = c.find_entry_fault in
    record { uses_len = f.ensures.uses_len.0; decides = λ g t S e. (is_no _ (refutes f.result c.in_default.not-Nothing (f.ensures.entry_fault_is g t S e)), λ z. absurd (false≢true z)) }
