use Prim.Native.Nat.{ℕ}
use native.Mathlib.Omega.{arith}
use mathlib.Core.Path.{ap, ◌∙◌}
use lib.ListN.{length, length-replicate}
use Rattle.check_entries.proofs.ListLaws.{zeros_of}
use Rattle.check_memory.proofs.FaultLaws.{found_start}
use Rattle.check_memory.proofs.PassLaws.{found_noted, found_end}
use Rattle.check_memory.proofs.check_states.Goals as goal

pub loop-q-init : goal.loop-q-init
loop-q-init c = let z = c.requires.states_bound.1 in (ap length z ∙ length-replicate {A = ℕ} 65536 0, λ g t G U. found_start g t _ _ _ _ (zeros_of 65536 z))

pub loop-q-preserved : goal.loop-q-preserved
loop-q-preserved c = (
  c.check_state-s.ensures.asked_len,
  λ g t G U. found_noted g t _ c.loop-q.auto.q c.note.ensures c.note-in-loop-q.ensures c.note-in-loop-q-2.ensures (c.loop-q.invariant.1 g t G U)
      (c.check_state-s.ensures.state_checked g t _ G U (omega arith)),
)

pub returns-clause-found : goal.returns-clause-found
returns-clause-found c = λ g t G U. found_end g t _ (omega arith) (omega arith) (c.loop-q.invariant.1 g t G U)
