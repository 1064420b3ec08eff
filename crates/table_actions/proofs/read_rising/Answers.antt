use Rattle.table_actions.proofs.MemoryLaws.{none_named}
use Rattle.table_lines.specs.Block.{Outcome, lines_from}
use Rattle.table_lines.proofs.BlockLaws.{Reading, lines_start, loop_end, loop_take, loop_stop, loop_refuse}
use Prim.Native.Nat.{ℕ, ◌-◌}
use mathlib.Core.List.{List, []}
use mathlib.Core.Path.{◌≡◌, refl, ◌∙◌}
use native.Mathlib.Omega.{arith}
use lib.ListN.{length}
use borrow.Author.Rules.{rules}
use Rattle.table_actions.proofs.read_rising.Goals as goal

all_left : {A : Type 0} (next : ℕ → List A → Outcome A) (k at : ℕ) → Reading (lines_from k next at []) next (k - 0) at []
all_left next k at = let e : k - 0 ≡ k = omega arith in rw e (lines_start next k at [])

pub loop-k-init : goal.loop-k-init
loop-k-init c = let p = c.requires in
    λ e q. record { lines = []; count_is = refl; reading = all_left _ _ _; memory = record { held = record { cells = p.cells; named_are = q ∙ none_named e _ }; last_is = p.s_len_bound.6; rises = tt } }

pub read_action-requires : goal.read_action-requires
read_action-requires c = let p = c.requires in
    let g = c.loop-k.invariant p.flags.test p.flags.flags_are in record { s_len_bound = (p.s_len_bound.0, p.s_len_bound.1, p.s_len_bound.2, p.s_len_bound.3, p.s_len_bound.4, search rules); holds_last = record { lines = g.lines; count_is = g.count_is; last_is = g.memory.last_is } }

pub loop-k-preserved : goal.loop-k-preserved
loop-k-preserved c = λ e q. loop_take (c.loop-k.invariant e q) (λ k z m. c.read_action.ensures e _ _ _ _ k z m) (omega arith) c.in-Taken.is (omega arith)

pub returns-in-Stopped : goal.returns-in-Stopped
returns-in-Stopped c = λ e q. loop_stop (c.loop-k.invariant e q) (λ k z m. c.read_action.ensures e _ _ _ _ k z m) (omega arith) c.in-Stopped.is

pub returns-in-Refused : goal.returns-in-Refused
returns-in-Refused c = λ e q. loop_refuse (c.loop-k.invariant e q) (λ k z m. c.read_action.ensures e _ _ _ _ k z m) (omega arith) c.in-Refused.is

pub returns : goal.returns
returns c = λ e q. let z : c.loop-k.k ≡ length c.args.s.now = omega arith in rw z at (loop_end (c.loop-k.invariant e q) (omega arith))
