use Rattle.table_lines.proofs.BlockLaws.{lines_start, loop_end, loop_take, loop_stop, loop_refuse}
use mathlib.Core.List.{[]}
use mathlib.Core.Path.{◌≡◌, refl}
use native.Mathlib.Omega.{arith}
use borrow.Author.Rules.{rules}
use Rattle.table_kernels.proofs.read_rising.Goals as goal

pub loop-k-init : goal.loop-k-init
loop-k-init c = record { lines = []; count_is = refl; reading = lines_start _ _ _ _; memory = c.requires.kernel_memory }

pub read_kernel-requires : goal.read_kernel-requires
read_kernel-requires c = let g = c.loop-k.invariant in
    let p = c.requires in record { s_len_bound = (p.s_len_bound.0, p.s_len_bound.1, p.s_len_bound.2, p.s_len_bound.3, search rules); shaped = p.shaped; holds_last = record { lines = g.lines; count_is = g.count_is; last_is = g.memory.last_is } }

pub loop-k-preserved : goal.loop-k-preserved
loop-k-preserved c = loop_take c.loop-k.invariant (λ k e m. c.read_kernel.ensures _ _ k e m) (omega arith) c.in-Taken.is (omega arith)

pub returns-in-Stopped : goal.returns-in-Stopped
returns-in-Stopped c = loop_stop c.loop-k.invariant (λ k e m. c.read_kernel.ensures _ _ k e m) (omega arith) c.in-Stopped.is

pub returns-in-Refused : goal.returns-in-Refused
returns-in-Refused c = loop_refuse c.loop-k.invariant (λ k e m. c.read_kernel.ensures _ _ k e m) (omega arith) c.in-Refused.is

pub returns : goal.returns
returns c = let e : c.loop-k.k ≡ 1024 = omega arith in rw e at (loop_end c.loop-k.invariant (omega arith))
