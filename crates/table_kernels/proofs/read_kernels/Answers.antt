-- `table_kernels::read_kernels` meets its contract. Assumes nothing.
use Rattle.table_lines.proofs.BlockLaws.{reads_less}
use Rattle.table_order.proofs.LastLaws.{last_none, zeros_low}
use lib.ListN.{length-replicate}
use mathlib.Core.Path.{sym}
use Prim.Native.Nat.{ℕ}
use Rattle.table_kernels.proofs.read_kernels.Goals as goal

pub slice_bounds-read_rising-end : goal.slice_bounds-read_rising-end
slice_bounds-read_rising-end c = sym (length-replicate {A = ℕ} 3 0)

pub read_rising-requires : goal.read_rising-requires
read_rising-requires c = let p = c.requires in record { s_len_bound = (p.s_len_bound.0, p.s_len_bound.1, p.s_len_bound.2, p.s_len_bound.3, length-replicate {A = ℕ} 3 0); shaped = p.shaped; kernel_memory = record { held = p.kernel_image; last_is = last_none (zeros_low 3) } }

pub shape_of-kernels : goal.shape_of-kernels
shape_of-kernels c = c.read_rising.auto.kernels

pub shape_of-lookaheads : goal.shape_of-lookaheads
shape_of-lookaheads c = c.read_rising.auto.lookaheads

pub returns : goal.returns
returns c = reads_less (λ l h. h.held) c.read_rising.ensures
