-- `table_actions::read_actions` meets its contract. Assumes nothing.
use Rattle.table_lines.proofs.BlockLaws.{reads_less}
use Rattle.table_order.proofs.LastLaws.{last_none, zeros_low}
use lib.ListN.{length-replicate}
use mathlib.Core.Path.{sym}
use Prim.Native.Nat.{ℕ}
use Rattle.table_actions.proofs.read_actions.Goals as goal

pub slice_bounds-read_rising-end : goal.slice_bounds-read_rising-end
slice_bounds-read_rising-end c = sym (length-replicate {A = ℕ} 2 0)

pub read_rising-requires : goal.read_rising-requires
read_rising-requires c = let p = c.requires in record { s_len_bound = (p.s_len_bound.0, p.s_len_bound.1, p.s_len_bound.2, p.s_len_bound.3, p.s_len_bound.4, length-replicate {A = ℕ} 2 0, last_none (zeros_low 2)); cells = p.cells; flags = p.flags }

pub returns : goal.returns
returns c = λ e q. reads_less (λ l h. h.held) (c.read_rising.ensures e q)
