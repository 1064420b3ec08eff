-- `table::read_book` meets its contract. Assumes nothing.
use Rattle.table_head.proofs.HeadLaws.{head_within}
use Rattle.table.proofs.ReadLaws.{head_refused, head_read, blocks_deny, blocks_fill}
use Rattle.table.specs.Memory.{denied}
use mathlib.Core.Path.{sym, ◌∙◌}
use Rattle.table.proofs.read_book.Goals as goal

pub read_blocks-requires : goal.read_blocks-requires
read_blocks-requires c = let p = c.requires in
    let w = head_within _ (sym c.read_head.ensures ∙ c.in-Read.is) in
    record { s_len_bound = (p.s_len_bound, w.0.1, w.1.1); holds_heading = p.holds_heading }

pub returns-in-Refused : goal.returns-in-Refused
returns-in-Refused c = λ g k q. rw (head_refused g _ (sym c.read_head.ensures ∙ c.in-Refused.is)) denied

pub shape_of-items-in-Refused-read_blocks : goal.shape_of-items-in-Refused-read_blocks
shape_of-items-in-Refused-read_blocks c = c.read_blocks.auto.items

pub shape_of-entry_states-in-Refused-read_blocks : goal.shape_of-entry_states-in-Refused-read_blocks
shape_of-entry_states-in-Refused-read_blocks c = c.read_blocks.auto.entry_states

pub shape_of-kernels-in-Refused-read_blocks : goal.shape_of-kernels-in-Refused-read_blocks
shape_of-kernels-in-Refused-read_blocks c = c.read_blocks.auto.kernels

pub shape_of-lookaheads-in-Refused-read_blocks : goal.shape_of-lookaheads-in-Refused-read_blocks
shape_of-lookaheads-in-Refused-read_blocks c = c.read_blocks.auto.lookaheads

pub shape_of-kinds-in-Refused-read_blocks : goal.shape_of-kinds-in-Refused-read_blocks
shape_of-kinds-in-Refused-read_blocks c = c.read_blocks.auto.kinds

pub shape_of-values-in-Refused-read_blocks : goal.shape_of-values-in-Refused-read_blocks
shape_of-values-in-Refused-read_blocks c = c.read_blocks.auto.values

pub shape_of-gotos-in-Refused-read_blocks : goal.shape_of-gotos-in-Refused-read_blocks
shape_of-gotos-in-Refused-read_blocks c = c.read_blocks.auto.gotos

pub shape_of-named-in-Refused-read_blocks : goal.shape_of-named-in-Refused-read_blocks
shape_of-named-in-Refused-read_blocks c = c.read_blocks.auto.named

pub returns-in-Refused-read_blocks : goal.returns-in-Refused-read_blocks
returns-in-Refused-read_blocks c = λ g k q.
    rw (head_read g _ (sym c.read_head.ensures ∙ c.in-Read.is)) (blocks_deny (c.read_blocks.ensures g k q) c.in-Refused-read_blocks.is)

pub shape_of-items-in-Read-read_blocks : goal.shape_of-items-in-Read-read_blocks
shape_of-items-in-Read-read_blocks c = c.read_blocks.auto.items

pub shape_of-entry_states-in-Read-read_blocks : goal.shape_of-entry_states-in-Read-read_blocks
shape_of-entry_states-in-Read-read_blocks c = c.read_blocks.auto.entry_states

pub shape_of-kernels-in-Read-read_blocks : goal.shape_of-kernels-in-Read-read_blocks
shape_of-kernels-in-Read-read_blocks c = c.read_blocks.auto.kernels

pub shape_of-lookaheads-in-Read-read_blocks : goal.shape_of-lookaheads-in-Read-read_blocks
shape_of-lookaheads-in-Read-read_blocks c = c.read_blocks.auto.lookaheads

pub shape_of-kinds-in-Read-read_blocks : goal.shape_of-kinds-in-Read-read_blocks
shape_of-kinds-in-Read-read_blocks c = c.read_blocks.auto.kinds

pub shape_of-values-in-Read-read_blocks : goal.shape_of-values-in-Read-read_blocks
shape_of-values-in-Read-read_blocks c = c.read_blocks.auto.values

pub shape_of-gotos-in-Read-read_blocks : goal.shape_of-gotos-in-Read-read_blocks
shape_of-gotos-in-Read-read_blocks c = c.read_blocks.auto.gotos

pub shape_of-named-in-Read-read_blocks : goal.shape_of-named-in-Read-read_blocks
shape_of-named-in-Read-read_blocks c = c.read_blocks.auto.named

pub returns-in-Read-read_blocks : goal.returns-in-Read-read_blocks
returns-in-Read-read_blocks c = λ g k q.
    rw (head_read g _ (sym c.read_head.ensures ∙ c.in-Read.is)) (blocks_fill (c.read_blocks.ensures g k q) c.in-Read-read_blocks.is q)
