-- `table::clear_all` meets its contract. Assumes nothing.
use Rattle.table.proofs.clear_all.Goals as goal

pub shape_of-items : goal.shape_of-items
shape_of-items c = c.clear.auto.s

pub shape_of-entry_states : goal.shape_of-entry_states
shape_of-entry_states c = c.clear-2.auto.s

pub shape_of-kernels : goal.shape_of-kernels
shape_of-kernels c = c.clear-3.auto.s

pub shape_of-lookaheads : goal.shape_of-lookaheads
shape_of-lookaheads c = c.clear-4.auto.s

pub shape_of-kinds : goal.shape_of-kinds
shape_of-kinds c = c.clear-5.auto.s

pub shape_of-values : goal.shape_of-values
shape_of-values c = c.clear-6.auto.s

pub shape_of-gotos : goal.shape_of-gotos
shape_of-gotos c = c.clear-7.auto.s

pub shape_of-named : goal.shape_of-named
shape_of-named c = c.clear-8.auto.s

pub returns : goal.returns
returns c = record { after = c.clear.ensures; entry_states_after = c.clear-2.ensures; kernels_after = c.clear-3.ensures; lookaheads_after = c.clear-4.ensures; kinds_after = c.clear-5.ensures; values_after = c.clear-6.ensures; gotos_after = c.clear-7.ensures; named_after = c.clear-8.ensures }
