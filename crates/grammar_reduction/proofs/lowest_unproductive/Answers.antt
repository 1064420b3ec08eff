-- The flags after the closure mark the productive symbols, whatever grammar memory holds.
use Rattle.grammar_reduction.proofs.TransferLaws.{found_unproductive}
use Rattle.grammar_reduction.proofs.lowest_unproductive.Goals as goal

pub returns : goal.returns
returns c g h e k =
    found_unproductive g c.requires.shaped h e k
    c.flag_terminals.ensures c.close_productions.ensures
    c.lowest_unset.result c.lowest_unset.ensures
