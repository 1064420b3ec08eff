-- Nullable symbols from cleared flags, first sets from the terminals' own.
use Rattle.analysis.proofs.TransferLaws.{sets_of}
use Rattle.analysis.proofs.find_sets.Goals as goal

pub returns : goal.returns
returns c g h e =
    sets_of g c.requires.shaped h e c.requires.nullable_value.0 c.close_productions.ensures
    c.flag_diagonal.ensures c.close_first.ensures
