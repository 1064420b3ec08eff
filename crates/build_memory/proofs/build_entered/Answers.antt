use Rattle.build_kernel_sets.proofs.CellLaws.{blank_zeros}
use Rattle.build_memory.proofs.StateLaws.{grammar_of, stated_of}
use Rattle.build_memory.proofs.build_entered.Goals as goal

pub find_states-found-requires-clause-blank : goal.find_states-found-requires-clause-blank
find_states-found-requires-clause-blank c = let L = c.requires.lent in blank_zeros 16640 16640 16640 L.kinds_zeros L.values_zeros L.gotos_zeros

pub returns : goal.returns
returns c =
    let f = c.find_states-found.ensures in
    λ gs g h E. c.build_stated.ensures gs g h (stated_of E (rw c.in-States.is at f.safe) (rw c.in-States.is at (f.discovers g (grammar_of E))))
