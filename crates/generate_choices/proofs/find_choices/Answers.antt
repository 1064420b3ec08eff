-- First the heights, then the choices by them.
use Rattle.generate_choices.proofs.find_choices.Goals as goal

pub returns : goal.returns
returns c = λ g e t n. c.list_choices.ensures g e (c.find_heights.ensures g e t n) n
