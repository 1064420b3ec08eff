-- A remainder is below what it is taken by.
use Rattle.std.proofs.Common.{◌/◌, refl, mod-lt, arith}
use Rattle.generate_choices.proofs.draw.Goals as goal

pub overflow_cast-result-2 : goal.overflow_cast-result-2
overflow_cast-result-2 c = record { fits = omega (arith, mod-lt (c.args.state / 65536) c.requires.0, c.requires.1) }

pub returns : goal.returns
returns c = (refl, mod-lt (c.args.state / 65536) c.requires.0)
