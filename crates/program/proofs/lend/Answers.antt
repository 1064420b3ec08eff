use Rattle.std.proofs.Common.{sym}
use Rattle.std.proofs.lemmas.List.{length-replicate}
use Rattle.program.proofs.lend.Goals as goal

pub returns : goal.returns
returns c = sym (length-replicate 1048576 c.args.byte)
