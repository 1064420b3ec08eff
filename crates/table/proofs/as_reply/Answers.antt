-- `table::as_reply` meets its contract. Assumes nothing.
use Rattle.table.specs.Memory.{as_reply}
use mathlib.Core.Path.{sym, ap}
use Rattle.table.proofs.as_reply.Goals as goal

pub returns-in-Refused : goal.returns-in-Refused
returns-in-Refused c = ap as_reply (sym c.in-Refused.is)
