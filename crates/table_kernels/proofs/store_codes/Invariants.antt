-- What the codes from here on store in what is stored is what all of them store at first.
use Rattle.table_kernels.specs.Memory.{flagged}
use lib.ListN.{drop}
use mathlib.Core.Path.{◌≡◌}
use Rattle.table_kernels.proofs.store_codes.Given as goal

abbrev pub invariant-loop-code : goal.invariant-loop-code
invariant-loop-code l = flagged l.initial.lookaheads l.base l.code-items ≡ flagged l.lookaheads l.base (drop l.code-index l.code-items)
