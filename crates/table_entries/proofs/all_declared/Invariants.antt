-- The symbols that were passed are declared.
use Rattle.table_entries.specs.Entries.{all_declared}
use lib.ListN.{drop}
use mathlib.Core.Path.{◌≡◌}
use Rattle.table_entries.proofs.all_declared.Given as goal

abbrev pub invariant-loop-code : goal.invariant-loop-code
invariant-loop-code l = all_declared l.t l.n l.code-items ≡ all_declared l.t l.n (drop l.code-index l.code-items)
