-- `table_kernels::store_figures` meets its contract. Assumes nothing.
use mathlib.Core.List.{List}
use mathlib.Core.Path.{ap, ◌∙◌}
use Prim.Native.Nat.{ℕ, ◌+◌, ◌*◌}
use lib.ListN.{set}
use Rattle.table_kernels.proofs.store_figures.Goals as goal

pub returns : goal.returns
returns c = let a = c.args in
    c.put-3.ensures
    ∙ (ap (λ (m : List ℕ). set m (a.line * 4 + 2) a.dot) c.put-2.ensures
    ∙ ap (λ (m : List ℕ). set (set m (a.line * 4 + 1) a.item) (a.line * 4 + 2) a.dot) c.put.ensures)
