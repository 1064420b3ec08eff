-- `table_kernels::no_kernel` meets its contract. Assumes nothing.
use Rattle.table_kernels.proofs.NextLaws.{none_first, none_later}
use mathlib.Core.Path.{sym, ◌∙◌}
use Rattle.table_kernels.proofs.no_kernel.Goals as goal

pub returns-then-lines-eq0 : goal.returns-then-lines-eq0
returns-then-lines-eq0 c = λ l e. none_first _ l (e ∙ c.if-lines-eq0.true)

pub returns : goal.returns
returns c = λ l e. none_later _ l (λ z. c.if-lines-eq0.false (sym e ∙ z))
