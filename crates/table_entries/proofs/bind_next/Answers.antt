use mathlib.Core.Path.{sym, ◌∙◌}
use Rattle.table_entries.proofs.OrderLaws.{binds_none, binds_still, binds_next}
use Rattle.table_entries.proofs.bind_next.Goals as goal
use Rattle.table_entries.proofs.bind_next.Goals.{then-entries-eq0-via-then-entries-eq0, then-entries-eq0-via-else-entries-eq0+then-used-eq0}

pub returns-then-entries-eq0 : goal.returns-then-entries-eq0
returns-then-entries-eq0 c = λ rs l s γ n last used.
    last ∙ elim c.then-entries-eq0.branch [
      | then-entries-eq0-via-then-entries-eq0 w ↦ binds_none rs l s γ (n ∙ w.if-entries-eq0.true)
      | then-entries-eq0-via-else-entries-eq0+then-used-eq0 w ↦ binds_still rs l s γ (λ z. w.if-entries-eq0.false (sym n ∙ z)) (sym used ∙ w.if-used-eq0.true)
    ]

pub returns : goal.returns
returns c = λ rs l s γ n last used. used ∙ binds_next rs l s γ (λ z. c.if-entries-eq0.false (sym n ∙ z)) (λ z. c.if-used-eq0.false (used ∙ z))
