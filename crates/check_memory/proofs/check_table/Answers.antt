use mathlib.Core.Path.{◌∙◌}
use Rattle.check_entries.specs.Uses.{strings_of}
use Rattle.check_memory.proofs.VerdictLaws.{list_verdict}
use Rattle.check_memory.proofs.check_table.Goals as goal

pub returns-then-not-entries_meet : goal.returns-then-not-entries_meet
returns-then-not-entries_meet c = λ g t G e. c.refuse.ensures ∙ list_verdict g t ((c.entries_meet.ensures.decides g t (strings_of G.held) e).0.no c.if-not-entries_meet.true)
