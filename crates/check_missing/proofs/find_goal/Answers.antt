-- What is asked of the goal's entry, then a search among the lines of q.
use mathlib.Core.Path.{refl}
use Rattle.check_missing.proofs.MissingLaws.{goal_missing}
use Rattle.check_missing.proofs.find_goal.Goals as goal

pub returns-clause-missing_is : goal.returns-clause-missing_is
returns-clause-missing_is c = λ g t items kinds values gotos nul fst strings codes u H. goal_missing g t H u 65536 refl c.ask_goal.ensures _ c.find_asked.ensures
