-- Demand 3 of the walk (specs/Demand3.antt), proved.
use Rattle.language.specs.Grammar.{Grammar}
use Rattle.language.specs.Sentence.{Declared, AllProductive}
use Rattle.leftcorner.specs.Table.{Table, automaton}
use Rattle.leftcorner.specs.Construction.{Meets}
use Rattle.leftcorner.specs.Demand3.{Demand3}
use Rattle.leftcorner.proofs.Bridge.{complete, exact}
use Rattle.leftcorner.proofs.Bounded.{enough, short}
use Rattle.leftcorner.proofs.Correct.{correct, pops_some}
use Rattle.leftcorner.proofs.Progress.{PopsSome}

pub demand3 : Demand3
demand3 g t D R M w tokens =
    let C = complete g t D M in
    let E = exact g t D M R in
    let c = correct C E w tokens in
    record {
      ending = c.ending;
      stack_need = c.stack_need;
      listed = c.listed;
      ends = c.ends;
      enough = enough g (automaton g t) (pops_some C E) c.ends (λ a i. (tokens a i).0);
      short = short g (automaton g t) (pops_some C E) c.ends;
      whole_exactly = c.whole_exactly;
      one_derivation = c.one_derivation;
      its_listing = c.its_listing;
      wrong_exactly = c.wrong_exactly;
      safe = c.safe;
      viable = c.viable;
    }

-- a table that meets the construction has no pop of nothing
pub table_pops : (g : Grammar) (t : Table) → Declared g → AllProductive g → Meets g t → PopsSome (automaton g t)
table_pops g t D R M = pops_some (complete g t D M) (exact g t D M R)
