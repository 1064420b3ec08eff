-- Demand 3: for every table that meets the construction, whoever built it, and for every list of the grammar's tokens.
use Rattle.std.specs.Prelude.{ℕ, List}
use Rattle.language.specs.Grammar.{Grammar, IsTerminal}
use Rattle.language.specs.Sentence.{In, Declared, AllProductive}
use Rattle.leftcorner.specs.Table.{Table, automaton}
use Rattle.leftcorner.specs.Construction.{Meets}
use Rattle.leftcorner.specs.Claim.{Claim}

-- `Declared`: what a grammar book that is read says of its symbols. `AllProductive`: "Here a grammar has no barren [..] nonterminal."
-- `Meets`: "Tables are accepted if and only if their items, contexts and cells meet the left-corner construction of document 01."
-- The list may have any length, and each token is "1 to t". `Claim` holds the sentences of the demand, one by one.
abbrev pub Demand3 : Type 0
Demand3 = (g : Grammar) (t : Table) → Declared g → AllProductive g → Meets g t
    → (w : List ℕ) → ((a : ℕ) → In a w → IsTerminal g a) → Claim g (automaton g t) w
