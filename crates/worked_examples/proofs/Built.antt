-- The books of the worked examples are built and accepted (specs/Built.antt), by computing.
use Prim.Native.Nat.{ℕ}
use Rattle.language.specs.Grammar.{Grammar}
use Rattle.worked_examples.specs.Books.{Books}
use Rattle.worked_examples.proofs.Laws as laws
use Rattle.worked_examples.proofs.Laws.{Computes}
use Rattle.worked_examples.proofs.Computing.{computes}
use Rattle.worked_examples.specs.Built.{Built, AllBuilt}

pub by_computing : {b : Books} {g : Grammar} {n : ℕ} → Computes b g n → Built b
by_computing h = record { written = laws.built h; accepted = laws.verdict_is h }

pub built : AllBuilt
built = (by_computing computes.0, (by_computing computes.1, (by_computing computes.2, (by_computing computes.3, tt))))
