-- The terminals that a grammar book's first line tells are the grammar's, where the books are accepted.
use Prim.Native.Nat.{ℕ}
use mathlib.Core.Path.{◌≡◌, ap, ◌∙◌}
use mathlib.Core.List.{List}
use Rattle.language.specs.Grammar.{Grammar}
use Rattle.leftcorner.specs.Table.{Table}
use Rattle.grammar.proofs.HeaderLaws.{accepted_headed}
use Rattle.table.specs.Book.{whole}
use Rattle.table_facts.proofs.Sound.{tables_grammar}
use Rattle.checker.specs.Checked.{checked_of}
use Rattle.checker.proofs.Exactly.{accepted}
use Rattle.lettered_scans.specs.Lettered.{terminals_of, terminals_in}

pub terminals_in_lem : (gs s : List ℕ) {g : Grammar} {t : Table} → checked_of gs s ≡ whole g t → terminals_in gs ≡ g.terminals
unfolding terminals_in
terminals_in_lem gs s {g} e =
    let H = accepted_headed gs g (tables_grammar gs s (accepted gs s e).reads) in
    ap terminals_of H.header_is ∙ H.terminals_is
