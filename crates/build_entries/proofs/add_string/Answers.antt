-- A string that is found stays where it is; one that is not found gets the next row.
use native.Mathlib.Omega.{arith}
use lib.ListN.{take, drop}
use Rattle.table_lines.specs.Block.{Numbers}
use Rattle.build_states.specs.Strings.{entry_lines}
use Rattle.build_entries.proofs.NumberLaws.{string_fits, numbers_held}
use Rattle.build_entries.proofs.StoreLaws.{grown_more, lines_count, rows_in, stored_same, stored_more}
use Rattle.build_entries.proofs.add_string.Goals as goal
use Rattle.build_entries.proofs.add_string.Goals.{Start}

-- the numbers of the string
held : (s : Start) → Numbers (take s.args.count s.args.numbers.now) s.args.count s.args.numbers.now
held s = numbers_held _ _ (omega (arith, s.requires.strings_bound))

pub returns-then-find_entry-ne0-clause-stored : goal.returns-then-find_entry-ne0-clause-stored
returns-then-find_entry-ne0-clause-stored c =
    λ g l size h.
    stored_same h (drop 1 (take c.args.count c.args.numbers.now))
    (c.find_entry.ensures (entry_lines 1 l) (take c.args.count c.args.numbers.now)
    (lines_count h) (rows_in h (omega (arith, c.requires.strings_bound))) (held (goal.at.returns-then-find_entry-ne0-clause-stored c).Start))
    (λ z. omega (arith, z, c.if-find_entry-ne0.true))

pub returns-clause-grown : goal.returns-clause-grown
returns-clause-grown c =
    grown_more c.requires.entry_room c.requires.strings_bound.0
    (string_fits c.args.numbers.now c.args.count c.requires.by_index c.requires.strings_bound.2) c.store_row.ensures

pub returns-clause-stored : goal.returns-clause-stored
returns-clause-stored c =
    λ g l size h.
    stored_more h (drop 1 (take c.args.count c.args.numbers.now))
    (c.find_entry.ensures (entry_lines 1 l) (take c.args.count c.args.numbers.now)
    (lines_count h) (rows_in h (omega (arith, c.requires.strings_bound))) (held (goal.at.returns-clause-stored c).Start))
    (omega (arith, c.if-find_entry-ne0.false))
    (string_fits c.args.numbers.now c.args.count c.requires.by_index c.requires.strings_bound.2) c.store_row.ensures
