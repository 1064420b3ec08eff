-- The letters book, then the file.
use Rattle.lettered_scans.proofs.LetteredLaws.{too_long_lem, letters_refused, letters_read}
use Rattle.lettered_scans.proofs.read_lettered.Goals as goal

by-clause : {A B : Type 0} → A × B → record { replied : A; stored : B }
by-clause h = record { replied = h.0; stored = h.1 }

pub returns-then-file-gt-LONGEST : goal.returns-then-file-gt-LONGEST
returns-then-file-gt-LONGEST c = by-clause (too_long_lem _ _ _ _ c.if-file-gt-LONGEST.true c.refuse_file.ensures.refused c.refuse_file.ensures.zeroed)

pub returns-in-Refused : goal.returns-in-Refused
returns-in-Refused c =
    by-clause (letters_refused _ _ _ _ c.if-file-gt-LONGEST.false c.read_letters.ensures.replied c.in-Refused.is
    c.refuse_file-in-Refused.ensures.refused c.refuse_file-in-Refused.ensures.zeroed)

pub returns-in-Accepted : goal.returns-in-Accepted
returns-in-Accepted c =
    by-clause (letters_read _ _ _ _ c.if-file-gt-LONGEST.false c.read_letters.ensures.replied c.in-Accepted.is c.read_letters.ensures.stored
    c.read_by.ensures.replied c.read_by.ensures.stored)
