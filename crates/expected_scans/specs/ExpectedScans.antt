-- What could have come over a scan file: lengths of all three files, grammar, tables, scan lines, tokens, walk and trials. With a letters
-- book (document 02, S-8): lengths of all four, grammar, tables, letters, scan lines, tokens, walk and trials.
use Rattle.std.specs.Prelude.{ℕ, cond, List, ltb, length}
use Rattle.reply.specs.declared.Kind.TheVariants.{LimitExceeded}
use Rattle.scans.specs.File.{Scanned, tokens, refused, house, scanned}
use Rattle.lettered_scans.specs.Lettered.{lettered, too_long}
use Rattle.table.specs.Book.{Reading, whole, rejected}
use Rattle.checker.specs.Checked.{checked_of}
use Rattle.scan_session.specs.ScanSession.{first_refusal}
use Rattle.expected_trials.specs.Trials.{Expected, refused_by}
use Rattle.expected.specs.Expected.{expected}

abbrev pub after_scans : ℕ → ℕ → ℕ → List ℕ → List ℕ → Scanned → Expected
after_scans n k room gs s (tokens w) = expected gs s w n k room
after_scans n k room gs s (refused why) = refused_by room (first_refusal (checked_of gs s) why)

-- "book or scan file | 0 | 65,536 bytes"; of a length the place is 0
unfoldable pub expected_scans : (gs s file : List ℕ) (n k room : ℕ) → Expected
expected_scans gs s file n k room =
    cond (ltb 65536 (length file)) (refused_by room (record { kind = LimitExceeded; place = 0 })) (after_scans n k room gs s (scanned house file))

-- ---- "A bank's own letters", as in a session
abbrev pub after_letters : ℕ → ℕ → ℕ → List ℕ → List ℕ → Reading → List ℕ → List ℕ → Expected
after_letters n k room gs s (whole g t) letters file = after_scans n k room gs s (lettered g.terminals letters file)
after_letters n k room gs s (rejected first) letters file = refused_by room first

unfoldable pub expected_lettered : (gs s letters file : List ℕ) (n k room : ℕ) → Expected
expected_lettered gs s letters file n k room =
    cond (too_long letters file) (refused_by room (record { kind = LimitExceeded; place = 0 })) (after_letters n k room gs s (checked_of gs s) letters file)
