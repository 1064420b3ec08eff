-- A session over a scan file: lengths of all three files, grammar, tables, scan lines, tokens, walk. With a letters book (document 02, S-8):
-- lengths of all four, grammar, tables, letters, scan lines, tokens, walk.
use Rattle.std.specs.Prelude.{ℕ, cond, List, ltb, length}
use Rattle.reply.specs.declared.Kind.TheVariants.{LimitExceeded}
use Rattle.reply.specs.declared.Refusal.{Refusal}
use Rattle.scans.specs.File.{Scanned, tokens, refused, house, scanned}
use Rattle.lettered_scans.specs.Lettered.{lettered, too_long}
use Rattle.table.specs.Book.{Reading, whole, rejected}
use Rattle.checker.specs.Checked.{checked_of}
use Rattle.session.specs.Session.{Session, refused_by, refused_at, session}

-- a refusal of the scan file comes after those of the books
abbrev pub first_refusal : Reading → Refusal → Refusal
first_refusal (whole g t) why = why
first_refusal (rejected first) why = first

abbrev pub after_scans : ℕ → ℕ → List ℕ → List ℕ → Scanned → Session
after_scans n k gs s (tokens w) = session gs s w n k
after_scans n k gs s (refused why) = refused_by n k (first_refusal (checked_of gs s) why)

-- "book or scan file | 0 | 65,536 bytes"; of a length the place is 0
unfoldable pub scan_session : (gs s file : List ℕ) (n k : ℕ) → Session
scan_session gs s file n k = cond (ltb 65536 (length file)) (refused_at n k LimitExceeded 0) (after_scans n k gs s (scanned house file))

-- ---- "A bank's own letters"
-- "tested after both books, before the scans. A code above t is stray."
abbrev pub after_letters : ℕ → ℕ → List ℕ → List ℕ → Reading → List ℕ → List ℕ → Session
after_letters n k gs s (whole g t) letters file = after_scans n k gs s (lettered g.terminals letters file)
after_letters n k gs s (rejected first) letters file = refused_by n k first

unfoldable pub lettered_session : (gs s letters file : List ℕ) (n k : ℕ) → Session
lettered_session gs s letters file n k = cond (too_long letters file) (refused_at n k LimitExceeded 0) (after_letters n k gs s (checked_of gs s) letters file)
