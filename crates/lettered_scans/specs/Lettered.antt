-- The tokens of a scan file through a letters book. Document 02, S-8: "It replaces the house letters for a session, and is tested [..] before
-- the scans. [..] Tokens, and so all replies, are then read through the bank's line."
use Rattle.std.specs.Prelude.{ℕ, List, Bool, cond, ◌||◌, leb, ltb, length}
use Rattle.reply.specs.declared.Kind.TheVariants.{LimitExceeded}
use Rattle.grammar_header.specs.declared.HeaderLine.{HeaderLine}
use Rattle.grammar_header.specs.declared.HeaderLine.TheVariants as header
use Rattle.grammar_header.specs.Header.{header_of}
use Rattle.letters.specs.Letters.{Letters, codes, letters_of}
use Rattle.letters.specs.Letters as letters
use Rattle.scans.specs.File.{Scanned, refused, refused_at, scanned}

-- by what reading the letters book came to
abbrev pub by_letters : Letters → List ℕ → Scanned
by_letters (codes l) file = scanned l file
by_letters (letters.refused why) file = refused why

-- both lengths come before any line, the letters book's in `letters_of`, and each is 2 at 0
unfoldable pub lettered : ℕ → List ℕ → List ℕ → Scanned
lettered t book file = cond (leb (length file) 65536) (by_letters (letters_of t book) file) (refused_at LimitExceeded 0)

-- ---- for sessions
-- "book or scan file | 0 | 65,536 bytes"
unfoldable pub too_long : List ℕ → List ℕ → Bool
too_long book file = ltb 65536 (length book) || ltb 65536 (length file)

-- t by a grammar book's first line; of a book that is accepted it is the grammar's
abbrev pub terminals_of : HeaderLine → ℕ
terminals_of (header.Read h next) = h.terminals
terminals_of (header.Refused why) = 0

unfoldable pub terminals_in : List ℕ → ℕ
terminals_in gs = terminals_of (header_of gs)
