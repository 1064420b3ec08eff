-- The number and the place of each reply, and how a slice is filled. Document 01, 'Replies'; from 13 on document 02.
use Rattle.std.specs.Prelude.{ℕ, ◌-◌, List, ◌++◌, length, replicate}
use Rattle.reply.specs.declared.Kind.{Kind}
use Rattle.reply.specs.declared.Kind.TheVariants as kind
use Rattle.reply.specs.declared.Reply.{Reply}
use Rattle.reply.specs.declared.Reply.TheVariants as reply

-- the column "no." of the table; its column "word" stands beside
abbrev pub kind_number : Kind → ℕ
kind_number kind.Malformed = 1  -- torn
kind_number kind.LimitExceeded = 2  -- oversize
kind_number kind.Undeclared = 3  -- stray
kind_number kind.MisplacedMark = 4  -- mark
kind_number kind.Unproductive = 5  -- barren
kind_number kind.Unreachable = 6  -- cut off
kind_number kind.ItemMismatch = 7  -- items
kind_number kind.MissingLookahead = 8  -- narrow
kind_number kind.Conflict = 9  -- clash
kind_number kind.CellMismatch = 10  -- cell
kind_number kind.BufferTooSmall = 11  -- short slip
kind_number kind.SyntaxError = 12  -- wrong scan
kind_number kind.ConflictingRepeat = 13  -- S-3: crossed
kind_number kind.AmbiguousLetter = 14  -- S-8: shared letter

-- "0 | whole | accepted, or read to the end"
abbrev pub number_of : Reply → ℕ
number_of (reply.Accepted n) = 0
number_of (reply.Refused x) = kind_number x.kind

-- the column "place"; of whole it is "tokens read, else 0"
abbrev pub place_of : Reply → ℕ
place_of (reply.Accepted n) = n
place_of (reply.Refused x) = x.place

-- "After success a listing, token list or book is followed by zeros.", in a slice of this size
unfoldable pub padded : ℕ → List ℕ → List ℕ
padded size l = l ++ replicate (size - length l) 0
