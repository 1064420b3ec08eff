-- A whole scan file: its tokens, or why it is refused. Document 01, 'Scan files' and 'Replies'; document 02, S-3.
use Rattle.std.specs.Prelude.{ℕ, zero, suc, ◌+◌, ◌-◌, List, [], ◌∷◌, ◌++◌, cond, length, replicate, leb, ltb}
use Rattle.std.proofs.Math.Option.{none}
use Rattle.reply.specs.declared.Kind.TheVariants as kind
use Rattle.reply.specs.declared.Refusal.{Refusal}
use Rattle.reply.specs.declared.Reply.{Reply}
use Rattle.reply.specs.declared.Reply.TheVariants as reply
use Rattle.scan_lines.specs.Line.{line_at, on_line, scan_of}
use Rattle.scan_lines.specs.Tokens.{Row, scan, broken, tokens_of}
pub use Rattle.scan_lines.specs.Tokens.{Scanned, tokens, refused, refused_at}

-- "House letters: D 1, G 2, P 3, E 5, T 6, F 7; others are strays." The codes of A to Z.
abbrev pub house : List ℕ
house =
    0 ∷ 0 ∷ 0 ∷ 1 ∷ 5 ∷ 7 ∷ 2 ∷ 0 ∷ 0 ∷ 0 ∷ 0 ∷ 0 ∷ 0 ∷ 0 ∷ 0 ∷ 3 ∷ 0 ∷ 0 ∷ 0 ∷ 6 ∷ 0 ∷ 0 ∷ 0 ∷ 0 ∷ 0 ∷ 0 ∷ []

-- the lines of s at `at` and after it, of which there are at most as many as the third argument says, up to one that is torn; the first
-- byte of s has the place `first`
unfoldable pub rows_from : ℕ → List ℕ → ℕ → ℕ → List Row
rows_from first s zero at = []
rows_from first s (suc k) at =
    cond (ltb at (length s))
    (on_line (line_at s at) (λ line. scan (first + at) (scan_of s line) ∷ rows_from first s k (line.end + 1)) (broken (first + at) ∷ []))
    []

-- all lines; a line has a byte at least, so there are at most as many lines as bytes
abbrev pub rows_of : ℕ → List ℕ → List Row
rows_of first s = rows_from first s (length s) 0

-- what the lines of s give
abbrev pub all_lines : List ℕ → ℕ → List ℕ → Scanned
all_lines letters first s = tokens_of letters none (rows_of first s)

-- "Scan files: length, then lines in order": "book or scan file | 0 | 65,536 bytes", place "0 for a length"
unfoldable pub scanned : List ℕ → List ℕ → Scanned
scanned letters s = cond (leb (length s) 65536) (all_lines letters 0 s) (refused_at kind.LimitExceeded 0)

-- the reply before the room is looked at: of whole, the place is "tokens read"
abbrev pub reply_of : Scanned → Reply
reply_of (tokens l) = reply.Accepted (length l)
reply_of (refused x) = reply.Refused x

pub record Outcome : Type 0 where
  pub reply : Reply
  pub tokens : List ℕ

-- "After a refusal every output slice is zeros"
abbrev pub refusal : Refusal → ℕ → Outcome
refusal x room = record { reply = reply.Refused x; tokens = replicate room 0 }

-- "then 11": "a lent slice is shorter than the whole result", place 0. "After success a .. token list .. is followed by zeros."
unfoldable pub outcome_of : Scanned → ℕ → Outcome
outcome_of (tokens l) room =
    cond (leb (length l) room)
    (record { reply = reply.Accepted (length l); tokens = l ++ replicate (room - length l) 0 })
    (refusal (record { kind = kind.BufferTooSmall; place = 0 }) room)
outcome_of (refused x) room = refusal x room

-- what reading a scan file into a slice of `room` tokens gives, with the house letters
unfoldable pub scans_of : List ℕ → ℕ → Outcome
scans_of s room = outcome_of (scanned house s) room
