-- A letters book: the codes of a bank's scanner letters, or the refusal. Document 02, S-8: "A letters book is one line, `L` and 26 codes
-- for A to Z, 0 meaning unused. [..] A code above t is stray. [..] an empty one is torn. [..] Errors: 14 shared letter (..), after stray."
use Rattle.std.specs.Prelude.{ℕ, List, cond, ◌&&◌, leb, ltb, eqb, length, replicate}
use Rattle.fixpoint.specs.declared.Found.{Found}
use Rattle.range.specs.Range.{within}
use Rattle.reply.specs.declared.Kind.{Kind}
use Rattle.reply.specs.declared.Kind.TheVariants as kind
use Rattle.reply.specs.declared.Refusal.{Refusal}
use Rattle.reply.specs.declared.Reply.{Reply}
use Rattle.reply.specs.declared.Reply.TheVariants as reply
use Rattle.reply.specs.Reply.{padded}
use Rattle.table_lines.specs.Line.{TextLine, line_at, on_line, all_at_most}
use Rattle.letters.specs.Shared.{lowest_shared}

-- what a letters book gives: the codes of A to Z, or the refusal
pub data Letters : Type 0 where
  codes : List ℕ → Letters
  refused : Refusal → Letters

abbrev pub refused_at : Kind → ℕ → Letters
refused_at k place = refused (record { kind = k; place = place })

-- "14 shared letter", at a letter's index
abbrev pub unless_shared : Found → List ℕ → Letters
unless_shared (Found.At i) l = refused_at kind.AmbiguousLetter i
unless_shared Found.Nothing l = codes l

-- the line of a book of so many bytes: its form (1), its figures' limits (2), what it names (3), each at its first byte; then "one line":
-- a second one is 1 at its own; then 14. `L` is 76.
unfoldable pub by_line : ℕ → ℕ → TextLine → Letters
by_line t size x =
    on_line x (λ letter l next.
    cond (eqb letter 76 && eqb (length l) 26)
    (cond (all_at_most 65535 l)
    (cond (all_at_most t l)
    (cond (ltb next size) (refused_at kind.Malformed next) (unless_shared (lowest_shared l) l))
    (refused_at kind.Undeclared 0))
    (refused_at kind.LimitExceeded 0))
    (refused_at kind.Malformed 0))
    (refused_at kind.Malformed 0)

-- a letters book for t terminals. "t | 1 | 63" and "book or scan file | 0 | 65,536 bytes" come before its line, at 0.
unfoldable pub letters_of : ℕ → List ℕ → Letters
letters_of t s = cond (within 1 t 63 && leb (length s) 65536) (by_line t (length s) (line_at s 0)) (refused_at kind.LimitExceeded 0)

-- the reply before the room is looked at; no token is read, so the place of reply 0 is 0
abbrev pub reply_of : Letters → Reply
reply_of (codes l) = reply.Accepted 0
reply_of (refused x) = reply.Refused x

pub record Outcome : Type 0 where
  pub reply : Reply
  pub codes : List ℕ

-- "After a refusal every output slice is zeros"
abbrev pub refusal : Refusal → ℕ → Outcome
refusal x room = record { reply = reply.Refused x; codes = replicate room 0 }

-- what reading it into a slice of `room` codes gives; "a lent slice is shorter than the whole result" comes last
unfoldable pub outcome_of : Letters → ℕ → Outcome
outcome_of (codes l) room =
    cond (leb 26 room) (record { reply = reply.Accepted 0; codes = padded room l }) (refusal (record { kind = kind.BufferTooSmall; place = 0 }) room)
outcome_of (refused x) room = refusal x room
