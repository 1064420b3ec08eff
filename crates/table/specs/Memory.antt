-- What the reader of table books answers, and what it leaves in each slice.
use Rattle.std.specs.Prelude.{ℕ, ◌≤◌, Bool, ◌&&◌, leb, length}
use Rattle.language.specs.Grammar.{Grammar}
use Rattle.reply.specs.declared.Refusal.{Refusal}
use Rattle.reply.specs.declared.Reply.{Reply}
use Rattle.reply.specs.declared.Reply.TheVariants.{Accepted, Refused}
use Rattle.grammar.specs.Memory.{heading_of}
use Rattle.leftcorner.specs.Table.{Table}
use Rattle.table.specs.declared.Counts.{Counts}
use Rattle.table.specs.declared.TableReply.{TableReply}
use Rattle.table.specs.declared.TableReply.TheVariants as reply
use Rattle.table_blocks.specs.Memory.{Zero, Cleared}
use Rattle.table.specs.Book.{Reading, whole, rejected}
pub use Rattle.table_blocks.specs.Memory.{Slices, slices, Holds}

abbrev pub counts_of : Grammar → Table → Counts
counts_of g t = record { grammar = heading_of g; states = t.states; entries = length t.entries; kernels = length t.kernels }

abbrev pub reply_of : Reading → TableReply
reply_of (whole g t) = reply.Read (counts_of g t)
reply_of (rejected why) = reply.Refused why

abbrev pub as_reply : TableReply → Reply
as_reply (reply.Read c) = Accepted 0
as_reply (reply.Refused why) = Refused why

-- each has the bytes that the whole result needs
unfoldable pub room_for : (items states kernels lookaheads kinds values gotos named : ℕ) → Bool
room_for items states kernels lookaheads kinds values gotos named =
    leb 16640 items && (leb 256 states && (leb 4096 kernels && (leb 65536 lookaheads && (leb 16640 kinds && (leb 16640 values && (leb 16640 gotos && leb 256 named))))))

abbrev pub has_room : Slices → Bool
has_room b =
    room_for (length b.items) (length b.states) (length b.kernels) (length b.lookaheads) (length b.kinds) (length b.values) (length b.gotos)
    (length b.named)

pub record SlicesRoom (b : Slices) : Type 0 where
  pub items_room : 16640 ≤ length b.items
  pub states_room : 256 ≤ length b.states
  pub kernels_room : 4096 ≤ length b.kernels
  pub lookaheads_room : 65536 ≤ length b.lookaheads
  pub kinds_room : 16640 ≤ length b.kinds
  pub values_room : 16640 ≤ length b.values
  pub gotos_room : 16640 ≤ length b.gotos
  pub named_room : 256 ≤ length b.named

-- all zeros, with room for items
pub record ZeroSlices (b : Slices) : Type 0 where
  pub items_none : Zero b.items
  pub cleared : Cleared b
  pub room : 16640 ≤ length b.items

-- on the way: what a refusal leaves is to be cleared
pub data Fills (b a : Slices) : Reading → TableReply → Type 0 where
  filled_with : {g : Grammar} {t : Table} → Holds (whole g t) b a → Fills b a (whole g t) (reply.Read (counts_of g t))
  denied : {why : Refusal} → Fills b a (rejected why) (reply.Refused why)
