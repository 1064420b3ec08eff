-- What the reader of grammar books answers, and what it leaves in the slice that is lent for the item table.
use Rattle.std.specs.Prelude.{ℕ, ◌≤◌, ◌≡◌, List, [], cond, ltb, length, replicate}
use Rattle.language.specs.Grammar.{Grammar}
use Rattle.language.specs.WellFormed.{WellFormed}
use Rattle.items.specs.Layout.{item_table, layout}
use Rattle.reply.specs.declared.Kind.TheVariants as kind
use Rattle.reply.specs.declared.Reply.{Reply}
use Rattle.reply.specs.declared.Reply.TheVariants.{Accepted, Refused}
use Rattle.grammar_header.specs.declared.Heading.{Heading}
use Rattle.grammar.specs.declared.RuleLines.{RuleLines}
use Rattle.grammar.specs.declared.RuleLines.TheVariants as lines
use Rattle.grammar.specs.declared.GrammarReply.{GrammarReply}
use Rattle.grammar.specs.declared.GrammarReply.TheVariants as reply
use Rattle.grammar.specs.Book.{Rules, listed, broken_off, Book, accepted, rejected, rejected_at, grammar_of}

-- ---- the answer
abbrev pub heading_of : Grammar → Heading
heading_of g = record { terminals = g.terminals; nonterminals = g.nonterminals; rules = length g.rules; goal = g.goal }

-- the answer as a reply, whose number and place are `number_of` and `place_of` of it
abbrev pub as_reply : GrammarReply → Reply
as_reply (reply.Read h) = Accepted 0
as_reply (reply.Refused x) = Refused x

abbrev pub reply_of : Book → GrammarReply
reply_of (accepted g) = reply.Read (heading_of g)
reply_of (rejected x) = reply.Refused x

-- 11, "a lent slice is shorter than the whole result", after everything else. The table has 128 rows of 64 bytes, whatever the
-- number of rules.
abbrev pub fitted : ℕ → Book → Book
fitted size (accepted g) = cond (ltb size 8192) (rejected_at kind.BufferTooSmall 0) (accepted g)
fitted size (rejected x) = rejected x

-- a book read into a slice of `size` bytes
abbrev pub read_of : List ℕ → ℕ → Book
read_of s size = fitted size (grammar_of s)

-- "After a refusal every output slice is zeros"; after success the item table is followed by zeros
abbrev pub memory_of : Book → ℕ → List ℕ
memory_of (accepted g) size = layout g size
memory_of (rejected x) size = replicate size 0

-- ---- on the way
abbrev pub lines_reply : Rules → RuleLines
lines_reply (listed rs end) = lines.Read end
lines_reply (broken_off x) = lines.Refused x

-- rules that were read are laid out; what a refusal leaves is to be cleared
abbrev pub ListedBy : Rules → ℕ → List ℕ → Type 0
ListedBy (listed rs end) size m = m ≡ item_table rs [] size
ListedBy (broken_off x) size m = Unit {0}

pub record Listed (r : Rules) (size : ℕ) (m : List ℕ) : Type 0 where
  pub table : ListedBy r size m

abbrev pub LaidBy : Book → ℕ → List ℕ → Type 0
LaidBy (accepted g) size m = m ≡ layout g size
LaidBy (rejected x) size m = Unit {0}

pub record Laid (b : Book) (size : ℕ) (m : List ℕ) : Type 0 where
  pub table : LaidBy b size m

-- memory holds a well-formed grammar with this heading
pub record HoldsGrammar (m : List ℕ) (h : Heading) (g : Grammar) : Type 0 where
  pub formed : WellFormed g
  pub laid : m ≡ layout g (length m)
  pub room : 8192 ≤ length m
  pub heading : h ≡ heading_of g

pub record HoldsSomeGrammar (m : List ℕ) (h : Heading) : Type 0 where
  pub grammar : Grammar
  pub ready : HoldsGrammar m h grammar
