-- What a walk over a machine in memory comes back with, by the walk of the theory.
use Rattle.std.specs.Prelude.{ℕ, ◌≤◌, ◌≡◌, List, [], length, take, Result, Ok, Err}
use Rattle.language.specs.Grammar.{Grammar}
use Rattle.language.specs.Listing.{units_in}
use Rattle.leftcorner.specs.Machine.{Verdict, whole_at, wrong_at, short_at, walk}
use Rattle.reply.specs.declared.Kind.TheVariants.{BufferTooSmall, SyntaxError}
use Rattle.reply.specs.declared.Refusal.{Refusal}
use Rattle.reply.specs.declared.Reply.{Reply}
use Rattle.reply.specs.declared.Reply.TheVariants as reply
use Rattle.walk_tables.specs.Memory.{memory_grammar, memory_automaton}
use Rattle.walk_tables.specs.declared.Machine.{Machine}
use Rattle.walker.specs.declared.Tally.{Tally}

-- the walk of the machine in memory, with a stack slice of n places and a listing slice of k
unfoldable pub memory_walk : Machine → ℕ → ℕ → List ℕ → Verdict
memory_walk mem n k w = walk (memory_grammar mem.rules) (memory_automaton mem) n k w

abbrev pub Walked : Type 0
Walked = Result Tally Refusal

-- 0 ("whole"), 11 ("short slip"), 12 ("wrong scan"): the reply with its place and counts
abbrev pub answer : Grammar → Verdict → Walked
answer g (whole_at p l) = Ok (record { tokens = p; rules = length l; units = units_in g l })
answer g (wrong_at p) = Err (record { kind = SyntaxError; place = p })
answer g (short_at p) = Err (record { kind = BufferTooSmall; place = p })

-- "Only zeros, never a partial listing, tell of a wrong scan."
abbrev pub listed : Verdict → List ℕ
listed (whole_at p l) = l
listed (wrong_at p) = []
listed (short_at p) = []

-- the number and the place are the reply's: of whole, the place is "tokens read"
abbrev pub as_reply : Walked → Reply
as_reply (Ok t) = reply.Accepted t.tokens
as_reply (Err x) = reply.Refused x

-- "After a refusal [..] every count 0."
abbrev pub rule_count : Walked → ℕ
rule_count (Ok t) = t.rules
rule_count (Err x) = 0

abbrev pub unit_count : Walked → ℕ
unit_count (Ok t) = t.units
unit_count (Err x) = 0

-- a walk that ended so, with its listing at the front of the slice
pub record Ended (g : Grammar) (v : Verdict) (w : Walked) (slice : List ℕ) : Type 0 where
  pub answered : w ≡ answer g v
  pub front : take (length (listed v)) slice ≡ listed v
  pub within : length (listed v) ≤ length slice
