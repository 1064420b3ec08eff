-- What the generator answers to a grammar book, a seed and a depth. Document 02, S-4: "From an accepted grammar, a 32-bit seed
-- and a depth of 0 to 15, write a sentence and its listing."
use Rattle.std.specs.Prelude.{ℕ, ◌≡◌, Bool, cond, ◌&&◌, List, length, replicate, leb, ltb}
use Rattle.language.specs.Grammar.{Grammar}
use Rattle.language.specs.Derivation.{Tree, yield}
use Rattle.language.specs.Listing.{listing}
use Rattle.reply.specs.declared.Kind.{Kind}
use Rattle.reply.specs.declared.Kind.TheVariants.{LimitExceeded, BufferTooSmall}
use Rattle.reply.specs.declared.Refusal.{Refusal}
use Rattle.reply.specs.declared.Reply.{Reply}
use Rattle.reply.specs.declared.Reply.TheVariants as reply
use Rattle.reply.specs.Reply.{padded}
use Rattle.grammar.specs.Book.{Book, accepted, rejected, grammar_of}
use Rattle.generate_loads.specs.Load.{load}
use Rattle.generator.specs.declared.GeneratorReply.{GeneratorReply}
use Rattle.generator.specs.declared.GeneratorReply.TheVariants.{Written, Refused}

-- the reply, which has the counts, and both slices
pub record Answer : Type 0 where
  pub reply : GeneratorReply
  pub tokens : List ℕ
  pub listing : List ℕ

-- with a token slice of n places and a listing slice of k
module _ (n k : ℕ) where
  -- "After a refusal every output slice is zeros and every count 0."
  abbrev pub refused_by : Refusal → Answer
  refused_by why = record { reply = Refused why; tokens = replicate n 0; listing = replicate k 0 }

  abbrev pub refused_at : Kind → ℕ → Answer
  refused_at kind place = refused_by (record { kind = kind; place = place })

  -- tokens w and listed rules l
  abbrev pub written_as : List ℕ → List ℕ → Answer
  written_as w l = record { reply = Written (record { tokens = length w; rules = length l }); tokens = padded n w; listing = padded k l }

  -- "A load longer than its slices, or than 65,535 tokens, is a short slip."
  abbrev pub fits : List ℕ → List ℕ → Bool
  fits w l = leb (length w) 65535 && (leb (length w) n && leb (length l) k)

  unfoldable pub fitted : List ℕ → List ℕ → Answer
  fitted w l = cond (fits w l) (written_as w l) (refused_at BufferTooSmall 0)

  -- the load is a derivation's yield, and its listing the derivation's
  abbrev pub load_of : Grammar → Tree → Answer
  load_of g T = fitted (yield T) (listing g T)

  abbrev pub from_book : Book → ℕ → ℕ → Answer
  from_book (accepted g) seed d = load_of g (load g seed d)
  from_book (rejected why) seed d = refused_by why

  -- "A depth above 15 is oversize, place 0, tested with the lengths", of which the book's is the other (`grammar_of`)
  unfoldable pub generated : List ℕ → ℕ → ℕ → Answer
  generated gs seed d = cond (ltb 15 d) (refused_at LimitExceeded 0) (from_book (grammar_of gs) seed d)

-- a reply and both slices are what is generated
pub record Tells (x : Answer) (r : GeneratorReply) (tokens listing : List ℕ) : Type 0 where
  pub reply_is : r ≡ x.reply
  pub tokens_are : tokens ≡ x.tokens
  pub listing_is : listing ≡ x.listing

-- the number and the place of an answer are a reply's; no token is read, so the place is 0
abbrev pub as_reply : GeneratorReply → Reply
as_reply (Written figures) = reply.Accepted 0
as_reply (Refused why) = reply.Refused why

-- "every count 0" after a refusal
abbrev pub token_count : GeneratorReply → ℕ
token_count (Written figures) = figures.tokens
token_count (Refused why) = 0

abbrev pub rule_count : GeneratorReply → ℕ
rule_count (Written figures) = figures.rules
rule_count (Refused why) = 0
