-- What the call answers to a grammar book and a number of scans: how long the listing of so many scans can be. Document 02, S-7:
-- "Station setup wants to lend a listing that always suffices." That it does: listing_promise/specs/Promise.antt.
use Rattle.std.specs.Prelude.{ℕ, ◌-◌, ◌*◌, Bool, true, false, cond, ◌||◌, List, [], ◌∷◌, ltb}
use Rattle.language.specs.Grammar.{Grammar, Rule, right}
use Rattle.reply.specs.declared.Kind.TheVariants.{LimitExceeded}
use Rattle.reply.specs.declared.Reply.{Reply}
use Rattle.reply.specs.declared.Reply.TheVariants as reply
use Rattle.grammar.specs.Book.{Book, accepted, rejected, grammar_of}
use Rattle.listing_bound.specs.declared.ListingBound.{ListingBound}
use Rattle.listing_bound.specs.declared.ListingBound.TheVariants.{Rules, Unbounded, Refused}

abbrev pub is_empty : List ℕ → Bool
is_empty [] = true
is_empty (X ∷ α) = false

-- some rule has an "empty right side"; marks are no symbols
unfoldable pub has_empty : List Rule → Bool
has_empty [] = false
has_empty (r ∷ rs) = is_empty (right r) || has_empty rs

-- "of a grammar with no empty right side and n nonterminals [..] n times (2 times k minus 1)"; of no scan that is 0, since 2k - 1 is 0
-- in whole numbers. Of a grammar that has an empty right side there is no such bound.
unfoldable pub of_grammar : Grammar → ℕ → ListingBound
of_grammar g k = cond (has_empty g.rules) Unbounded (Rules (g.nonterminals * (2 * k - 1)))

abbrev pub from_book : Book → ℕ → ListingBound
from_book (accepted g) k = of_grammar g k
from_book (rejected why) k = Refused why

-- "tokens in a session | 0 | 65,535": more scans are 2 at 0, with the length of the book (`grammar_of`) before any line
unfoldable pub bound_of : List ℕ → ℕ → ListingBound
bound_of gs k = cond (ltb 65535 k) (Refused (record { kind = LimitExceeded; place = 0 })) (from_book (grammar_of gs) k)

-- the number and the place of an answer are a reply's; no token is read, so the place is 0
abbrev pub as_reply : ListingBound → Reply
as_reply (Rules count) = reply.Accepted 0
as_reply Unbounded = reply.Accepted 0
as_reply (Refused why) = reply.Refused why

-- whether there is no bound; a refusal does not say
abbrev pub is_unbounded : ListingBound → Bool
is_unbounded (Rules count) = false
is_unbounded Unbounded = true
is_unbounded (Refused why) = false

-- the bound, 0 where there is none; "every count 0" after a refusal
abbrev pub rule_count : ListingBound → ℕ
rule_count (Rules count) = count
rule_count Unbounded = 0
rule_count (Refused why) = 0
