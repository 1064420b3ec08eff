-- What the calls for C hand over, in single figures and lent slices.
use Rattle.std.specs.Prelude.{ℕ, cond, ◌≡◌, List}
use Rattle.c_told.specs.Given.{ReplyGiven}
use Rattle.walker.specs.Walked.{as_reply, rule_count, unit_count}
use Rattle.session.specs.Session.{Session}
use Rattle.expected_trials.specs.Trials.{Expected}
use Rattle.expected.specs.Expected.{code_count}
use Rattle.expected.specs.Expected as expected
use Rattle.generator.specs.Generated.{Answer, token_count}
use Rattle.generator.specs.Generated as generator
use Rattle.listing_bound.specs.declared.ListingBound.{ListingBound}
use Rattle.listing_bound.specs.Bound.{is_unbounded}
use Rattle.listing_bound.specs.Bound as bound

-- a session's: the reply, the counts and both slices
pub record SessionGiven (s : Session) (number place rules units : ℕ) (stack listing : List ℕ) : Type 0 where
  pub reply_told : ReplyGiven (as_reply s.reply) number place
  pub rules_are : rules ≡ rule_count s.reply
  pub units_are : units ≡ unit_count s.reply
  pub stack_is : stack ≡ s.stack
  pub listing_is : listing ≡ s.listing

-- a list of what could have come: the reply, the count and the list slice
pub record ExpectedTold (x : Expected) (number place count : ℕ) (codes : List ℕ) : Type 0 where
  pub reply_told : ReplyGiven (expected.as_reply x.reply) number place
  pub count_is : count ≡ code_count x.reply
  pub codes_are : codes ≡ x.codes

-- a test load: the reply, the counts and both slices
pub record LoadTold (x : Answer) (number place count rules : ℕ) (tokens listing : List ℕ) : Type 0 where
  pub reply_told : ReplyGiven (generator.as_reply x.reply) number place
  pub count_is : count ≡ token_count x.reply
  pub rules_are : rules ≡ generator.rule_count x.reply
  pub tokens_are : tokens ≡ x.tokens
  pub listing_is : listing ≡ x.listing

-- a bound on a listing: the reply, the bound, and 1 where there is none
pub record BoundTold (x : ListingBound) (number place rules unbounded : ℕ) : Type 0 where
  pub reply_told : ReplyGiven (bound.as_reply x) number place
  pub rules_are : rules ≡ bound.rule_count x
  pub unbounded_is : unbounded ≡ cond (is_unbounded x) 1 0
