-- What is told of an answer is told of the definition that it equals.
use Prim.Native.Nat.{ℕ}
use mathlib.Core.Path.{◌≡◌, refl, ap, ◌∙◌}
use mathlib.Core.Bool.{Bool, true, false, cond}
use mathlib.Core.List.{List}
use mir.Val.{bool_byte}
use Rattle.reply.specs.declared.Reply.{Reply}
use Rattle.walker.specs.Walked.{Walked, as_reply, rule_count, unit_count}
use Rattle.session.specs.Session.{Session}
use Rattle.expected_trials.specs.Trials.{ExpectedReply, Expected}
use Rattle.expected.specs.Expected.{code_count}
use Rattle.expected.specs.Expected as expected
use Rattle.generator.specs.declared.GeneratorReply.{GeneratorReply}
use Rattle.generator.specs.Generated.{Answer, Tells, token_count}
use Rattle.generator.specs.Generated as generator
use Rattle.listing_bound.specs.declared.ListingBound.{ListingBound}
use Rattle.listing_bound.specs.Bound.{is_unbounded}
use Rattle.listing_bound.specs.Bound as bound
use Rattle.c_told.specs.Given.{ReplyGiven}
use Rattle.c_told.proofs.GivenLaws.{told}
use Rattle.buraigue_c.specs.Told.{SessionGiven, ExpectedTold, LoadTold, BoundTold}

pub session_told : {s : Session} {a : Walked} {number place rules units : ℕ} {stack listing : List ℕ}
    → (a ≡ s.reply) × ((listing ≡ s.listing) × (stack ≡ s.stack))
    → ReplyGiven (as_reply a) number place × ((rules ≡ rule_count a) × (units ≡ unit_count a)) → SessionGiven s number place rules units stack listing
session_told e t = record {
  reply_told = told (ap as_reply e.0) t.0;
  rules_are = t.1.0 ∙ ap rule_count e.0;
  units_are = t.1.1 ∙ ap unit_count e.0;
  stack_is = e.1.1;
  listing_is = e.1.0;
}

pub expected_told : {x : Expected} {a : ExpectedReply} {y : Reply} {number place count : ℕ} {codes : List ℕ} → a ≡ x.reply → codes ≡ x.codes
    → y ≡ expected.as_reply a → count ≡ code_count a → ReplyGiven y number place → ExpectedTold x number place count codes
expected_told e c r n t = record { reply_told = told (r ∙ ap expected.as_reply e) t; count_is = n ∙ ap code_count e; codes_are = c }

pub load_told : {x : Answer} {a : GeneratorReply} {y : Reply} {number place count rules : ℕ} {tokens listing : List ℕ}
    → Tells x a tokens listing → y ≡ generator.as_reply a → count ≡ token_count a → rules ≡ generator.rule_count a
    → ReplyGiven y number place → LoadTold x number place count rules tokens listing
load_told e r n k t = record {
  reply_told = told (r ∙ ap generator.as_reply e.reply_is) t;
  count_is = n ∙ ap token_count e.reply_is;
  rules_are = k ∙ ap generator.rule_count e.reply_is;
  tokens_are = e.tokens_are;
  listing_is = e.listing_is;
}

-- a test as a number
byte_is : (b : Bool) → bool_byte b ≡ cond b 1 0
byte_is true = refl
byte_is false = refl

pub bound_told : {x a : ListingBound} {y : Reply} {none : Bool} {number place rules : ℕ} → a ≡ x → y ≡ bound.as_reply a → rules ≡ bound.rule_count a
    → none ≡ is_unbounded a → ReplyGiven y number place → BoundTold x number place rules (bool_byte none)
bound_told {none = none} e r k u t = record {
  reply_told = told (r ∙ ap bound.as_reply e) t;
  rules_are = k ∙ ap bound.rule_count e;
  unbounded_is = byte_is none ∙ ap (λ (b : Bool). cond b 1 0) (u ∙ ap is_unbounded e);
}
