-- What the calls for C hand over of a reply.
use Rattle.std.specs.Prelude.{ℕ, ◌≡◌}
use Rattle.reply.specs.declared.Reply.{Reply}
use Rattle.reply.specs.Reply.{number_of, place_of}

-- a reply's number and place
pub record ReplyGiven (r : Reply) (number place : ℕ) : Type 0 where
  pub number_is : number ≡ number_of r
  pub place_is : place ≡ place_of r
