-- What is told of a reply is told of the one that it equals.
use Prim.Native.Nat.{ℕ}
use mathlib.Core.Path.{◌≡◌, subst}
use Rattle.reply.specs.declared.Reply.{Reply}
use Rattle.c_told.specs.Given.{ReplyGiven}

pub told : {r x : Reply} {number place : ℕ} → r ≡ x → ReplyGiven r number place → ReplyGiven x number place
told {number = n} {place = p} e t = subst (λ (y : Reply). ReplyGiven y n p) e t
