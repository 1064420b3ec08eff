-- Trials of codes after the first tokens, and the list that they come to. Document 02, S-1.
use Rattle.std.specs.Prelude.{ℕ, zero, suc, ◌≡◌, cond, List, [], ◌∷◌, leb, length, replicate, Result, Ok, Err}
use Rattle.reply.specs.declared.Kind.TheVariants.{BufferTooSmall}
use Rattle.reply.specs.declared.Refusal.{Refusal}
use Rattle.reply.specs.Reply.{padded}
use Rattle.expected_trial.specs.declared.Trial.{Trial}
use Rattle.expected_trial.specs.declared.Trial.TheVariants.{Fits, Misfit, Outgrown}
use Rattle.expected_trials.specs.declared.Listed.{Listed}

-- the place and the count of a list, or a refusal
abbrev pub ExpectedReply : Type 0
ExpectedReply = Result Listed Refusal

-- the reply, which has the place and the count, and the list slice; stack and listing are zeros after every reply
pub record Expected : Type 0 where
  pub reply : ExpectedReply
  pub codes : List ℕ

-- ---- trials

-- what trials come to: the codes that fit, unless one outgrows what is lent
pub data Tried : Type 0 where
  lacking : Tried
  fitting : List ℕ → Tried

abbrev pub noted : Trial → ℕ → Tried → Tried
noted Outgrown c later = lacking
noted Misfit c later = later
noted Fits c lacking = lacking
noted Fits c (fitting l) = fitting (c ∷ l)

-- "in rising order": the codes from c on, as many as the second number
unfoldable pub tried : (ℕ → Trial) → ℕ → ℕ → Tried
tried trial zero c = fitting []
tried trial (suc left) c = noted (trial c) c (tried trial left (suc c))

-- ---- answers, with a list slice of so many places
module _ (room : ℕ) where
  -- "other replies are handed on"; "After a refusal every output slice is zeros and every count 0."
  abbrev pub refused_by : Refusal → Expected
  refused_by why = record { reply = Err why; codes = replicate room 0 }

  -- "A short slip [..]; its place is p for a trial or the list."
  abbrev pub short_at : ℕ → Expected
  short_at p = refused_by (record { kind = BufferTooSmall; place = p })

  -- "With a list the call's own reply is 0, its place p"; the list is followed by zeros
  abbrev pub listed_at : ℕ → List ℕ → Expected
  listed_at p l = record { reply = Ok (record { place = p; codes = length l }); codes = padded room l }

  -- "or that the list outgrows its slice"
  abbrev pub answered_at : ℕ → Tried → Expected
  answered_at p lacking = short_at p
  answered_at p (fitting l) = cond (leb (length l) room) (listed_at p l) (short_at p)

-- a reply and the list slice are those of an answer
pub record ListTold (x : Expected) (r : ExpectedReply) (codes : List ℕ) : Type 0 where
  pub reply_is : r ≡ x.reply
  pub codes_is : codes ≡ x.codes
