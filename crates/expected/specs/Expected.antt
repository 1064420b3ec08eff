-- What could have come: the answer for two books, a list of tokens, and the lengths of the lent slices. Document 02, S-1.
use Rattle.std.specs.Prelude.{ℕ, suc, ◌≡◌, ◌⊎◌, cond, List, ◌++◌, eqb, take, replicate, Ok, Err}
use Rattle.language.specs.Grammar.{Grammar}
use Rattle.leftcorner.specs.Machine.{walk}
use Rattle.leftcorner.specs.Table.{Table, automaton}
use Rattle.reply.specs.Reply.{kind_number, number_of, place_of}
use Rattle.reply.specs.declared.Reply.{Reply}
use Rattle.reply.specs.declared.Reply.TheVariants as reply
use Rattle.table.specs.Book.{Reading, whole, rejected}
use Rattle.checker.specs.Checked.{checked_of}
use Rattle.walker.specs.Walked.{Walked}
use Rattle.walker.specs.Walked as walker
use Rattle.walk_tables.specs.declared.Machine.{Machine}
use Rattle.machine.specs.Machine.{Drives}
use Rattle.session.specs.Session.{session}
use Rattle.expected_trial.specs.Trial.{as_tokens, trial_of}
use Rattle.expected_trials.specs.Trials.{ExpectedReply, Expected, tried, refused_by, answered_at, ListTold}

-- "tokens whose reply is 0 or 12 at place p"
abbrev pub EndsAt : Walked → ℕ → Type 0
EndsAt r p = ((number_of (walker.as_reply r) ≡ 0) ⊎ (number_of (walker.as_reply r) ≡ 12)) × (place_of (walker.as_reply r) ≡ p)

-- with a list slice of so many places
module _ (room : ℕ) where
  -- a list where the session's reply is such; another is handed on
  abbrev pub on_reply : Walked → (ℕ → Expected) → Expected
  on_reply (Ok tally) list = list tally.tokens
  on_reply (Err why) list = cond (eqb (kind_number why.kind) 12) (list why.place) (refused_by room why)

  -- the codes 0 to t, tried after the first p tokens; books that are refused have no reply 0 or 12
  unfoldable pub list_for : ℕ → ℕ → Reading → List ℕ → ℕ → Expected
  list_for n k (whole g t) w p = answered_at room p (tried (λ c. trial_of p (walk g (automaton g t) n k (take p w ++ as_tokens c))) (suc g.terminals) 0)
  list_for n k (rejected why) w p = refused_by room why

-- with a stack slice of n places and a listing slice of k
unfoldable pub expected : (gs s w : List ℕ) (n k room : ℕ) → Expected
expected gs s w n k room = on_reply room (session gs s w n k).reply (list_for room n k (checked_of gs s) w)

-- the number and the place of an answer are a reply's
abbrev pub as_reply : ExpectedReply → Reply
as_reply (Ok l) = reply.Accepted l.place
as_reply (Err why) = reply.Refused why

-- "every count 0" after a refusal
abbrev pub code_count : ExpectedReply → ℕ
code_count (Ok l) = l.codes
code_count (Err why) = 0

-- "The listing is zeros after." So is the stack.
pub record Tells (n k : ℕ) (x : Expected) (r : ExpectedReply) (stack listing codes : List ℕ) : Type 0 where
  pub told : ListTold x r codes
  pub stack_is : stack ≡ replicate n 0
  pub listing_is : listing ≡ replicate k 0

-- memory makes the steps of some table
abbrev pub Driven : Machine → Type 0
Driven mem = (g : Grammar) × (t : Table) × Drives g t mem
