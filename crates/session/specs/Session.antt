-- A session: what is answered for two books, a list of tokens, and the lengths of the lent slices. Document 01, 'Replies': "Order:
-- lengths; grammar lines [..]; then 5, 6; table lines likewise; then 7 to 10; then tokens by 3; then the walk".
use Rattle.std.specs.Prelude.{ℕ, ◌≡◌, cond, List, ltb, length, replicate, Err}
use Rattle.language.specs.Grammar.{Grammar}
use Rattle.leftcorner.specs.Table.{Table, automaton}
use Rattle.leftcorner.specs.Machine.{Verdict, walk}
use Rattle.reply.specs.declared.Kind.{Kind}
use Rattle.reply.specs.declared.Kind.TheVariants.{LimitExceeded, Undeclared}
use Rattle.reply.specs.declared.Refusal.{Refusal}
use Rattle.reply.specs.Reply.{padded}
use Rattle.grammar.specs.Book.{on_found}
use Rattle.table.specs.Book.{Reading, whole, rejected}
use Rattle.checker.specs.Checked.{checked_of}
use Rattle.stray_tokens.specs.Stray.{stray_from}
use Rattle.walker.specs.Walked.{Walked, answer, listed}

-- the reply, which has the counts, and both slices
pub record Session : Type 0 where
  pub reply : Walked
  pub listing : List ℕ
  pub stack : List ℕ

-- with a stack slice of n places and a listing slice of k
module _ (n k : ℕ) where
  -- "After a refusal every output slice is zeros and every count 0."
  abbrev pub refused_by : Refusal → Session
  refused_by why = record { reply = Err why; listing = replicate k 0; stack = replicate n 0 }

  abbrev pub refused_at : Kind → ℕ → Session
  refused_at kind place = refused_by (record { kind = kind; place = place })

  -- "After success a listing [..] is followed by zeros. The stack slice is always zeros after."
  abbrev pub ended_by : Grammar → Verdict → Session
  ended_by g v = record { reply = answer g v; listing = padded k (listed v); stack = replicate n 0 }

  -- "then tokens by 3; then the walk"
  unfoldable pub table_session : Grammar → Table → List ℕ → Session
  table_session g t w = on_found (stray_from g.terminals 0 w) (refused_at Undeclared) (ended_by g (walk g (automaton g t) n k w))

  abbrev pub after_books : Reading → List ℕ → Session
  after_books (whole g t) w = table_session g t w
  after_books (rejected why) w = refused_by why

-- "tokens in a session | 0 | 65,535"; every length comes before any line, those of the books in `checked_of`, and each is 2 at 0
unfoldable pub session : (gs s w : List ℕ) (n k : ℕ) → Session
session gs s w n k = cond (ltb 65535 (length w)) (refused_at n k LimitExceeded 0) (after_books n k (checked_of gs s) w)

-- a reply and both slices are those of a session
pub record Tells (x : Session) (r : Walked) (stack listing : List ℕ) : Type 0 where
  pub reply_is : r ≡ x.reply
  pub listing_is : listing ≡ x.listing
  pub stack_is : stack ≡ x.stack
