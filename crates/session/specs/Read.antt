-- A session by what reading its tokens came to: so many tokens of a slice, or a refusal, which comes after those of the books.
use Rattle.std.specs.Prelude.{ℕ, ◌≤◌, List, length, take}
use Rattle.language.specs.Grammar.{Grammar}
use Rattle.leftcorner.specs.Table.{Table}
use Rattle.reply.specs.declared.Reply.{Reply}
use Rattle.reply.specs.declared.Reply.TheVariants.{Accepted, Refused}
use Rattle.table.specs.Book.{Reading, whole, rejected}
use Rattle.session.specs.Session.{Session, refused_by, table_session}

-- tokens that were read stand in the slice
abbrev pub ReadIn : Reply → List ℕ → Type 0
ReadIn (Accepted m) w = m ≤ length w
ReadIn (Refused why) w = Unit {0}

-- with a stack slice of n places and a listing slice of k
module _ (n k : ℕ) where
  abbrev pub over_table : Grammar → Table → Reply → List ℕ → Session
  over_table g t (Accepted m) w = table_session n k g t (take m w)
  over_table g t (Refused why) w = refused_by n k why

  abbrev pub after_read : Reading → Reply → List ℕ → Session
  after_read (whole g t) r w = over_table g t r w
  after_read (rejected why) r w = refused_by n k why
