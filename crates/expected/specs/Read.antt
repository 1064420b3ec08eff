-- What could have come, by what reading the tokens came to: so many tokens of a slice, or a refusal, which comes after those of the books.
use Rattle.std.specs.Prelude.{ℕ, List, take}
use Rattle.language.specs.Grammar.{Grammar}
use Rattle.leftcorner.specs.Table.{Table}
use Rattle.reply.specs.declared.Reply.{Reply}
use Rattle.reply.specs.declared.Reply.TheVariants.{Accepted, Refused}
use Rattle.table.specs.Book.{Reading, whole, rejected}
use Rattle.session.specs.Session.{table_session}
use Rattle.expected_trials.specs.Trials.{Expected, refused_by}
use Rattle.expected.specs.Expected.{on_reply, list_for}

-- with a stack slice of n places, a listing slice of k and a list slice of so many
module _ (n k room : ℕ) where
  abbrev pub over_table : Grammar → Table → Reply → List ℕ → Expected
  over_table g t (Accepted m) w = on_reply room (table_session n k g t (take m w)).reply (list_for room n k (whole g t) (take m w))
  over_table g t (Refused why) w = refused_by room why

  abbrev pub after_read : Reading → Reply → List ℕ → Expected
  after_read (whole g t) r w = over_table g t r w
  after_read (rejected why) r w = refused_by room why
