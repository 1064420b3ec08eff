-- What the builder replies and writes. Document 01, 'Replies': "The builder gives 2 for entries, states and kernel lines, then 9,
-- then 2 for the book's bytes, then 11."
use Rattle.std.specs.Prelude.{ℕ, suc, ◌-◌, ◌≡◌, ◌⊎◌, cond, List, ◌++◌, ltb, length, replicate}
use Rattle.language.specs.Grammar.{Grammar}
use Rattle.language.specs.Sentence.{In}
use Rattle.leftcorner.specs.Construction.{CellsAgree}
use Rattle.reply.specs.declared.Kind.TheVariants.{LimitExceeded, Conflict, BufferTooSmall}
use Rattle.reply.specs.declared.Reply.{Reply}
use Rattle.reply.specs.declared.Reply.TheVariants.{Accepted, Refused}
use Rattle.check_verdict.proofs.CellsDecided.{agree?}
use Rattle.check_verdict.specs.Verdict.{lowest, refused, first_of}
use Rattle.build_states.specs.Strings.{entry_strings}
use Rattle.build_states.specs.States.{total, states}
use Rattle.build_book.specs.Built.{items, built}
use Rattle.build_book.specs.Text.{table_text}

-- "then 2 for the book's bytes, then 11", for a slice of this length
abbrev pub text_reply : List ℕ → ℕ → Reply
text_reply text room = cond (ltb 65536 (length text)) (refused LimitExceeded 0) (cond (ltb room (length text)) (refused BufferTooSmall 0) (Accepted 0))

-- "After a refusal every output slice is zeros [..] After success a [..] book is followed by zeros."
abbrev pub text_slice : List ℕ → ℕ → Reply → List ℕ
text_slice text room (Accepted n) = text ++ replicate (room - length text) 0
text_slice text room (Refused x) = replicate room 0

module _ (g : Grammar) (F : List ℕ → ℕ → ℕ → Type 0) (F? : (β : List ℕ) (d c : ℕ) → Dec (F β d c)) (first-codes : List ℕ)
    (F-in : (β : List ℕ) (d c : ℕ) → F β d c → (c ≡ d) ⊎ In c first-codes) where
  unfoldable pub book_text : List ℕ
  book_text = table_text (built g F F? first-codes F-in)

  abbrev pub after_conflicts : ℕ → Reply
  after_conflicts room = text_reply book_text room

  -- "9 | clash | one cell would hold two different actions | state, lowest"
  abbrev pub after_limits : ℕ → Reply
  after_limits room =
      first_of Conflict (lowest (CellsAgree g (items g F F? first-codes F-in) F) (agree? g (items g F F? first-codes F-in) F F? first-codes F-in)
      (suc (length (states g)))) (after_conflicts room)

  unfoldable pub build_reply : ℕ → Reply
  build_reply room =
      cond (ltb 127 (length (entry_strings g))) (refused LimitExceeded 0)
      (cond (ltb 255 (length (states g))) (refused LimitExceeded 0) (cond (ltb 1023 (total (states g))) (refused LimitExceeded 0) (after_limits room)))

  abbrev pub written : ℕ → Reply → List ℕ
  written room r = text_slice book_text room r

  unfoldable pub build_slice : ℕ → List ℕ
  build_slice room = written room (build_reply room)
