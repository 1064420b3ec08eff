-- Document 01, 'Sessions and books to try': "For `G,1,1,1,64`, `R,64,^,1` the build program prints [..]", and the other grammars there
-- with their tables. The builder writes these books and the checker accepts them: no theorem about accepted books speaks of nothing.
use Rattle.std.specs.Prelude.{ℕ, ◌-◌, ◌≤◌, ◌≡◌, [], ◌∷◌, ◌++◌, length, replicate}
use Rattle.reply.specs.declared.Reply.TheVariants.{Accepted}
use Rattle.fixpoint.specs.Each.{Each}
use Rattle.checker.specs.Checked.{verdict_of}
use Rattle.builder.specs.Build.{build_of}
use Rattle.worked_examples.specs.Books.{book, Books, smallest, g1, g1_cut, d}

pub record Built (b : Books) : Type 0 where
  -- reply 0, the book's length, and the table book "followed by zeros" in every slice that has room for it
  pub written : (room : ℕ) → length (book b.tables) ≤ room
      → build_of (book b.grammar) room ≡ record {
        reply = Accepted 0;
        length = length (book b.tables);
        slice = book b.tables ++ replicate (room - length (book b.tables)) 0;
      }
  -- reply 0: the table meets the construction (`exactly`, checker/specs/Exactly.antt)
  pub accepted : verdict_of (book b.grammar) (book b.tables) ≡ Accepted 0

abbrev pub AllBuilt : Type 0
AllBuilt = Each Built (smallest ∷ g1 ∷ g1_cut ∷ d ∷ [])
