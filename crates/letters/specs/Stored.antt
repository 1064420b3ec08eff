-- What the reader of the line leaves, for its contract.
use Rattle.std.specs.Prelude.{ℕ, ◌≤◌, ◌≡◌, List, get_or}
use Rattle.reply.specs.declared.Reply.{Reply}
use Rattle.letters.specs.Letters.{Letters, codes, reply_of}

-- the codes of a line that is good, each of which fits a byte; of a refusal nothing is said of the numbers
pub record Stored (all : Letters) (r : Reply) (numbers : List ℕ) : Type 0 where
  pub replied : r ≡ reply_of all
  pub stored : (l : List ℕ) → all ≡ codes l → (numbers ≡ l) × ((i : ℕ) → get_or l i 0 ≤ 63)
