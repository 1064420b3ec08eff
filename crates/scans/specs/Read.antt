-- What the reader of lines leaves, for its contract.
use Rattle.std.specs.Prelude.{ℕ, ◌≡◌, List}
use Rattle.std.proofs.lemmas.List.Edits.{sets}
use Rattle.reply.specs.declared.Reply.{Reply}
use Rattle.scan_lines.specs.Tokens.{Scanned, tokens}
use Rattle.scans.specs.File.{reply_of}

-- what reading lines leaves in a slice: the tokens from its start on, as far as it goes
pub record Stored (all : Scanned) (r : Reply) (before after : List ℕ) : Type 0 where
  pub replied : r ≡ reply_of all
  pub stored : (l : List ℕ) → all ≡ tokens l → after ≡ sets before 0 l
