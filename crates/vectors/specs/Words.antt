-- The words that a case takes.
use Rattle.std.specs.Prelude.{ℕ}
use Rattle.vectors.specs.declared.Over.{Over}
use Rattle.vectors.specs.declared.Over.TheVariants as over

-- the files that a session names: both books, with letters of its own a letters book, and what it is over
abbrev pub files : Over → ℕ
files over.Tokens = 3
files over.Scans = 3
files over.LetteredScans = 4
files over.UnletteredScans = 3
