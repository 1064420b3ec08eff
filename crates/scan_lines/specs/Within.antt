-- Lines that stand in a file, for the contracts.
use Rattle.std.specs.Prelude.{ℕ, ◌<◌, ◌≤◌, List, length}
use Rattle.std.proofs.Math.Option.{Option, some, none}
use Rattle.scan_lines.specs.declared.Line.{Line}
use Rattle.scan_lines.specs.declared.Previous.{Previous}
use Rattle.scan_lines.specs.declared.Previous.TheVariants as previous
use Rattle.scan_lines.specs.Line.{scan_of}
use Rattle.scan_lines.specs.Tokens.{Scan}

-- the line before a line, as the definition has it
abbrev pub before_of : List ℕ → Previous → Option Scan
before_of s previous.Nothing = none
before_of s (previous.Line line) = some (scan_of s line)

abbrev pub text_of : List ℕ → Line → List ℕ
text_of s line = (scan_of s line).text

-- a line that stands in a file
pub record Within (s : List ℕ) (line : Line) : Type 0 where
  pub some_text : line.text ≤ line.end
  pub inside : line.end < length s

abbrev pub WithinFile : List ℕ → Previous → Type 0
WithinFile s previous.Nothing = Unit {0}
WithinFile s (previous.Line before) = Within s before
