-- What the code keeps of a line's numbers beside the numbers themselves.
use Rattle.std.specs.Prelude.{ℕ, ◌+◌, max, List, [], ◌∷◌, Bool, ◌&&◌, ◌||◌, ltb, length, drop}
use Rattle.digits.specs.Exact.{exact_at}
use Rattle.table_lines.specs.declared.Tally.{Tally}
use Rattle.table_lines.specs.declared.Line.{Line}
use Rattle.table_lines.specs.declared.Line.TheVariants as line
use Rattle.table_lines.specs.Line.{TextLine, whole, broken, rising, caps}

abbrev pub no_number : List ℕ
no_number = []

abbrev pub largest_of : List ℕ → ℕ
largest_of [] = 0
largest_of (v ∷ l) = max v (largest_of l)

abbrev pub last_from : ℕ → List ℕ → ℕ
last_from u [] = u
last_from u (v ∷ l) = last_from v l

-- whether the numbers from the fourth on rise is told of the numbers as they are; the others are as memory keeps them
unfoldable pub tally : List ℕ → Tally
tally ns = record { count = length ns; largest = largest_of (caps ns); last = last_from 0 (caps ns); rising = rising (drop 3 ns) }

-- with one number more, the one at `at`, where the last stands at `prior`
unfoldable pub keeps_rising : List ℕ → Tally → ℕ → ℕ → Bool
keeps_rising s p prior at = (ltb p.count 4 || ltb (exact_at s prior) (exact_at s at)) && p.rising

unfoldable pub add_number : Tally → ℕ → Bool → Tally
add_number p v rising = record { count = p.count + 1; largest = max p.largest v; last = v; rising = rising }

abbrev pub line_of : TextLine → Line
line_of (whole letter ns next) = line.Whole letter (tally ns) next
line_of broken = line.Broken
