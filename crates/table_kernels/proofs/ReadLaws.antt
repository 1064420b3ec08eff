-- What is read off kernel lines in memory.
use Prim.Native.Nat.{ℕ, ◌+◌, ◌*◌, ◌/◌, ◌%◌, ◌<◌}
use mathlib.Core.Path.{◌≡◌}
use mathlib.Core.List.{List}
use native.Mathlib.Omega.{arith}
use Rattle.language.specs.Grammar.{at}
use Rattle.leftcorner.specs.Table.{KernelLine}
use Rattle.table_lines.specs.Image.{flag}
use Rattle.table_kernels.specs.Memory.{figure_of, figure_at, is_in, codes_of, lookahead_at}

module _ (l : List KernelLine) (x j : ℕ) where
  pub figure_back : j < 4 → figure_at l (x * 4 + j) ≡ figure_of (at l x) j
  unfolding figure_at
  figure_back h = let e : (x * 4 + j) / 4 ≡ x = omega arith in let d : (x * 4 + j) % 4 ≡ j = omega arith in simp (e, d)

  pub code_back : j < 64 → lookahead_at l (x * 64 + j) ≡ flag (is_in j (codes_of (at l x)))
  unfolding lookahead_at
  code_back h = let e : (x * 64 + j) / 64 ≡ x = omega arith in let d : (x * 64 + j) % 64 ≡ j = omega arith in simp (e, d)
