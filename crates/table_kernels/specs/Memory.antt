-- Kernel lines in memory, counted from 0.
use Rattle.std.specs.Prelude.{ℕ, ◌+◌, ◌/◌, ◌%◌, ◌≡◌, List, [], ◌∷◌, Bool, false, ◌||◌, eqb, get_or, set}
use Rattle.std.proofs.Math.Option.{Option, some, none}
use Rattle.language.specs.Grammar.{at}
use Rattle.leftcorner.specs.Table.{KernelLine, K}
use Rattle.table_lines.specs.Image.{image, flag}
use Rattle.table_order.specs.Order.{kernel_key}
use Rattle.table_order.specs.Last.{LastIs}

-- four bytes a line: state, item, dot, 0
abbrev pub figure_of : Option KernelLine → ℕ → ℕ
figure_of none j = 0
figure_of (some (K q i k σ)) j = get_or (q ∷ i ∷ k ∷ []) j 0

unfoldable pub figure_at : List KernelLine → ℕ → ℕ
figure_at l x = figure_of (at l (x / 4)) (x % 4)

-- 64 flags a line: its lookaheads by code
abbrev pub is_in : ℕ → List ℕ → Bool
is_in d [] = false
is_in d (c ∷ σ) = eqb c d || is_in d σ

abbrev pub codes_of : Option KernelLine → List ℕ
codes_of none = []
codes_of (some (K q i k σ)) = σ

unfoldable pub lookahead_at : List KernelLine → ℕ → ℕ
lookahead_at l x = flag (is_in (x % 64) (codes_of (at l (x / 64))))

-- a 1 stored at each of these codes from base on
abbrev pub flagged : List ℕ → ℕ → List ℕ → List ℕ
flagged m base [] = m
flagged m base (d ∷ σ) = flagged (set m (base + d) 1) base σ

-- memory with these kernel lines read: figures and lookaheads
pub record KernelImage (a b : ℕ) (l : List KernelLine) (kernels lookaheads : List ℕ) : Type 0 where
  pub kernels_are : kernels ≡ image a (figure_at l)
  pub lookaheads_are : lookaheads ≡ image b (lookahead_at l)

-- and the last line's key
pub record KernelMemory (a b : ℕ) (l : List KernelLine) (kernels lookaheads last : List ℕ) : Type 0 where
  pub held : KernelImage a b l kernels lookaheads
  pub last_is : LastIs kernel_key last l
