-- Kernel lines. Document 01, 'Books': "kernel lines `K,state,item,dot,codes` [..] Codes are the context, at least one, rising.
-- [..] A second line for [..] the same K triple [..] is torn." Document 02, S-5: "K lines must now rise by state, item, dot [..] The
-- first line out of order is torn." So a second line is one out of order.
use Rattle.std.specs.Prelude.{ℕ, List, [], ◌∷◌, Bool, cond, ◌&&◌, leb, ltb, eqb, length, get_or, drop}
use Rattle.range.specs.Range.{within}
use Rattle.reply.specs.declared.Kind.TheVariants as kind
use Rattle.leftcorner.specs.Table.{KernelLine, K}
use Rattle.table_order.specs.Order.{follows, kernel_key}
use Rattle.table_lines.specs.declared.Judgement.{Judgement}
use Rattle.table_lines.specs.Line.{line_at, on_line, all_at_most, rising}
use Rattle.table_lines.specs.Block.{Outcome, stops, judge, judged, fault, Lines, lines_from}

-- the numbers of a line K: state, item, dot, codes; `rise` tells whether the codes do. `items` is the number of items and `lens` the
-- lengths of their strings. "kernel lines | 1 | 1,023": a 1,024th is oversize.
abbrev pub judge_with : Bool → ℕ → ℕ → ℕ → (ℕ → ℕ) → List KernelLine → List ℕ → Judgement
judge_with rise t states items lens earlier ns =
    judge (leb 4 (length ns) && (rise && follows kernel_key earlier (get_or ns 0 0 ∷ get_or ns 1 0 ∷ get_or ns 2 0 ∷ [])))
    (all_at_most 65535 ns && ltb (length earlier) 1023)
    (within 1 (get_or ns 0 0) states && (within 1 (get_or ns 1 0) items && (leb (get_or ns 2 0) (lens (get_or ns 1 0)) && all_at_most t (drop 3 ns))))

unfoldable pub judge_kernel : ℕ → ℕ → ℕ → (ℕ → ℕ) → List KernelLine → List ℕ → Judgement
judge_kernel t states items lens earlier ns = judge_with (rising (drop 3 ns)) t states items lens earlier ns

-- no kernel line stands at `at`: the block ends, and it has a line at least
abbrev pub no_kernel : ℕ → List KernelLine → Outcome KernelLine
no_kernel at [] = fault kind.Malformed at
no_kernel at (x ∷ l) = stops

-- the kernel line at `at`, after the earlier ones; `K` is 75
unfoldable pub kernel_next : List ℕ → ℕ → ℕ → ℕ → (ℕ → ℕ) → ℕ → List KernelLine → Outcome KernelLine
kernel_next s t states items lens at earlier =
    on_line (line_at s at) (λ letter ns next.
    cond (eqb letter 75)
    (judged (judge_kernel t states items lens earlier ns) at (K (get_or ns 0 0) (get_or ns 1 0) (get_or ns 2 0) (drop 3 ns)) next)
    (no_kernel at earlier))
    (no_kernel at earlier)

-- the block ends before its 1,024th line, or is refused there
abbrev pub kernels_from : List ℕ → ℕ → ℕ → ℕ → (ℕ → ℕ) → ℕ → Lines KernelLine
kernels_from s t states items lens at = lines_from 1024 (kernel_next s t states items lens) at []
