-- Entry lines. Document 01, 'Books': "entry lines `E,state,symbols`, at least one symbol [..] A second line for the same entry
-- string [..] is torn." Document 02, S-5: "E lines after the goal follow the first use of their group in the rules [..]. The first line
-- out of order is torn."
use Rattle.std.specs.Prelude.{ℕ, List, [], ◌∷◌, Bool, true, ◌&&◌, leb, eqb, length, get_or, drop}
use Rattle.range.specs.Range.{within}
use Rattle.reply.specs.declared.Kind.TheVariants as kind
use Rattle.language.specs.Grammar.{Rule}
use Rattle.symbol.specs.Symbol.{is_declared}
use Rattle.leftcorner.specs.Table.{EntryLine, E, entry_from}
use Rattle.table_order.specs.Order.{entry_follows}
use Rattle.table_lines.specs.declared.Judgement.{Judgement}
use Rattle.table_lines.specs.Line.{line_at, on_line, all_at_most}
use Rattle.table_lines.specs.Block.{Outcome, judge, judged, fault, Lines, lines_from}

abbrev pub all_declared : ℕ → ℕ → List ℕ → Bool
all_declared t n [] = true
all_declared t n (X ∷ l) = is_declared t n X && all_declared t n l

-- the numbers of a line E (69): its state, then its symbols, of which 15 are the most; no earlier line has the same string, and the line
-- follows them by the rules rs
unfoldable pub judge_entry : ℕ → ℕ → List Rule → ℕ → List EntryLine → ℕ → List ℕ → Judgement
judge_entry t n rs states earlier letter ns =
    judge (eqb letter 69 && (leb 2 (length ns) && (eqb (entry_from 1 earlier (drop 1 ns)) 0 && entry_follows rs earlier (drop 1 ns))))
    (all_at_most 65535 ns && leb (length ns) 16)
    (within 1 (get_or ns 0 0) states && all_declared t n (drop 1 ns))

-- the entry line at `at`, after the earlier ones, of a book s for t terminals, n nonterminals, the rules rs and so many states
unfoldable pub entry_next : List ℕ → ℕ → ℕ → List Rule → ℕ → ℕ → List EntryLine → Outcome EntryLine
entry_next s t n rs states at earlier =
    on_line (line_at s at) (λ letter ns next. judged (judge_entry t n rs states earlier letter ns) at (E (get_or ns 0 0) (drop 1 ns)) next)
    (fault kind.Malformed at)

-- as many entry lines as the book's first line says
abbrev pub entries_from : ℕ → List ℕ → ℕ → ℕ → List Rule → ℕ → ℕ → Lines EntryLine
entries_from count s t n rs states at = lines_from count (entry_next s t n rs states) at []
