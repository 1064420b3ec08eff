-- The kinds of symbols as tests. Document 01, 'Books': "Symbol codes: 0 is the end of the scans; 1 to t are terminals;
-- 64 to 63+n are nonterminals."
use Rattle.std.specs.Prelude.{ℕ, ◌+◌, Bool, ◌||◌, eqb, leb}
use Rattle.range.specs.Range.{within}

abbrev pub is_end : ℕ → Bool
is_end a = eqb a 0

abbrev pub is_terminal : ℕ → ℕ → Bool
is_terminal t a = within 1 a t

-- a code that may be a context's: the end or a terminal
abbrev pub is_lookahead : ℕ → ℕ → Bool
is_lookahead t a = leb a t

abbrev pub is_nonterminal : ℕ → ℕ → Bool
is_nonterminal n X = within 64 X (63 + n)

-- a symbol that may stand on a right side
unfoldable pub is_declared : ℕ → ℕ → ℕ → Bool
is_declared t n X = is_terminal t X || is_nonterminal n X
