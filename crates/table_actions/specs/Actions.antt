-- Action lines. Document 01, 'Books': "`S,state,terminal,next` shift; `N,state,nonterminal,next`; `A,state,terminal,rule`
-- announce; `P,state,terminal,count` pop. In A and P the terminal may be 0. [..] A second line for [..] the same state and symbol
-- is torn." Document 02, S-5: "action lines by state, symbol [..] The first line out of order is torn." Symbols rise by code, whatever
-- the letters; so a second line is one out of order.
use Rattle.std.specs.Prelude.{ℕ, List, [], ◌∷◌, Bool, cond, ◌&&◌, ◌||◌, leb, eqb, length, get_or}
use Rattle.range.specs.Range.{within}
use Rattle.reply.specs.declared.Kind.TheVariants as kind
use Rattle.symbol.specs.Symbol.{is_terminal, is_nonterminal}
use Rattle.leftcorner.specs.Table.{Action, S, N, A, P, ActionLine, L}
use Rattle.table_order.specs.Order.{follows, action_key}
use Rattle.table_lines.specs.declared.Judgement.{Judgement}
use Rattle.table_lines.specs.Line.{line_at, on_line, all_at_most}
use Rattle.table_lines.specs.Block.{Outcome, stops, judge, judged, fault, Lines, lines_from}

-- `S` is 83, `N` 78, `A` 65, `P` 80
unfoldable pub is_action : ℕ → Bool
is_action letter = eqb letter 83 || (eqb letter 78 || (eqb letter 65 || eqb letter 80))

-- what a line's letter and last number say
unfoldable pub action_of : ℕ → ℕ → Action
action_of letter v = cond (eqb letter 83) (S v) (cond (eqb letter 78) (N v) (cond (eqb letter 65) (A v) (P v)))

-- its symbol is of the letter's kind, and a next state or a rule is declared; any number is a count
unfoldable pub action_declared : ℕ → ℕ → ℕ → ℕ → ℕ → ℕ → ℕ → Bool
action_declared t n rules states letter X v =
    cond (eqb letter 83) (is_terminal t X && within 1 v states)
    (cond (eqb letter 78) (is_nonterminal n X && within 1 v states)
    (cond (eqb letter 65) (leb X t && within 1 v rules) (leb X t)))

-- the numbers of an action line: state, symbol, and a state, a rule or a count
unfoldable pub judge_action : ℕ → ℕ → ℕ → ℕ → List ActionLine → ℕ → List ℕ → Judgement
judge_action t n rules states earlier letter ns =
    judge (is_action letter && (eqb (length ns) 3 && follows action_key earlier (get_or ns 0 0 ∷ get_or ns 1 0 ∷ [])))
    (all_at_most 65535 ns)
    (within 1 (get_or ns 0 0) states && action_declared t n rules states letter (get_or ns 1 0) (get_or ns 2 0))

-- the action line at `at`, after the earlier ones; the block ends with the book
unfoldable pub action_next : List ℕ → ℕ → ℕ → ℕ → ℕ → ℕ → List ActionLine → Outcome ActionLine
action_next s t n rules states at earlier =
    cond (leb (length s) at) stops
    (on_line (line_at s at) (λ letter ns next.
    judged (judge_action t n rules states earlier letter ns) at (L (get_or ns 0 0) (get_or ns 1 0) (action_of letter (get_or ns 2 0))) next)
    (fault kind.Malformed at))

-- a book has fewer lines than bytes
abbrev pub actions_from : List ℕ → ℕ → ℕ → ℕ → ℕ → ℕ → Lines ActionLine
actions_from s t n rules states at = lines_from (length s) (action_next s t n rules states) at []
