-- A rule line. Document 01, 'Books': "`R,left,...` or `U,left,...`. U marks a unit rule. After `left` come the right side's symbols".
use Rattle.std.specs.Prelude.{ℕ, List, Bool, false, cond, not, ◌||◌, ltb, eqb, length}
use Rattle.language.specs.Grammar.{Rule}
use Rattle.language.specs.Tests.{any}
use Rattle.symbol.specs.Symbol.{is_nonterminal, is_declared}
use Rattle.reply.specs.declared.Kind.{Kind}
use Rattle.reply.specs.declared.Kind.TheVariants as kind
use Rattle.reply.specs.declared.Refusal.{Refusal}
use Rattle.text.specs.Field.{field_at, on_number, on_letter}
use Rattle.grammar_rule.specs.Parts.{Rest, parts, broken, parts_at, symbols_of}
use Rattle.grammar_rule.specs.Marks.{shape_of, on_marked}

-- a rule with the position past its line, or why the line is refused
pub data Line : Type 0 where
  read : Rule → ℕ → Line
  refused : Refusal → Line

abbrev pub refused_at : ℕ → Kind → Line
refused_at at k = refused (record { kind = k; place = at })

abbrev pub large : ℕ → Bool
large v = ltb 65535 v

abbrev pub undeclared : ℕ → ℕ → ℕ → Bool
undeclared t n X = not (is_declared t n X)

-- 2, "a figure leaves the table above": a number is at most 65,535, a right side has at most 15 symbols
unfoldable pub over_limits : ℕ → List ℕ → Bool
over_limits left α = large left || (any large α || ltb 15 (length α))

-- 3, "a symbol [..] undeclared or of the wrong kind for its field"
unfoldable pub some_undeclared : ℕ → ℕ → ℕ → List ℕ → Bool
some_undeclared t n left α = not (is_nonterminal n left) || any (undeclared t n) α

-- a line at `at` that has its letter and its left side: "each by 1, 2, 3, 4"
unfoldable pub rule_of : ℕ → ℕ → ℕ → Bool → ℕ → Rest → Line
rule_of at t n unit left broken = refused_at at kind.Malformed
rule_of at t n unit left (parts ps next) =
    cond (over_limits left (symbols_of ps)) (refused_at at kind.LimitExceeded)
    (cond (some_undeclared t n left (symbols_of ps)) (refused_at at kind.Undeclared)
    (on_marked (shape_of ps) (λ α γs. read (record { unit = unit; left = left; before = α; groups = γs }) next)
    (refused_at at kind.MisplacedMark)))

-- `R` is 82, `U` is 85
abbrev pub is_rule : ℕ → Bool
is_rule k = eqb k 82 || eqb k 85

-- the line at `at` in a grammar of t terminals and n nonterminals
unfoldable pub rule_at : List ℕ → ℕ → ℕ → ℕ → Line
rule_at s t n at =
    on_letter (field_at s (record { at = at; ended = false })) (λ k c.
    cond (is_rule k)
    (on_number (field_at s c) (λ left d. rule_of at t n (eqb k 85) left (parts_at s d)) (refused_at at kind.Malformed))
    (refused_at at kind.Malformed))
    (refused_at at kind.Malformed)
