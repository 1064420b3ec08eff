-- The meaning of a small book, by computing: `G,1,1,1,64` and `U,64,1,^,1,/,64`.
use Prim.Native.Nat.{ℕ}
use mathlib.Core.Path.{◌≡◌, refl}
use mathlib.Core.Bool.{true}
use mathlib.Core.List.{List, [], ◌∷◌}
use Rattle.range.specs.Range.{within}
use Rattle.symbol.specs.Symbol.{is_declared}
use Rattle.text.specs.Field.{class_of, add_digit, digits_from, field_at}
use Rattle.text.specs.Field as text
use Rattle.grammar_header.specs.Header.{figures_of, header_of}
use Rattle.grammar_rule.specs.Parts.{parts_from}
use Rattle.grammar_rule.specs.RuleLine.{over_limits, some_undeclared, rule_of, rule_at}
use Rattle.reply.specs.declared.Kind.TheVariants as kind
use Rattle.grammar.specs.Book.{accepted, rejected_at, rules_from, end_of, lines_of, book_of}

-- `G,1,1,1,64` and an LF
header : List ℕ → List ℕ
header l = 71 ∷ 44 ∷ 49 ∷ 44 ∷ 49 ∷ 44 ∷ 49 ∷ 44 ∷ 54 ∷ 52 ∷ 10 ∷ l

-- `U,64,1,^,1,/,64` and an LF
line : List ℕ
line = 85 ∷ 44 ∷ 54 ∷ 52 ∷ 44 ∷ 49 ∷ 44 ∷ 94 ∷ 44 ∷ 49 ∷ 44 ∷ 47 ∷ 44 ∷ 54 ∷ 52 ∷ 10 ∷ []

read_example : book_of (header line)
    ≡ accepted (record { terminals = 1; nonterminals = 1; goal = 64; rules = record { unit = true; left = 64; before = 1 ∷ []; groups = (1 ∷ []) ∷ (64 ∷ []) ∷ [] } ∷ [] })
unfolding header line within is_declared class_of add_digit digits_from field_at text.end_of figures_of header_of parts_from over_limits some_undeclared rule_of rule_at rules_from end_of lines_of book_of
read_example = refl

-- the line is missing: malformed at the book's length
missing_example : book_of (header []) ≡ rejected_at kind.Malformed 11
unfolding header within is_declared class_of add_digit digits_from field_at text.end_of figures_of header_of parts_from over_limits some_undeclared rule_of rule_at rules_from end_of lines_of book_of
missing_example = refl
