-- What is computed of each book: the grammar that it reads as, and the table of that grammar, printed.
use Prim.Native.Nat.{ℕ}
use mathlib.Core.Path.{◌≡◌, refl, ap, ◌∙◌}
use mathlib.Core.Bool.{Bool, true, false}
use mathlib.Core.List.{List, [], ◌∷◌}
use native.Mathlib.Decide.{ℕ_discrete, dec_le}
use Rattle.language.specs.Grammar.{Grammar, Rule}
use Rattle.range.specs.Range.{within}
use Rattle.symbol.specs.Symbol.{is_declared}
use Rattle.text.specs.Field.{class_of, add_digit, digits_from, field_at}
use Rattle.text.specs.Field as text
use Rattle.grammar_header.specs.Header.{figures_of, header_of}
use Rattle.grammar_rule.specs.Parts.{parts_from}
use Rattle.grammar_rule.specs.RuleLine.{over_limits, some_undeclared, rule_of, rule_at}
use Rattle.fixpoint.proofs.Tests.{map?, both?, either?, not?}
use Rattle.fixpoint.specs.Lowest.{pick, lowest}
use Rattle.fixpoint.proofs.Decision.{member?, has?, more, next, done, grow, listed, decide}
use Rattle.grammar_reduction.specs.Strings.{each?, in?, numbers, occurrences_in, occurrences}
use Rattle.grammar_reduction.specs.Reduced.{whole?, terminal?, derived?, productive?, lowest_unproductive, reaches?, occurs?, reachable?, lowest_unreachable}
use Rattle.grammar.specs.Book.{Book, accepted, rejected, rules_from, end_of, lines_of, book_of, reduced_of, on_accepted, grammar_of}
use Rattle.build_states.specs.Strings.{entry_strings, add_string, add_groups, add_rules}
use Rattle.build_states.specs.States.{leave, note, note_if}
use Rattle.text.specs.Digits.{digits, lead}
use Rattle.build_book.specs.Text.{table_text}
use Rattle.worked_examples.specs.Books.{book, Books, smallest, g1, g1_cut, d}
use Rattle.worked_examples.proofs.Laws.{Computes}

-- ---- the grammars

abbrev rule : Bool → ℕ → List ℕ → List (List ℕ) → Rule
rule u X α γs = record { unit = u; left = X; before = α; groups = γs }

abbrev pub smallest_grammar : Grammar
smallest_grammar = record { terminals = 1; nonterminals = 1; goal = 64; rules = rule false 64 [] ((1 ∷ []) ∷ []) ∷ [] }

-- G1 by its first rule
abbrev g1_with : Rule → Grammar
g1_with r = record {
  terminals = 3;
  nonterminals = 3;
  goal = 64;
  rules =
      r ∷ rule false 65 (65 ∷ 2 ∷ []) [] ∷ rule false 65 [] ((2 ∷ []) ∷ []) ∷ rule false 66 (66 ∷ []) ((3 ∷ []) ∷ []) ∷
      rule false 66 [] ((3 ∷ []) ∷ []) ∷ [];
}

abbrev pub g1_grammar : Grammar
g1_grammar = g1_with (rule false 64 (1 ∷ 65 ∷ 2 ∷ []) ((66 ∷ []) ∷ []))

abbrev pub g1_cut_grammar : Grammar
g1_cut_grammar = g1_with (rule false 64 [] ((1 ∷ []) ∷ (65 ∷ 2 ∷ []) ∷ (66 ∷ []) ∷ []))

abbrev pub d_grammar : Grammar
d_grammar = record {
  terminals = 4;
  nonterminals = 3;
  goal = 64;
  rules =
      rule false 64 [] [] ∷ rule false 64 (64 ∷ []) ((65 ∷ []) ∷ []) ∷ rule true 65 [] ((66 ∷ []) ∷ (2 ∷ []) ∷ (3 ∷ []) ∷ []) ∷
      rule false 66 (1 ∷ []) [] ∷ rule false 66 (66 ∷ 4 ∷ []) [] ∷ [];
}

-- ---- what is computed

abbrev Read : Books → Grammar → Type 0
Read b g = book_of (book b.grammar) ≡ accepted g

read : Read smallest smallest_grammar × Read g1 g1_grammar × Read g1_cut g1_cut_grammar × Read d d_grammar
unfolding within is_declared class_of add_digit digits_from field_at text.end_of figures_of header_of parts_from over_limits some_undeclared rule_of rule_at rules_from end_of lines_of book_of
read = (refl, refl, refl, refl)

-- no nonterminal is barren or cut off
abbrev Reduced : Grammar → Type 0
Reduced g = reduced_of g ≡ accepted g

reduced : Reduced smallest_grammar × Reduced g1_grammar × Reduced g1_cut_grammar × Reduced d_grammar
unfolding map? both? either? not? pick lowest member? has? more next done grow listed decide each? in? numbers occurrences occurrences_in whole? terminal? derived? productive? lowest_unproductive reaches? occurs? reachable? lowest_unreachable reduced_of dec_le ℕ_discrete
reduced = (refl, refl, refl, refl)

both : (b : Books) (g : Grammar) → Read b g → Reduced g → grammar_of (book b.grammar) ≡ accepted g
unfolding grammar_of
both b g e f = ap (λ (x : Book). on_accepted x reduced_of rejected) e ∙ f

pub computes : Computes smallest smallest_grammar 4 × Computes g1 g1_grammar 11 × Computes g1_cut g1_cut_grammar 13 × Computes d d_grammar 12
unfolding entry_strings add_rules add_groups add_string leave note note_if table_text digits lead
computes = (
  record { reads = both smallest smallest_grammar read.0 reduced.0; passed = refl; printed = refl; short = refl },
  record { reads = both g1 g1_grammar read.1 reduced.1; passed = refl; printed = refl; short = refl },
  record { reads = both g1_cut g1_cut_grammar read.2 reduced.2; passed = refl; printed = refl; short = refl },
  record { reads = both d d_grammar read.3 reduced.3; passed = refl; printed = refl; short = refl },
)
