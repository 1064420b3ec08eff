-- A grammar book: the grammar, or the refusal that document 01 gives. 'Order: lengths; grammar lines in order, each by 1, 2,
-- 3, 4; then 5, 6.'
use Rattle.std.specs.Prelude.{ℕ, zero, suc, List, [], ◌∷◌, ◌++◌, cond, ltb, eqb, length}
use Rattle.language.specs.Grammar.{Grammar, Rule}
use Rattle.fixpoint.specs.declared.Found.{Found}
use Rattle.grammar_reduction.specs.Reduced.{lowest_unproductive, lowest_unreachable}
use Rattle.reply.specs.declared.Kind.{Kind}
use Rattle.reply.specs.declared.Kind.TheVariants as kind
use Rattle.reply.specs.declared.Refusal.{Refusal}
use Rattle.grammar_header.specs.declared.Heading.{Heading}
use Rattle.grammar_header.specs.declared.HeaderLine.{HeaderLine}
use Rattle.grammar_header.specs.declared.HeaderLine.TheVariants as header
use Rattle.grammar_header.specs.Header.{header_of}
use Rattle.grammar_rule.specs.RuleLine.{Line, read, refused, rule_at}

-- ---- the rule lines
-- rules in line order with the position past their lines, or the first refusal
pub data Rules : Type 0 where
  listed : List Rule → ℕ → Rules
  broken_off : Refusal → Rules

abbrev pub after : List Rule → Rules → Rules
after rs (listed qs end) = listed (rs ++ qs) end
after rs (broken_off x) = broken_off x

abbrev pub on_line : {A : Type 0} → Line → (Rule → ℕ → A) → (Refusal → A) → A
on_line (read r next) f y = f r next
on_line (refused x) f y = y x

-- k rule lines from `at` on. Where the book ends too soon the line at its length breaks its form: there is no field.
unfoldable pub rules_from : ℕ → List ℕ → ℕ → ℕ → ℕ → Rules
rules_from zero s t n at = listed [] at
rules_from (suc k) s t n at = on_line (rule_at s t n at) (λ r next. after (r ∷ []) (rules_from k s t n next)) broken_off

-- ---- the book
pub data Book : Type 0 where
  accepted : Grammar → Book
  rejected : Refusal → Book

abbrev pub rejected_at : Kind → ℕ → Book
rejected_at k place = rejected (record { kind = k; place = place })

abbrev pub grammar_with : Heading → List Rule → Grammar
grammar_with h rs = record { terminals = h.terminals; nonterminals = h.nonterminals; goal = h.goal; rules = rs }

-- a line too many is refused at its first byte, whatever it holds
unfoldable pub end_of : ℕ → Heading → Rules → Book
end_of size h (listed rs end) = cond (eqb end size) (accepted (grammar_with h rs)) (rejected_at kind.Malformed end)
end_of size h (broken_off x) = rejected x

unfoldable pub lines_of : List ℕ → HeaderLine → Book
lines_of s (header.Read h next) = end_of (length s) h (rules_from h.rules s h.terminals h.nonterminals next)
lines_of s (header.Refused x) = rejected x

-- "book or scan file | 0 | 65,536 bytes", before any line; its place is 0
unfoldable pub book_of : List ℕ → Book
book_of s = cond (ltb 65536 (length s)) (rejected_at kind.LimitExceeded 0) (lines_of s (header_of s))

-- ---- 5, "a nonterminal derives no string of terminals", then 6, "a nonterminal is not reached from the goal": at "its code, lowest"
abbrev pub on_found : {A : Type 0} → Found → (ℕ → A) → A → A
on_found (Found.At X) f y = f X
on_found Found.Nothing f y = y

unfoldable pub reduced_of : Grammar → Book
reduced_of g =
    on_found (lowest_unproductive g) (rejected_at kind.Unproductive)
    (on_found (lowest_unreachable g) (rejected_at kind.Unreachable) (accepted g))

abbrev pub on_accepted : {A : Type 0} → Book → (Grammar → A) → (Refusal → A) → A
on_accepted (accepted g) f y = f g
on_accepted (rejected x) f y = y x

-- the meaning of a grammar book
unfoldable pub grammar_of : List ℕ → Book
grammar_of s = on_accepted (book_of s) reduced_of rejected
