-- The first line of a grammar book. Document 01, 'Books': "`G,t,n,r,goal`".
use Rattle.std.specs.Prelude.{ℕ, List, false, cond, ◌&&◌, leb, eqb}
use Rattle.range.specs.Range.{within}
use Rattle.symbol.specs.Symbol.{is_nonterminal}
use Rattle.reply.specs.declared.Kind.{Kind}
use Rattle.reply.specs.declared.Kind.TheVariants as kind
use Rattle.text.specs.Field.{field_at, on_number, on_letter}
use Rattle.grammar_header.specs.declared.HeaderLine.{HeaderLine}
use Rattle.grammar_header.specs.declared.HeaderLine.TheVariants as line

-- the place of every refusal of the first line: its first byte
abbrev pub refused_header : Kind → HeaderLine
refused_header k = line.Refused (record { kind = k; place = 0 })

-- 2, "a figure leaves the table above": t 1 to 63, n 1 to 64, rules 1 to 127, a number at most 65,535; then
-- 3, "a symbol [..] undeclared or of the wrong kind for its field": the goal is a nonterminal
unfoldable pub figures_of : ℕ → ℕ → ℕ → ℕ → ℕ → HeaderLine
figures_of t n rules goal next =
    cond (within 1 t 63 && (within 1 n 64 && (within 1 rules 127 && leb goal 65535)))
    (cond (is_nonterminal n goal)
    (line.Read (record { terminals = t; nonterminals = n; rules = rules; goal = goal }) next)
    (refused_header kind.Undeclared))
    (refused_header kind.LimitExceeded)

-- the letter G, 71, then four numbers, then the line's end, before any figure is looked at; else 1, "a line breaks its form"
unfoldable pub header_of : List ℕ → HeaderLine
header_of s =
    on_letter (field_at s (record { at = 0; ended = false })) (λ k c.
    cond (eqb k 71)
    (on_number (field_at s c) (λ t c.
    on_number (field_at s c) (λ n c.
    on_number (field_at s c) (λ rules c.
    on_number (field_at s c) (λ goal c.
    cond c.ended (figures_of t n rules goal c.at) malformed)
    malformed) malformed) malformed) malformed)
    malformed)
    malformed
  where
    malformed : HeaderLine
    malformed = refused_header kind.Malformed
