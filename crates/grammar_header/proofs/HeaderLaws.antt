-- The ranges of a header that was read.
use Prim.Native.Nat.{ℕ, ◌+◌, ◌≤◌}
use mathlib.Core.Path.{◌≡◌, subst}
use mathlib.Core.List.{List}
use mathlib.Core.Bool.{false, ◌&&◌}
use lib.Dec.{leb, eqb}
use Rattle.range.specs.Range.{within}
use Rattle.range.proofs.RangeLaws.{within-true}
use Rattle.range.proofs.TestLaws.{both, all_cond}
use Rattle.symbol.specs.Symbol.{is_nonterminal}
use Rattle.text.specs.Field.{field_at}
use Rattle.text.proofs.ElseLaws.{all_number, all_letter}
use Rattle.grammar_header.specs.declared.Heading.{Heading}
use Rattle.grammar_header.specs.declared.HeaderLine.{HeaderLine}
use Rattle.grammar_header.specs.declared.HeaderLine.TheVariants as line
use Rattle.grammar_header.specs.Header.{figures_of, header_of}

pub record Ranged (h : Heading) : Type 0 where
  pub t_range : (1 ≤ h.terminals) × (h.terminals ≤ 63)
  pub n_range : (1 ≤ h.nonterminals) × (h.nonterminals ≤ 64)
  pub rules_range : (1 ≤ h.rules) × (h.rules ≤ 127)
  pub goal_range : (64 ≤ h.goal) × (h.goal ≤ 63 + h.nonterminals)

abbrev Good : HeaderLine → Type 0
Good (line.Read h next) = Ranged h
Good (line.Refused x) = Unit {0}

figures_good : (t n rules goal next : ℕ) → Good (figures_of t n rules goal next)
unfolding figures_of
figures_good t n rules goal next =
    all_cond Good (within 1 t 63 && (within 1 n 64 && (within 1 rules 127 && leb goal 65535)))
    (λ e. all_cond Good (is_nonterminal n goal) (λ g.
    let e1 = both (within 1 t 63) (within 1 n 64 && (within 1 rules 127 && leb goal 65535)) e in
    let e2 = both (within 1 n 64) (within 1 rules 127 && leb goal 65535) e1.1 in
    let e3 = both (within 1 rules 127) (leb goal 65535) e2.1 in
    record {
      t_range = within-true 1 t 63 e1.0;
      n_range = within-true 1 n 64 e2.0;
      rules_range = within-true 1 rules 127 e3.0;
      goal_range = within-true 64 goal (63 + n) g;
    }) (λ g. tt))
    (λ e. tt)

all_good : (s : List ℕ) → Good (header_of s)
unfolding header_of
all_good s =
    all_letter Good (field_at s (record { at = 0; ended = false })) (λ k c e. all_cond Good (eqb k 71) (λ e.
    all_number Good (field_at s c) (λ t c e.
    all_number Good (field_at s c) (λ n c e.
    all_number Good (field_at s c) (λ rules c e.
    all_number Good (field_at s c) (λ goal c e.
    all_cond Good c.ended (λ e. figures_good t n rules goal c.at) (λ e. tt))
    tt) tt) tt) tt)
    (λ e. tt)) tt

pub header_ranged : (s : List ℕ) (h : Heading) (next : ℕ) → header_of s ≡ line.Read h next → Ranged h
header_ranged s h next e = subst Good e (all_good s)
