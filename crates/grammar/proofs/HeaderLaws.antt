-- The first line of a grammar book that is read has the grammar's number of terminals.
use Prim.Native.Nat.{ℕ}
use mathlib.Core.Path.{◌≡◌, refl, ap}
use mathlib.Core.List.{List}
use mathlib.Core.Bool.{Bool, true, false, cond}
use native.Mathlib.Omega.{arith}
use lib.Dec.{ltb, eqb}
use lib.ListN.{length}
use Rattle.language.specs.Grammar.{Grammar, Rule}
use Rattle.reply.specs.declared.Kind.TheVariants as kind
use Rattle.grammar_header.specs.declared.Heading.{Heading}
use Rattle.grammar_header.specs.declared.HeaderLine.{HeaderLine}
use Rattle.grammar_header.specs.declared.HeaderLine.TheVariants as header
use Rattle.grammar_header.specs.Header.{header_of}
use Rattle.grammar.specs.Book.{Rules, listed, broken_off, rules_from, Book, accepted, rejected, rejected_at, grammar_with, end_of, lines_of, book_of, on_accepted, reduced_of, grammar_of}
use Rattle.grammar.proofs.GrammarLaws.{Tells, answer_tells}

pub record Headed (s : List ℕ) (t : ℕ) : Type 0 where
  pub heading : Heading
  pub next : ℕ
  pub header_is : header_of s ≡ header.Read heading next
  pub terminals_is : heading.terminals ≡ t

lines_headed : (s : List ℕ) (k : Grammar) (x : HeaderLine) → header_of s ≡ x → lines_of s x ≡ accepted k → Headed s k.terminals
unfolding lines_of end_of
lines_headed s k (header.Read h next) e f = go (rules_from h.rules s h.terminals h.nonterminals next) f
  where
    ended : (rs : List Rule) (end : ℕ) (b : Bool) → cond b (accepted (grammar_with h rs)) (rejected_at kind.Malformed end) ≡ accepted k → Headed s k.terminals
    ended rs end true f =
        let q : grammar_with h rs ≡ k = cc in
        record { heading = h; next = next; header_is = e; terminals_is = ap (λ (g : Grammar). g.terminals) q }
    ended rs end false f = let z : ◌≡◌ {A = ℕ} 0 1 = cc in absurd (omega arith)

    go : (r : Rules) → end_of (length s) h r ≡ accepted k → Headed s k.terminals
    go (listed rs end) f = ended rs end (eqb end (length s)) f
    go (broken_off x) f = let z : ◌≡◌ {A = ℕ} 0 1 = cc in absurd (omega arith)
lines_headed s k (header.Refused why) e f = let z : ◌≡◌ {A = ℕ} 0 1 = cc in absurd (omega arith)

pub accepted_headed : (s : List ℕ) (g : Grammar) → grammar_of s ≡ accepted g → Headed s g.terminals
unfolding grammar_of book_of Tells
accepted_headed s g e = go (book_of s) refl e
  where
    read : (k : Grammar) (b : Bool) → cond b (rejected_at kind.LimitExceeded 0) (lines_of s (header_of s)) ≡ accepted k → Headed s k.terminals
    read k true f = let z : ◌≡◌ {A = ℕ} 0 1 = cc in absurd (omega arith)
    read k false f = lines_headed s k (header_of s) refl f

    go : (b : Book) → book_of s ≡ b → on_accepted b reduced_of rejected ≡ accepted g → Headed s g.terminals
    go (accepted k) f h =
        let q : g ≡ k = (answer_tells k (accepted g) h).0 in
        rw (ap (λ (x : Grammar). x.terminals) q) (read k (ltb 65536 (length s)) f)
    go (rejected x) f h = let z : ◌≡◌ {A = ℕ} 0 1 = cc in absurd (omega arith)
