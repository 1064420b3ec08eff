-- The lines of a book, by its header and its rule lines.
use Prim.Native.Nat.{ℕ, ◌<◌, ◌≤◌}
use mathlib.Core.Path.{◌≡◌, sym, ap, subst, ◌∙◌}
use mathlib.Core.List.{List}
use native.Mathlib.Omega.{arith}
use borrow.Author.Tests.{lt-ltb, le-ltb, eq-eqb, ne_eqb}
use lib.ListN.{length}
use Rattle.language.specs.Grammar.{Rule}
use Rattle.reply.specs.declared.Kind.TheVariants as kind
use Rattle.reply.specs.declared.Refusal.{Refusal}
use Rattle.grammar_header.specs.declared.Heading.{Heading}
use Rattle.grammar_header.specs.declared.HeaderLine.TheVariants as header
use Rattle.grammar_header.specs.Header.{header_of}
use Rattle.grammar.specs.declared.RuleLines.{RuleLines}
use Rattle.grammar.specs.declared.RuleLines.TheVariants as lines
use Rattle.grammar.specs.declared.GrammarReply.{GrammarReply}
use Rattle.grammar.specs.declared.GrammarReply.TheVariants as reply
use Rattle.grammar.specs.Book.{Rules, listed, broken_off, rules_from, Book, accepted, rejected, rejected_at, grammar_with, end_of, lines_of, book_of}
use Rattle.grammar.specs.Memory.{reply_of, lines_reply, ListedBy, Listed, Laid}
use Rattle.grammar.proofs.FormLaws.{rules_count}

-- the answer that a refusal gives, and memory that is to be cleared
pub rejected_told : {b : Book} {x : Refusal} → b ≡ rejected x → {y : GrammarReply} → y ≡ reply.Refused x → (size : ℕ) (m : List ℕ) → record { answered : y ≡ reply_of b; stored : Laid b size m }
rejected_told {b} {x} e q size m = record { answered = q ∙ sym (ap reply_of e); stored = subst (λ (c : Book). Laid c size m) (sym e) (record { table = tt }) }

is_listed : (r : Rules) {end : ℕ} → lines_reply r ≡ lines.Read end → (rs : List Rule) × (r ≡ listed rs end)
is_listed (listed rs e) {end} q = (rs, ap (listed rs) (let p : e ≡ end = cc in p))
is_listed (broken_off x) q = let z : ◌≡◌ {A = ℕ} 0 1 = cc in absurd (omega arith)

is_broken : (r : Rules) {x : Refusal} → lines_reply r ≡ lines.Refused x → r ≡ broken_off x
is_broken (listed rs e) q = let z : ◌≡◌ {A = ℕ} 0 1 = cc in absurd (omega arith)
is_broken (broken_off y) {x} q = ap broken_off (let p : y ≡ x = cc in p)

module _ (s : List ℕ) where
  pub too_long_lem : 65536 < length s → book_of s ≡ rejected_at kind.LimitExceeded 0
  unfolding book_of
  too_long_lem h = simp (lt-ltb _ _ h)

  module _ (l : length s ≤ 65536) where
    pub no_header : {x : Refusal} → header_of s ≡ header.Refused x → book_of s ≡ rejected x
    unfolding book_of lines_of
    no_header e = simp (le-ltb _ _ l, e)

    module _ {h : Heading} {next : ℕ} (e : header_of s ≡ header.Read h next) {y : RuleLines}
        (a : y ≡ lines_reply (rules_from h.rules s h.terminals h.nonterminals next)) where
      abbrev rules : Rules
      rules = rules_from h.rules s h.terminals h.nonterminals next

      book_is : book_of s ≡ end_of (length s) h rules
      unfolding book_of lines_of
      book_is = simp (le-ltb _ _ l, e)

      pub no_rules : {x : Refusal} → y ≡ lines.Refused x → book_of s ≡ rejected x
      unfolding end_of
      no_rules q = book_is ∙ ap (end_of (length s) h) (is_broken rules (sym a ∙ q))

      module _ {end : ℕ} (q : y ≡ lines.Read end) where
        pub line_extra : (end ≡ length s → ⊥) → book_of s ≡ rejected_at kind.Malformed end
        unfolding end_of
        line_extra f = book_is ∙ ap (end_of (length s) h) (is_listed rules (sym a ∙ q)).1 ∙ simp (ne_eqb _ _ f)

        pub all_lines : end ≡ length s → {size : ℕ} {m : List ℕ} → Listed rules size m → record { answered : reply.Read h ≡ reply_of (book_of s); stored : Laid (book_of s) size m }
        unfolding end_of
        all_lines f {size} {m} w =
            let i = is_listed rules (sym a ∙ q) in
            let b : book_of s ≡ accepted (grammar_with h i.0) = book_is ∙ ap (end_of (length s) h) i.1 ∙ simp (eq-eqb _ _ f) in
            let c : length i.0 ≡ h.rules = rules_count s h h.rules next i.0 end i.1 in record {
              answered = ap (λ (k : ℕ). reply.Read (record { terminals = h.terminals; nonterminals = h.nonterminals; rules = k; goal = h.goal })) (sym c) ∙ sym (ap reply_of b);
              stored = subst (λ (c : Book). Laid c size m) (sym b) (record { table = subst (λ (r : Rules). ListedBy r size m) i.1 w.table });
            }
