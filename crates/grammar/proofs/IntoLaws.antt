-- From the lines of a book to its meaning.
use Prim.Native.Nat.{ℕ, ◌≤◌, ◌<◌}
use mathlib.Core.Path.{◌≡◌, refl, sym, ap, subst, ◌∙◌}
use mathlib.Core.List.{List, []}
use native.Mathlib.Omega.{arith}
use borrow.Author.Tests.{lt-ltb, le-ltb}
use lib.ListN.{length, replicate, length-replicate}
use Rattle.language.specs.Grammar.{Grammar}
use Rattle.items.specs.Layout.{layout}
use Rattle.items.proofs.TableLaws.{table_length}
use Rattle.fixpoint.specs.declared.Found.{Found}
use Rattle.grammar_reduction.specs.Reduced.{lowest_unproductive, lowest_unreachable}
use Rattle.reply.specs.declared.Kind.TheVariants as kind
use Rattle.reply.specs.declared.Refusal.{Refusal}
use Rattle.grammar_header.specs.declared.Heading.{Heading}
use Rattle.grammar.specs.declared.GrammarReply.{GrammarReply}
use Rattle.grammar.specs.declared.GrammarReply.TheVariants as reply
use Rattle.grammar.specs.Book.{Book, accepted, rejected, rejected_at, on_found, book_of, reduced_of, grammar_of}
use Rattle.grammar.specs.Memory.{heading_of, reply_of, fitted, read_of, memory_of, LaidBy, Laid, HoldsGrammar}
use Rattle.grammar.proofs.FormLaws.{accepted_formed}

pub is_accepted : (b : Book) {h : Heading} → reply_of b ≡ reply.Read h → (g : Grammar) × (b ≡ accepted g) × (h ≡ heading_of g)
is_accepted (accepted g) {h} e = (g, refl, let q : h ≡ heading_of g = cc in q)
is_accepted (rejected x) e = let z : ◌≡◌ {A = ℕ} 0 1 = cc in absurd (omega arith)

pub is_rejected : (b : Book) {x : Refusal} → reply_of b ≡ reply.Refused x → b ≡ rejected x
is_rejected (accepted g) e = let z : ◌≡◌ {A = ℕ} 0 1 = cc in absurd (omega arith)
is_rejected (rejected y) {x} e = ap rejected (let q : y ≡ x = cc in q)

-- a grammar that is reduced stays as it is
Same : Grammar → Book → Type 0
Same g (accepted k) = k ≡ g
Same g (rejected x) = Unit {0}

pub reduced_same : (g k : Grammar) → reduced_of g ≡ accepted k → k ≡ g
unfolding reduced_of Same
reduced_same g k e = subst (Same g) e (go (lowest_unproductive g) (lowest_unreachable g))
  where
    go : (a b : Found) → Same g (on_found a (rejected_at kind.Unproductive) (on_found b (rejected_at kind.Unreachable) (accepted g)))
    go (Found.At X) b = tt
    go Found.Nothing (Found.At X) = tt
    go Found.Nothing Found.Nothing = refl

-- a slice that was cleared keeps its length
pub cleared_length : (k : ℕ) {m : List ℕ} → m ≡ replicate k 0 → length m ≡ k
cleared_length k e = ap length e ∙ length-replicate {A = ℕ} k 0

pub zeros_again : (k : ℕ) {m : List ℕ} → m ≡ replicate k 0 → m ≡ replicate (length m) 0
zeros_again k e = e ∙ ap (λ (j : ℕ). replicate {A = ℕ} j 0) (sym (cleared_length k e))

pub laid_again : {b : Book} {m : List ℕ} {j k : ℕ} → j ≡ k → Laid b j m → Laid b k m
laid_again {b} {m} e w = subst (λ (n : ℕ). Laid b n m) e w

-- a refusal, and a slice that was cleared
pub rejected_cleared : {b : Book} {x : Refusal} → b ≡ rejected x → (size : ℕ) {m : List ℕ} → m ≡ replicate size 0 → record { answered : reply.Refused x ≡ reply_of b; stored : m ≡ memory_of b size }
rejected_cleared {b} {x} e size w = record { answered = sym (ap reply_of e); stored = w ∙ sym (ap (λ (c : Book). memory_of c size) e) }

module _ (s : List ℕ) {y : GrammarReply} (a : y ≡ reply_of (book_of s)) where
  pub lines_rejected : {x : Refusal} → y ≡ reply.Refused x → grammar_of s ≡ rejected x
  unfolding grammar_of
  lines_rejected {x} q = simp (is_rejected (book_of s) (sym a ∙ q))

  module _ {h : Heading} (q : y ≡ reply.Read h) {size : ℕ} {m : List ℕ} (w : Laid (book_of s) size m) where
    pub grammar : Grammar
    grammar = (is_accepted (book_of s) (sym a ∙ q)).0

    book_is : book_of s ≡ accepted grammar
    unfolding grammar
    book_is = (is_accepted (book_of s) (sym a ∙ q)).1

    grammar_is : grammar_of s ≡ reduced_of grammar
    unfolding grammar_of
    grammar_is = simp book_is

    laid : m ≡ layout grammar size
    laid = subst (λ (b : Book). LaidBy b size m) book_is w.table

    pub ready : 8192 ≤ size → HoldsGrammar m h grammar
    unfolding grammar
    ready room =
        let e : length m ≡ size = ap length laid ∙ table_length grammar.rules [] size in
        record {
          formed = accepted_formed s grammar book_is;
          laid = laid ∙ ap (layout grammar) (sym e);
          room = omega arith;
          heading = (is_accepted (book_of s) (sym a ∙ q)).2;
        }

    -- z is the answer of the test that the grammar is reduced
    module _ {z : GrammarReply} (c : z ≡ reply_of (reduced_of grammar)) where
      pub grammar_rejected : {x : Refusal} → z ≡ reply.Refused x → grammar_of s ≡ rejected x
      grammar_rejected r = grammar_is ∙ is_rejected (reduced_of grammar) (sym c ∙ r)

      pub grammar_accepted : {k : Heading} → z ≡ reply.Read k → record { answered : reply.Read k ≡ reply_of (grammar_of s); stored : m ≡ memory_of (grammar_of s) size }
      grammar_accepted {k} r =
          let i = is_accepted (reduced_of grammar) (sym c ∙ r) in
          let e : reduced_of grammar ≡ accepted grammar = i.1 ∙ ap accepted (reduced_same grammar i.0 i.1) in
          let f : grammar_of s ≡ accepted grammar = grammar_is ∙ e in
          record { answered = sym r ∙ c ∙ ap reply_of (sym grammar_is); stored = laid ∙ sym (ap (λ (b : Book). memory_of b size) f) }

-- ---- the lent slice
module _ (s : List ℕ) (size : ℕ) {y : GrammarReply} (a : y ≡ reply_of (grammar_of s)) where
  pub short_rejected : {x : Refusal} → y ≡ reply.Refused x → read_of s size ≡ rejected x
  short_rejected q = ap (fitted size) (is_rejected (grammar_of s) (sym a ∙ q))

  pub short_accepted : size < 8192 → {h : Heading} → y ≡ reply.Read h → read_of s size ≡ rejected_at kind.BufferTooSmall 0
  short_accepted l q = ap (fitted size) (is_accepted (grammar_of s) (sym a ∙ q)).1 ∙ simp (lt-ltb _ _ l)

pub long_enough : (s : List ℕ) (size : ℕ) → 8192 ≤ size → read_of s size ≡ grammar_of s
long_enough s size l = go (grammar_of s)
  where
    go : (b : Book) → fitted size b ≡ b
    go (accepted g) = simp (le-ltb _ _ l)
    go (rejected x) = refl
