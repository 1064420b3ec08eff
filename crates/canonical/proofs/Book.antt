-- A table book that was read is the text of its table.
use Prim.Native.Nat.{ℕ, ◌+◌}
use mathlib.Core.Path.{◌≡◌, sym, ap, ap₂, subst, ◌∙◌}
use mathlib.Core.List.{List, [], ◌∷◌, ◌++◌, append-nil}
use mathlib.Core.Bool.{true, ◌&&◌}
use native.Mathlib.Omega.{arith}
use borrow.Author.Tests.{le-leb, eqb-true}
use lib.Dec.{eqb}
use lib.ListN.{length, get_or, drop, drop_of_length-le}
use Rattle.language.specs.Grammar.{Grammar}
use Rattle.language.proofs.TestLaws.{both_true}
use Rattle.range.specs.Range.{within}
use Rattle.range.proofs.RangeLaws.{within-true}
use Rattle.range.proofs.TestLaws.{all_cond}
use Rattle.leftcorner.specs.Table.{Table}
use Rattle.table_lines.specs.Line.{line_at, all_at_most}
use Rattle.table_head.specs.declared.Head.{Head}
use Rattle.table_head.specs.declared.Head.TheVariants as head
use Rattle.table.specs.Book.{head_of, whole, lengths_of, tables_of}
use Rattle.table_facts.proofs.Lines.{all_line}
use Rattle.table_facts.proofs.Entries.{entries_counted}
use Rattle.table_facts.proofs.Actions.{book_ended}
use Rattle.table_facts.proofs.Parts.{Parts, tables_parts}
use Rattle.build_book.specs.Text.{line, entry_text, kernel_text, action_text, table_text}
use Rattle.canonical.proofs.Line.{line_written, one_more, no_more}
use Rattle.canonical.proofs.Entries.{entries_written}
use Rattle.canonical.proofs.Kernels.{kernels_written}
use Rattle.canonical.proofs.Actions.{actions_written}

-- ---- the first line
module _ (s : List ℕ) where
  abbrev HeadIs : Head → Type 0
  HeadIs (head.Read states count next) = s ≡ line 84 (states ∷ count ∷ []) ++ drop next s
  HeadIs (head.Refused why) = Unit {0}

  head_is : HeadIs (head_of s)
  unfolding head_of
  head_is =
      all_line HeadIs (line_at s 0)
      (λ letter ns next e. all_cond HeadIs (eqb letter 84 && eqb (length ns) 2)
      (λ p. all_cond HeadIs (within 1 (get_or ns 0 0) 255 && within 1 (get_or ns 1 0) 127) (λ q.
      let f = both_true (eqb letter 84) (eqb (length ns) 2) p in
      let w = both_true (within 1 (get_or ns 0 0) 255) (within 1 (get_or ns 1 0) 127) q in
      let n = eqb-true (length ns) 2 f.1 in
      let two : ns ≡ get_or ns 0 0 ∷ get_or ns 1 0 ∷ [] = one_more ns 0 (omega arith) (one_more ns 1 (omega arith) (no_more ns 2 (omega arith))) in
      let small : all_at_most 65535 (get_or ns 0 0 ∷ get_or ns 1 0 ∷ []) ≡ true = simp (
        le-leb (get_or ns 0 0) 65535 (omega (arith, within-true 1 (get_or ns 0 0) 255 w.0)),
        le-leb (get_or ns 1 0) 65535 (omega (arith, within-true 1 (get_or ns 1 0) 127 w.1)),
      ) in
      line_written s 0 e (subst (λ (l : List ℕ). all_at_most 65535 l ≡ true) (sym two) small)
      ∙ ap₂ (λ (b : ℕ) (l : List ℕ). line b l ++ drop next s) (eqb-true letter 84 f.0) two)
      (λ q. tt)) (λ p. tt)) tt

-- ---- the first line and the blocks
parts_text : (gs s : List ℕ) {g : Grammar} {t : Table} → Parts gs s g t → s ≡ table_text t
unfolding table_text
parts_text gs s {g} {t} p =
    subst (HeadIs s) p.head_is (head_is s)
    ∙ ap₂ (λ (n : ℕ) (w : List ℕ). line 84 (t.states ∷ n ∷ []) ++ w) (sym (entries_counted g s t.states p.count p.first p.entries_are))
    (entries_written g s t.states p.count p.first p.entries_are
    ∙ ap (λ (w : List ℕ). entry_text t.entries ++ w)
    (kernels_written s g.terminals t.states (length g.rules + length t.entries) (lengths_of g t.entries) p.second p.kernels_are
    ∙ ap (λ (w : List ℕ). kernel_text t.kernels ++ w)
    (actions_written s g.terminals g.nonterminals (length g.rules) t.states p.third p.actions_are
    ∙ (ap (λ (w : List ℕ). action_text t.actions ++ w) (drop_of_length-le s (book_ended s g.terminals g.nonterminals (length g.rules) t.states p.third p.actions_are))
    ∙ append-nil (action_text t.actions)))))

pub reads_text : (gs s : List ℕ) {g : Grammar} {t : Table} → tables_of gs s ≡ whole g t → s ≡ table_text t
reads_text gs s e = parts_text gs s (tables_parts gs s e)
