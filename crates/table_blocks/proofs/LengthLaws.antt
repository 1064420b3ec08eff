-- The lengths of the items' strings, as memory has them and as the grammar and the entries give them.
use Prim.Native.Nat.{ℕ, zero, suc, ◌+◌, ◌-◌, ◌*◌, ◌≤◌}
use mathlib.Core.Path.{◌≡◌, refl, sym, ap, ◌∙◌}
use mathlib.Core.List.{List, [], ◌∷◌, ◌++◌}
use mathlib.Core.Bool.{Bool, true, false, cond, ◌&&◌}
use mathlib.Core.Option.{Option, some}
use native.Mathlib.Decide.{dec_le}
use native.Mathlib.Omega.{arith}
use borrow.Author.Tests.{le-leb, lt-leb}
use lib.Dec.{leb, ltb, eqb}
use lib.ListN.{length, get_or, drop}
use Rattle.language.specs.Grammar.{Grammar, Rule, right, at, rule_at, concat}
use Rattle.language.proofs.GrammarLaws.{at_below}
use Rattle.language.specs.WellFormed.{WellFormed}
use Rattle.range.specs.Range.{within}
use Rattle.range.proofs.RangeLaws.{within-true}
use Rattle.leftcorner.specs.Table.{EntryLine, E, KernelLine, K, Table, entry_at, string_of, right_of}
use Rattle.items.specs.Layout.{layout, length_at, entry_rows}
use Rattle.items.proofs.LayoutLaws.{layout_holds}
use Rattle.table_lines.specs.declared.Judgement.{Judgement}
use Rattle.table_lines.specs.Line.{TextLine, whole, broken, line_at, on_line, all_at_most, rising}
use Rattle.table_lines.specs.Block.{Outcome, takes, stops, refuses, judge, judged, on_outcome, read, refused, lines_from}
use Rattle.table_order.specs.Order.{follows, kernel_key}
use Rattle.table_entries.specs.Memory.{strings_of, with_entries, EntryMemory}
use Rattle.table_entries.proofs.MemoryLaws.{length_kept}
use Rattle.table_kernels.specs.Kernels.{judge_kernel, no_kernel, kernel_next, kernels_from}
use Rattle.table_blocks.specs.Blocks.{lengths_of}

pub lines_same : {A : Type 0} (p q : ℕ → List A → Outcome A) → ((at : ℕ) (l : List A) → p at l ≡ q at l) → (k at : ℕ) (l : List A) → lines_from k p at l ≡ lines_from k q at l
unfolding lines_from
lines_same p q e zero at l = refl
lines_same {A} p q e (suc k) at l =
    ap (λ (o : Outcome A). on_outcome o (λ x past. lines_from k p past (l ++ x ∷ [])) (read l at) refused) (e at l) ∙ go (q at l) (λ past m. lines_same p q e k past m)
  where
    go : (u : Outcome A) → ((past : ℕ) (m : List A) → lines_from k p past m ≡ lines_from k q past m)
        → on_outcome u (λ x past. lines_from k p past (l ++ x ∷ [])) (read l at) refused ≡ on_outcome u (λ x past. lines_from k q past (l ++ x ∷ [])) (read l at) refused
    go (takes x past) f = f past (l ++ x ∷ [])
    go stops f = refl
    go (refuses why) f = refl

-- ---- the kernel lines go by the lengths of declared items alone
module _ (s : List ℕ) (t states items : ℕ) (f h : ℕ → ℕ) (same : (i : ℕ) → 1 ≤ i → i ≤ items → f i ≡ h i) where
  dot_same : (i k : ℕ) (z : Bool) → within 1 i items && (leb k (f i) && z) ≡ within 1 i items && (leb k (h i) && z)
  dot_same i k z = go (within 1 i items) refl
    where
      go : (b : Bool) → within 1 i items ≡ b → b && (leb k (f i) && z) ≡ b && (leb k (h i) && z)
      go true e = let w = within-true 1 i items e in ap (λ (n : ℕ). leb k n && z) (same i w.0 w.1)
      go false e = refl

  judge_same : (l : List KernelLine) (ns : List ℕ) → judge_kernel t states items f l ns ≡ judge_kernel t states items h l ns
  unfolding judge_kernel
  judge_same l ns =
      ap (λ (b : Bool). judge (leb 4 (length ns) && (rising (drop 3 ns) && follows kernel_key l (get_or ns 0 0 ∷ get_or ns 1 0 ∷ get_or ns 2 0 ∷ [])))
      (all_at_most 65535 ns && ltb (length l) 1023) (within 1 (get_or ns 0 0) states && b))
      (dot_same (get_or ns 1 0) (get_or ns 2 0) (all_at_most t (drop 3 ns)))

  next_same : (at : ℕ) (l : List KernelLine) → kernel_next s t states items f at l ≡ kernel_next s t states items h at l
  unfolding kernel_next
  next_same at l = go (line_at s at)
    where
      lines : (ℕ → ℕ) → TextLine → Outcome KernelLine
      lines k x =
          on_line x (λ letter ns next. cond (eqb letter 75) (judged (judge_kernel t states items k l ns) at (K (get_or ns 0 0) (get_or ns 1 0) (get_or ns 2 0) (drop 3 ns)) next) (no_kernel at l))
          (no_kernel at l)

      go : (x : TextLine) → lines f x ≡ lines h x
      go (whole letter ns next) =
          ap (λ (j : Judgement). cond (eqb letter 75) (judged j at (K (get_or ns 0 0) (get_or ns 1 0) (get_or ns 2 0) (drop 3 ns)) next) (no_kernel at l)) (judge_same l ns)
      go broken = refl

  pub kernels_same : (at : ℕ) → kernels_from s t states items f at ≡ kernels_from s t states items h at
  kernels_same at = lines_same (kernel_next s t states items f) (kernel_next s t states items h) next_same 1024 at []

-- ---- the lengths in memory
module _ (g : Grammar) (w : WellFormed g) (size : ℕ) (room : suc (length g.rules) * 64 ≤ size) {a b : ℕ} {l : List EntryLine} {items states named : List ℕ}
    (m : EntryMemory (layout g size) (length g.rules) a b l items states named) where
  rule_length : (i : ℕ) {r : Rule} → i ≤ length g.rules → rule_at g i ≡ some r → length_at items i ≡ length (right r)
  unfolding with_entries
  rule_length i h e =
      ap (λ (x : List ℕ). length_at x i) m.items_are
      ∙ (length_kept (layout g size) (concat (entry_rows (strings_of l))) i (suc (length g.rules) * 64) (omega arith) ∙ ((layout_holds g w size room).rule_in i e).length_is)

  entry_length : (k : ℕ) {s : ℕ} {γ : List ℕ} → at l k ≡ some (E s γ) → length_at items (suc (length g.rules + k)) ≡ length γ
  entry_length k e = (m.rows.row_in k e).length_is

  pub lengths_agree : (i : ℕ) → 1 ≤ i → i ≤ length g.rules + length l → length_at items i ≡ lengths_of g l i
  lengths_agree zero p q = absurd (omega arith)
  lengths_agree (suc i) p q = go (dec_le (suc i) (length g.rules))
    where
      t : Table
      t = record { states = 0; entries = l; kernels = []; actions = [] }

      go : Dec (suc i ≤ length g.rules) → length_at items (suc i) ≡ lengths_of g l (suc i)
      go (yes h) =
          let r = at_below g.rules i h in
          rule_length (suc i) h r.1
          ∙ sym (ap (λ (c : Bool). length (cond c (right_of (rule_at g (suc i))) (string_of (entry_at t (suc i - length g.rules))))) (le-leb (suc i) (length g.rules) h)
          ∙ ap (λ (o : Option Rule). length (right_of o)) r.1)
      go (no h) = line (at_below l (i - length g.rules) (omega arith))
        where
          back : suc i - length g.rules ≡ suc (i - length g.rules)
          back = omega arith

          line : (x : EntryLine) × (at l (i - length g.rules) ≡ some x) → length_at items (suc i) ≡ lengths_of g l (suc i)
          line (E s γ, e) =
              ap (λ (n : ℕ). length_at items (suc n)) (let z : i ≡ length g.rules + (i - length g.rules) = omega arith in z)
              ∙ (entry_length (i - length g.rules) e
              ∙ sym (ap (λ (c : Bool). length (cond c (right_of (rule_at g (suc i))) (string_of (entry_at t (suc i - length g.rules))))) (lt-leb (suc i) (length g.rules) (omega arith))
              ∙ (ap (λ (n : ℕ). length (string_of (entry_at t n))) back ∙ ap (λ (o : Option EntryLine). length (string_of o)) e)))
