-- The kernel lines of a table read back.
use Prim.Native.Nat.{ℕ, suc, ◌+◌, ◌≤◌}
use native.Mathlib.Omega.{arith}
use mathlib.Core.Path.{◌≡◌, refl, sym, ap, subst, ◌∙◌}
use mathlib.Core.Bool.{true}
use mathlib.Core.List.{List, [], ◌∷◌, ◌++◌, map}
use borrow.Author.Tests.{le-leb, lt-ltb}
use lib.ListN.{length, length-append}
use Rattle.language.specs.Grammar.{Grammar, concat}
use Rattle.language.specs.Sentence.{In, here}
use Rattle.language.proofs.Member.{in_right}
use Rattle.language.specs.WellFormed as grammar
use Rattle.language.specs.Rising.{RisingFrom}
use Rattle.range.proofs.RangeLaws.{true-within}
use Rattle.leftcorner.specs.Table.{KernelLine, K, Table}
use Rattle.table_order.specs.Order.{kernel_key}
use Rattle.table_order.proofs.OrderLaws.{RisingBy, rising_follows}
use Rattle.table_lines.specs.declared.Judgement.TheVariants.{Fine}
use Rattle.table_lines.specs.Line.{all_at_most, rising_from, rising}
use Rattle.table_lines.specs.Block.{takes, stops, read}
use Rattle.table_kernels.specs.Kernels.{judge_kernel, no_kernel, kernel_next, kernels_from}
use Rattle.table_kernels.proofs.NextLaws.{kernel_taken}
use Rattle.table.specs.Book.{lengths_of, table_with}
use Rattle.build_book.specs.Text.{line, kernel_text}
use Rattle.build_book.proofs.Over.{symbols_over}
use Rattle.build_book.proofs.Readable.{KernelForm, Readable, has_line}
use Rattle.build_read_back.proofs.Line.{Rest, rest_as, line_read}
use Rattle.build_read_back.proofs.Block.{all_at_most_lem, lines_stopped}

-- ---- the tests of a kernel line

rising_from_lem : (u : ℕ) (l : List ℕ) → RisingFrom (suc u) l → rising_from u l ≡ true
rising_from_lem u [] r = refl
rising_from_lem u (v ∷ l) r = simp (lt-ltb u v (omega (arith, r.0)), rising_from_lem v l r.1)

rising_is : (l : List ℕ) → RisingFrom 0 l → rising l ≡ true
rising_is [] r = refl
rising_is (v ∷ l) r = rising_from_lem v l r.1

-- a block with a line may end
no_kernel_lem : (at : ℕ) (l : List KernelLine) → 1 ≤ length l → no_kernel at l ≡ stops
no_kernel_lem at [] h = absurd (omega arith)
no_kernel_lem at (x ∷ l) h = refl

-- ---- the block
abbrev line_of : KernelLine → List ℕ
line_of (K q i k σ) = line 75 (q ∷ i ∷ k ∷ σ)

text_is : (l : List KernelLine) → kernel_text l ≡ concat (map line_of l)
text_is [] = refl
text_is (K q i k σ ∷ l) = ap (λ (z : List ℕ). line 75 (q ∷ i ∷ k ∷ σ) ++ z) (text_is l)

module _ (g : Grammar) (t : Table) (W : grammar.WellFormed g) (R : Readable g t) (s : List ℕ) where
  abbrev items : ℕ
  items = length g.rules + length t.entries

  abbrev lengths : ℕ → ℕ
  lengths = lengths_of g t.entries

  -- every number of a line is a number
  numbers_low : (q i k : ℕ) (σ : List ℕ) → KernelForm g t q i k σ → all_at_most 65535 (q ∷ i ∷ k ∷ σ) ≡ true
  numbers_low q i k σ f =
      simp (
        le-leb q 65535 (omega (arith, f.state.1, R.few_states)),
        le-leb i 65535 (omega (arith, f.item.1, W.few_rules, R.few_entries)),
        le-leb k 65535 (omega (arith, f.small)),
        all_at_most_lem 65535 σ (λ d n. omega (arith, f.codes_low d n, W.few_terminals)),
      )

  fine : (earlier : List KernelLine) (q i k : ℕ) (σ : List ℕ) (later : List KernelLine) → t.kernels ≡ earlier ++ K q i k σ ∷ later → KernelForm g t q i k σ
      → judge_kernel g.terminals t.states items lengths earlier (q ∷ i ∷ k ∷ σ) ≡ Fine
  unfolding judge_kernel
  fine earlier q i k σ later e f =
      let n = ap length (symbols_over g t (table_with 0 t.entries [] []) refl i) in
      simp (
        le-leb 4 (length (q ∷ i ∷ k ∷ σ)) (omega (arith, has_line f.some_code.1)),
        rising_is σ f.rising,
        rising_follows kernel_key earlier (K q i k σ) later (subst (RisingBy kernel_key) e R.kernels_rise),
        numbers_low q i k σ f,
        lt-ltb (length earlier) 1023 (omega (arith, R.few_kernels, ap length e, length-append earlier (K q i k σ ∷ later))),
        true-within 1 q t.states f.state.0 f.state.1,
        true-within 1 i items f.item.0 f.item.1,
        le-leb k (lengths i) (omega (arith, f.dot, n)),
        all_at_most_lem g.terminals σ f.codes_low,
      )

  line_taken : (earlier : List KernelLine) (x : KernelLine) (later : List KernelLine) → t.kernels ≡ earlier ++ x ∷ later → (at past : ℕ) (w : List ℕ) → Rest s at (line_of x ++ w) → Rest s past w
      → kernel_next s g.terminals t.states items lengths at earlier ≡ takes x past
  line_taken earlier (K q i k σ) later e at past w r n =
      let f = R.kernel q i k σ (subst (In (K q i k σ)) (sym e) (in_right earlier here)) in
      kernel_taken s g.terminals t.states items lengths at earlier
      (line_read s 75 (q ∷ i ∷ k ∷ σ) w (omega arith) (omega arith) (numbers_low q i k σ f) r n) refl (fine earlier q i k σ later e f)

  pub kernels_read : {at end : ℕ} (w : List ℕ) → Rest s at (kernel_text t.kernels ++ w) → Rest s end w
      → kernel_next s g.terminals t.states items lengths end t.kernels ≡ no_kernel end t.kernels
      → kernels_from s g.terminals t.states items lengths at ≡ read t.kernels end
  kernels_read {end = end} w r n e =
      lines_stopped s line_of (kernel_next s g.terminals t.states items lengths) t.kernels line_taken w
      (rest_as (ap (λ (z : List ℕ). z ++ w) (text_is t.kernels)) r) n 1024 (omega (arith, R.few_kernels)) (e ∙ no_kernel_lem end t.kernels R.some_kernel)
