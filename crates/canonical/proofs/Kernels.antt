-- Kernel lines that are read are the text of these lines.
use Prim.Native.Nat.{ℕ}
use mathlib.Core.Path.{◌≡◌, refl, ap₂, subst, ◌∙◌}
use mathlib.Core.List.{List, ◌∷◌, ◌++◌}
use native.Mathlib.Omega.{arith}
use lib.ListN.{drop}
use Rattle.leftcorner.specs.Table.{KernelLine, K}
use Rattle.table_lines.specs.Block.{takes, read}
use Rattle.table_kernels.specs.Kernels.{kernel_next, kernels_from}
use Rattle.table_kernels.proofs.NextLaws.{kernel_fine}
use Rattle.table_facts.proofs.Kernels.{kernel_came}
use Rattle.build_book.specs.Text.{line, kernel_text}
use Rattle.canonical.proofs.Line.{line_written, one_more}
use Rattle.canonical.proofs.Block.{block_written}
use Rattle.canonical.proofs.Judged.{kernel_letter}

abbrev bytes_of : KernelLine → List ℕ
bytes_of (K q i k σ) = line 75 (q ∷ i ∷ k ∷ σ)

text_more : (x : KernelLine) (l : List KernelLine) → kernel_text (x ∷ l) ≡ bytes_of x ++ kernel_text l
text_more (K q i k σ) l = refl

module _ (s : List ℕ) (terminals states items : ℕ) (lens : ℕ → ℕ) where
  kernel_written : (at : ℕ) (l : List KernelLine) (x : KernelLine) (past : ℕ) → kernel_next s terminals states items lens at l ≡ takes x past
      → drop at s ≡ bytes_of x ++ drop past s
  kernel_written at l x past e =
      let c = kernel_came s terminals states items lens at l x past e in
      let ns = c.numbers in
      let f = kernel_fine terminals states items lens l ns c.fine in
      subst (λ (y : KernelLine). drop at s ≡ bytes_of y ++ drop past s) c.made
      (line_written s at c.line_is f.small
      ∙ ap₂ (λ (b : ℕ) (vs : List ℕ). line b vs ++ drop past s) (kernel_letter terminals states items lens l s at c.line_is e)
      (one_more ns 0 (omega (arith, f.long)) (one_more ns 1 (omega (arith, f.long)) (one_more ns 2 (omega (arith, f.long)) refl))))

  pub kernels_written : (at : ℕ) {ks : List KernelLine} {end : ℕ} → kernels_from s terminals states items lens at ≡ read ks end
      → drop at s ≡ kernel_text ks ++ drop end s
  kernels_written at e = block_written s bytes_of kernel_text refl text_more (kernel_next s terminals states items lens) kernel_written 1024 at e
