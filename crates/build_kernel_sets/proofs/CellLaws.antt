-- Cells of slices that were cleared.
use Prim.Native.Nat.{ℕ}
use mathlib.Core.Path.{◌≡◌, ◌∙◌, ap}
use mathlib.Core.List.{List}
use lib.ListN.{get_or, replicate}
use Rattle.fixpoint.proofs.PassLaws.{none_on}
use Rattle.build_kernel_sets.specs.Cells.{Blank}

pub blank_zeros : {kinds values gotos : List ℕ} (a b c : ℕ) → kinds ≡ replicate a 0 → values ≡ replicate b 0 → gotos ≡ replicate c 0 → Blank kinds values gotos
blank_zeros a b c ek ev eg = record {
  kinds_blank = λ i. ap (λ (l : List ℕ). get_or l i 0) ek ∙ none_on a i;
  values_blank = λ i. ap (λ (l : List ℕ). get_or l i 0) ev ∙ none_on b i;
  gotos_blank = λ i. ap (λ (l : List ℕ). get_or l i 0) eg ∙ none_on c i;
}
