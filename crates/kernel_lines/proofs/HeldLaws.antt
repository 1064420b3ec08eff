-- Kernel lines in memory are those of the table.
use Prim.Native.Nat.{ℕ, zero, suc, ◌<◌}
use mathlib.Core.Path.{◌≡◌, refl, sym, subst, ◌∙◌}
use mathlib.Core.List.{List, [], ◌∷◌}
use mathlib.Core.Option.{some}
use native.Mathlib.Omega.{arith}
use lib.ListN.{length}
use Rattle.language.specs.Grammar.{Grammar, at}
use Rattle.language.specs.Sentence.{In, here, there}
use Rattle.leftcorner.specs.Table.{KernelLine, K, Table}
use Rattle.leftcorner.specs.Construction.{KernelAt}
use Rattle.leftcorner.proofs.ReadOff.{clash}
use Rattle.language.proofs.GrammarLaws.{at_below}
use Rattle.memory.specs.Memory.{HoldsKernels}
use Rattle.kernel_lines.specs.Lines.{IsLine, LineAt}

pub in_at : {A : Type 0} {x : A} {l : List A} → In x l → (n : ℕ) × (n < length l) × (at l n ≡ some x)
in_at here = (0, omega arith, refl)
in_at (there m) = let r = in_at m in (suc r.0, omega (arith, r.1), r.2)

pub at_in : {A : Type 0} {x : A} (l : List A) (n : ℕ) → at l n ≡ some x → In x l
at_in [] n e = clash cc
at_in {x = x} (y ∷ l) zero e = subst (λ (z : _). In z (y ∷ l)) (let f : y ≡ x = cc in f) here
at_in (y ∷ l) (suc n) e = there (at_in l n e)

module _ (g : Grammar) (t : Table) {kernels lookaheads : List ℕ} {lines : ℕ} (h : HoldsKernels kernels lookaheads t) (count : length t.kernels ≡ lines) where
  pub line_of : {q i k : ℕ} {σ : List ℕ} → KernelAt g t q i k σ → LineAt kernels lines q i k
  line_of {q} {i} {k} m = let r = in_at m in record {
    line = r.0;
    is_it = record { low = omega (arith, r.1); state = h.line_state r.0 q i k r.2; item = h.line_item r.0 q i k r.2; dot = h.line_dot r.0 q i k r.2 };
  }

  -- the table's line of that number
  pub line_holds : {q i k l : ℕ} → IsLine kernels lines q i k l → (σ : List ℕ) × (at t.kernels l ≡ some (K q i k σ))
  line_holds {q} {i} {k} {l} d = go (at_below t.kernels l (omega (arith, d.low)))
    where
      go : (x : KernelLine) × (at t.kernels l ≡ some x) → (σ : List ℕ) × (at t.kernels l ≡ some (K q i k σ))
      go (K p j n σ, e) =
          let a : p ≡ q = sym (h.line_state l p j n e) ∙ d.state in
          let b : j ≡ i = sym (h.line_item l p j n e) ∙ d.item in
          let c : n ≡ k = sym (h.line_dot l p j n e) ∙ d.dot in
          (σ, cc)

  pub kernel_of : {q i k : ℕ} → LineAt kernels lines q i k → (σ : List ℕ) × KernelAt g t q i k σ
  kernel_of d = let r = line_holds d.is_it in (r.0, at_in t.kernels d.line r.1)
