-- A kernel line comes to the same by its numbers as memory keeps them, and by whether its codes rise as the numbers they are.
use Prim.Native.Nat.{ℕ}
use mathlib.Core.Path.{◌≡◌, refl, sym, ap}
use mathlib.Core.List.{List, [], ◌∷◌}
use mathlib.Core.Bool.{Bool, cond, ◌&&◌}
use native.Mathlib.Omega.{arith}
use lib.Dec.{leb, ltb, eqb}
use lib.ListN.{length, get_or, drop}
use Rattle.range.specs.Range.{within}
use Rattle.leftcorner.specs.Table.{KernelLine, K}
use Rattle.table_order.specs.Order.{follows, kernel_key}
use Rattle.table_order.specs.Last.{LastIs}
use Rattle.table_order.proofs.LastLaws.{follows_capped}
use Rattle.table_lines.specs.Line.{TextLine, whole, broken, line_at, on_line, all_at_most, rising, cap, caps, capped}
use Rattle.table_lines.specs.Block.{Outcome, judged}
use Rattle.table_lines.proofs.CapLaws.{caps-length, caps_at, judged-caps}
use Rattle.table_lines.proofs.HeldLaws.{numbers_of}
use Rattle.table_kernels.specs.Kernels.{judge_with, judge_kernel, no_kernel, kernel_next}

module _ (s : List ℕ) (t states items : ℕ) (lens : ℕ → ℕ) (at : ℕ) (l : List KernelLine) {last : List ℕ} (h : LastIs kernel_key last l) where
  abbrev made : List ℕ → KernelLine
  made m = K (get_or m 0 0) (get_or m 1 0) (get_or m 2 0) (drop 3 m)

  key_caps : (q i k : ℕ) → follows kernel_key l (cap q ∷ cap i ∷ cap k ∷ []) ≡ follows kernel_key l (q ∷ i ∷ k ∷ [])
  key_caps q i k = follows_capped h (q ∷ i ∷ k ∷ []) (caps (q ∷ i ∷ k ∷ [])) refl (caps_at (q ∷ i ∷ k ∷ []))

  with_caps : (rise : Bool) (next : ℕ) (ns : List ℕ)
      → judged (judge_with rise t states items lens l (caps ns)) at (made (caps ns)) next ≡ judged (judge_with rise t states items lens l ns) at (made ns) next
  with_caps rise next ns =
      judged-caps
      (λ m. leb 4 (length m) && (rise && follows kernel_key l (get_or m 0 0 ∷ get_or m 1 0 ∷ get_or m 2 0 ∷ [])))
      (λ m. all_at_most 65535 m && ltb (length l) 1023)
      (λ m. within 1 (get_or m 0 0) states && (within 1 (get_or m 1 0) items && (leb (get_or m 2 0) (lens (get_or m 1 0)) && all_at_most t (drop 3 m))))
      (λ m e. simp e) made at next ns
      (simp (caps-length ns, caps_at ns 0, caps_at ns 1, caps_at ns 2, key_caps (get_or ns 0 0) (get_or ns 1 0) (get_or ns 2 0)))

  pub kernel_capped : {letter : ℕ} {ns : List ℕ} {next : ℕ} {rise : Bool} → capped (line_at s at) ≡ whole letter ns next → rise ≡ rising (drop 3 (numbers_of (line_at s at)))
      → kernel_next s t states items lens at l ≡ cond (eqb letter 75) (judged (judge_with rise t states items lens l ns) at (made ns) next) (no_kernel at l)
  unfolding kernel_next judge_kernel
  kernel_capped {letter} {ns} {next} {rise} = go (line_at s at)
    where
      go : (x : TextLine) → capped x ≡ whole letter ns next → rise ≡ rising (drop 3 (numbers_of x))
          → on_line x (λ a m end. cond (eqb a 75) (judged (judge_with (rising (drop 3 m)) t states items lens l m) at (made m) end) (no_kernel at l)) (no_kernel at l)
          ≡ cond (eqb letter 75) (judged (judge_with rise t states items lens l ns) at (made ns) next) (no_kernel at l)
      go (whole a vs end) e q =
          let x : a ≡ letter = cc in
          let y : caps vs ≡ ns = cc in
          let z : end ≡ next = cc in
          rw (← x, ← y, ← z, q) (ap (λ (o : Outcome KernelLine). cond (eqb a 75) o (no_kernel at l)) (sym (with_caps (rising (drop 3 vs)) end vs)))
      go broken e q = let w : ◌≡◌ {A = ℕ} 0 1 = cc in absurd (omega arith)
