-- What comes of a place where a kernel line may stand; and what a line that is taken tells.
use Prim.Native.Nat.{ℕ, zero, suc, ◌+◌, ◌-◌, ◌≤◌, ◌<◌}
use mathlib.Core.Path.{◌≡◌, refl, sym, ap, ◌∙◌}
use mathlib.Core.List.{List, [], ◌∷◌}
use mathlib.Core.Bool.{Bool, true, ◌&&◌}
use native.Mathlib.Omega.{arith}
use borrow.Author.Tests.{leb-true, ltb-true, eq-eqb, ne_eqb}
use lib.Dec.{leb, ltb}
use lib.ListN.{length, get_or, drop, length-drop}
use lib.Seq.{get_or-drop}
use Rattle.language.proofs.TestLaws.{both_true}
use Rattle.range.specs.Range.{within}
use Rattle.range.proofs.RangeLaws.{within-true}
use Rattle.reply.specs.declared.Kind.{Kind}
use Rattle.reply.specs.declared.Kind.TheVariants as kind
use Rattle.leftcorner.specs.Table.{KernelLine, K}
use Rattle.table_order.specs.Order.{follows, kernel_key}
use Rattle.table_order.specs.Last.{LastIs}
use Rattle.table_lines.specs.declared.Judgement.TheVariants.{Fine, Faulty}
use Rattle.table_lines.specs.declared.Step.{Step}
use Rattle.table_lines.specs.declared.Step.TheVariants as step
use Rattle.table_lines.specs.Line.{whole, broken, line_at, all_at_most, rising, capped}
use Rattle.table_lines.specs.Block.{takes, fault, step_of, Comes, stopped, turned}
use Rattle.table_lines.proofs.BlockLaws.{judge_fine}
use Rattle.table_lines.proofs.CapLaws.{at_most}
use Rattle.table_lines.proofs.TallyLaws.{rising_short}
use Rattle.table_lines.proofs.HeldLaws.{numbers_of}
use Rattle.table_kernels.specs.Kernels.{judge_with, judge_kernel, no_kernel, kernel_next}
use Rattle.table_kernels.proofs.CapLaws.{kernel_capped}

pub none_first : (at : ℕ) (l : List KernelLine) → length l ≡ 0 → step.Refused (record { kind = kind.Malformed; place = at }) ≡ step_of (no_kernel at l)
none_first at [] e = refl
none_first at (x ∷ l) e = absurd (omega (arith, e))

pub none_later : (at : ℕ) (l : List KernelLine) → (length l ≡ 0 → ⊥) → step.Stopped ≡ step_of (no_kernel at l)
none_later at [] f = absurd (f refl)
none_later at (x ∷ l) f = refl

-- where no kernel line stands, memory is as before
pub none_comes : (at : ℕ) (l : List KernelLine) (M : List KernelLine → Type 0) {r : Step} → r ≡ step_of (no_kernel at l) → M l → Comes l M (no_kernel at l) r
none_comes at [] M e m = rw e turned
none_comes at (x ∷ l) M e m = rw e (stopped m)

module _ (s : List ℕ) (t states items : ℕ) (lens : ℕ → ℕ) (at : ℕ) (l : List KernelLine) where
  pub kernel_broken : line_at s at ≡ broken → kernel_next s t states items lens at l ≡ no_kernel at l
  unfolding kernel_next
  kernel_broken e = simp e

  pub kernel_taken : {letter : ℕ} {ns : List ℕ} {next : ℕ} → line_at s at ≡ whole letter ns next → letter ≡ 75 → judge_kernel t states items lens l ns ≡ Fine
      → kernel_next s t states items lens at l ≡ takes (K (get_or ns 0 0) (get_or ns 1 0) (get_or ns 2 0) (drop 3 ns)) next
  unfolding kernel_next
  kernel_taken {letter} e k j = simp (e, eq-eqb letter 75 k, j)

  -- by the numbers as memory keeps them
  module _ {last : List ℕ} (h : LastIs kernel_key last l) {letter : ℕ} {ns : List ℕ} {next : ℕ} {rise : Bool} (e : capped (line_at s at) ≡ whole letter ns next) (q : rise ≡ rising (drop 3 (numbers_of (line_at s at)))) where
    pub kernel_other : (letter ≡ 75 → ⊥) → kernel_next s t states items lens at l ≡ no_kernel at l
    kernel_other f = kernel_capped s t states items lens at l h e q ∙ simp (ne_eqb letter 75 f)

    module _ (k : letter ≡ 75) where
      pub kernel_refused : {why : Kind} → judge_with rise t states items lens l ns ≡ Faulty why → kernel_next s t states items lens at l ≡ fault why at
      kernel_refused j = kernel_capped s t states items lens at l h e q ∙ simp (eq-eqb letter 75 k, j)

      pub kernel_kept : judge_with rise t states items lens l ns ≡ Fine
          → kernel_next s t states items lens at l ≡ takes (K (get_or ns 0 0) (get_or ns 1 0) (get_or ns 2 0) (drop 3 ns)) next
      kernel_kept j = kernel_capped s t states items lens at l h e q ∙ simp (eq-eqb letter 75 k, j)

-- ---- a line that is fine
pub record KernelFine (t states items : ℕ) (lens : ℕ → ℕ) (l : List KernelLine) (ns : List ℕ) : Type 0 where
  pub long : 4 ≤ length ns
  pub rises : rising (drop 3 ns) ≡ true
  pub after : follows kernel_key l (get_or ns 0 0 ∷ get_or ns 1 0 ∷ get_or ns 2 0 ∷ []) ≡ true
  pub small : all_at_most 65535 ns ≡ true
  pub few : length l < 1023
  pub state_in : (1 ≤ get_or ns 0 0) × (get_or ns 0 0 ≤ states)
  pub item_in : (1 ≤ get_or ns 1 0) × (get_or ns 1 0 ≤ items)
  pub dot_in : get_or ns 2 0 ≤ lens (get_or ns 1 0)
  pub codes_in_lem : all_at_most t (drop 3 ns) ≡ true

pub with_fine : (rise : Bool) (t states items : ℕ) (lens : ℕ → ℕ) (l : List KernelLine) (ns : List ℕ) → judge_with rise t states items lens l ns ≡ Fine
    → (all_at_most 65535 ns ≡ true → rise ≡ rising (drop 3 ns)) → KernelFine t states items lens l ns
with_fine rise t states items lens l ns e q =
    let j = judge_fine (leb 4 (length ns) && (rise && follows kernel_key l (get_or ns 0 0 ∷ get_or ns 1 0 ∷ get_or ns 2 0 ∷ [])))
    (all_at_most 65535 ns && ltb (length l) 1023)
    (within 1 (get_or ns 0 0) states && (within 1 (get_or ns 1 0) items && (leb (get_or ns 2 0) (lens (get_or ns 1 0)) && all_at_most t (drop 3 ns)))) e in
    let f = both_true (leb 4 (length ns)) (rise && follows kernel_key l (get_or ns 0 0 ∷ get_or ns 1 0 ∷ get_or ns 2 0 ∷ [])) j.0 in
    let g = both_true rise (follows kernel_key l (get_or ns 0 0 ∷ get_or ns 1 0 ∷ get_or ns 2 0 ∷ [])) f.1 in
    let w = both_true (all_at_most 65535 ns) (ltb (length l) 1023) j.1 in
    let a = both_true (within 1 (get_or ns 0 0) states) (within 1 (get_or ns 1 0) items && (leb (get_or ns 2 0) (lens (get_or ns 1 0)) && all_at_most t (drop 3 ns))) j.2 in
    let b = both_true (within 1 (get_or ns 1 0) items) (leb (get_or ns 2 0) (lens (get_or ns 1 0)) && all_at_most t (drop 3 ns)) a.1 in
    let c = both_true (leb (get_or ns 2 0) (lens (get_or ns 1 0))) (all_at_most t (drop 3 ns)) b.1 in
    record {
      long = leb-true 4 (length ns) f.0;
      rises = sym (q w.0) ∙ g.0;
      after = g.1;
      small = w.0;
      few = ltb-true (length l) 1023 w.1;
      state_in = within-true 1 (get_or ns 0 0) states a.0;
      item_in = within-true 1 (get_or ns 1 0) items b.0;
      dot_in = leb-true (get_or ns 2 0) (lens (get_or ns 1 0)) c.0;
      codes_in_lem = c.1;
    }

pub kernel_fine : (t states items : ℕ) (lens : ℕ → ℕ) (l : List KernelLine) (ns : List ℕ) → judge_kernel t states items lens l ns ≡ Fine → KernelFine t states items lens l ns
unfolding judge_kernel
kernel_fine t states items lens l ns e = with_fine (rising (drop 3 ns)) t states items lens l ns e (λ a. refl)

-- its key is of such numbers
pub key_small : (ns : List ℕ) → all_at_most 65535 ns ≡ true → (j : ℕ) → get_or (get_or ns 0 0 ∷ get_or ns 1 0 ∷ get_or ns 2 0 ∷ []) j 0 ≤ 65535
key_small ns e zero = at_most 65535 ns e 0
key_small ns e (suc zero) = at_most 65535 ns e 1
key_small ns e (suc (suc zero)) = at_most 65535 ns e 2
key_small ns e (suc (suc (suc j))) = omega arith

-- its numbers are few, since its codes rise to t at most
pub fine_short : {t states items : ℕ} {lens : ℕ → ℕ} {l : List KernelLine} {ns : List ℕ} → t ≤ 63 → KernelFine t states items lens l ns → length ns ≤ 67
fine_short {t = t} {ns = ns} h f = omega (arith, rising_short (drop 3 ns) t f.rises f.codes_in_lem, length-drop 3 ns, h)

-- and its codes are below 64
pub code_low : {t states items : ℕ} {lens : ℕ → ℕ} {l : List KernelLine} {ns : List ℕ} → t ≤ 63 → KernelFine t states items lens l ns → (k : ℕ) → 3 ≤ k → get_or ns k 0 < 64
code_low {t = t} {ns = ns} h f k l =
    omega (arith, at_most t (drop 3 ns) f.codes_in_lem (k - 3), get_or-drop 3 ns (k - 3) 0, ap (λ (n : ℕ). get_or ns n 0) (let e : 3 + (k - 3) ≡ k = omega arith in e), h)
