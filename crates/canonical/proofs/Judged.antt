-- What the judgement of a line that is taken tells of its letter and of its numbers' limit, whatever else is asked of it.
use Prim.Native.Nat.{ℕ}
use mathlib.Core.Path.{◌≡◌, refl, sym, ap, ◌∙◌}
use mathlib.Core.List.{List}
use mathlib.Core.Bool.{Bool, true, false, cond}
use borrow.Author.Tests.{eqb-true}
use lib.Dec.{eqb}
use Rattle.language.specs.Grammar.{Rule}
use Rattle.reply.specs.declared.Kind.{Kind}
use Rattle.leftcorner.specs.Table.{EntryLine, KernelLine, ActionLine}
use Rattle.table_lines.specs.declared.Judgement.{Judgement}
use Rattle.table_lines.specs.declared.Judgement.TheVariants.{Fine, Faulty}
use Rattle.table_lines.specs.Line.{whole, line_at, all_at_most}
use Rattle.table_lines.specs.Block.{takes}
use Rattle.table_entries.specs.Entries.{judge_entry}
use Rattle.table_kernels.specs.Kernels.{no_kernel, kernel_next}
use Rattle.table_actions.specs.Actions.{is_action, judge_action}
use Rattle.table_facts.proofs.Kernels.{none_taken}

-- ---- a test without which no line is fine
is_fine : Judgement → Bool
is_fine Fine = true
is_fine (Faulty k) = false

fine_cond : (b : Bool) (x y : Judgement) → is_fine (cond b x y) ≡ cond b (is_fine x) (is_fine y)
fine_cond true x y = refl
fine_cond false x y = refl

fine_faulty : (k : Kind) → is_fine (Faulty k) ≡ false
unfolding is_fine
fine_faulty k = refl

cond_same : (b : Bool) → cond b false false ≡ false
cond_same true = refl
cond_same false = refl

needed : (b : Bool) {j : Judgement} → j ≡ Fine → (b ≡ false → is_fine j ≡ false) → b ≡ true
unfolding is_fine
needed true e h = refl
needed false e h = sym (h refl) ∙ ap is_fine e

-- ---- entry lines
module _ (t n : ℕ) (rs : List Rule) (states : ℕ) (l : List EntryLine) (letter : ℕ) (ns : List ℕ) (e : judge_entry t n rs states l letter ns ≡ Fine) where
  pub entry_letter : letter ≡ 69
  unfolding judge_entry
  entry_letter = eqb-true letter 69 (needed (eqb letter 69) e (λ p. simp (p, fine_faulty)))

  pub entry_small : all_at_most 65535 ns ≡ true
  unfolding judge_entry
  entry_small = needed (all_at_most 65535 ns) e (λ p. simp (p, fine_cond, fine_faulty, cond_same))

-- ---- kernel lines
module _ (t states items : ℕ) (lens : ℕ → ℕ) (l : List KernelLine) where
  pub kernel_letter : (s : List ℕ) (at : ℕ) {letter : ℕ} {ns : List ℕ} {next past : ℕ} {x : KernelLine}
      → line_at s at ≡ whole letter ns next → kernel_next s t states items lens at l ≡ takes x past → letter ≡ 75
  unfolding kernel_next
  kernel_letter s at {letter} e q = go (eqb letter 75) refl
    where
      go : (b : Bool) → eqb letter 75 ≡ b → letter ≡ 75
      go true p = eqb-true letter 75 p
      go false p = let none : kernel_next s t states items lens at l ≡ no_kernel at l = simp (e, p) in none_taken at l (sym none ∙ q)

-- ---- action lines
pub action_letter : (t n rules states : ℕ) (l : List ActionLine) (letter : ℕ) (ns : List ℕ) → judge_action t n rules states l letter ns ≡ Fine → is_action letter ≡ true
unfolding judge_action
action_letter t n rules states l letter ns e = needed (is_action letter) e (λ p. simp (p, fine_faulty))
