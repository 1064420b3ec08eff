-- The first line out of order is torn (specs/Promise.antt), proved: its order is tested with its form.
use Prim.Native.Nat.{ℕ}
use mathlib.Core.Path.{◌≡◌, refl}
use mathlib.Core.List.{List}
use mathlib.Core.Bool.{Bool, true, false, ◌&&◌}
use borrow.Author.Tests.{lt-leb, eq-eqb}
use native.Mathlib.Omega.{arith}
use lib.ListN.{length}
use Rattle.table_lines.specs.Line.{whole, line_at}
use Rattle.table_entries.specs.Entries.{judge_entry, entry_next}
use Rattle.table_kernels.specs.Kernels.{judge_kernel, kernel_next}
use Rattle.table_actions.specs.Actions.{judge_action, action_next}
use Rattle.table_facts.proofs.Lines.{line_ends}
use Rattle.canonical.specs.Promise.{Torn}

and_none : (b : Bool) → b && false ≡ false
and_none true = refl
and_none false = refl

pub torn : (s : List ℕ) (at letter past : ℕ) (ns : List ℕ) → line_at s at ≡ whole letter ns past → Torn s at letter ns
unfolding kernel_next judge_kernel action_next judge_action entry_next judge_entry
torn s at letter past ns e = record {
  kernel = λ k t states items lens l f. simp (e, eq-eqb letter 75 k, f, and_none);
  action = λ t n rules states l f. let r = line_ends s at e in simp (lt-leb (length s) at (omega (arith, r.0, r.1)), e, f, and_none);
  entry = λ t n rs states l f. simp (e, f, and_none);
}
