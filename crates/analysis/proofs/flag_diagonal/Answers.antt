use Prim.Native.Nat.{ℕ, ◌+◌, ◌%◌, ◌≤◌, ◌<◌}
use mathlib.Core.Path.{refl, sym, ap, subst, ◌∙◌}
use mathlib.Core.List.{List}
use native.Mathlib.Omega.{arith}
use lib.ListN.{length, length-set, length-replicate}
use Rattle.fixpoint.specs.Flags.{On}
use Rattle.fixpoint.specs.Rows.{cell, Row, row_cell, to_row}
use Rattle.fixpoint.proofs.CountLaws.{on_set, only_set, keep_set}
use Rattle.fixpoint.proofs.PassLaws.{all_off, no_gap, from_more}
use Rattle.analysis.specs.InMemory.{Diagonal}
use Rattle.analysis.proofs.flag_diagonal.Goals as goal

diagonal : (fs : List ℕ) (t y : ℕ) → ((j : ℕ) → 1 ≤ j → j < t + 1 → On fs (cell j j)) → Row (Diagonal t) y → On fs y
diagonal fs t y f h = subst (On fs) (ap (λ (x : ℕ). cell x (y % 64)) (sym h.0) ∙ row_cell y) (f (y % 64) h.1 (omega (arith, h.2)))

pub loop-c-init : goal.loop-c-init
loop-c-init c =
    (ap length c.requires.first_value ∙ length-replicate {A = ℕ} 8192 0, λ y on. all_off 8192 c.requires.first_value on, λ k l m. absurd (no_gap l m))

pub loop-c-preserved : goal.loop-c-preserved
loop-c-preserved c =
    let fs = c.loop-c.first in
    let x = c.loop-c.c in
    let t = c.args.t in
    let i = c.loop-c.invariant in
    let l : cell x x < length fs = omega arith in (
      simp length-set i.0,
      only_set (Row (Diagonal t)) fs (cell x x) i.1 (to_row (Diagonal t) x x (omega arith) (refl, omega arith, omega arith)),
      from_more (λ j. On _ (cell j j)) 1 x (λ k a b. keep_set fs (cell x x) l (cell k k) (i.2 k a b)) (on_set fs (cell x x) l),
    )

pub returns : goal.returns
returns c = let i = c.loop-c.invariant in
    record { only = i.1; every = λ y h. diagonal c.loop-c.first c.args.t y (λ j a b. i.2 j a (omega arith)) h }
