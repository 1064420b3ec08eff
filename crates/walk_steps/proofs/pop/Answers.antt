use mathlib.Core.Path.{refl}
use Prim.Native.Nat.{suc, ◌+◌}
use lib.ListN.{length-drop}
use native.Mathlib.Omega.{arith}
use Rattle.walk_stack.proofs.StackLaws.{tops-length}
use Rattle.walk_stack.specs.Stack.{tops}
use Rattle.walk_steps.proofs.MoveLaws.{move_pop}
use Rattle.walk_steps.proofs.TurnLaws.{pop_whole, pop_wrong, ends_wrong, ends_whole}
use Rattle.walk_steps.proofs.pop.Goals as goal

pub returns-then-p-gt2 : goal.returns-then-p-gt2
returns-then-p-gt2 c = let a = c.args in
    λ g m n k tokens listing s.
    move_pop g m n k tokens a.stack.now listing a.p a.symbols 2 s (omega (arith, c.if-symbols-eq1.true)) c.if-p-gt2.true c.lowered.ensures

pub returns-then-pops-p : goal.returns-then-pops-p
returns-then-pops-p c = let a = c.args in
    λ g m n k tokens listing s.
    move_pop g m n k tokens a.stack.now listing a.p a.symbols (a.symbols + 1) s refl c.if-pops-p.true c.lowered-then-pops-p.ensures

pub returns-then-p-ne-END : goal.returns-then-p-ne-END
returns-then-p-ne-END c = let a = c.args in
    λ g m n k tokens listing s.
    ends_wrong g m n k tokens a.stack.now listing a.p
    (pop_wrong _ a.p.code (omega (arith, length-drop (suc a.symbols) (tops a.stack.now a.p.height), tops-length a.stack.now a.p.height, c.if-pops-p.false))
    c.if-p-ne-END.true)

pub returns : goal.returns
returns c = let a = c.args in
    λ g m n k tokens listing s. (
      ends_whole g m n k tokens a.stack.now listing a.p
          (pop_whole _ a.p.code (omega (arith, length-drop (suc a.symbols) (tops a.stack.now a.p.height), tops-length a.stack.now a.p.height, c.if-pops-p.false))
          c.if-p-ne-END.false),
      refl,
    )
