use mathlib.Core.Path.{ap, ◌∙◌}
use mathlib.Core.List.{List}
use Prim.Native.Nat.{ℕ}
use native.Mathlib.Omega.{arith}
use lib.ListN.{get_or, set}
use Rattle.letters.proofs.CopyLaws.{copy_more}
use Rattle.letters.proofs.copy_codes.Goals as goal

pub loop-i-preserved : goal.loop-i-preserved
loop-i-preserved c =
    let codes = c.args.codes.now in
    let i = c.loop-i.i in
    ap (λ (l : List ℕ). set l i (get_or codes i 0)) c.loop-i.invariant ∙ copy_more c.args.out.now codes i (omega arith)
