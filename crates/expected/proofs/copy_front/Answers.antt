use mathlib.Core.Path.{◌∙◌}
use native.Mathlib.Omega.{arith}
use borrow.Author.Rules.{rules}
use Rattle.expected.proofs.ListLaws.{copied_more}
use Rattle.expected.proofs.copy_front.Goals as goal

pub loop-i-preserved : goal.loop-i-preserved
loop-i-preserved c =
    let k = c.args in
    let pre = c.requires in
    (search rules, copied_more k.tokens.now c.loop-i.out c.loop-i.i (omega (arith, pre.0)) (omega (arith, pre.1, c.loop-i.invariant.0)) c.loop-i.invariant.1)
