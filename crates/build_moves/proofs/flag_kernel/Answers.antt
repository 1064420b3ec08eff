use mathlib.Core.Path.{refl}
use native.Mathlib.Omega.{arith}
use Rattle.language.proofs.GrammarLaws.{in_string}
use Rattle.analysis.proofs.AddLaws.{adds_one}
use Rattle.build_moves.proofs.NumberLaws.{numbers_more, stands_none, stands_one}
use Rattle.build_moves.proofs.flag_kernel.Goals as goal
use Rattle.build_moves.proofs.flag_kernel.Goals.{then-s-ge-FIRST_NONTERMINAL, else-s-ge-FIRST_NONTERMINAL}

pub bounds-held-x : goal.bounds-held-x
bounds-held-x c = omega (arith, c.requires.numbered _ (in_string c.args.kernel.now c.loop-x.x-index c.loop-x-test.true))

pub symbol_after-s-requires-clause-i_le_count : goal.symbol_after-s-requires-clause-i_le_count
symbol_after-s-requires-clause-i_le_count c = omega (arith, c.requires.numbered _ (in_string c.args.kernel.now c.loop-x.x-index c.loop-x-test.true))

pub loop-x-preserved : goal.loop-x-preserved
loop-x-preserved c =
    let k = c.args.kernel.now in
    let o = c.loop-x in
    let l = c.loop-x-test.true in
    let b = c.requires.numbered _ (in_string k o.x-index l) in (
      numbers_more _ k o.x-index l o.invariant.0 (elim c.if-s-ge-FIRST_NONTERMINAL.branch [
        | then-s-ge-FIRST_NONTERMINAL w ↦ stands_one _ _ c.symbol_after-s.ensures.0 w.if-s-ge-FIRST_NONTERMINAL.true w.present-is (omega arith)
        | else-s-ge-FIRST_NONTERMINAL w ↦ rw w.present-is (stands_none _ _ c.symbol_after-s.ensures.0 _ w.if-s-ge-FIRST_NONTERMINAL.false)
      ]),
      numbers_more _ k o.x-index l o.invariant.1 (adds_one _ refl (omega (arith, b))),
    )
