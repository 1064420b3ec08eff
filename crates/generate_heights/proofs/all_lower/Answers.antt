use Prim.Native.Nat.{◌+◌, ◌≤◌, ◌<◌}
use mathlib.Core.Path.{sym, ap, ◌∙◌}
use native.Mathlib.Omega.{arith}
use lib.ListN.{get_or}
use Rattle.language.specs.Tests.{all}
use Rattle.items.specs.Layout.{length_at, symbol_at}
use Rattle.generate_heights.specs.Heights.{is_lower, lower_in}
use Rattle.generate_heights.proofs.SymbolLaws.{symbols_left, left_start, left_more, left_none, not_lower, one_lower}
use Rattle.generate_heights.proofs.all_lower.Goals as goal

pub loop-k-init : goal.loop-k-init
loop-k-init c = let a = c.args in ap (all (is_lower a.heights.now a.high)) (left_start a.items.now a.i (length_at a.items.now a.i))

pub returns-then-high-heights : goal.returns-then-high-heights
unfolding lower_in
returns-then-high-heights c =
    let a = c.args in
    let n = length_at a.items.now a.i in
    let p = is_lower a.heights.now a.high in
    let le : a.high ≤ get_or a.heights.now (symbol_at a.items.now a.i c.loop-k.k) 0 = omega (arith, rw c.symbol_of-x.ensures.0 at c.if-high-heights.true) in
    sym (c.loop-k.invariant
    ∙ (ap (all p) (left_more a.items.now a.i n c.loop-k.k (omega (arith, c.length_of-k-end.ensures.0)))
    ∙ not_lower a.heights.now a.high _ (symbols_left a.items.now a.i n (c.loop-k.k + 1)) le))

pub loop-k-preserved : goal.loop-k-preserved
loop-k-preserved c =
    let a = c.args in
    let n = length_at a.items.now a.i in
    let p = is_lower a.heights.now a.high in
    let lt : get_or a.heights.now (symbol_at a.items.now a.i c.loop-k.k) 0 < a.high = rw c.symbol_of-x.ensures.0 at c.if-high-heights.false in
    c.loop-k.invariant
    ∙ (ap (all p) (left_more a.items.now a.i n c.loop-k.k (omega (arith, c.length_of-k-end.ensures.0)))
    ∙ one_lower a.heights.now a.high _ (symbols_left a.items.now a.i n (c.loop-k.k + 1)) lt)

pub returns : goal.returns
unfolding lower_in
returns c =
    let a = c.args in
    let p = is_lower a.heights.now a.high in
    sym (c.loop-k.invariant ∙ ap (all p) (left_none a.items.now a.i (length_at a.items.now a.i) c.loop-k.k (omega (arith, c.length_of-k-end.ensures.0))))
