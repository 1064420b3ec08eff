use Prim.Native.Nat.{ℕ, ◌+◌, ◌-◌, ◌<◌}
use mathlib.Core.Path.{◌≡◌, sym, ap, ◌∙◌}
use native.Mathlib.Omega.{arith}
use lib.ListN.{take, drop, length-take}
use Rattle.std.proofs.lemmas.List.{drop-take, get_or-take, get_or-drop}
use Rattle.table_kernels.specs.Memory.{flagged}
use Rattle.table_kernels.proofs.MemoryLaws.{flags_end}
use Rattle.table_kernels.proofs.store_codes.Goals as goal

pub overflow_add-base : goal.overflow_add-base
overflow_add-base c =
    let k = c.loop-code.code-index in
    let n = c.args.numbers.now in
    let rest = c.args.count - 3 in
    let low : k < rest = omega (arith, length-take rest (drop 3 n)) in
    record { fits = omega (arith, get_or-take rest (drop 3 n) k 0 low ∙ get_or-drop 3 n k 0, c.requires.by_index (3 + k) (omega arith) (omega arith)) }

pub returns : goal.returns
returns c =
    let n = c.args.numbers.now in
    let rest = c.args.count - 3 in
    let all : drop 3 (take c.args.count n) ≡ take rest (drop 3 n) = ap (λ (m : ℕ). drop 3 (take m n)) (let e : c.args.count ≡ 3 + rest = omega arith in e) ∙ drop-take 3 rest n in
    sym (ap (flagged c.args.lookaheads.now c.args.base) all ∙ c.loop-code.invariant ∙ flags_end c.loop-code.lookaheads c.args.base (take rest (drop 3 n)) _ c.loop-code-test.false)
