use Rattle.items.specs.Layout.{entry_row}
use Rattle.items.proofs.BuildLaws.{build_start}
use Rattle.table_entries.proofs.StringLaws.{after_first}
use Rattle.table_entries.proofs.RowLaws.{stored_more, stored_end}
use Rattle.std.proofs.lemmas.List.{get_or-take, get_or-drop}
use mathlib.Core.List.{List}
use mathlib.Core.Path.{sym, ap, ◌∙◌}
use Prim.Native.Nat.{ℕ, ◌+◌, ◌-◌, ◌<◌}
use native.Mathlib.Omega.{arith}
use lib.Seq.{sets}
use lib.ListN.{length, take, drop, set, length-take}
use Rattle.table_entries.proofs.store_row.Goals as goal

pub loop-k-init : goal.loop-k-init
loop-k-init c = sym (build_start _ _ c.requires.by_index_2)

pub put-requires : goal.put-requires
put-requires c =
    let k = c.loop-k.k in
    let n = c.args.numbers.now in
    let rest = c.args.count - 1 in
    let low : k < rest = omega (arith, length-take rest (drop 1 n)) in
    omega (arith, get_or-take rest (drop 1 n) k 0 low ∙ get_or-drop 1 n k 0, c.requires.by_index (1 + k) (omega arith))

pub loop-k-preserved : goal.loop-k-preserved
loop-k-preserved c =
    let a = c.args in
    let rest = a.count - 1 in
    c.put.ensures ∙ stored_more a.items.now a.base (take rest (drop 1 a.numbers.now)) c.loop-k.k c.loop-k-test.true (omega (arith, length-take rest (drop 1 a.numbers.now))) c.loop-k.invariant

pub returns : goal.returns
returns c =
    let a = c.args in
    let σ = take (a.count - 1) (drop 1 a.numbers.now) in
    c.put-5.ensures
    ∙ (ap (λ (m : List ℕ). set m (a.base + 3) 0) c.put-4.ensures
    ∙ (ap (λ (m : List ℕ). set (set m (a.base + 2) 255) (a.base + 3) 0) c.put-3.ensures
    ∙ (ap (λ (m : List ℕ). set (set (set m (a.base + 1) (length σ)) (a.base + 2) 255) (a.base + 3) 0) c.put-2.ensures
    ∙ (stored_end a.items.now a.base σ c.loop-k.k c.loop-k-test.false c.loop-k.invariant
    ∙ ap (λ (α : List ℕ). sets a.items.now a.base (entry_row α)) (after_first a.numbers.now a.count)))))
