use mathlib.Core.Path.{refl}
use native.Mathlib.Omega.{arith}
use borrow.Author.Count.{below_more, below_none}
use Rattle.fixpoint.specs.Flags.{On}
use Rattle.fixpoint.proofs.CountLaws.{zeros_le}
use Rattle.fixpoint.proofs.PassLaws.{pass_start, pass_call, set_on, on_at, off_at}
use Rattle.analysis.proofs.RowLaws.{row_seed, row_fired, includes_at, met_at}
use Rattle.analysis.proofs.merge_symbols.Goals as goal

pub loop-k-init : goal.loop-k-init
loop-k-init c = (
  below_none _,
  pass_start _ c.requires.nullable_len.1 (row_seed c.args.m.now c.args.rules (On c.args.nullable.now)) (λ _. below_none _),
)

pub overflow_add-added : goal.overflow_add-added
overflow_add-added c =
    omega (
      arith,
      c.merge_row-added.ensures.count,
      c.loop-k.invariant.1.count,
      zeros_le c.args.first.now,
      c.requires.nullable_len.1,
    )

pub returns-then-nullable-x-eq0 : goal.returns-then-nullable-x-eq0
returns-then-nullable-x-eq0 c =
    let a = c.args in
    let s = c.symbol_of-x.ensures.0 in
    let l = c.left_of-left.ensures.0 in
    let i = c.loop-k.invariant in
    pass_call _ _ _ refl refl i.1 c.merge_row-added.ensures
    (row_fired a.m.now a.rules (On a.nullable.now) i.1.only a.i c.loop-k.k c.requires.le_i (omega arith) i.0 s l)
    (λ d inc. met_at a.m.now a.nullable.now _ a.i c.loop-k.k d (includes_at s l inc) (off_at a.nullable.now s c.if-nullable-x-eq0.true))

pub loop-k-preserved : goal.loop-k-preserved
loop-k-preserved c =
    let a = c.args in
    let s = c.symbol_of-x.ensures.0 in
    let l = c.left_of-left.ensures.0 in
    let i = c.loop-k.invariant in (
      below_more _ _ i.0 (on_at s (set_on c.if-nullable-x-eq0.false)),
      pass_call _ _ _ refl refl i.1 c.merge_row-added.ensures (row_fired a.m.now a.rules
          (On a.nullable.now) i.1.only a.i c.loop-k.k c.requires.le_i (omega arith) i.0 s l)
          (λ d inc. below_more _ c.loop-k.k d (includes_at s l inc)),
    )
