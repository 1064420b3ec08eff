use mathlib.Core.Path.{refl}
use native.Mathlib.Omega.{arith}
use lib.ListN.{length-set}
use Rattle.check_entries.proofs.FaultLaws.{range_group, range_none}
use Rattle.check_entries.proofs.FillLaws.{filling_start, filling_more, filling_fails, filling_ends}
use Rattle.check_entries.proofs.fill_rule.Goals as goal

pub loop-from-init : goal.loop-from-init
loop-from-init c = (
  omega arith,
  c.requires.uses_len.0,
  c.requires.uses_len.1,
  c.length_of-length.ensures.0,
  λ g t r S e z. filling_start g t S _ r e c.mark_of-from.ensures.0 z,
)

pub returns-then-e-eq0 : goal.returns-then-e-eq0
returns-then-e-eq0 c =
    let o = c.loop-from in
    let h = c.group_end-to.ensures in record {
      uses_len_2 = (
        o.invariant.1,
        o.invariant.2,
        range_group c.requires.le_i.0 c.requires.le_i.1 h.past (omega (arith, h.within, c.length_of-length.ensures)),
      );
      filled_rule = λ g t r S e z.
          filling_fails g t S _ r e (o.invariant.4 g t r S e z)
          (omega (arith, c.loop-from-test.true, o.invariant.3)) h c.entry_of-e.ensures
          c.if-e-eq0.true;
    }

pub loop-from-preserved : goal.loop-from-preserved
loop-from-preserved c =
    let o = c.loop-from in
    let l = c.loop-from-test.true in
    let q = c.length_of-length.ensures.1 in
    let x = c.entry_of-e.ensures in (
      omega (arith, c.group_end-to.ensures.past),
      simp length-set o.invariant.1,
      simp length-set o.invariant.2,
      o.invariant.3,
      λ g t r S e z.
          filling_more g t S _ r e (o.invariant.4 g t r S e z) (omega (arith, l, o.invariant.3))
          c.group_end-to.ensures x c.if-e-eq0.false (omega (arith, o.invariant.0, l, q))
          (omega (arith, c.requires.le_i)) o.invariant.1 o.invariant.2 (omega (arith, x.low, c.requires.le_i)) refl refl,
    )

pub returns : goal.returns
returns c = let o = c.loop-from in
    record { uses_len_2 = (o.invariant.1, o.invariant.2, range_none); filled_rule = λ g t r S e z. filling_ends g t S _ r e (o.invariant.4 g t r S e z) (omega (arith, c.loop-from-test.false, o.invariant.3)) }
