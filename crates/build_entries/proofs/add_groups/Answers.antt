use Prim.Native.Nat.{◌+◌, ◌*◌}
use mathlib.Core.Path.{sym, ◌∙◌}
use native.Mathlib.Omega.{arith}
use Rattle.build_entries.proofs.GroupLaws.{joining_start, joining_more, joining_ends, joining_stops}
use Rattle.build_entries.proofs.add_groups.Goals as goal

pub loop-from-init : goal.loop-from-init
loop-from-init c = record {
  ready = c.requires.entry_room;
  few = omega (arith, c.requires.strings_bound);
  end = c.length_of-length.ensures.0;
  joining = λ g l size r h e. joining_start c.args.i e h (omega (arith, c.requires.strings_bound)) c.mark_of-from.ensures.0;
}

pub loop-from-preserved : goal.loop-from-preserved
loop-from-preserved c =
    let o = c.loop-from.invariant in
    let a = c.add_part-n.ensures in record {
      ready = a.grown.ready;
      few = omega (arith, a.grown.more);
      end = o.end ∙ sym (a.grown.rows (c.args.i * 64 + 1) (omega (arith, c.requires.strings_bound)));
      joining = λ g l size r h e.
          joining_more c.args.i e (o.joining g l size r h e) o.few (omega (arith, o.end)) c.group_end-to.ensures
          (λ k γ. a.stored g k size γ);
    }

pub returns-else-n-le127-clause-reached : goal.returns-else-n-le127-clause-reached
returns-else-n-le127-clause-reached c = λ g l size r h e. joining_stops c.args.i e (c.loop-from.invariant.joining g l size r h e) c.loop-from.invariant.few c.if-n-le127.false

pub returns-after-loop-from-clause-reached : goal.returns-after-loop-from-clause-reached
returns-after-loop-from-clause-reached c =
    let o = c.loop-from.invariant in
    λ g l size r h e. joining_ends c.args.i e (o.joining g l size r h e) o.few (omega (arith, o.end, c.loop-from-test.false))
