use mathlib.Core.List.{[]}
use native.Mathlib.Omega.{arith}
use lib.ListN.{replicate}
use Rattle.build_entries.proofs.NumberLaws.{zeros_low, low_set}
use Rattle.build_entries.proofs.StoreLaws.{stored_blank, ready_blank, goal_low}
use Rattle.build_entries.proofs.ListLaws.{listing_start, listing_more, listed}
use Rattle.build_entries.proofs.list_entries.Goals as goal

pub add_string-n-requires-clause-entry_room : goal.add_string-n-requires-clause-entry_room
add_string-n-requires-clause-entry_room c = ready_blank c.requires.blank

pub add_string-n-requires-clause-by_index : goal.add_string-n-requires-clause-by_index
add_string-n-requires-clause-by_index c = low_set (replicate 67 0) 1 c.args.goal (omega arith) (zeros_low 67) (goal_low c.requires.blank)

pub loop-i-init : goal.loop-i-init
loop-i-init c = let e = c.add_string-n.ensures in record {
  ready = e.grown.ready;
  few = omega (arith, e.grown.more);
  listing = λ g b. listing_start b.goal_is (e.stored g [] _ (stored_blank b));
}

pub loop-i-preserved : goal.loop-i-preserved
loop-i-preserved c =
    let a = c.add_groups-n.ensures in record {
      ready = a.entry_room_2.0;
      few = a.entry_room_2.1;
      listing = λ g b. listing_more (c.loop-i.invariant.listing g b) c.if-n-gt127.false (omega arith) (omega arith) (omega arith) (λ l r. a.reached g l _ r);
    }

pub returns-then-n-gt127-clause-listed : goal.returns-then-n-gt127-clause-listed
returns-then-n-gt127-clause-listed c = λ g b. listed (c.loop-i.invariant.listing g b) c.loop-i.invariant.few (λ f. absurd (omega (arith, f, c.if-n-gt127.true)))

pub returns-after-loop-i-clause-listed : goal.returns-after-loop-i-clause-listed
returns-after-loop-i-clause-listed c = λ g b. listed (c.loop-i.invariant.listing g b) c.loop-i.invariant.few (λ f. omega (arith, c.loop-i-test.false))
