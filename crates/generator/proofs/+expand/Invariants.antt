-- The proof of the cycle of calls {expand}. The measure is the depth, then the height: where depth is left a child has less of it, and where
-- none is left the chosen rule's symbols are lower. The loop has written the subtrees of the first k symbols, and the rule where its mark is below k.
use Prim.Native.Nat.{◌+◌, ◌*◌, ◌≤◌}
use lib.ListN.{length}
use Rattle.language.specs.Grammar.{Grammar, IsNonterminal}
use Rattle.items.specs.Layout.{Holds}
use Rattle.generate_loads.specs.Load.{right_of, grown}
use Rattle.generate_choices.specs.Choices.{HoldsChoices, height_at}
use Rattle.generator.proofs.NodeLaws.{Sofar}
use Rattle.generator.proofs.+expand.Given as goal

abbrev pub decreases-expand : goal.decreases-expand
decreases-expand l = l.depth * 256 + height_at l.choices.now l.x

abbrev pub invariant-loop-k : goal.invariant-loop-k
invariant-loop-k l =
    (l.at.tokens ≤ length l.tokens) × (l.at.rules ≤ length l.listing)
    × ((g : Grammar) → Holds l.items l.rules g → HoldsChoices g l.choices → IsNonterminal g l.x
    → Sofar g (grown g l.below) (right_of g l.i) l.i l.mark l.k l.k l.initial.at l.initial.tokens l.initial.listing l.tokens l.listing l.at)
