-- The trials, with the tokens copied before them and the slices cleared after.
use mathlib.Core.Path.{ap, ◌∙◌}
use Prim.Native.Nat.{ℕ}
use lib.ListN.{length, replicate}
use Rattle.expected_trials.proofs.CodeLaws.{list_told}
use Rattle.expected.proofs.list_at.Goals as goal

pub returns : goal.returns
returns c =
    let k = c.args in
    record {
      told = list_told k.machine.now (length k.stack.now) (length k.listing.now) k.place
          (length k.codes.now) c.copy_front.ensures c.try_codes-answer.ensures;
      stack_is = c.clear_walks.ensures.0 ∙ ap (λ (i : ℕ). replicate i 0) c.try_codes-answer.auto.stack;
      listing_is = c.clear_walks.ensures.1 ∙ ap (λ (i : ℕ). replicate i 0) c.try_codes-answer.auto.listing;
    }
