-- The answer goes by what the rows say of right sides.
use Prim.Native.Nat.{ℕ, ◌-◌, ◌*◌}
use mathlib.Core.Path.{sym, ap, ◌∙◌}
use Rattle.grammar.proofs.ReducedLaws.{ready_shaped, ready_holds, few_rules, ready_ranges, nonterminals_is}
use Rattle.listing_bound.specs.declared.ListingBound.TheVariants.{Rules}
use Rattle.listing_bound.proofs.BoundLaws.{of_empty, of_filled}
use Rattle.listing_bound.proofs.bound_rules.Goals as goal

pub has_empty-requires : goal.has_empty-requires
has_empty-requires c = let H = c.requires.0.ready in (ready_shaped H, few_rules H)

pub returns-then-has_empty : goal.returns-then-has_empty
returns-then-has_empty c =
    λ g h. sym (of_empty g c.args.scans (sym (c.has_empty.ensures g (ready_holds h)) ∙ c.if-has_empty.true))

pub most_rules-requires : goal.most_rules-requires
most_rules-requires c = ((ready_ranges c.requires.0.ready).0.1, c.requires.1)

pub returns-else-has_empty : goal.returns-else-has_empty
returns-else-has_empty c =
    let k = c.args.scans in
    λ g h.
    ap Rules (c.most_rules.ensures ∙ ap (λ (n : ℕ). n * (2 * k - 1)) (sym (nonterminals_is h)))
    ∙ sym (of_filled g k (sym (c.has_empty.ensures g (ready_holds h)) ∙ c.if-has_empty.false))
