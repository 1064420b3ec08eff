-- The wrapped product and 12345 wrap to what the product and 12345 do.
use Rattle.std.proofs.Common.{ℕ, ◌+◌, ◌*◌, ◌%◌, ap, ◌∙◌}
use Rattle.generate_loads.specs.Load.{stepped}
use Rattle.generate_choices.proofs.ProductLaws.{wrap_then_add}
use Rattle.generate_choices.proofs.next_state.Goals as goal

pub returns : goal.returns
unfolding stepped
returns c =
    c.wrapping_add_u32.ensures.value
    ∙ (ap (λ (n : ℕ). (n + 12345) % 4294967296) c.wrapping_mul_u32.ensures ∙ wrap_then_add (1103515245 * c.args.state) 12345)
