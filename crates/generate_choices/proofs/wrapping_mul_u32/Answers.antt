-- The product of two numbers of 32 bits has 64.
use Rattle.std.proofs.Common.{rules}
use Rattle.generate_choices.proofs.ProductLaws.{below}
use Rattle.generate_choices.proofs.wrapping_mul_u32.Goals as goal

pub overflow_mul-result : goal.overflow_mul-result
overflow_mul-result c = record { fits = below 32 (search rules) (search rules) }
