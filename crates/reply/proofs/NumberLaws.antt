-- The numbers of refusals.
use Prim.Native.Nat.{◌≤◌}
use native.Mathlib.Omega.{arith}
use Rattle.reply.specs.declared.Kind.{Kind}
use Rattle.reply.specs.declared.Kind.TheVariants as kind
use Rattle.reply.specs.Reply.{kind_number}

-- no refusal has number 0
pub refusal_number : (k : Kind) → 1 ≤ kind_number k
refusal_number kind.Malformed = omega arith
refusal_number kind.LimitExceeded = omega arith
refusal_number kind.Undeclared = omega arith
refusal_number kind.MisplacedMark = omega arith
refusal_number kind.Unproductive = omega arith
refusal_number kind.Unreachable = omega arith
refusal_number kind.ItemMismatch = omega arith
refusal_number kind.MissingLookahead = omega arith
refusal_number kind.Conflict = omega arith
refusal_number kind.CellMismatch = omega arith
refusal_number kind.BufferTooSmall = omega arith
refusal_number kind.SyntaxError = omega arith
refusal_number kind.ConflictingRepeat = omega arith
refusal_number kind.AmbiguousLetter = omega arith
