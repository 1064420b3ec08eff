-- The answer at the place of a session's reply 0 or 12, and at another reply.
use Prim.Native.Nat.{ℕ}
use native.Mathlib.Omega.{arith}
use mathlib.Core.Logic.{inl, inr}
use mathlib.Core.Path.{◌≡◌, ap, ◌∙◌}
use mathlib.Core.Bool.{Bool, cond}
use borrow.Author.Tests.{eq-eqb, ne_eqb}
use lib.Dec.{eqb}
use Rattle.std.specs.Prelude.{Ok, Err}
use Rattle.reply.specs.Reply.{kind_number}
use Rattle.reply.specs.declared.Refusal.{Refusal}
use Rattle.reply.proofs.NumberLaws.{refusal_number}
use Rattle.walker.specs.Walked.{Walked}
use Rattle.expected_trials.specs.Trials.{Expected, refused_by}
use Rattle.expected.specs.Expected.{EndsAt, on_reply}

module _ (room : ℕ) (list : ℕ → Expected) where
  by_number : (why : Refusal) {b : Bool} → eqb (kind_number why.kind) 12 ≡ b
      → on_reply room (Err why) list ≡ cond b (list why.place) (refused_by room why)
  by_number why e = ap (λ (b : Bool). cond b (list why.place) (refused_by room why)) e

  -- "whose reply is 0 or 12 at place p"
  pub on_ends : (r : Walked) (p : ℕ) → EndsAt r p → on_reply room r list ≡ list p
  on_ends (Ok tally) p (h, e) = ap list e
  on_ends (Err why) p (inl h, e) = absurd (omega (arith, refusal_number why.kind, h))
  on_ends (Err why) p (inr h, e) = by_number why (eq-eqb (kind_number why.kind) 12 h) ∙ ap list e

  -- "other replies are handed on"
  pub on_others : (why : Refusal) → (kind_number why.kind ≡ 12 → ⊥) → on_reply room (Err why) list ≡ refused_by room why
  on_others why h = by_number why (ne_eqb (kind_number why.kind) 12 h)
