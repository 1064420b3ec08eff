use Rattle.std.proofs.Common.{◌≡◌, ℕ, suc, ◌+◌, List, length, set, sym, ap, ◌∙◌, arith}
use lib.Seq.{sets}
use Rattle.generate_heights.proofs.RowLaws.{rest, rest_start, rest_skip, rest_take, rest_none}
use Rattle.generate_choices.proofs.list_rules.Goals as goal
use Rattle.generate_choices.proofs.list_rules.Goals.{then-left_of-x, else-left_of-x}

behind : (n : ℕ) → 512 + (n + 1) ≡ suc (512 + n)
behind n = omega arith

pub loop-i-init : goal.loop-i-init
loop-i-init c =
    let all = rest_start c.args.items.now c.args.x c.args.rules in
    (ap (λ (l : List ℕ). c.args.at + length l) (sym all), ap (sets c.args.choices.now (512 + c.args.at)) (sym all))

pub bounds-choices-next : goal.bounds-choices-next
bounds-choices-next c =
    let take = rest_take c.args.items.now c.args.x c.args.rules c.loop-i.i (omega arith) (sym c.left_of.ensures.0 ∙ c.if-left_of-x.true) in
    omega (arith, ap length take, c.loop-i.invariant.0, c.requires.in_bounds)

pub loop-i-preserved : goal.loop-i-preserved
loop-i-preserved c =
    let items = c.args.items.now in
    let i = c.loop-i.i in
    elim c.if-left_of-x.branch [
      | then-left_of-x w ↦
          let take = rest_take items c.args.x c.args.rules i (omega arith) (sym c.left_of.ensures.0 ∙ w.if-left_of-x.true) in (
            omega (arith, ap length take, c.loop-i.invariant.0, w.next-is),
            rw (w.choices-is, w.next-is)
                (ap (λ (k : ℕ). sets (set c.loop-i.choices (512 + c.loop-i.next) i) k (rest items c.args.x c.args.rules (i + 1))) (behind c.loop-i.next)
                ∙ (ap (sets c.loop-i.choices (512 + c.loop-i.next)) (sym take) ∙ c.loop-i.invariant.1)),
          )
      | else-left_of-x w ↦
          let skip = rest_skip items c.args.x c.args.rules i (omega arith) (λ e. w.if-left_of-x.false (c.left_of.ensures.0 ∙ e)) in (
            omega (arith, ap length skip, c.loop-i.invariant.0, w.next-is),
            rw (w.choices-is, w.next-is) (ap (sets c.loop-i.choices (512 + c.loop-i.next)) (sym skip) ∙ c.loop-i.invariant.1),
          )
    ]

pub returns : goal.returns
returns c =
    let none = rest_none c.args.items.now c.args.x c.args.rules c.loop-i.i (omega arith) in
    record { value = omega (arith, ap length none, c.loop-i.invariant.0); choices_after = ap (sets c.loop-i.choices (512 + c.loop-i.next)) (sym none) ∙ c.loop-i.invariant.1 }
