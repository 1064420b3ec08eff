-- At depth 0 the shortest rule; else the rule drawn, which is in the list.
use Rattle.std.proofs.Common.{refl, rules}
use Rattle.generate_choices.proofs.ChoiceLaws.{some_choice, drawn_in, choice_none, choice_some}
use Rattle.generate_choices.proofs.choose.Goals as goal

pub returns-then-depth-eq0 : goal.returns-then-depth-eq0
returns-then-depth-eq0 c = λ g h n. choice_none g c.args.choices.now h c.args.x n c.args.depth c.args.state c.if-depth-eq0.true

pub draw-drawn-requires : goal.draw-drawn-requires
draw-drawn-requires c = (some_choice c.requires.0 c.args.choices.now c.requires.1 c.args.x c.requires.2, search rules)

pub bounds-choices-start : goal.bounds-choices-start
bounds-choices-start c = drawn_in c.requires.0 c.args.choices.now c.requires.1 c.args.x c.requires.2 refl refl c.draw-drawn.ensures.1

pub returns : goal.returns
returns c =
    λ g h n.
    choice_some g c.args.choices.now h c.args.x n c.args.depth c.args.state c.if-depth-eq0.false c.next_state-next.ensures refl refl c.draw-drawn.ensures.0 refl
