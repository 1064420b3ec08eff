use mathlib.Core.Path.{sym, ◌∙◌}
use Rattle.stray_tokens.proofs.StrayLaws.{stray_more, stray_here, stray_none}
use Rattle.stray_tokens.proofs.first_stray.Goals as goal

pub returns-then-not-is_terminal : goal.returns-then-not-is_terminal
returns-then-not-is_terminal c = let l = c.loop-i in
    sym (l.invariant ∙ stray_here c.args.terminals l.i c.args.tokens.now c.loop-i-test.true (sym c.is_terminal.ensures ∙ c.if-not-is_terminal.true))

pub loop-i-preserved : goal.loop-i-preserved
loop-i-preserved c = let l = c.loop-i in
    l.invariant ∙ stray_more c.args.terminals l.i c.args.tokens.now c.loop-i-test.true (sym c.is_terminal.ensures ∙ c.if-not-is_terminal.false)

pub returns : goal.returns
returns c = let l = c.loop-i in
    sym (l.invariant ∙ stray_none c.args.terminals l.i c.args.tokens.now c.loop-i-test.false)
