use mathlib.Core.Path.{sym, ◌∙◌}
use Rattle.stray_tokens.proofs.StrayLaws.{spanned}
use Rattle.stray_tokens.proofs.find_stray.Goals as goal

pub returns-then-is_terminal-2 : goal.returns-then-is_terminal-2
returns-then-is_terminal-2 c = let all = c.span_of-all in
    sym (spanned c.args.terminals 0 all.result.least all.result.most c.args.tokens.now
    (sym c.is_terminal.ensures ∙ c.if-is_terminal.true) (sym c.is_terminal-then-is_terminal.ensures ∙ c.if-is_terminal-2.true)
    all.ensures)
