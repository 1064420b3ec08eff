use mathlib.Core.Path.{sym, ◌∙◌}
use borrow.Author.Rules.{rules}
use native.Mathlib.Omega.{arith}
use Rattle.scan_lines.proofs.LineLaws.{line_in}
use Rattle.scans.proofs.ReadLaws.{going_start, all_read, line_broken, line_refused, line_read}
use Rattle.scans.proofs.read_lines.Goals as goal

pub loop-at-init : goal.loop-at-init
loop-at-init c = going_start _ _ _

pub returns-in_default : goal.returns-in_default
returns-in_default c =
    line_broken c.loop-at.invariant c.loop-at-test.true
    (sym c.read_line.ensures ∙ c.in_default.is) c.refuse.ensures

pub judge_line-requires : goal.judge_line-requires
judge_line-requires c =
    record { within_file = c.loop-at.invariant.within; within = (line_in _ _ (sym c.read_line.ensures ∙ c.in-Line.is)).1 }

pub returns-in-Refused : goal.returns-in-Refused
returns-in-Refused c =
    line_refused c.loop-at.invariant c.loop-at-test.true
    (sym c.read_line.ensures ∙ c.in-Line.is)
    (sym c.judge_line.ensures ∙ c.in-Refused.is) c.refuse-in-Refused.ensures

pub overflow_add-at : goal.overflow_add-at
overflow_add-at c =
    let w = line_in _ _ (sym c.read_line.ensures ∙ c.in-Line.is) in
    search (rules, w.1.inside)

pub loop-at-smaller : goal.loop-at-smaller
loop-at-smaller c =
    let w = line_in _ _ (sym c.read_line.ensures ∙ c.in-Line.is) in
    omega (arith, w.0, w.1.some_text, w.1.inside)

pub loop-at-preserved : goal.loop-at-preserved
loop-at-preserved c =
    line_read c.loop-at.invariant c.loop-at-test.true
    (sym c.read_line.ensures ∙ c.in-Line.is)
    (sym c.judge_line.ensures ∙ c.in-Token.is) c.store.ensures

pub returns : goal.returns
returns c = all_read c.loop-at.invariant c.loop-at-test.false
