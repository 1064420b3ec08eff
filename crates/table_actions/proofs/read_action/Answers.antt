-- `table_actions::read_action` meets its contract. Assumes nothing.
use Rattle.table_actions.proofs.MemoryLaws.{action_more, pair_by}
use Rattle.table_actions.proofs.NextLaws.{action_end, action_broken, action_refused, action_kept, ActionFine, action_fine, fine_formed, key_small}
use Rattle.table_lines.proofs.HeldLaws.{Whole, whole_read, broken_read, held_at}
use Rattle.table_lines.specs.Block.{taken, stopped, turned}
use Rattle.table_lines.specs.Line.{line_at}
use mathlib.Core.Path.{sym, ◌∙◌}
use native.Mathlib.Omega.{arith}
use lib.ListN.{replicate}
use borrow.Author.Rules.{rules}
use Rattle.table_actions.proofs.read_action.Goals as goal
use Rattle.table_actions.proofs.read_action.Goals.{In-Whole, In_default-judgement}

-- the line that was read
line_read : (c : In-Whole) → let a = c.args in Whole (line_at a.s.now a.at) c.in-Whole.letter c.in-Whole.p c.in-Whole.next c.read_line.new.numbers
line_read c = whole_read _ (replicate 67 0) c.read_line.new.numbers (sym c.in-Whole.is ∙ c.read_line.ensures.value) c.read_line.ensures.stores (search rules)

-- `line_read` at a later place
line_read-at : (c : In_default-judgement) → let a = c.args in Whole (line_at a.s.now a.at) c.in-Whole.letter c.in-Whole.p c.in-Whole.next c.read_line.new.numbers
line_read-at c = whole_read _ (replicate 67 0) c.read_line.new.numbers (sym c.in-Whole.is ∙ c.read_line.ensures.value) c.read_line.ensures.stores (search rules)

-- it is fine after the lines that memory holds
fine-at : (c : In_default-judgement) → let a = c.args in
    ActionFine a.t a.n a.rules a.states c.requires.holds_last.lines c.in-Whole.letter (line_read-at c).numbers
fine-at c = let k = c.requires.holds_last in
    let w = line_read-at c in
    action_fine _ _ _ _ k.lines _ w.numbers (sym (c.judge_action-judgement.ensures k.lines w.numbers k.count_is k.last_is w.held) ∙ c.in_default-judgement.is)

pub returns-then-s-at : goal.returns-then-s-at
returns-then-s-at c = λ e a b d f l n h. rw (action_end _ _ _ _ _ _ l c.if-s-at.true) (stopped h)

pub returns-in_default : goal.returns-in_default
returns-in_default c = λ e a b d f l n h. rw (action_broken _ _ _ _ _ _ l c.if-s-at.false (broken_read _ (sym c.in_default.is ∙ c.read_line.ensures.value))) turned

pub returns-in-Faulty : goal.returns-in-Faulty
returns-in-Faulty c = λ e a b d f l n h.
    let w = line_read (goal.at.returns-in-Faulty c).In-Whole in
    rw (action_refused _ _ _ _ _ _ l c.if-s-at.false h.last_is w.line_is (sym (c.judge_action-judgement.ensures l w.numbers n h.last_is w.held) ∙ c.in-Faulty.is)) turned

pub store_action-requires : goal.store_action-requires
store_action-requires c = let p = c.requires.s_len_bound in
    let w = line_read-at (goal.at.store_action-requires c).In_default-judgement in
    let f = fine-at (goal.at.store_action-requires c).In_default-judgement in
    let n0 = held_at w.held 0 (omega (arith, f.three)) (search rules) in
    let n1 = held_at w.held 1 (omega (arith, f.three)) (search rules) in
    let n2 = held_at w.held 2 (omega (arith, f.three)) (search rules) in
    rw (← n0, ← n1, ← n2) (fine_formed _ _ _ _ p.1 p.2 p.3 p.4 w.numbers f)

pub keep_pair-requires : goal.keep_pair-requires
keep_pair-requires c = c.requires.s_len_bound.5

pub returns : goal.returns
returns c = λ e a b d g l n h.
    let p = c.requires.s_len_bound in
    let w = line_read (goal.at.returns c).In-Whole in
    let j = sym (c.judge_action-judgement.ensures l w.numbers n h.last_is w.held) ∙ c.in_default-judgement.is in
    let f = action_fine _ _ _ _ l _ w.numbers j in
    let n0 = sym (held_at w.held 0 (omega (arith, f.three)) (search rules)) in
    let n1 = sym (held_at w.held 1 (omega (arith, f.three)) (search rules)) in
    let n2 = sym (held_at w.held 2 (omega (arith, f.three)) (search rules)) in
    rw (action_kept _ _ _ _ _ _ l c.if-s-at.false h.last_is w.line_is j)
    (taken (action_more h _ _ _ _ _ _ _ f.after (fine_formed _ _ _ _ p.1 p.2 p.3 p.4 w.numbers f) (rw (n0, n1, n2) at c.store_action.ensures)
    (c.keep_pair.ensures ∙ pair_by n0 n1) (key_small w.numbers f.small)))
