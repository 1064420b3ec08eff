-- `table_entries::judge_entry` meets its contract. Assumes nothing.
use Rattle.table_entries.proofs.JudgeLaws.{other_letter, too_few, second, out_of_order, too_large, too_many, no_state, no_symbol, fine}
use Rattle.table_lines.proofs.HeldLaws.{held_count, held_largest, held_at, numbers_take}
use Rattle.table_entries.specs.Entries.{all_declared}
use Rattle.table_entries.specs.Memory.{Rows}
use Rattle.leftcorner.specs.Table.{EntryLine, entry_from}
use Rattle.table_lines.specs.Line.{all_at_most}
use Rattle.table_lines.specs.Block.{Summarizes}
use Rattle.range.specs.Range.{within}
use borrow.Author.Tests.{le-leb, lt-leb}
use lib.ListN.{length, get_or, drop}
use mathlib.Core.List.{List}
use mathlib.Core.Bool.{true}
use mathlib.Core.Path.{◌≡◌, sym, ap, ◌∙◌}
use Prim.Native.Nat.{ℕ, ◌≤◌}
use native.Mathlib.Omega.{arith}
use borrow.Author.Rules.{rules}
use Rattle.table_entries.proofs.judge_entry.Goals as goal
use Rattle.table_entries.proofs.judge_entry.Goals.{Else-find_entry-ne0, Else-p-gt16, Else-p-gt65535, Else-p-lt2}

-- the line has two numbers at least
long : (c : Else-p-lt2) {ns : List ℕ} → let a = c.args in Summarizes ns a.p a.numbers.now → 2 ≤ length ns
long c h = omega (arith, held_count h, c.if-p-lt2.false)

-- no entry has its string yet
unseen : (c : Else-find_entry-ne0) → let a = c.args in
    (l : List EntryLine) (ns : List ℕ) → length l ≡ a.entries → Rows a.m.now a.rules l → Summarizes ns a.p a.numbers.now → entry_from 1 l (drop 1 ns) ≡ 0
unseen c = λ l ns q rows h. sym (c.find_entry.ensures l ns q rows h.numbers) ∙ c.if-find_entry-ne0.false

-- no number is above 65,535
small : (c : Else-p-gt65535) {ns : List ℕ} → let a = c.args in Summarizes ns a.p a.numbers.now → all_at_most 65535 ns ≡ true
small c h = sym (held_largest h 65535) ∙ le-leb _ _ c.if-p-gt65535.false

-- and no more than sixteen
few : (c : Else-p-gt16) {ns : List ℕ} → let a = c.args in Summarizes ns a.p a.numbers.now → length ns ≤ 16
few c h = omega (arith, held_count h, c.if-p-gt16.false)

-- `long` at a later place
long-at : (c : Else-p-gt16) {ns : List ℕ} → let a = c.args in Summarizes ns a.p a.numbers.now → 2 ≤ length ns
long-at c h = omega (arith, held_count h, c.if-p-lt2.false)

-- the state that it names is among the states, or not
state-is : (c : Else-p-gt16) → let a = c.args in
    (ns : List ℕ) → Summarizes ns a.p a.numbers.now → within 1 (get_or ns 0 0) a.states ≡ within 1 (get_or a.numbers.now 0 0) a.states
state-is c = λ ns h.
    let a = c.args in
    ap (λ (x : ℕ). within 1 x a.states) (held_at h 0 (omega (arith, long-at c h)) (search rules))

pub returns-then-letter-ne69 : goal.returns-then-letter-ne69
returns-then-letter-ne69 c = λ rs l ns q rows h o. other_letter _ _ rs _ l _ ns c.if-letter-ne69.true

pub returns-then-p-lt2 : goal.returns-then-p-lt2
returns-then-p-lt2 c = λ rs l ns q rows h o. too_few _ _ rs _ l _ ns c.if-letter-ne69.false (omega (arith, held_count h, c.if-p-lt2.true))

pub returns-then-find_entry-ne0 : goal.returns-then-find_entry-ne0
returns-then-find_entry-ne0 c = λ rs l ns q rows h o.
    second _ _ rs _ l _ ns c.if-letter-ne69.false (long (goal.at.returns-then-find_entry-ne0 c).Else-p-lt2 h) (λ z. c.if-find_entry-ne0.true (c.find_entry.ensures l ns q rows h.numbers ∙ z))

pub returns-then-not-in_order : goal.returns-then-not-in_order
returns-then-not-in_order c = λ rs l ns q rows h o.
    out_of_order _ _ rs _ l _ ns c.if-letter-ne69.false (long (goal.at.returns-then-not-in_order c).Else-p-lt2 h) (unseen (goal.at.returns-then-not-in_order c).Else-find_entry-ne0 l ns q rows h) (sym o ∙ c.if-not-in_order.true)

pub returns-then-p-gt65535 : goal.returns-then-p-gt65535
returns-then-p-gt65535 c = λ rs l ns q rows h o.
    too_large _ _ rs _ l _ ns c.if-letter-ne69.false (long (goal.at.returns-then-p-gt65535 c).Else-p-lt2 h) (unseen (goal.at.returns-then-p-gt65535 c).Else-find_entry-ne0 l ns q rows h) (sym o ∙ c.if-not-in_order.false)
    (sym (held_largest h 65535) ∙ lt-leb _ _ c.if-p-gt65535.true)

pub returns-then-p-gt16 : goal.returns-then-p-gt16
returns-then-p-gt16 c = λ rs l ns q rows h o.
    too_many _ _ rs _ l _ ns c.if-letter-ne69.false (long (goal.at.returns-then-p-gt16 c).Else-p-lt2 h) (unseen (goal.at.returns-then-p-gt16 c).Else-find_entry-ne0 l ns q rows h) (sym o ∙ c.if-not-in_order.false) (small (goal.at.returns-then-p-gt16 c).Else-p-gt65535 h)
    (omega (arith, held_count h, c.if-p-gt16.true))

pub returns-then-not-in_range : goal.returns-then-not-in_range
returns-then-not-in_range c = λ rs l ns q rows h o.
    no_state _ _ rs _ l _ ns c.if-letter-ne69.false (long (goal.at.returns-then-not-in_range c).Else-p-lt2 h) (unseen (goal.at.returns-then-not-in_range c).Else-find_entry-ne0 l ns q rows h) (sym o ∙ c.if-not-in_order.false) (small (goal.at.returns-then-not-in_range c).Else-p-gt65535 h) (few (goal.at.returns-then-not-in_range c).Else-p-gt16 h)
    (state-is (goal.at.returns-then-not-in_range c).Else-p-gt16 ns h ∙ (sym c.in_range.ensures ∙ c.if-not-in_range.true))

pub returns-then-not-all_declared : goal.returns-then-not-all_declared
returns-then-not-all_declared c = λ rs l ns q rows h o.
    let a = c.args in
    no_symbol _ _ rs _ l _ ns c.if-letter-ne69.false (long (goal.at.returns-then-not-all_declared c).Else-p-lt2 h) (unseen (goal.at.returns-then-not-all_declared c).Else-find_entry-ne0 l ns q rows h) (sym o ∙ c.if-not-in_order.false) (small (goal.at.returns-then-not-all_declared c).Else-p-gt65535 h) (few (goal.at.returns-then-not-all_declared c).Else-p-gt16 h)
    (state-is (goal.at.returns-then-not-all_declared c).Else-p-gt16 ns h ∙ (sym c.in_range.ensures ∙ c.if-not-in_range.false))
    (ap (λ (z : List ℕ). all_declared a.t a.n (drop 1 z)) (sym (numbers_take h.numbers (omega (arith, held_count h, few (goal.at.returns-then-not-all_declared c).Else-p-gt16 h, c.requires.entries_bound.1))))
    ∙ (sym c.all_declared.ensures ∙ c.if-not-all_declared.true))

pub returns : goal.returns
returns c = λ rs l ns q rows h o.
    let a = c.args in
    fine _ _ rs _ l _ ns c.if-letter-ne69.false (long (goal.at.returns c).Else-p-lt2 h) (unseen (goal.at.returns c).Else-find_entry-ne0 l ns q rows h) (sym o ∙ c.if-not-in_order.false) (small (goal.at.returns c).Else-p-gt65535 h) (few (goal.at.returns c).Else-p-gt16 h)
    (state-is (goal.at.returns c).Else-p-gt16 ns h ∙ (sym c.in_range.ensures ∙ c.if-not-in_range.false))
    (ap (λ (z : List ℕ). all_declared a.t a.n (drop 1 z)) (sym (numbers_take h.numbers (omega (arith, held_count h, few (goal.at.returns c).Else-p-gt16 h, c.requires.entries_bound.1))))
    ∙ (sym c.all_declared.ensures ∙ c.if-not-all_declared.false))
