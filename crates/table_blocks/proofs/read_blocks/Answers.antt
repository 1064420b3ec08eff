-- `table_blocks::read_blocks` meets its contract. Assumes nothing.
use Rattle.table_lines.specs.Image.{image, flag}
use Rattle.table_blocks.proofs.ReadLaws.{lines_few, entries-refused, entries-read, kernels_refused, kernels_read, actions_refused, actions_read}
use Rattle.table_blocks.proofs.BlocksLaws.{begun_low, begun_entries, begun_rules, entries_at, rules_at, kernels_at, memory_sized, all_blocks}
use Rattle.table_blocks.proofs.BlankLaws.{kernel_start, cells_start, blocks_hold}
use Rattle.table_blocks.specs.Memory.{blocks_refused}
use Rattle.table_entries.specs.Entries.{entries_from}
use Rattle.table_entries.specs.Memory.{is_entry_state, RulesIn, EntryMemory}
use Rattle.language.specs.Grammar.{Grammar}
use Rattle.leftcorner.specs.Table.{EntryLine}
use Rattle.table_lines.specs.Block.{read}
use Rattle.table_lines.proofs.BlockLaws.{reads_read, reads_refused}
use mathlib.Core.List.{List, []}
use mathlib.Core.Path.{◌≡◌, sym, ap, ◌∙◌}
use Prim.Native.Nat.{ℕ, ◌+◌}
use native.Mathlib.Omega.{arith}
use lib.ListN.{length}
use Rattle.table_blocks.proofs.read_blocks.Goals as goal
use Rattle.table_blocks.proofs.read_blocks.Goals.{In-Read}

-- the entry lines that were read by the rules of g, and memory with them
abbrev Were : In-Read → Grammar → Type 0
Were d g = let a = d.args in
    (l : List EntryLine) × (entries_from a.entries a.s.now a.h.terminals a.h.nonterminals g.rules a.states a.first ≡ read l d.in-Read.at)
    × (length l ≡ d.in-Read.count) × EntryMemory a.items.now a.h.rules (length a.entry_states.now) (length a.named.now) l d.read_entries.new.items d.read_entries.new.entry_states d.read_entries.new.named

entries-were : (d : In-Read) (g : Grammar) → RulesIn g d.args.items.now d.args.h.rules → Were d g
entries-were d g i = reads_read (d.read_entries.ensures g i) d.in-Read.is

-- by the rules that memory is known to hold
known-were : (d : In-Read) → Were d d.requires.holds_heading.grammar
known-were d = entries-were d d.requires.holds_heading.grammar (rules_at d.requires.holds_heading.blank d.requires.holds_heading.heading)

-- they leave the flags of their states
flags-at : (d : In-Read) (g : Grammar) (e : Were d g) → let m = d.read_entries.new.named in
    m ≡ image (length m) (λ x. flag (is_entry_state e.0 x))
flags-at d g e =
    e.3.named_are ∙ ap (λ (n : ℕ). image n (λ x. flag (is_entry_state e.0 x))) (sym d.read_entries.auto.named)

pub read_entries-requires : goal.read_entries-requires
read_entries-requires c = let p = c.requires in
    let w = begun_low p.holds_heading in record { s_len_bound = (p.s_len_bound.0, w.few_terminals, w.few_nonterminals, p.s_len_bound.1, omega (arith, w.few_rules, p.s_len_bound.2)); count_in_bounds = omega (arith, w.few_rules, p.s_len_bound.2, p.holds_heading.blank.room); entry_memory = begun_entries p.holds_heading; holds_rules = begun_rules p.holds_heading }

pub overflow_add-rules : goal.overflow_add-rules
overflow_add-rules c = let p = c.requires in
    let e = known-were c in
    record { fits = omega (arith, (begun_low p.holds_heading).few_rules, lines_few _ _ _ [] e.1, e.2, p.s_len_bound.2) }

pub read_kernels-requires : goal.read_kernels-requires
read_kernels-requires c = let p = c.requires in
    let e = known-were (goal.at.read_kernels-requires c).In-Read in
    let w = begun_low p.holds_heading in record { s_len_bound = (p.s_len_bound.0, w.few_terminals, p.s_len_bound.1, omega (arith, w.few_rules, lines_few _ _ _ [] e.1, e.2, p.s_len_bound.2)); shaped = rw e.2 at e.3.shaped; kernel_image = kernel_start p.holds_heading.blank }

pub read_actions-requires : goal.read_actions-requires
read_actions-requires c = let p = c.requires in
    let e = known-were (goal.at.read_actions-requires c).In-Read in
    let w = begun_low p.holds_heading in record { s_len_bound = (p.s_len_bound.0, w.few_terminals, w.few_nonterminals, w.few_rules, p.s_len_bound.1); cells = cells_start p.holds_heading.blank; flags = record { test = is_entry_state e.0; flags_are = flags-at (goal.at.read_actions-requires c).In-Read c.requires.holds_heading.grammar e } }

pub returns-in-Refused : goal.returns-in-Refused
returns-in-Refused c = λ g k q. rw (entries-refused g _ _ q _ _ (reads_refused (c.read_entries.ensures g (rules_at k q)) c.in-Refused.is)) blocks_refused

pub returns-in-Refused-read_kernels : goal.returns-in-Refused-read_kernels
returns-in-Refused-read_kernels c = λ g k q.
    let a = c.args in
    let e = entries-were (goal.at.returns-in-Refused-read_kernels c).In-Read g (rules_at k q) in
    let refused = reads_refused c.read_kernels.ensures c.in-Refused-read_kernels.is in
    rw (
      entries-read g _ _ q _ _ e.1,
      kernels_refused g _ _ q e.0 _ (ap (λ (n : ℕ). a.h.rules + n) (sym e.2)) (sym (kernels_at k q _ _ _ e.3 e.2) ∙ refused),
    ) blocks_refused

pub shape_of-items-in-Refused-read_actions : goal.shape_of-items-in-Refused-read_actions
shape_of-items-in-Refused-read_actions c = c.read_entries.auto.items

pub shape_of-entry_states-in-Refused-read_actions : goal.shape_of-entry_states-in-Refused-read_actions
shape_of-entry_states-in-Refused-read_actions c = c.read_entries.auto.entry_states

pub shape_of-named-in-Refused-read_actions : goal.shape_of-named-in-Refused-read_actions
shape_of-named-in-Refused-read_actions c = c.read_actions.auto.named ∙ c.read_entries.auto.named

pub returns-in-Refused-read_actions : goal.returns-in-Refused-read_actions
returns-in-Refused-read_actions c = λ g k q.
    let a = c.args in
    let e = entries-were (goal.at.returns-in-Refused-read_actions c).In-Read g (rules_at k q) in
    let i = reads_read c.read_kernels.ensures c.in-Read-read_kernels.is in
    let refused = reads_refused (c.read_actions.ensures (is_entry_state e.0) (flags-at (goal.at.returns-in-Refused-read_actions c).In-Read g e)) c.in-Refused-read_actions.is in
    rw (
      entries-read g _ _ q _ _ e.1,
      kernels_read g _ _ q e.0 _ (ap (λ (n : ℕ). a.h.rules + n) (sym e.2)) (sym (kernels_at k q _ _ _ e.3 e.2) ∙ i.1),
      actions_refused g _ _ q e.0 i.0 _ refused,
    ) blocks_refused

pub shape_of-items-in-Read-read_actions : goal.shape_of-items-in-Read-read_actions
shape_of-items-in-Read-read_actions c = c.read_entries.auto.items

pub shape_of-entry_states-in-Read-read_actions : goal.shape_of-entry_states-in-Read-read_actions
shape_of-entry_states-in-Read-read_actions c = c.read_entries.auto.entry_states

pub returns-in-Read-read_actions : goal.returns-in-Read-read_actions
returns-in-Read-read_actions c = λ g k q.
    let a = c.args in
    let e = entries-were (goal.at.returns-in-Read-read_actions c).In-Read g (rules_at k q) in
    let i = reads_read c.read_kernels.ensures c.in-Read-read_kernels.is in
    let x = reads_read (c.read_actions.ensures (is_entry_state e.0) (flags-at (goal.at.returns-in-Read-read_actions c).In-Read g e)) c.in-Read-read_actions.is in
    rw (
      entries-read g _ _ q _ _ e.1,
      kernels_read g _ _ q e.0 _ (ap (λ (n : ℕ). a.h.rules + n) (sym e.2)) (sym (kernels_at k q _ _ _ e.3 e.2) ∙ i.1),
      actions_read g _ _ q e.0 i.0 _ x.1,
    )
    (all_blocks e.2 i.2
    (blocks_hold k (entries_at k q e.3) i.3 (memory_sized c.read_entries.auto.named x.3)))
