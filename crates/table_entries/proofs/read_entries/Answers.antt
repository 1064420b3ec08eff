use Rattle.table_entries.proofs.OrderLaws.{rules_held}
use Rattle.table_lines.proofs.BlockLaws.{reads_less, lines_start, loop_end, loop_take, loop_stop, loop_refuse}
use mathlib.Core.List.{[]}
use mathlib.Core.Path.{◌≡◌, refl}
use Prim.Native.Nat.{ℕ, ◌-◌}
use native.Mathlib.Omega.{arith}
use Rattle.table_entries.proofs.read_entries.Goals as goal

minus-none : (n : ℕ) → n - 0 ≡ n
minus-none n = omega arith

pub loop-k-init : goal.loop-k-init
loop-k-init c = λ g r. record { lines = []; count_is = refl; reading = rw (minus-none c.args.count) (lines_start _ _ _ _); memory = (c.requires.entry_memory, refl) }

pub read_entry-requires : goal.read_entry-requires
read_entry-requires c =
    let p = c.requires in
    let h = p.holds_rules in
    let g = c.loop-k.invariant h.grammar h.rules_in in record {
      s_len_bound = (p.s_len_bound.0, p.s_len_bound.1, p.s_len_bound.2, p.s_len_bound.3, omega (arith, p.s_len_bound.4));
      entries_in_bounds = omega (arith, p.count_in_bounds);
      shaped = rw g.count_is at g.memory.0.shaped;
      empty = λ j l. g.memory.0.empty j (omega (arith, l, g.count_is));
      holds_entries = record {
        grammar = h.grammar;
        rules_in = rules_held g.memory.0 h.rules_in;
        lines = g.lines;
        count_is = g.count_is;
        rows = g.memory.0.rows;
        last_is = g.memory.1;
      };
    }

pub loop-k-preserved : goal.loop-k-preserved
loop-k-preserved c = λ g r. loop_take (c.loop-k.invariant g r) (λ k e m. c.read_entry.ensures g _ _ _ k r e m) (omega arith) c.in-Taken.is (omega arith)

pub returns-in-Stopped : goal.returns-in-Stopped
returns-in-Stopped c = λ g r. reads_less (λ l h. h.0) (loop_stop (c.loop-k.invariant g r) (λ k e m. c.read_entry.ensures g _ _ _ k r e m) (omega arith) c.in-Stopped.is)

pub returns-in-Refused : goal.returns-in-Refused
returns-in-Refused c = λ g r. loop_refuse (c.loop-k.invariant g r) (λ k e m. c.read_entry.ensures g _ _ _ k r e m) (omega arith) c.in-Refused.is

pub returns : goal.returns
returns c = λ g r. let z : c.loop-k.k ≡ c.args.count = omega arith in rw z at (reads_less (λ l h. h.0) (loop_end (c.loop-k.invariant g r) (omega arith)))
