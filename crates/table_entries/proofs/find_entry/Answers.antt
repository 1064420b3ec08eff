use Rattle.table_entries.proofs.StringLaws.{Unfound, unfound_all, entry_found, entry_passed}
use Rattle.table_entries.specs.Memory.{Rows}
use Rattle.table_lines.specs.Block.{Numbers}
use Rattle.leftcorner.specs.Table.{EntryLine}
use Prim.Native.Nat.{ℕ, ◌+◌}
use mathlib.Core.List.{List}
use mathlib.Core.Path.{◌≡◌}
use lib.ListN.{length, drop}
use native.Mathlib.Omega.{arith}
use Rattle.table_entries.proofs.find_entry.Goals as goal
use Rattle.table_entries.proofs.find_entry.Goals.{Else-same_string}

pub returns-then-same_string : goal.returns-then-same_string
returns-then-same_string c = λ l ns e rows h.
    entry_found rows (drop 1 ns) c.loop-k.k c.loop-k.auto.k (omega (arith, e)) (λ γ row. c.same_string.ensures γ ns row h) (c.loop-k.invariant l ns e rows h) c.if-same_string.true

-- entry k has not the string either
passed : (c : Else-same_string) → let a = c.args in
    (l : List EntryLine) (ns : List ℕ) → length l ≡ a.entries → Rows a.m.now a.rules l → Numbers ns a.count a.numbers.now → Unfound l (drop 1 ns) (c.loop-k.k + 1)
passed c = λ l ns e rows h.
    entry_passed rows (drop 1 ns) c.loop-k.k c.loop-k.auto.k (omega (arith, e, c.loop-k-test.true)) (λ γ row. c.same_string.ensures γ ns row h) (c.loop-k.invariant l ns e rows h) c.if-same_string.false

pub loop-k-preserved : goal.loop-k-preserved
loop-k-preserved c = passed (goal.at.loop-k-preserved c).Else-same_string

pub returns-else-same_string : goal.returns-else-same_string
returns-else-same_string c = λ l ns e rows h.
    unfound_all l (drop 1 ns) (c.loop-k.k + 1) (omega arith) (omega (arith, e)) (passed (goal.at.returns-else-same_string c).Else-same_string l ns e rows h)
