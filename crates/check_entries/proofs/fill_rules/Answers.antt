use Prim.Native.Nat.{ℕ, ◌+◌}
use mathlib.Core.Path.{◌≡◌}
use lib.ListN.{get_or}
use native.Mathlib.Omega.{arith}
use Rattle.language.specs.Grammar.{Grammar}
use Rattle.leftcorner.specs.Table.{Table}
use Rattle.check_entries.specs.Uses.{HoldsStrings, Filled}
use Rattle.check_entries.proofs.FaultLaws.{range_none}
use Rattle.check_entries.proofs.ListLaws.{filled_start, filled_more, filled_fails, filled_all}
use borrow.Author.Rules.{rules}
use Rattle.check_entries.proofs.fill_rules.Goals as goal
use Rattle.check_entries.proofs.fill_rules.Goals.{In-Nothing}

pub loop-i-init : goal.loop-i-init
loop-i-init c = λ g t S z. filled_start g t S z

pub returns-in_default : goal.returns-in_default
returns-in_default c =
    let o = c.loop-i in
    let f = c.fill_rule-fault in record {
      uses_len_2 = f.ensures.uses_len_2;
      entry_fault_is = λ g t S z.
          filled_fails g t S o.auto.i (omega (arith, c.loop-i-test.true)) (o.invariant g t S z)
          (λ r h zr. f.ensures.filled_rule g t r S h zr) c.in_default.not-Nothing;
    }

-- rule i is filled too
filled-too : (c : In-Nothing) → let a = c.args in
    (g : Grammar) (t : Table) → HoldsStrings g t a.items.now a.rules a.strings → ((x : ℕ) → get_or a.uses.now x 0 ≡ 0)
    → Filled g t (c.loop-i.i + 1) c.fill_rule-fault.new.uses a.wanted.now c.fill_rule-fault.new.wanted
filled-too c = λ g t S z.
    let o = c.loop-i in
    filled_more g t S o.auto.i (omega (arith, c.loop-i-test.true)) (o.invariant g t S z)
    (λ r h zr. c.fill_rule-fault.ensures.filled_rule g t r S h zr) c.in-Nothing.is

pub loop-i-preserved : goal.loop-i-preserved
loop-i-preserved c = filled-too (goal.at.loop-i-preserved c).In-Nothing

pub returns-in-Nothing : goal.returns-in-Nothing
returns-in-Nothing c =
    let f = c.fill_rule-fault.ensures in
    record {
      uses_len_2 = (f.uses_len_2.0, f.uses_len_2.1, range_none);
      entry_fault_is = λ g t S z. filled_all g t S (omega arith) (filled-too (goal.at.returns-in-Nothing c).In-Nothing g t S z);
    }

pub returns : goal.returns
returns c = record { uses_len_2 = (search rules, search rules, range_none); entry_fault_is = λ g t S z. filled_all g t S (omega arith) (c.loop-i.invariant g t S z) }
