-- The goal is first, each group has an entry, and each other entry is flagged.
use Prim.Native.Nat.{ℕ}
use mathlib.Core.Path.{refl, sym, ap, ◌∙◌}
use native.Mathlib.Omega.{arith}
use lib.ListN.{length, length-replicate}
use Rattle.check_entries.proofs.FaultLaws.{fine, still, range_goal, range_entry, range_none}
use Rattle.check_entries.proofs.ListLaws.{goal_entry, entry_goal, lowest_range, entry_unwanted, entries_hold, uses_hold, zeros_of}
use Rattle.check_entries.proofs.find_entry_fault.Goals as goal

pub returns-then-not-is_goal : goal.returns-then-not-is_goal
returns-then-not-is_goal c = record { uses_len = (ap length c.requires.uses_value ∙ length-replicate {A = ℕ} 2048 0, range_goal); entry_fault_is = λ g t S e. record { is = λ s a. let h = entry_goal g t S a in c.is_goal.ensures.no (c.if-not-is_goal.true) (h.0, h.1 ∙ e) } }

pub fill_rules-fault-requires : goal.fill_rules-fault-requires
fill_rules-fault-requires c =
    record { shaped = c.requires.shaped; rules_bound = (c.requires.rules_bound.0, c.requires.rules_bound.2); uses_len = (ap length c.requires.uses_value ∙ length-replicate {A = ℕ} 2048 0, refl) }

pub returns-in_default : goal.returns-in_default
returns-in_default c =
    let f = c.fill_rules-fault in record {
      uses_len = (f.ensures.uses_len_2.0, f.ensures.uses_len_2.2);
      entry_fault_is = λ g t S e.
          still f.result c.in_default.not-Nothing
          (f.ensures.entry_fault_is g t S (zeros_of 2048 c.requires.uses_value));
    }

pub returns-in-At : goal.returns-in-At
returns-in-At c =
    let u = c.lowest_unset-unwanted in
    let l = lowest_range _ _ _ u.result u.ensures c.in-At.is in record {
      uses_len = (c.fill_rules-fault.ensures.uses_len_2.0, range_entry l.0 (omega (arith, l.1)));
      entry_fault_is = λ g t S e.
          let h = c.is_goal.ensures.yes (c.if-not-is_goal.false) in
          let F = fine (c.fill_rules-fault.ensures.entry_fault_is g t S (zeros_of 2048 c.requires.uses_value)) c.in-Nothing.is in
          record {
            is = entry_unwanted g t S refl (goal_entry g t S c.requires.rules_bound.1 (h.0, h.1 ∙ sym e)).1 F _
                (omega arith) u.result u.ensures c.in-At.is;
          };
    }

pub returns-in-Nothing-unwanted : goal.returns-in-Nothing-unwanted
returns-in-Nothing-unwanted c =
    let u = c.lowest_unset-unwanted in record {
      uses_len = (c.fill_rules-fault.ensures.uses_len_2.0, range_none);
      entry_fault_is = λ g t S e.
          let h = c.is_goal.ensures.yes (c.if-not-is_goal.false) in
          let F = fine (c.fill_rules-fault.ensures.entry_fault_is g t S (zeros_of 2048 c.requires.uses_value)) c.in-Nothing.is in
          record {
            is = (
              entries_hold g t S refl c.requires.rules_bound.1 (h.0, h.1 ∙ sym e) F _ (omega arith) u.result u.ensures c.in-Nothing-unwanted.is,
              uses_hold g t S F,
            );
          };
    }
