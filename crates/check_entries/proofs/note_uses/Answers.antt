-- Each group has an entry, so every row is filled.
use Prim.Native.Nat.{ℕ}
use mathlib.Core.Path.{refl, ap, ◌∙◌}
use lib.ListN.{length, length-replicate}
use Rattle.check_entries.proofs.FaultLaws.{met}
use Rattle.check_entries.proofs.ListLaws.{uses_hold, zeros_of}
use Rattle.check_entries.proofs.note_uses.Goals as goal

pub fill_rules-requires : goal.fill_rules-requires
fill_rules-requires c =
    record { shaped = c.requires.shaped; rules_bound = (c.requires.rules_bound.0, c.requires.rules_bound.1); uses_len = (ap length c.requires.rules_bound.2 ∙ length-replicate {A = ℕ} 2048 0, refl) }

pub returns : goal.returns
returns c =
    let f = c.fill_rules in record {
      uses_len = f.ensures.uses_len_2.0;
      holds_uses = λ g t S M.
          uses_hold g t S
          (met f.result (f.ensures.entry_fault_is g t S (zeros_of 2048 c.requires.rules_bound.2)) M);
    }
