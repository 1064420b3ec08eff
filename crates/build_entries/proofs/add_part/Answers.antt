-- What is loaded is the string.
use Prim.Native.Nat.{ℕ}
use mathlib.Core.Path.{refl, subst}
use mathlib.Core.List.{List}
use native.Mathlib.Omega.{arith}
use Rattle.build_states.specs.Strings.{add_string}
use Rattle.build_entries.specs.Memory.{Stored}
use Rattle.build_entries.proofs.NumberLaws.{zeros_low, part_string}
use Rattle.build_entries.proofs.add_part.Goals as goal

pub load_part-requires-clause-numbers_len : goal.load_part-requires-clause-numbers_len
load_part-requires-clause-numbers_len c = (refl, zeros_low 67)

pub returns-clause-stored : goal.returns-clause-stored
returns-clause-stored c =
    let a = c.add_string in
    let e = c.load_part in
    λ g l size γ h p.
    subst (λ (δ : List ℕ). Stored g (add_string l δ) size a.new.items c.args.rules a.result)
    (part_string p e.new.numbers (omega (arith, e.ensures.numbers_len_2.0, c.requires.strings_bound)) e.ensures.by_index)
    (a.ensures.stored g l size h)
