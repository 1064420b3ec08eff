-- The table that is left in the slices that are lent: safe to read, with a conflict or without one.
use Prim.Native.Nat.{ℕ, zero, suc, ◌+◌, ◌≤◌}
use native.Mathlib.Omega.{arith}
use mathlib.Core.Path.{refl}
use mathlib.Core.List.{List}
use lib.ListN.{length}
use Rattle.table.specs.declared.Counts.{Counts}
use Rattle.check_memory.specs.Given.{TableRoom}
use Rattle.build_cells.specs.Cells.{Filled}
use Rattle.build_memory.specs.Memory.{Constructed}
use Rattle.build_memory.proofs.StateLaws.{few_rules, few_strings, some_strings, few_terminals, few_flags}

module _ {gs : List ℕ} {n : Counts} {q : ℕ} {items entries kernels lookaheads kinds values gotos : List ℕ} (C : Constructed gs n q items entries kernels lookaheads kinds values gotos) where
  pub memory_sized : {named : List ℕ} → 256 ≤ length named → TableRoom items entries kernels lookaheads kinds values gotos named (n.grammar.rules + n.entries) n.grammar.rules n.entries n.kernels
  memory_sized room =
      let E = C.stated.entered in
      let R = C.rooms in
      record {
        all_items = refl;
        shaped = E.shaped;
        some_lines = C.stated.safe.some_lines;
        cells_room = record { kinds_room = omega (arith, R.kinds_room); values_room = omega (arith, R.values_room); gotos_room = omega (arith, R.gotos_room) };
        codes_room = few_flags C.stated C.lookaheads_room;
        entries_room = omega (arith, C.numbered.room);
        named_room = room;
        few_rules = few_rules E;
        some_strings = some_strings E;
        few_strings = few_strings E;
      }

  pub memory_small : (n.grammar.terminals ≤ 63) × (n.states ≤ 255)
  memory_small = (few_terminals C.stated.entered, C.stated.safe.few_states)

  -- the state with a conflict is one of the table's
  pub conflict_low : q ≤ n.states
  conflict_low = go q C.settled.filled
    where
      go : (p : ℕ) → Filled C.grammar kinds values gotos p → p ≤ n.states
      go zero f = omega arith
      go (suc p) f = let z = C.stated.found.state_count in omega (arith, f.0, z)
