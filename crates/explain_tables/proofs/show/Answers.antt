-- Fresh slices have room, so what is read is safe to explain.
use Prim.Native.Nat.{ℕ, ◌≤◌}
use native.Mathlib.Omega.{arith}
use lib.ListN.{length, replicate, length-replicate}
use Rattle.table.specs.Memory.{Slices, slices, SlicesRoom}
use Rattle.table.proofs.IntoLaws.{has_room_lem}
use Rattle.checker.proofs.LoadLaws.{books_read, read_sized, read_low}
use Rattle.explain_tables.proofs.show.Goals as goal

abbrev fresh : Slices
fresh = slices (replicate 16640 0) (replicate 256 0) (replicate 4096 0) (replicate 65536 0) (replicate 16640 0) (replicate 16640 0) (replicate 16640 0) (replicate 256 0)

enough : (n : ℕ) → n ≤ length (replicate {A = ℕ} n 0)
enough n = let z = length-replicate {A = ℕ} n 0 in omega (arith, z)

rooms : SlicesRoom fresh
rooms = record {
  items_room = enough 16640;
  states_room = enough 256;
  kernels_room = enough 4096;
  lookaheads_room = enough 65536;
  kinds_room = enough 16640;
  values_room = enough 16640;
  gotos_room = enough 16640;
  named_room = enough 256;
}

pub check_books-checked-requires : goal.check_books-checked-requires
check_books-checked-requires c = rooms

pub explain_tables-requires : goal.explain_tables-requires
explain_tables-requires c =
    let e = c.check_books-checked.ensures in
    let l = books_read c.args.grammar.now c.args.book.now e.answer_value {b = fresh} e.holds c.in-Read.is in
    record { table_room = read_sized l (has_room_lem fresh rooms); terminals_bound = read_low l }
