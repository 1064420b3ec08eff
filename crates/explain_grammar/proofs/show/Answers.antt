-- What was built is safe to read.
use Prim.Native.Nat.{ℕ}
use native.Mathlib.Omega.{arith}
use lib.ListN.{length-replicate}
use Rattle.build_memory.proofs.MemoryLaws.{memory_sized, memory_small}
use Rattle.builder.proofs.BookLaws.{sized_of}
use Rattle.explain_grammar.proofs.show.Goals as goal

pub explain_length-requires : goal.explain_length-requires
explain_length-requires c =
    let f = c.build-built.ensures in
    let C = rw c.in-Table.is at f in
    sized_of C.stated C.numbered C.rooms C.lookaheads_room

pub explain_conflicts-requires : goal.explain_conflicts-requires
explain_conflicts-requires c =
    let f = c.build-built.ensures in
    let h = rw c.in-Conflict.is at f in
    let m = memory_small h.1 in record {
      table_room = memory_sized h.1 (let z = length-replicate {A = ℕ} 256 0 in omega (arith, z));
      terminals_bound = (m.0, m.1, omega (arith, h.0));
    }
