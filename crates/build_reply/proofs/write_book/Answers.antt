use Prim.Native.Nat.{◌+◌}
use lib.ListN.{length}
use Rattle.build_writer.specs.MemoryTable.{memory_text}
use Rattle.build_reply.proofs.TextLaws.{text_long, text_short, text_none, text_written}
use Rattle.build_reply.proofs.write_book.Goals as goal

pub write_table-n-requires : goal.write_table-n-requires
write_table-n-requires c = record { writer_room = c.requires.writer_room; out_value = c.requires.out_value }

pub returns-then-n-gt65536 : goal.returns-then-n-gt65536
returns-then-n-gt65536 c =
    let a = c.args in
    let t = memory_text a.items.now a.entries.now a.kernels.now a.lookaheads.now a.kinds.now a.values.now a.gotos.now
    a.counts.grammar.rules a.counts.entries a.counts.kernels a.counts.states (a.counts.grammar.terminals + 1) in
    let n = length a.out.now in
    let w = c.write_table-n in
    let k = w.auto.out in
    text_none t n c.refused.ensures (text_long t n w.ensures.value c.if-n-gt65536.true) k
    c.clear.ensures

pub returns-then-out-n : goal.returns-then-out-n
returns-then-out-n c =
    let a = c.args in
    let t = memory_text a.items.now a.entries.now a.kernels.now a.lookaheads.now a.kinds.now a.values.now a.gotos.now
    a.counts.grammar.rules a.counts.entries a.counts.kernels a.counts.states (a.counts.grammar.terminals + 1) in
    let n = length a.out.now in
    let w = c.write_table-n in
    let k = w.auto.out in
    text_none t n c.refused-then-out-n.ensures
    (text_short t n w.ensures.value k c.if-n-gt65536.false c.if-out-n.true) k c.clear-then-out-n.ensures

pub returns : goal.returns
returns c =
    let a = c.args in
    let t = memory_text a.items.now a.entries.now a.kernels.now a.lookaheads.now a.kinds.now a.values.now a.gotos.now
    a.counts.grammar.rules a.counts.entries a.counts.kernels a.counts.states (a.counts.grammar.terminals + 1) in
    let n = length a.out.now in
    let w = c.write_table-n in
    let k = w.auto.out in
    text_written t n w.ensures.value k c.if-n-gt65536.false c.if-out-n.false w.ensures.out_after
