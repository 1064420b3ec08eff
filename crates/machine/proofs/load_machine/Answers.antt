-- Books that are refused; or loaded, with their rules linked.
use mathlib.Core.Path.{refl}
use lib.ListN.{get_or}
use Rattle.walk_tables.specs.declared.Machine.{Machine}
use Rattle.machine.proofs.DriveLaws.{drives, machine_ready}
use Rattle.machine.proofs.load_machine.Goals as goal

pub link_rules-requires : goal.link_rules-requires
link_rules-requires c =
    let r = (c.load_tables-answer.ensures.loaded _ c.in-Read.is).readable in
    record { shaped = r.shaped; rules_bound = (r.few_rules, r.few_strings, r.entries_room, c.requires.0) }

pub returns-in-Read : goal.returns-in-Read
returns-in-Read c =
    let loaded = c.load_tables-answer.new in
    let mem : Machine = record {
      kinds = loaded.kinds;
      values = loaded.values;
      gotos = loaded.gotos;
      rules = c.link_rules.new.rows;
      start = get_or loaded.entry_states 1 0;
      terminals = c.in-Read.counts.grammar.terminals;
    } in
    let promise = c.load_tables-answer.ensures.loaded _ c.in-Read.is in
    let I = promise.in_memory in
    machine_ready mem promise.books
    (drives promise.grammar promise.table mem I (c.link_rules.ensures.linked promise.grammar promise.table _ I.holds_strings I.holds_entries I.meets.entries) refl)
