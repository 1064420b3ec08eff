use mathlib.Core.Path.{sym, subst}
use Rattle.leftcorner.specs.Construction.{ItemsMeet}
use Rattle.fixpoint.specs.Flags.{Decides}
use Rattle.moves.specs.Flags.{present_of}
use Rattle.check_items.proofs.ItemLaws.{items_decided}
use Rattle.check_memory.proofs.StateLaws.{memory_of, held_at}
use Rattle.check_memory.proofs.check_state.Goals as goal

pub returns-clause-state_checked : goal.returns-clause-state_checked
returns-clause-state_checked c = λ g t states G U l.
    let H = G.held in
    let K = c.close_state.ensures g t (memory_of G) in
    let M = c.flag_moves.ensures.holds_moves g t _ _ _ _ _ _ H (present_of K) in
    let A = c.ask_cells-agree.ensures.decides g t _ _ _ _ _ H G.code_count K M in
    let D = items_decided g t (held_at G (present_of K) M c.requires.le_q.0 l) c.requires.le_q.1 c.find_item_fault-fault.ensures in
    record {
      items_meet = subst (Decides (ItemsMeet g t _)) (sym c.is_nothing-met.ensures) D;
      cells_agree = A.0;
      cells_meet = λ e. c.cells_meet-filled.ensures g t _ _ _ _ _ _ _ _ _ H G.code_count M (A.1 e);
      adds = c.add_inclusions.ensures.adds_2 g t _ H G.code_count K U;
    }
