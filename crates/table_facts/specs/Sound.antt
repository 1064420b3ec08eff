-- What holds of every grammar and table that two books give. Document 01, 'Books' and 'Replies'.
use Rattle.std.specs.Prelude.{ℕ, ◌≤◌, length}
use Rattle.language.specs.Grammar.{Grammar, IsNonterminal}
use Rattle.language.specs.Sentence.{Reachable, AllProductive}
use Rattle.language.specs.WellFormed as grammar
use Rattle.leftcorner.specs.Table.{Table}
use Rattle.table_order.specs.Order.{kernel_key, action_key}
use Rattle.table_order.proofs.OrderLaws.{RisingBy}
use Rattle.table_order.proofs.UseLaws.{EntriesFollow}
use Rattle.memory.specs.Fits.{Fits}

pub record Sound (g : Grammar) (t : Table) : Type 0 where
  pub formed : grammar.WellFormed g
  pub productive : AllProductive g
  pub reachable : (X : ℕ) → IsNonterminal g X → Reachable g X
  pub fits : Fits g t
  pub some_state : 1 ≤ t.states
  pub some_entry : 1 ≤ length t.entries
  pub some_kernel : 1 ≤ length t.kernels
  -- document 02, S-5: the order of lines
  pub entries_follow : EntriesFollow g.rules t.entries
  pub kernels_rise : RisingBy kernel_key t.kernels
  pub actions_rise : RisingBy action_key t.actions
