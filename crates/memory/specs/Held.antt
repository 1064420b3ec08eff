-- A grammar and its table in memory, after both books were read.
use Rattle.std.specs.Prelude.{ℕ, ◌≡◌, List, length}
use Rattle.language.specs.Grammar.{Grammar}
use Rattle.language.specs.WellFormed as language
use Rattle.leftcorner.specs.Table.{Table}
use Rattle.memory.specs.Memory.{HoldsItems, HoldsEntries, HoldsKernels, HoldsActions}
use Rattle.memory.specs.Fits.{Fits}

pub record HoldsTable (g : Grammar) (t : Table) (items entries kernels lookaheads kinds values gotos : List ℕ) (rules strings lines : ℕ) : Type 0 where
  pub formed : language.WellFormed g
  pub fits : Fits g t
  pub holds_items : HoldsItems items g t
  pub holds_entries : HoldsEntries entries t
  pub holds_kernels : HoldsKernels kernels lookaheads t
  pub holds_actions : HoldsActions kinds values gotos t
  pub rule_count : length g.rules ≡ rules
  pub entry_count : length t.entries ≡ strings
  pub line_count : length t.kernels ≡ lines
