-- So many entry lines are read, and `last` is the first use that binds the next one.
use Rattle.language.specs.Grammar.{Grammar}
use Rattle.table_entries.specs.Memory.{RulesIn, last_use, EntryMemory}
use Rattle.table_entries.specs.Entries.{entry_next, entries_from}
use Rattle.table_lines.proofs.BlockLaws.{Loop}
use mathlib.Core.List.{[], ◌∷◌}
use mathlib.Core.Path.{◌≡◌}
use Prim.Native.Nat.{◌-◌}
use lib.ListN.{length}
use Rattle.table_entries.proofs.read_entries.Given as goal

abbrev pub invariant-loop-k : goal.invariant-loop-k
invariant-loop-k v =
    (g : Grammar) → RulesIn g v.initial.items v.rules
    → Loop (entries_from v.count v.s v.t v.n g.rules v.states v.initial.at) (entry_next v.s v.t v.n g.rules v.states) (v.count - v.k) v.at v.k
    (λ l. EntryMemory v.initial.items v.rules (length v.initial.entry_states) (length v.initial.named) l v.items v.entry_states v.named × (v.last ≡ last_use g.rules l ∷ []))
