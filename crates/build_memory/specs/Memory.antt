-- What the construction's table of a grammar book is, in memory, and why there is none.
use Rattle.std.specs.Prelude.{ℕ, ◌≡◌, List, length, replicate}
use Rattle.language.specs.Grammar.{Grammar}
use Rattle.grammar.specs.Book.{accepted, rejected, grammar_of}
use Rattle.table.specs.declared.Counts.{Counts}
use Rattle.build_book.proofs.BookLaws.{Within}
use Rattle.build_memory.specs.declared.Built.{Built}
use Rattle.build_memory.specs.declared.Built.TheVariants as built
use Rattle.build_memory.specs.Stages.{Stated, Numbered, Settled, BuildRoom}

-- the slices that are lent: each has its whole length, and no cell is filled
pub record Lent (items entries kernels lookaheads kinds values gotos : List ℕ) : Type 0 where
  pub items_room : length items ≡ 16640
  pub entries_room : length entries ≡ 256
  pub kernels_room : length kernels ≡ 4096
  pub lookaheads_room : length lookaheads ≡ 65536
  pub kinds_zeros : kinds ≡ replicate 16640 0
  pub values_zeros : values ≡ replicate 16640 0
  pub gotos_zeros : gotos ≡ replicate 16640 0

-- the table of the book's grammar, whose lowest state with a conflict is q, 0 for none
pub record Constructed (gs : List ℕ) (n : Counts) (q : ℕ) (items entries kernels lookaheads kinds values gotos : List ℕ) : Type 0 where
  pub grammar : Grammar
  pub book_is : grammar_of gs ≡ accepted grammar
  -- the cells that hold the moves alone
  pub move_kinds : List ℕ
  pub move_values : List ℕ
  pub stated : Stated grammar items kernels move_kinds move_values gotos n.grammar.terminals n.grammar.goal n.grammar.rules n.entries n.states n.kernels
  pub numbered : Numbered entries n.entries
  pub settled : Settled grammar kernels lookaheads kinds values gotos q
  pub rooms : BuildRoom kernels kinds values gotos
  pub lookaheads_room : length lookaheads ≡ 65536

-- a grammar with more entries, states or kernel lines than a table may have
pub record PastLimits (gs : List ℕ) : Type 0 where
  pub grammar : Grammar
  pub book_is : grammar_of gs ≡ accepted grammar
  pub past_limits : Within grammar → ⊥

abbrev pub BuiltIs : List ℕ → Built → (items entries kernels lookaheads kinds values gotos : List ℕ) → Type 0
BuiltIs gs (built.Table n) items entries kernels lookaheads kinds values gotos = Constructed gs n 0 items entries kernels lookaheads kinds values gotos
BuiltIs gs (built.Conflict q n) items entries kernels lookaheads kinds values gotos = (q ≡ 0 → ⊥) × Constructed gs n q items entries kernels lookaheads kinds values gotos
BuiltIs gs (built.Refused x) items entries kernels lookaheads kinds values gotos = grammar_of gs ≡ rejected x
BuiltIs gs built.TooLarge items entries kernels lookaheads kinds values gotos = PastLimits gs
