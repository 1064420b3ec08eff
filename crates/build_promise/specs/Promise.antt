-- What the builder promises of every grammar book. `build_of` (builder/specs/Build.antt) is what `build_tables` answers, reply, length and slice, for all
-- bytes; here is what it says of any book that is read as a grammar, for every length of the slice that is lent. Other books it
-- refuses as `grammar_of` does.
use Rattle.std.specs.Prelude.{ℕ, zero, ◌-◌, ◌≤◌, ◌<◌, ◌≡◌, ◌⊎◌, List, [], ◌∷◌, ◌++◌, length, replicate}
use Rattle.std.proofs.Math.Option.{some}
use Rattle.language.specs.Grammar.{Grammar}
use Rattle.language.specs.Sentence.{In}
use Rattle.language.specs.First.{First}
use Rattle.leftcorner.specs.Table.{Action, Table, next_state}
use Rattle.leftcorner.specs.Construction.{EntryAt, KernelAt, ActionAt, Asked, EntriesMeet, LookaheadsMeet}
use Rattle.std.specs.Prelude.{◌↔◌}
use Rattle.reply.specs.declared.Kind.TheVariants.{LimitExceeded, Conflict, BufferTooSmall}
use Rattle.reply.specs.declared.Reply.TheVariants.{Accepted}
use Rattle.check_verdict.specs.Verdict.{refused}
use Rattle.grammar.specs.Book.{accepted, grammar_of}
use Rattle.build_states.specs.Lookaheads.{Lookahead}
use Rattle.build_book.specs.Text.{table_text}
use Rattle.build_book.specs.Builder.{builder_table}
use Rattle.checker.specs.Checked.{verdict_of}
use Rattle.builder.specs.Build.{build_of}
use Rattle.build_promise.specs.Kernels.{entry, Dotted, dot, Reached, TooMany, WithinLimits, KernelIs}

module _ (g : Grammar) where
  -- the builder's table: what its cells are asked shows in entries and kernel lines already, where there is a conflict too
  abbrev pub table : Table
  table = builder_table g

  -- and its book
  abbrev pub text : List ℕ
  text = table_text table

  abbrev pub IsState : ℕ → Type 0
  IsState q = (1 ≤ q) × (q ≤ table.states)

  -- item i with dot k stands in the kernel set of state q
  abbrev pub InKernel : ℕ → ℕ → ℕ → Type 0
  InKernel q i k = (σ : List ℕ) × KernelAt g table q i k σ

  -- a table with these entries, kernel sets and moves, of whatever contexts
  pub record HasStates (v : Table) : Type 0 where
    pub entries : v.entries ≡ table.entries
    pub kernels : (q i k : ℕ) → InKernel q i k → (τ : List ℕ) × KernelAt g v q i k τ
    pub moves : (q X s : ℕ) (x : Action) → ActionAt g table q X x → next_state x ≡ some s → (y : Action) × ActionAt g v q X y × (next_state y ≡ some s)

  -- "one cell would hold two different actions": the items of state q ask both of the cell for one symbol
  pub record TwoActions (q : ℕ) : Type 0 where
    pub symbol : ℕ
    pub one : Action
    pub other : Action
    pub asked_one : Asked g table (First g) q symbol one
    pub asked_other : Asked g table (First g) q symbol other
    pub differ : one ≡ other → ⊥

  abbrev pub LowestConflict : ℕ → Type 0
  LowestConflict q = TwoActions q × ((p : ℕ) → p < q → TwoActions p → ⊥)

  abbrev pub NoConflict : Type 0
  NoConflict = (q : ℕ) → TwoActions q → ⊥

  -- what is promised of the table
  pub record Construction : Type 0 where
    -- "The builder's kernels have the smallest contexts": a code stands in a kernel line exactly where the
    -- inclusions put it (`Lookahead`, an inductive family),
    pub contexts : (q i k d : ℕ) (σ : List ℕ) → KernelAt g table q i k σ → In d σ ↔ Lookahead g (First g) q i k d
    -- they satisfy the inclusions,
    pub inclusions : (q : ℕ) → LookaheadsMeet g table (First g) q
    -- and whatever contexts of the same states do hold these
    pub least : (v : Table) → HasStates v → ((q : ℕ) → LookaheadsMeet g v (First g) q) → (q i k d : ℕ) (σ τ : List ℕ)
        → KernelAt g table q i k σ → KernelAt g v q i k τ → In d σ → In d τ
    -- the entry lines are "the goal alone, then every other distinct group once", and each names the state that has its one item
    pub entries : EntriesMeet g table
    pub entry_states : (e s : ℕ) (γ : List ℕ) → EntryAt g table e s γ → KernelIs g table s (dot (entry γ) zero ∷ [])
    -- every state's kernel set is reached (`Kernels.antt`), and every one that is reached is a state's
    pub reached : (q : ℕ) → IsState q → (K : List Dotted) × Reached g K × KernelIs g table q K
    pub every_reached : (K : List Dotted) → Reached g K → (q : ℕ) × IsState q × KernelIs g table q K
    -- "with one state for each kernel set"
    pub distinct : (p q : ℕ) → IsState p → IsState q → ((i k : ℕ) → InKernel p i k ↔ InKernel q i k) → p ≡ q

pub record Promise (gs : List ℕ) (g : Grammar) : Type 0 where
  -- where there are no more entries, states and kernel lines than a book may have (`Kernels.antt`)
  pub construction : WithinLimits g → Construction g
  -- demand 2: it "refuses for a clash just where two actions meet in a cell": 9 at the lowest such state
  pub refuses_conflict : (room q : ℕ) → ((build_of gs room).reply ≡ refused Conflict q) ↔ (WithinLimits g × LowestConflict g q)
  -- the book is the table's, "followed by zeros"
  pub book_written : (room : ℕ) → (build_of gs room).reply ≡ Accepted 0 → (build_of gs room).slice ≡ text g ++ replicate (room - length (text g)) 0
  -- its length is handed over
  pub book_length : (room : ℕ) → (build_of gs room).reply ≡ Accepted 0 → (build_of gs room).length ≡ length (text g)
  -- "its books are always accepted": the checker replies 0
  pub book_accepted : (room : ℕ) → (build_of gs room).reply ≡ Accepted 0 → verdict_of gs (text g) ≡ Accepted 0
  -- "Within the limits, the builder writes that construction's book", where it fits what is lent
  pub writes : (room : ℕ) → ((build_of gs room).reply ≡ Accepted 0) ↔ (WithinLimits g × NoConflict g × (length (text g) ≤ 65536) × (length (text g) ≤ room))
  -- 2: more entries, states or kernel lines than a book may have, or, with no conflict, more bytes
  pub refuses_many : (room : ℕ) → ((build_of gs room).reply ≡ refused LimitExceeded 0) ↔ (TooMany g ⊎ (WithinLimits g × NoConflict g × (65536 < length (text g))))
  -- 11: all is well but the room that is lent
  pub refuses_short : (room : ℕ)
      → ((build_of gs room).reply ≡ refused BufferTooSmall 0) ↔ (WithinLimits g × NoConflict g × (length (text g) ≤ 65536) × (room < length (text g)))

abbrev pub BuilderPromise : Type 0
BuilderPromise = (gs : List ℕ) (g : Grammar) → grammar_of gs ≡ accepted g → Promise gs g
