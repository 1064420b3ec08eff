-- The builder's memory once its states are known, and its lookaheads.
use Rattle.std.specs.Prelude.{ℕ, suc, ◌+◌, ◌*◌, ◌≤◌, ◌<◌, ◌≡◌, List, [], length}
use Rattle.language.specs.Grammar.{Grammar}
use Rattle.language.specs.Sentence.{In}
use Rattle.leftcorner.specs.Table.{Table}
use Rattle.fixpoint.specs.Flags.{On}
use Rattle.memory.specs.Memory.{HoldsItems, HoldsEntries, state_at, item_at, dot_at}
use Rattle.closure.specs.InMemory.{LineIs}
use Rattle.moves.specs.Moves.{next_at}
use Rattle.check_entries.specs.Uses.{HoldsUses}
use Rattle.build_states.specs.Strings.{entry_strings, entry_lines}
use Rattle.build_states.specs.States.{item_of, dot_of, move, states, kernel_of, goto}
use Rattle.build_states.proofs.Limits.{Limits}

-- the entries of g, for what items mean
abbrev pub entry_table : Grammar → Table
entry_table g = record { states = length (entry_strings g); entries = entry_lines 1 (entry_strings g); kernels = []; actions = [] }

-- line l is that of an item of its state's kernel set
pub record LineOf (g : Grammar) (kernels : List ℕ) (l : ℕ) : Type 0 where
  pub number : ℕ
  pub stands : In number (kernel_of g (state_at kernels l))
  pub item : item_at kernels l ≡ item_of number
  pub dot : dot_at kernels l ≡ dot_of number
  pub low : 1 ≤ state_at kernels l
  pub high : state_at kernels l ≤ length (states g)

-- memory holds the items of g, its states' kernel lines and its next states; entry k's state is k
pub record StatesHeld (g : Grammar) (items entries uses kernels kinds values gotos : List ℕ) (rules strings lines all codes : ℕ) : Type 0 where
  pub limits : Limits g
  pub rule_count : length g.rules ≡ rules
  pub entry_count : length (entry_strings g) ≡ strings
  pub state_count : length (states g) ≡ all
  pub code_count : codes ≡ suc g.terminals
  pub holds_items : HoldsItems items g (entry_table g)
  pub holds_entries : HoldsEntries entries (entry_table g)
  pub holds_uses : HoldsUses uses g (entry_table g)
  pub line_of : (l : ℕ) → l < lines → LineOf g kernels l
  pub of_line : (q x : ℕ) → 1 ≤ q → q ≤ length (states g) → In x (kernel_of g q) → (l : ℕ) × LineIs kernels lines q (item_of x) (dot_of x) l
  pub next_is : (q X x : ℕ) → 1 ≤ q → q ≤ length (states g) → In x (move g (kernel_of g q) X) → next_at kinds values gotos q X ≡ goto g q X

-- "The builder's kernels have the smallest contexts": the flags of each line, 64 each, are those of its lookaheads
pub record HoldsLookaheads (Look : ℕ → ℕ → ℕ → ℕ → Type 0) (kernels lookaheads : List ℕ) (lines : ℕ) : Type 0 where
  pub only : (l c : ℕ) → l < lines → c < 64 → On lookaheads (l * 64 + c) → Look (state_at kernels l) (item_at kernels l) (dot_at kernels l) c
  pub every : (l c : ℕ) → l < lines → Look (state_at kernels l) (item_at kernels l) (dot_at kernels l) c → On lookaheads (l * 64 + c)
