-- The table that the builder writes. Document 01, 'Construction': "The builder's kernels have the smallest contexts, with one
-- state for each kernel set. [..] Its K lines rise by state, item, dot; its action lines by state, symbol."
use Rattle.std.specs.Prelude.{ℕ, zero, suc, ◌≡◌, ◌⊎◌, cond, List, [], ◌∷◌, ◌++◌, ltb, length}
use Rattle.std.proofs.Math.Option.{Option, some, none}
use Rattle.language.specs.Grammar.{Grammar}
use Rattle.language.specs.Sentence.{In}
use Rattle.leftcorner.specs.Table.{EntryLine, E, KernelLine, K, Action, S, N, A, P, ActionLine, L, Table}
use Rattle.leftcorner.specs.Construction.{Asked}
use Rattle.check_verdict.proofs.CellsDecided.{asked?}
use Rattle.build_states.specs.Strings.{entry_strings, entry_lines}
use Rattle.build_states.specs.States.{Kernel, item_of, dot_of, range, keep, states, goto}
use Rattle.build_states.specs.Lookaheads.{Lookahead}
use Rattle.build_states.proofs.LookaheadDecided.{lookahead?}

-- the first of some actions that is asked of a cell
abbrev pub or_else : {P : Type 0} → Dec P → Action → Option Action → Option Action
or_else (yes p) x o = some x
or_else (no f) x o = o

-- a cell's line, where it holds an action
abbrev pub line_if : ℕ → ℕ → Option Action → List ActionLine → List ActionLine
line_if q X none l = l
line_if q X (some x) l = L q X x ∷ l

-- the lines of a table with these cells: "its action lines by state, symbol"
module _ (cells : ℕ → ℕ → Option Action) where
  abbrev pub actions_on : ℕ → List ℕ → List ActionLine → List ActionLine
  actions_on q [] l = l
  actions_on q (X ∷ xs) l = line_if q X (cells q X) (actions_on q xs l)

  abbrev pub actions_of : List ℕ → List ActionLine
  actions_of [] = []
  actions_of (q ∷ qs) = actions_on q (range 0 128) (actions_of qs)

module _ (g : Grammar) (F : List ℕ → ℕ → ℕ → Type 0) (F? : (β : List ℕ) (d c : ℕ) → Dec (F β d c)) (first-codes : List ℕ)
    (F-in : (β : List ℕ) (d c : ℕ) → F β d c → (c ≡ d) ⊎ In c first-codes) where
  -- a context as its codes, rising
  unfoldable pub codes_at : ℕ → ℕ → List ℕ
  codes_at q x = keep (Lookahead g F q (item_of x) (dot_of x)) (lookahead? g F F? first-codes F-in q (item_of x) (dot_of x)) (range 0 (suc g.terminals))

  abbrev pub lines_of : ℕ → Kernel → List KernelLine
  lines_of q [] = []
  lines_of q (x ∷ k) = K q (item_of x) (dot_of x) (codes_at q x) ∷ lines_of q k

  abbrev pub all_lines : ℕ → List Kernel → List KernelLine
  all_lines q [] = []
  all_lines q (k ∷ ks) = lines_of q k ++ all_lines (suc q) ks

  -- the table without its action lines: what is asked of its cells shows in it already
  unfoldable pub items : Table
  items = record { states = length (states g); entries = entry_lines 1 (entry_strings g); kernels = all_lines 1 (states g); actions = [] }

  abbrev pub cell_asked? : (q X : ℕ) (x : Action) → Dec (Asked g items F q X x)
  cell_asked? q X x = asked? g items F F? first-codes F-in q X x

  -- "Shift, or N, on each possible move"
  abbrev pub move_to : ℕ → ℕ → Action
  move_to q X = cond (ltb X 64) (S (goto g q X)) (N (goto g q X))

  -- a rule that is announced there, from the rules below i
  unfoldable pub announced : ℕ → ℕ → ℕ → Option Action
  announced q X zero = none
  announced q X (suc i) = or_else (cell_asked? q X (A (suc i))) (A (suc i)) (announced q X i)

  -- an entry that is finished there
  unfoldable pub finished : ℕ → ℕ → List EntryLine → Option Action
  finished q X [] = none
  finished q X (E s γ ∷ l) = or_else (cell_asked? q X (P (suc (length γ)))) (P (suc (length γ))) (finished q X l)

  abbrev pub first_of : Option Action → Option Action → Option Action
  first_of (some x) o = some x
  first_of none o = o

  -- the one action that is asked of a cell
  unfoldable pub cell_action : ℕ → ℕ → Option Action
  cell_action q X =
      first_of (or_else (cell_asked? q X (S 0)) (move_to q X) none) (first_of (announced q X (length g.rules)) (finished q X items.entries))

  unfoldable pub built : Table
  built = record { states = items.states; entries = items.entries; kernels = items.kernels; actions = actions_of cell_action (range 1 (length (states g))) }
