-- The states of the builder, in order of discovery, and their kernel sets.
use Rattle.std.specs.Prelude.{ℕ, zero, suc, ◌+◌, ◌*◌, ◌/◌, ◌%◌, cond, List, [], ◌∷◌, map, ltb, length, get_or}
use Rattle.language.specs.Grammar.{Grammar}
use Rattle.leftcorner.specs.Table.{KernelLine, K, Table, same_string}
use Rattle.leftcorner.specs.Construction.{MovedBy}
use Rattle.check_verdict.proofs.ItemsDecided.{moved?}
use Rattle.build_states.specs.Strings.{add_string, entry_strings, entry_lines}

-- a kernel set is the rising list of its items, each as item * 16 + dot
abbrev pub Kernel : Type 0
Kernel = List ℕ

abbrev pub item_of : ℕ → ℕ
item_of x = x / 16

abbrev pub dot_of : ℕ → ℕ
dot_of x = x % 16

-- the numbers from a on, as many as n
abbrev pub range : ℕ → ℕ → List ℕ
range a zero = []
range a (suc n) = a ∷ range (suc a) n

abbrev pub keep_if : {P : Type 0} → Dec P → ℕ → List ℕ → List ℕ
keep_if (yes p) x l = x ∷ l
keep_if (no f) x l = l

-- the numbers of a list that pass a test
unfoldable pub keep : (P : ℕ → Type 0) → ((x : ℕ) → Dec (P x)) → List ℕ → List ℕ
keep P test [] = []
keep P test (x ∷ l) = keep_if (test x) x (keep P test l)

-- the number of a kernel set, from 0; as many as there are, where it is none of them
abbrev pub find : Kernel → List Kernel → ℕ
find k [] = 0
find k (h ∷ ks) = cond (same_string h k) 0 (suc (find k ks))

-- the kernel set of a move joins the states, where something moves and the set is new
unfoldable pub note : List Kernel → Kernel → List Kernel
note ks [] = ks
note ks (x ∷ m) = add_string ks (x ∷ m)

abbrev pub total : List Kernel → ℕ
total [] = 0
total (k ∷ ks) = length k + total ks

-- where there are more states or kernel lines than a book may have, nothing joins any more: the refusal is certain
unfoldable pub note_if : List Kernel → Kernel → List Kernel
note_if ks m = cond (ltb 255 (length ks)) ks (cond (ltb 1023 (total ks)) ks (note ks m))

module _ (move : Kernel → ℕ → Kernel) where
  -- the moves of one state on the symbols, "symbols by code"
  unfoldable pub leave : Kernel → List ℕ → List Kernel → List Kernel
  leave k [] ks = ks
  leave k (X ∷ xs) ks = leave k xs (note_if ks (move k X))

  -- the moves of the states from q on, as many as f, "states by number"
  unfoldable pub explore : ℕ → ℕ → List Kernel → List Kernel
  explore zero q ks = ks
  explore (suc f) q ks = cond (ltb q (length ks)) (explore f (suc q) (leave (get_or ks q []) (range 1 127) ks)) ks

module _ (g : Grammar) where
  -- a table that has one state, with this kernel set
  abbrev pub kernel_line : ℕ → KernelLine
  kernel_line x = K 1 (item_of x) (dot_of x) []

  abbrev pub alone : Kernel → Table
  alone k = record { states = 1; entries = entry_lines 1 (entry_strings g); kernels = map kernel_line k; actions = [] }

  -- the items that move from a kernel set on X, past it; every item and dot is below 4096
  unfoldable pub move : Kernel → ℕ → Kernel
  move k X = keep (λ x. MovedBy g (alone k) 1 X (item_of x) (dot_of x)) (λ x. moved? g (alone k) 1 X (item_of x) (dot_of x)) (range 0 4096)

  -- entry j's kernel set is its item, dot 0
  abbrev pub entry_kernels : ℕ → List (List ℕ) → List Kernel
  entry_kernels i [] = []
  entry_kernels i (γ ∷ l) = (i * 16 ∷ []) ∷ entry_kernels (suc i) l

  unfoldable pub states : List Kernel
  states = explore move 255 0 (entry_kernels (suc (length g.rules)) (entry_strings g))

  -- the state that q goes to on X; states are numbered from 1
  abbrev pub kernel_of : ℕ → Kernel
  kernel_of zero = []
  kernel_of (suc q) = get_or states q []

  unfoldable pub goto : ℕ → ℕ → ℕ
  goto q X = suc (find (move (kernel_of q) X) states)
