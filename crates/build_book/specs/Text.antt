-- The bytes of a table book.
use Rattle.std.specs.Prelude.{ℕ, List, [], ◌∷◌, ◌++◌, length}
use Rattle.text.specs.Digits.{digits}
use Rattle.leftcorner.specs.Table.{EntryLine, E, KernelLine, K, Action, S, N, A, P, ActionLine, L, Table}

-- fields, each after a comma, 44
abbrev pub fields : List ℕ → List ℕ
fields [] = []
fields (v ∷ vs) = 44 ∷ (digits v ++ fields vs)

-- a line: its letter, its fields, LF
abbrev pub line : ℕ → List ℕ → List ℕ
line letter vs = letter ∷ (fields vs ++ 10 ∷ [])

abbrev pub entry_text : List EntryLine → List ℕ
entry_text [] = []
entry_text (E s γ ∷ l) = line 69 (s ∷ γ) ++ entry_text l

abbrev pub kernel_text : List KernelLine → List ℕ
kernel_text [] = []
kernel_text (K q i k σ ∷ l) = line 75 (q ∷ i ∷ k ∷ σ) ++ kernel_text l

abbrev pub action_bytes : ℕ → ℕ → Action → List ℕ
action_bytes q X (S s) = line 83 (q ∷ X ∷ s ∷ [])
action_bytes q X (N s) = line 78 (q ∷ X ∷ s ∷ [])
action_bytes q X (A i) = line 65 (q ∷ X ∷ i ∷ [])
action_bytes q X (P n) = line 80 (q ∷ X ∷ n ∷ [])

abbrev pub action_text : List ActionLine → List ℕ
action_text [] = []
action_text (L q X x ∷ l) = action_bytes q X x ++ action_text l

-- `T,states,entries`, then the blocks
unfoldable pub table_text : Table → List ℕ
table_text t = line 84 (t.states ∷ length t.entries ∷ []) ++ (entry_text t.entries ++ (kernel_text t.kernels ++ action_text t.actions))
