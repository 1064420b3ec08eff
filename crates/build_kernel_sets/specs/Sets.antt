-- Kernel sets in memory, one after another, and where each begins.
use Rattle.std.specs.Prelude.{ℕ, zero, suc, ◌+◌, ◌-◌, ◌≤◌, ◌<◌, ◌≡◌, List, [], ◌∷◌, ◌++◌, length, get_or, take, drop}
use Rattle.language.specs.Sentence.{In}
use Rattle.build_states.specs.States.{Kernel, range, note_if, leave}
use Rattle.build_moves.specs.Moved.{Numbered, picked}

-- the numbers from a up to b
abbrev pub part : List ℕ → ℕ → ℕ → List ℕ
part sets a b = take (b - a) (drop a sets)

-- each set goes from its start to the next one's
unfoldable pub sets_in : List ℕ → List ℕ → ℕ → List Kernel
sets_in sets starts zero = []
sets_in sets starts (suc n) = sets_in sets starts n ++ part sets (get_or starts n 0) (get_or starts (n + 1) 0) ∷ []

-- so many sets, with so many numbers
pub record Bounds (sets starts : List ℕ) (states lines : ℕ) : Type 0 where
  pub first : get_or starts 0 0 ≡ 0
  pub rise : (p : ℕ) → p < states → get_or starts p 0 ≤ get_or starts (p + 1) 0
  pub last : get_or starts states 0 ≡ lines
  pub room : lines ≤ length sets
  pub index : states < length starts

-- p is the number, from 0, of a set that is m; as many as there are where none is
pub record FindsSet (ks : List Kernel) (m : Kernel) (p : ℕ) : Type 0 where
  pub found : p < length ks → get_or ks p [] ≡ m
  pub missing : length ks ≤ p → In m ks → ⊥

-- v leads from a state by m, what moves from it on a symbol: the number, from 1, of the state that has these items, 0 where nothing moves
abbrev pub Leads : List Kernel → Kernel → ℕ → Type 0
Leads ks m zero = m ≡ []
Leads ks m (suc s) = (s < length ks) × (get_or ks s [] ≡ m) × (m ≡ [] → ⊥)

-- the set m has joined those that memory held
pub record Joins (sets₀ starts₀ sets starts : List ℕ) (states₀ lines₀ : ℕ) (m : Kernel) (states lines state : ℕ) : Type 0 where
  pub bounds : Bounds sets starts states lines
  pub sets_are : sets_in sets starts states ≡ note_if (sets_in sets₀ starts₀ states₀) m
  pub leads : Leads (sets_in sets starts states) m state
  pub numbered : (count : ℕ) → Numbered count (take lines₀ sets₀) → Numbered count m → Numbered count (take lines sets)

-- the moves of a state, where l lists what moves from it, and what leaving it by them adds
abbrev pub moves_by : List ℕ → Kernel → ℕ → Kernel
moves_by l k X = picked X l

abbrev pub leave_by : List ℕ → List Kernel → List Kernel
leave_by l ks = leave (moves_by l) [] (range 1 127) ks
