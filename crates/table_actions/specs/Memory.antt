-- Action lines in memory: cells dense by state and code, gotos dense by state and nonterminal.
use Rattle.std.specs.Prelude.{ℕ, ◌+◌, ◌*◌, ◌-◌, ◌/◌, ◌%◌, ◌≤◌, ◌<◌, ◌≡◌, List, [], ◌∷◌, Bool, false, ◌||◌, eqb, length, set}
use Rattle.std.proofs.Math.Option.{Option}
use Rattle.leftcorner.specs.Table.{Action, S, N, A, P, ActionLine, L, action_for, goto_state}
use Rattle.memory.specs.Memory.{kind_of, pop_value, value_of}
use Rattle.table_order.specs.Order.{action_key}
use Rattle.table_order.specs.Last.{LastIs}
use Rattle.table_order.proofs.OrderLaws.{RisingBy}
use Rattle.table_lines.specs.Image.{image, flag}

-- at state * 64 + code
unfoldable pub cell_at : (Option Action → ℕ) → List ActionLine → ℕ → ℕ
cell_at f l x = f (action_for l (x / 64) (x % 64))

abbrev pub kind_at : List ActionLine → ℕ → ℕ
kind_at = cell_at kind_of

abbrev pub value_at : List ActionLine → ℕ → ℕ
value_at = cell_at value_of

-- at state * 64 + nonterminal - 64
unfoldable pub goto_at : List ActionLine → ℕ → ℕ
goto_at l x = goto_state (action_for l (x / 64) (64 + x % 64))

-- q is named as next by a line S or N
abbrev pub names : Action → ℕ → Bool
names (S s) q = eqb s q
names (N s) q = eqb s q
names (A i) q = false
names (P n) q = false

abbrev pub is_named : List ActionLine → ℕ → Bool
is_named [] q = false
is_named (L p X x ∷ l) q = names x q || is_named l q

-- what a line that was taken is: its symbol of the kind that its letter asks for, with figures that fit a byte
abbrev pub Formed : ActionLine → Type 0
Formed (L q X (S s)) = (1 ≤ q) × (q ≤ 255) × (X < 64) × (1 ≤ s) × (s ≤ 255)
Formed (L q X (N s)) = (1 ≤ q) × (q ≤ 255) × ((64 ≤ X) × (X < 128)) × (1 ≤ s) × (s ≤ 255)
Formed (L q X (A i)) = (1 ≤ q) × (q ≤ 255) × (X < 64) × (1 ≤ i) × (i ≤ 255)
Formed (L q X (P n)) = (1 ≤ q) × (q ≤ 255) × (X < 64) × (0 ≤ n) × (n ≤ 65535)

-- the cells and gotos of these lines
pub record Cells (a b c : ℕ) (l : List ActionLine) (kinds values gotos : List ℕ) : Type 0 where
  pub kinds_are : kinds ≡ image a (kind_at l)
  pub values_are : values ≡ image b (value_at l)
  pub gotos_are : gotos ≡ image c (goto_at l)

-- what a line stores: a cell, or a goto; and that its next state is named
abbrev pub Stored : ActionLine → (kinds values gotos named kinds' values' gotos' named' : List ℕ) → Type 0
Stored (L q X (S s)) k v g n k' v' g' n' = (k' ≡ set k (q * 64 + X) 1) × (v' ≡ set v (q * 64 + X) s) × (g' ≡ g) × (n' ≡ set n s 1)
Stored (L q X (N s)) k v g n k' v' g' n' = (k' ≡ k) × (v' ≡ v) × (g' ≡ set g (q * 64 + X - 64) s) × (n' ≡ set n s 1)
Stored (L q X (A i)) k v g n k' v' g' n' = (k' ≡ set k (q * 64 + X) 2) × (v' ≡ set v (q * 64 + X) i) × (g' ≡ g) × (n' ≡ n)
Stored (L q X (P c)) k v g n k' v' g' n' = (k' ≡ set k (q * 64 + X) 3) × (v' ≡ set v (q * 64 + X) (pop_value c)) × (g' ≡ g) × (n' ≡ n)

-- memory of flags
pub record Flags (m : List ℕ) : Type 0 where
  pub test : ℕ → Bool
  pub flags_are : m ≡ image (length m) (λ q. flag (test q))

-- memory with these action lines read; `entered` tells the states that entries have
pub record ActionImage (entered : ℕ → Bool) (a b c d : ℕ) (l : List ActionLine) (kinds values gotos named : List ℕ) : Type 0 where
  pub cells : Cells a b c l kinds values gotos
  pub named_are : named ≡ image d (λ q. flag (entered q || is_named l q))

-- and the last line's key; the lines rise
pub record ActionMemory (entered : ℕ → Bool) (a b c d : ℕ) (l : List ActionLine) (kinds values gotos named last : List ℕ) : Type 0 where
  pub held : ActionImage entered a b c d l kinds values gotos named
  pub last_is : LastIs action_key last l
  pub rises : RisingBy action_key l
