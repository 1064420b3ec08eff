-- Tables as the lines of a table book, their items, and the machine that they give. Document 01, 'Books'.
use Rattle.std.specs.Prelude.{ℕ, zero, suc, ◌-◌, ◌≡◌, Bool, cond, ◌&&◌, List, [], ◌∷◌, map, leb, eqb, length, drop}
use Rattle.std.proofs.Math.Option.{Option, some, none}
use Rattle.language.specs.Grammar.{Grammar, Rule, right, at, rule_at}
use Rattle.leftcorner.specs.Machine.{Cell, shift, announce, pop, empty, Automaton}

-- "entry lines `E,state,symbols`"
pub data EntryLine : Type 0 where
  E : ℕ → List ℕ → EntryLine

-- "kernel lines `K,state,item,dot,codes`"
pub data KernelLine : Type 0 where
  K : ℕ → ℕ → ℕ → List ℕ → KernelLine

-- "`S,state,terminal,next` shift; `N,state,nonterminal,next`; `A,state,terminal,rule` announce; `P,state,terminal,count` pop"
pub data Action : Type 0 where
  S : ℕ → Action
  N : ℕ → Action
  A : ℕ → Action
  P : ℕ → Action

-- an action line: state, symbol, and what its letter and last field say
pub data ActionLine : Type 0 where
  L : ℕ → ℕ → Action → ActionLine

pub record Table : Type 0 where
  pub states : ℕ
  pub entries : List EntryLine
  pub kernels : List KernelLine
  pub actions : List ActionLine

-- entry lines are numbered from 1
abbrev pub entry_at : Table → ℕ → Option EntryLine
entry_at t zero = none
entry_at t (suc k) = at t.entries k

abbrev pub string_of : Option EntryLine → List ℕ
string_of none = []
string_of (some (E s γ)) = γ

abbrev pub state_of : Option EntryLine → ℕ
state_of none = 0
state_of (some (E s γ)) = s

-- the next state of a line S or N
abbrev pub next_state : Action → Option ℕ
next_state (S s) = some s
next_state (N s) = some s
next_state (A i) = none
next_state (P n) = none

abbrev pub right_of : Option Rule → List ℕ
right_of none = []
right_of (some r) = right r

abbrev pub mark_of : Option Rule → Option ℕ
mark_of none = none
mark_of (some r) = some (length r.before)

abbrev pub groups_of : Option Rule → List (List ℕ)
groups_of none = []
groups_of (some r) = r.groups

module _ (g : Grammar) (t : Table) where
  -- "Item i up to r is rule i; item r+k is the string of entry line k."
  abbrev pub rule_count : ℕ
  rule_count = length g.rules

  abbrev pub symbols_of : ℕ → List ℕ
  symbols_of i = cond (leb i rule_count) (right_of (rule_at g i)) (string_of (entry_at t (i - rule_count)))

  -- the recognition point; "Entry items have no recognition point."
  abbrev pub recognition_point : ℕ → Option ℕ
  recognition_point i = cond (leb i rule_count) (mark_of (rule_at g i)) none

  -- item i's dot k stands before X, with β after X, and not at its recognition point
  pub record Goes (i k X : ℕ) (β : List ℕ) : Type 0 where
    pub before : drop k (symbols_of i) ≡ X ∷ β
    pub unmarked : recognition_point i ≡ some k → ⊥

-- ---- what the machine reads

abbrev pub same_string : List ℕ → List ℕ → Bool
same_string [] [] = eqb 0 0
same_string [] (y ∷ m) = eqb 0 1
same_string (x ∷ l) [] = eqb 0 1
same_string (x ∷ l) (y ∷ m) = eqb x y && same_string l m

-- the number of the entry with this string, where the first of the lines has number k
abbrev pub entry_from : ℕ → List EntryLine → List ℕ → ℕ
entry_from k [] γ = 0
entry_from k (E s δ ∷ l) γ = cond (same_string δ γ) k (entry_from (suc k) l γ)

abbrev pub action_for : List ActionLine → ℕ → ℕ → Option Action
action_for [] q X = none
action_for (L p Y x ∷ l) q X = cond (eqb p q && eqb Y X) (some x) (action_for l q X)

abbrev pub goto_state : Option Action → ℕ
goto_state none = 0
goto_state (some (S s)) = s
goto_state (some (N s)) = s
goto_state (some (A i)) = 0
goto_state (some (P n)) = 0

module _ (g : Grammar) (t : Table) where
  -- the entries of a rule's groups
  abbrev pub group_entries : ℕ → List ℕ
  group_entries i = map (entry_from 1 t.entries) (groups_of (rule_at g i))

  abbrev pub cell_of : Option Action → Cell
  cell_of none = empty
  cell_of (some (S s)) = shift s
  cell_of (some (N s)) = empty
  cell_of (some (A i)) = announce i (group_entries i)
  cell_of (some (P n)) = pop n

  abbrev pub automaton : Automaton
  automaton = record {
    enter = λ k. state_of (entry_at t k);
    goto = λ q X. goto_state (action_for t.actions q X);
    cell = λ q c. cell_of (action_for t.actions q c);
  }
