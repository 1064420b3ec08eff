-- What the slices that hold a grammar and its table say, cell by cell.
use Rattle.std.specs.Prelude.{ℕ, ◌+◌, ◌*◌, ◌-◌, ◌<◌, ◌≡◌, cond, ◌&&◌, List, leb, get_or}
use Rattle.std.proofs.Math.Option.{Option, some, none}
use Rattle.language.specs.Grammar.{Grammar, Rule, rule_at, at}
use Rattle.language.specs.Sentence.{In}
use Rattle.leftcorner.specs.Table.{E, K, Action, S, N, A, P, Table, entry_at, action_for, goto_state}
use Rattle.leftcorner.specs.Construction.{entry_item}
use Rattle.items.specs.Layout.{RuleIn, EntryIn}
use Rattle.fixpoint.specs.Flags.{On}

-- the item table: rows of 64 bytes by item number, rules first, then entry strings
pub record HoldsItems (items : List ℕ) (g : Grammar) (t : Table) : Type 0 where
  pub rule_row : (i : ℕ) {r : Rule} → rule_at g i ≡ some r → RuleIn items i r
  pub entry_row : (k s : ℕ) {γ : List ℕ} → entry_at t k ≡ some (E s γ) → EntryIn items (entry_item g t k) γ

-- the state of each entry, by its number
pub record HoldsEntries (entries : List ℕ) (t : Table) : Type 0 where
  pub state_is : (k s : ℕ) {γ : List ℕ} → entry_at t k ≡ some (E s γ) → get_or entries k 0 ≡ s

-- kernel lines, four bytes each: state, item, dot, 0; and 64 flags each, one for each code
abbrev pub state_at : List ℕ → ℕ → ℕ
state_at kernels l = get_or kernels (l * 4) 0

abbrev pub item_at : List ℕ → ℕ → ℕ
item_at kernels l = get_or kernels (l * 4 + 1) 0

abbrev pub dot_at : List ℕ → ℕ → ℕ
dot_at kernels l = get_or kernels (l * 4 + 2) 0

pub record HoldsKernels (kernels lookaheads : List ℕ) (t : Table) : Type 0 where
  pub line_state : (l q i k : ℕ) {σ : List ℕ} → at t.kernels l ≡ some (K q i k σ) → state_at kernels l ≡ q
  pub line_item : (l q i k : ℕ) {σ : List ℕ} → at t.kernels l ≡ some (K q i k σ) → item_at kernels l ≡ i
  pub line_dot : (l q i k : ℕ) {σ : List ℕ} → at t.kernels l ≡ some (K q i k σ) → dot_at kernels l ≡ k
  pub code_on : (l q i k d : ℕ) {σ : List ℕ} → at t.kernels l ≡ some (K q i k σ) → In d σ → On lookaheads (l * 64 + d)
  pub on_code : (l q i k d : ℕ) {σ : List ℕ} → at t.kernels l ≡ some (K q i k σ) → d < 64 → On lookaheads (l * 64 + d) → In d σ

-- cells at state * 64 + code: 0 empty, 1 shift, 2 announce, 3 pop, with the next state, the rule, or one less than the count of
-- states to pop; no right count is 0 or above 16, so 255 stands for those that do not fit
abbrev pub kind_of : Option Action → ℕ
kind_of none = 0
kind_of (some (S s)) = 1
kind_of (some (N s)) = 0
kind_of (some (A i)) = 2
kind_of (some (P n)) = 3

abbrev pub pop_value : ℕ → ℕ
pop_value n = cond (leb 1 n && leb n 255) (n - 1) 255

abbrev pub value_of : Option Action → ℕ
value_of none = 0
value_of (some (S s)) = s
value_of (some (N s)) = 0
value_of (some (A i)) = i
value_of (some (P n)) = pop_value n

-- next states at state * 64 + nonterminal - 64, 0 for none
pub record HoldsActions (kinds values gotos : List ℕ) (t : Table) : Type 0 where
  pub kind_is : (q c : ℕ) → q < 256 → c < 64 → get_or kinds (q * 64 + c) 0 ≡ kind_of (action_for t.actions q c)
  pub value_is : (q c : ℕ) → q < 256 → c < 64 → get_or values (q * 64 + c) 0 ≡ value_of (action_for t.actions q c)
  pub goto_is : (q b : ℕ) → q < 256 → b < 64 → get_or gotos (q * 64 + b) 0 ≡ goto_state (action_for t.actions q (64 + b))
