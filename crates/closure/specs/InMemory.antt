-- A grammar and its kernel lines in memory, as far as closures speak of them; and what a closure in memory says of a state's items.
use Rattle.std.specs.Prelude.{ℕ, zero, ◌+◌, ◌*◌, ◌≤◌, ◌<◌, ◌≡◌, ◌⊎◌, List, length}
use Rattle.std.proofs.Math.Option.{some}
use Rattle.language.specs.Grammar.{Grammar, Rule, rule_at}
use Rattle.language.specs.Sentence.{In}
use Rattle.leftcorner.specs.Table.{Table}
use Rattle.leftcorner.specs.Construction.{entry_item, EntryAt, KernelAt}
use Rattle.items.specs.Layout.{left_at}
use Rattle.memory.specs.Memory.{HoldsItems, HoldsKernels, state_at, item_at, dot_at}
use Rattle.fixpoint.specs.Flags.{On}

-- item i is a rule, or the string of an entry
abbrev pub DeclaredItem : Grammar → Table → ℕ → Type 0
DeclaredItem g t i = ((r : Rule) × (rule_at g i ≡ some r)) ⊎ ((j : ℕ) × (s : ℕ) × (γ : List ℕ) × (i ≡ entry_item g t j) × EntryAt g t j s γ)

pub record InMemory (m kernels lookaheads : List ℕ) (rules lines codes : ℕ) (g : Grammar) (t : Table) : Type 0 where
  pub holds_items : HoldsItems m g t
  pub holds_kernels : HoldsKernels kernels lookaheads t
  pub rule_count : length g.rules ≡ rules
  pub line_count : length t.kernels ≡ lines
  pub left_kind : (i : ℕ) {r : Rule} → rule_at g i ≡ some r → 64 ≤ r.left
  pub item_declared : (q i k : ℕ) (σ : List ℕ) → KernelAt g t q i k σ → DeclaredItem g t i
  pub code_low : (q i k d : ℕ) (σ : List ℕ) → KernelAt g t q i k σ → In d σ → d < codes

-- line l is that of item i with dot k in state q
pub record LineIs (kernels : List ℕ) (lines q i k l : ℕ) : Type 0 where
  pub within : l < lines
  pub state : state_at kernels l ≡ q
  pub item : item_at kernels l ≡ i
  pub dot : dot_at kernels l ≡ k

-- the items of a closure: those of q's kernel lines, and the rules of the nonterminals that are flagged
pub data HasIn (m kernels present : List ℕ) (rules lines q i : ℕ) : ℕ → Type 0 where
  by_line : {k : ℕ} (l : ℕ) → LineIs kernels lines q i k l → HasIn m kernels present rules lines q i k
  by_rule : (b : ℕ) → 1 ≤ i → i ≤ rules → left_at m i ≡ 64 + b → On present b → HasIn m kernels present rules lines q i zero

-- and their lookaheads: those of the line, and those that can follow the nonterminal
pub data CarriesIn (m kernels lookaheads follow : List ℕ) (rules lines codes q i : ℕ) : ℕ → ℕ → Type 0 where
  by_line : {k d : ℕ} (l : ℕ) → LineIs kernels lines q i k l → d < codes → On lookaheads (l * 64 + d) → CarriesIn m kernels lookaheads follow rules lines codes q i k d
  by_rule : {d : ℕ} (b : ℕ) → 1 ≤ i → i ≤ rules → left_at m i ≡ 64 + b → d < codes → On follow (b * 64 + d) → CarriesIn m kernels lookaheads follow rules lines codes q i zero d
