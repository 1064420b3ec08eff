-- The construction: what the lines of a table must be. Document 01, 'Construction', clause by clause.
use Rattle.std.specs.Prelude.{ℕ, zero, suc, ◌+◌, ◌≤◌, ◌≡◌, ◌⊎◌, List, [], ◌∷◌, ◌++◌, length}
use Rattle.std.proofs.Math.Option.{some}
use Rattle.language.specs.Grammar.{Grammar, Rule, rule_at, concat, IsTerminal, IsNonterminal}
use Rattle.language.specs.Sentence.{In}
use Rattle.language.specs.First.{First}
use Rattle.leftcorner.specs.Table.{E, K, Action, S, N, A, P, L, Table, entry_at, next_state, rule_count, Goes}

-- the strings that have an entry: "the goal alone, then every other distinct group once"
pub data Wanted (g : Grammar) (γ : List ℕ) : Type 0 where
  of_goal : γ ≡ g.goal ∷ [] → Wanted g γ
  of_group : (i : ℕ) {r : Rule} → rule_at g i ≡ some r → In γ r.groups → Wanted g γ

-- an action with its next state forgotten: any state with the right kernel and lookaheads will do
abbrev pub forget : Action → Action
forget (S s) = S 0
forget (N s) = S 0
forget (A i) = A i
forget (P n) = P n

module _ (g : Grammar) (t : Table) where
  -- the item of entry line k
  abbrev pub entry_item : ℕ → ℕ
  entry_item k = rule_count g t + k

  abbrev pub EntryAt : ℕ → ℕ → List ℕ → Type 0
  EntryAt k s γ = entry_at t k ≡ some (E s γ)

  abbrev pub KernelAt : ℕ → ℕ → ℕ → List ℕ → Type 0
  KernelAt q i k σ = In (K q i k σ) t.kernels

  abbrev pub ActionAt : ℕ → ℕ → Action → Type 0
  ActionAt q X x = In (L q X x) t.actions

  -- the closure of state q without lookaheads: the smallest set with q's kernel items and, for an item whose dot stands
  -- before X and not at its recognition point, every rule of X with dot 0
  pub data Has (q : ℕ) : ℕ → ℕ → Type 0 where
    in_kernel : {i k : ℕ} {σ : List ℕ} → KernelAt q i k σ → Has q i k
    in_closure : {i k X : ℕ} (j : ℕ) {β : List ℕ} {r : Rule} → Has q i k → Goes g t i k X β → rule_at g j ≡ some r → r.left ≡ X → Has q j zero

  -- "from state Q on symbol X, every item with the dot before X and not at its recognition point moves past X"
  pub data MovedBy (q X i : ℕ) : ℕ → Type 0 where
    moved : {k : ℕ} {β : List ℕ} → Has q i k → Goes g t i k X β → MovedBy q X i (suc k)

  -- what a table book's form promises of the lines that were read
  pub record WellFormed : Type 0 where
    pub one_entry : (j k s u : ℕ) (γ : List ℕ) → EntryAt j s γ → EntryAt k u γ → j ≡ k
    pub one_action : (q X : ℕ) (x y : Action) → ActionAt q X x → ActionAt q X y → x ≡ y
    pub some_code : (q i k : ℕ) (σ : List ℕ) → KernelAt q i k σ → (d : ℕ) × In d σ
    pub item_declared : (q i k : ℕ) (σ : List ℕ) → KernelAt q i k σ
        → ((r : Rule) × (rule_at g i ≡ some r)) ⊎ ((j : ℕ) × (s : ℕ) × (γ : List ℕ) × (i ≡ entry_item j) × EntryAt j s γ)
    pub kernel_state : (q i k : ℕ) (σ : List ℕ) → KernelAt q i k σ → (1 ≤ q) × (q ≤ t.states)
    pub entry_state : (k s : ℕ) (γ : List ℕ) → EntryAt k s γ → (1 ≤ s) × (s ≤ t.states)
    pub action_state : (q X : ℕ) (x : Action) → ActionAt q X x → (1 ≤ q) × (q ≤ t.states)
    pub shift_kind : (q a s : ℕ) → ActionAt q a (S s) → IsTerminal g a
    pub goto_kind : (q X s : ℕ) → ActionAt q X (N s) → IsNonterminal g X

  -- reply 7 at place 0. "Entries: the goal alone, then every other distinct group once. Entry line 1 is the goal."
  pub record EntriesMeet : Type 0 where
    pub goal_first : (s : ℕ) × EntryAt 1 s (g.goal ∷ [])
    pub only_wanted : (k s : ℕ) (γ : List ℕ) → EntryAt k s γ → Wanted g γ
    pub all_wanted : (γ : List ℕ) → Wanted g γ → (k : ℕ) × (s : ℕ) × EntryAt k s γ

  -- reply 7 at state q
  pub record ItemsMeet (q : ℕ) : Type 0 where
    -- "Entry k's state, named by its line, has the one kernel item r+k, dot 0."
    pub entry_has : (k : ℕ) (γ : List ℕ) → EntryAt k q γ → (σ : List ℕ) × KernelAt q (entry_item k) zero σ
    pub entry_only : (k : ℕ) (γ : List ℕ) → EntryAt k q γ → (i n : ℕ) (σ : List ℕ) → KernelAt q i n σ → (i ≡ entry_item k) × (n ≡ zero)
    -- "The target's kernel is exactly the moved items"
    pub move_has : (X s i n : ℕ) (x : Action) → ActionAt q X x → next_state x ≡ some s → MovedBy q X i n → (σ : List ℕ) × KernelAt s i n σ
    pub move_only : (X s i n : ℕ) (x : Action) → ActionAt q X x → next_state x ≡ some s → MovedBy q X i n
        → (j m : ℕ) (σ : List ℕ) → KernelAt s j m σ → MovedBy q X j m
    -- not "a state neither entry nor named as next by an S or N line"
    pub named : 1 ≤ q → q ≤ t.states → ((k : ℕ) × (γ : List ℕ) × EntryAt k q γ) ⊎ ((p : ℕ) × (X : ℕ) × (x : Action) × ActionAt p X x × (next_state x ≡ some q))

  -- F β d c: c is in first(β, {d}). A checker decides the construction with a first that goes by rules; `Meets` has `First`.
  module _ (F : List ℕ → ℕ → ℕ → Type 0) where
    -- the closure of state q with lookaheads ("contexts"): code d stands in that of item i with dot k.
    -- "that context includes first(β, σ). Closure items and contexts are the smallest that satisfy this."
    pub data Carries (q : ℕ) : ℕ → ℕ → ℕ → Type 0 where
      in_kernel : {i k d : ℕ} {σ : List ℕ} → KernelAt q i k σ → In d σ → Carries q i k d
      in_closure : {i k d X : ℕ} (j : ℕ) {c : ℕ} {β : List ℕ} {r : Rule} → Carries q i k d → Goes g t i k X β → rule_at g j ≡ some r → r.left ≡ X
          → F β d c → Carries q j zero c

    -- what the items of q ask of the cell for X
    pub data Asked (q X : ℕ) : Action → Type 0 where
      -- "Shift, or N, on each possible move."
      to_move : {i n : ℕ} → MovedBy q X i n → Asked q X (S 0)
      -- "at the recognition point with rest β and context σ, announce on each of first(β, σ)"
      to_announce : (i : ℕ) {d : ℕ} {r : Rule} → rule_at g i ≡ some r → Carries q i (length r.before) d → F (concat r.groups) d X → Asked q X (A i)
      -- "A finished entry item pops 1 plus its length on each code of its context."
      to_pop : (k : ℕ) {s : ℕ} {γ : List ℕ} → EntryAt k s γ → Carries q (entry_item k) (length γ) X → Asked q X (P (suc (length γ)))

    -- reply 8 at q, the state whose lookaheads are too few
    pub record LookaheadsMeet (q : ℕ) : Type 0 where
      -- "with contexts at least as large"
      pub of_move : (p X i k d : ℕ) (β σ : List ℕ) (x : Action) → ActionAt p X x → next_state x ≡ some q → Carries p i k d → Goes g t i k X β
          → KernelAt q i (suc k) σ → In d σ
      -- "if Q holds a rule at its recognition point with context σ, group j's entry context includes first(groups after j, σ)"
      pub of_group : (k p i d c : ℕ) (γ σ : List ℕ) (r : Rule) (δs εs : List (List ℕ)) → EntryAt k q γ → rule_at g i ≡ some r → r.groups ≡ δs ++ γ ∷ εs
          → Carries p i (length r.before) d → F (concat εs) d c → KernelAt q (entry_item k) zero σ → In c σ
      -- "The goal's entry context includes 0."
      pub of_goal : (γ σ : List ℕ) → EntryAt 1 q γ → KernelAt q (entry_item 1) zero σ → In 0 σ

    -- reply 9 at q: not "one cell would hold two different actions"
    pub record CellsAgree (q : ℕ) : Type 0 where
      pub one : (X : ℕ) (x y : Action) → Asked q X x → Asked q X y → x ≡ y

    -- reply 10 at q: not "an action line is missing, extra or different"
    pub record CellsMeet (q : ℕ) : Type 0 where
      pub filled : (X : ℕ) (x : Action) → Asked q X x → (y : Action) × ActionAt q X y × (forget y ≡ x)
      -- "No other cell is filled."
      pub asked : (X : ℕ) (y : Action) → ActionAt q X y → Asked q X (forget y)

    pub record MeetsWith : Type 0 where
      pub form : WellFormed
      pub entries : EntriesMeet
      pub items : (q : ℕ) → ItemsMeet q
      pub lookaheads : (q : ℕ) → LookaheadsMeet q
      pub agree : (q : ℕ) → CellsAgree q
      pub cells : (q : ℕ) → CellsMeet q

-- the table meets the construction
abbrev pub Meets : Grammar → Table → Type 0
Meets g t = MeetsWith g t (First g)
