-- The kernel sets that a grammar has, whoever builds its tables, and when they are more than a book may have. Document 01,
-- 'Construction', over items alone: no table, no order of states, no limit.
use Rattle.std.specs.Prelude.{ℕ, zero, suc, ◌+◌, ◌-◌, ◌<◌, ◌≡◌, cond, List, [], ◌∷◌, map, leb, length, drop}
use Rattle.std.proofs.Math.Option.{Option, some, none}
use Rattle.language.specs.Grammar.{Grammar, Rule, rule_at}
use Rattle.language.specs.Sentence.{In}
use Rattle.leftcorner.specs.Table.{Table, entry_at, string_of, right_of, mark_of}
use Rattle.leftcorner.specs.Construction.{KernelAt, Wanted}
use Rattle.std.specs.Prelude.{◌↔◌}
use Rattle.build_book.proofs.Once.{Once}

-- what an item is of: rule i, or the string of an entry
pub data Item : Type 0 where
  rule : ℕ → Item
  entry : List ℕ → Item

-- an item with its dot
pub data Dotted : Type 0 where
  dot : Item → ℕ → Dotted

-- lists of the same items
abbrev pub Same : List Dotted → List Dotted → Type 0
Same H K = (a : Dotted) → In a H ↔ In a K

abbrev pub sum : List ℕ → ℕ
sum [] = 0
sum (n ∷ l) = n + sum l

module _ (g : Grammar) where
  abbrev pub symbols : Item → List ℕ
  symbols (rule i) = right_of (rule_at g i)
  symbols (entry γ) = γ

  -- "Entry items have no recognition point."
  abbrev pub point : Item → Option ℕ
  point (rule i) = mark_of (rule_at g i)
  point (entry γ) = none

  -- the dot stands before X, and not at the recognition point
  pub record Goes (ι : Item) (k X : ℕ) : Type 0 where
    pub rest : List ℕ
    pub before : drop k (symbols ι) ≡ X ∷ rest
    pub unmarked : point ι ≡ some k → ⊥

  -- "Closure: an item whose dot stands before nonterminal B, and not at its recognition point, [..] adds every rule of B
  -- with dot 0"
  pub data Has (H : List Dotted) : Item → ℕ → Type 0 where
    in_kernel : {ι : Item} {k : ℕ} → In (dot ι k) H → Has H ι k
    in_closure : {ι : Item} {k X : ℕ} (j : ℕ) {r : Rule} → Has H ι k → Goes ι k X → rule_at g j ≡ some r → r.left ≡ X
        → Has H (rule j) zero

  -- "every item with the dot before X and not at its recognition point moves past X"
  pub data Moved (H : List Dotted) (X : ℕ) : Dotted → Type 0 where
    moved : {ι : Item} {k : ℕ} → Has H ι k → Goes ι k X → Moved H X (dot ι (suc k))

  -- K, which has no item twice, is the kernel set of an entry ("the one kernel item r+k, dot 0"), or what moves past
  -- some X from a kernel set that is reached ("exactly the moved items"), where something does
  pub data Reached : List Dotted → Type 0 where
    from_entry : {γ : List ℕ} → Wanted g γ → Reached (dot (entry γ) zero ∷ [])
    from_move : {H K : List Dotted} {X : ℕ} {a : Dotted} → Reached H → Moved H X a
        → ((b : Dotted) → In b K ↔ Moved H X b) → Once ◌≡◌ K → Reached K

  -- kernel sets that are reached, no two with the same items: "one state for each kernel set"
  pub record States (Ks : List (List Dotted)) : Type 0 where
    pub reached : (K : List Dotted) → In K Ks → Reached K
    pub different : Once Same Ks

  -- more entries, states or kernel lines than a book may have: 127, 255 and 1,023; a kernel line for each item of a kernel set
  pub data TooMany : Type 0 where
    entries : (γs : List (List ℕ)) → ((γ : List ℕ) → In γ γs → Wanted g γ) → Once ◌≡◌ γs → 127 < length γs → TooMany
    states : (Ks : List (List Dotted)) → States Ks → 255 < length Ks → TooMany
    kernel_lines : (Ks : List (List Dotted)) → States Ks → 1023 < sum (map length Ks) → TooMany

  abbrev pub WithinLimits : Type 0
  WithinLimits = TooMany → ⊥

  -- ---- of a table

  -- "Item i up to r is rule i; item r+k is the string of entry line k."
  abbrev pub item_at : Table → ℕ → Item
  item_at t i = cond (leb i (length g.rules)) (rule i) (entry (string_of (entry_at t (i - length g.rules))))

  -- the kernel lines of state q are those of the items of K
  abbrev pub KernelIs : Table → ℕ → List Dotted → Type 0
  KernelIs t q K = (a : Dotted) → In a K ↔ ((i : ℕ) × (k : ℕ) × (σ : List ℕ) × KernelAt g t q i k σ × (a ≡ dot (item_at t i) k))
