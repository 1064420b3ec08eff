-- A table as the proof sees it: items held by states, and what the construction asks (Complete) and allows (Exact). Entries
-- are known by number, and an announce carries the entries of its groups.
use Prim.Native.Nat.{ℕ, zero, suc, ◌≤◌}
use mathlib.Core.Path.{◌≡◌}
use mathlib.Core.List.{List, [], ◌∷◌, ◌++◌, map}
use mathlib.Core.Option.{Option, some, none}
use lib.ListN.{length, drop}
use Rattle.language.specs.Grammar.{Grammar, Rule, rule_at, right, concat, IsTerminal}
use Rattle.language.specs.Derivation.{Forest, IsForest}
use Rattle.language.specs.First.{First}
use Rattle.leftcorner.specs.Machine.{shift, announce, pop, Automaton}

-- what an item comes from: a rule or an entry, by number
pub data Source : Type 0 where
  rule : ℕ → Source
  entry : ℕ → Source

abbrev pub before_of : Option Rule → List ℕ
before_of none = []
before_of (some r) = r.before

abbrev pub after_of : Option Rule → List ℕ
after_of none = []
after_of (some r) = concat r.groups

module _ (g : Grammar) (string : ℕ → List ℕ) where
  -- the symbols that an item's dot goes over, and those behind its recognition point
  abbrev pub track : Source → List ℕ
  track (rule i) = before_of (rule_at g i)
  track (entry e) = string e

  abbrev pub behind : Source → List ℕ
  behind (rule i) = after_of (rule_at g i)
  behind (entry e) = []

  -- `Kernel q ι k d`: d is a lookahead of the kernel item ι with dot k in state q
  module _ (Kernel : ℕ → Source → ℕ → ℕ → Type 0) where
    -- state q, closed, holds the item with lookahead d
    pub data Holds (q : ℕ) : Source → ℕ → ℕ → Type 0 where
      kernel : {ι : Source} {k d : ℕ} → Kernel q ι k d → Holds q ι k d
      closure : {ι : Source} {k d X : ℕ} {β : List ℕ} {i : ℕ} {r : Rule} {c : ℕ}
          → Holds q ι k d → drop k (track ι) ≡ X ∷ β → rule_at g i ≡ some r → r.left ≡ X → First g (β ++ behind ι) d c
          → Holds q (rule i) zero c

    module _ (m : Automaton) where
      -- what the construction asks is there
      pub record Complete : Type 0 where
        pub goal_string : string 1 ≡ g.goal ∷ []
        pub start : Kernel (m.enter 1) (entry 1) zero zero
        pub moves : {q : ℕ} {ι : Source} {k d X : ℕ} {β : List ℕ} → Holds q ι k d → drop k (track ι) ≡ X ∷ β → Kernel (m.goto q X) ι (suc k) d
        pub shifts : {q : ℕ} {ι : Source} {k d a : ℕ} {β : List ℕ} → Holds q ι k d → drop k (track ι) ≡ a ∷ β → IsTerminal g a
            → m.cell q a ≡ shift (m.goto q a)
        pub announces : {q i d c : ℕ} {r : Rule} → rule_at g i ≡ some r → Holds q (rule i) (length r.before) d → First g (concat r.groups) d c
            → (es : List ℕ) × (m.cell q c ≡ announce i es)
        pub group : {q i d b c : ℕ} {r : Rule} {es : List ℕ} (δs : List ℕ) (e : ℕ) (εs : List ℕ)
            → rule_at g i ≡ some r → Holds q (rule i) (length r.before) d → m.cell q b ≡ announce i es → es ≡ δs ++ e ∷ εs
            → First g (concat (map string εs)) d c → Kernel (m.enter e) (entry e) zero c
        pub pops : {q e d : ℕ} → Holds q (entry e) (length (string e)) d → m.cell q d ≡ pop (suc (length (string e)))

      -- an entry that the machine can come to
      pub data Used : ℕ → Type 0 where
        goal_entry : Used 1
        group_entry : {q b i : ℕ} {es : List ℕ} (δs : List ℕ) (e : ℕ) (εs : List ℕ) → m.cell q b ≡ announce i es → es ≡ δs ++ e ∷ εs → Used e

      -- the item came to dot n by a move from q over X
      pub record Moved (q X : ℕ) (ι : Source) (n : ℕ) : Type 0 where
        pub dot : ℕ
        pub code : ℕ
        pub rest : List ℕ
        pub is : n ≡ suc dot
        pub holds : Holds q ι dot code
        pub there : drop dot (track ι) ≡ X ∷ rest

      pub record Shifted (q a s : ℕ) : Type 0 where
        pub source : Source
        pub dot : ℕ
        pub code : ℕ
        pub rest : List ℕ
        pub holds : Holds q source dot code
        pub there : drop dot (track source) ≡ a ∷ rest
        pub terminal : IsTerminal g a
        pub is : s ≡ m.goto q a

      pub record Announced (q c i : ℕ) (es : List ℕ) : Type 0 where
        pub rule_of_lem : Rule
        pub code : ℕ
        pub is : rule_at g i ≡ some rule_of_lem
        pub holds : Holds q (rule i) (length rule_of_lem.before) code
        pub first : First g (concat rule_of_lem.groups) code c
        pub entries : map string es ≡ rule_of_lem.groups

      pub record Popped (q c n : ℕ) : Type 0 where
        pub number : ℕ
        pub is : n ≡ suc (length (string number))
        pub holds : Holds q (entry number) (length (string number)) c

      -- and nothing is there that it does not ask; `rich`: what stands in the grammar derives something
      pub record Exact : Type 0 where
        pub rich : (i : ℕ) (r : Rule) → rule_at g i ≡ some r → (F : Forest) × IsForest g F (right r)
        pub rich_goal : (F : Forest) × IsForest g F (g.goal ∷ [])
        pub state_number : {q : ℕ} {ι : Source} {k d : ℕ} → Kernel q ι k d → 1 ≤ q
        pub entered : (e : ℕ) → Used e → (ι : Source) (k d : ℕ) → Kernel (m.enter e) ι k d → (ι ≡ entry e) × (k ≡ zero)
        pub moved : {q : ℕ} {ι : Source} {k d X : ℕ} {β : List ℕ} → Holds q ι k d → drop k (track ι) ≡ X ∷ β
            → (κ : Source) (n c : ℕ) → Kernel (m.goto q X) κ n c → Moved q X κ n
        pub shifted : (q a s : ℕ) → m.cell q a ≡ shift s → Shifted q a s
        pub announced : (q c i : ℕ) (es : List ℕ) → m.cell q c ≡ announce i es → Announced q c i es
        pub popped : (q c n : ℕ) → m.cell q c ≡ pop n → Popped q c n
