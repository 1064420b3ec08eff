-- The order of a table book's lines. Document 02, S-5: "K lines must now rise by state, item, dot; action lines by state, symbol; E
-- lines after the goal follow the first use of their group in the rules (a string that is no group is passed over here and is items
-- later)."
use Rattle.std.specs.Prelude.{ℕ, suc, List, [], ◌∷◌, ◌++◌, Bool, true, false, cond, not, ◌&&◌, ◌||◌, ltb, eqb}
use Rattle.language.specs.Grammar.{Rule}
use Rattle.leftcorner.specs.Table.{EntryLine, E, KernelLine, K, ActionLine, L, same_string}

-- a key is a row of figures, compared one after the other
abbrev pub below : List ℕ → List ℕ → Bool
below [] b = false
below (x ∷ a) [] = false
below (x ∷ a) (y ∷ b) = ltb x y || (eqb x y && below a b)

-- "must now rise": the key k of the next line is above that of the last line before it
abbrev pub follows : {A : Type 0} → (A → List ℕ) → List A → List ℕ → Bool
follows key [] k = true
follows key (x ∷ []) k = below (key x) k
follows key (x ∷ y ∷ l) k = follows key (y ∷ l) k

-- "by state, item, dot"
abbrev pub kernel_key : KernelLine → List ℕ
kernel_key (K q i k σ) = q ∷ i ∷ k ∷ []

-- "by state, symbol"
abbrev pub action_key : ActionLine → List ℕ
action_key (L q X x) = q ∷ X ∷ []

-- ---- "the first use of their group in the rules"

-- the groups, rule by rule, left to right
abbrev pub groups_in : List Rule → List (List ℕ)
groups_in [] = []
groups_in (r ∷ rs) = r.groups ++ groups_in rs

-- the number of the first that is γ, where the first of all has number k; 0 where none is
abbrev pub use_from : ℕ → List (List ℕ) → List ℕ → ℕ
use_from k [] γ = 0
use_from k (δ ∷ l) γ = cond (same_string δ γ) k (use_from (suc k) l γ)

abbrev pub first_use : List Rule → List ℕ → ℕ
first_use rs γ = use_from 1 (groups_in rs) γ

abbrev pub is_group : List Rule → List ℕ → Bool
is_group rs γ = ltb 0 (first_use rs γ)

-- "a string that is no group is passed over here"
abbrev pub group_lines : List Rule → List EntryLine → List EntryLine
group_lines rs [] = []
group_lines rs (E s γ ∷ l) = cond (is_group rs γ) (E s γ ∷ group_lines rs l) (group_lines rs l)

abbrev pub use_key : List Rule → EntryLine → List ℕ
use_key rs (E s γ) = first_use rs γ ∷ []

-- "E lines after the goal": the first line is not asked, and binds no other
abbrev pub entry_follows : List Rule → List EntryLine → List ℕ → Bool
entry_follows rs [] γ = true
entry_follows rs (x ∷ l) γ = not (is_group rs γ) || follows (use_key rs) (group_lines rs l) (first_use rs γ ∷ [])
