-- How a rule's symbols and group marks grow as its line is read: one more symbol before the recognition point, the first of a
-- new group, or one more of the last group.
use Prim.Native.Nat.{ℕ, suc, ◌+◌}
use mathlib.Core.Path.{◌≡◌, refl, sym, ap, ap₂, ◌∙◌}
use mathlib.Core.List.{List, [], ◌∷◌, ◌++◌, append_assoc, append-nil}
use lib.ListN.{length, replicate, length-append, length-replicate, replicate-append-replicate}
use Rattle.language.specs.Grammar.{Rule, right, concat}
use Rattle.items.specs.Layout.{group_start, group_starts, starts_of}

-- zeros, one more
zeros_snoc : (β : List ℕ) (X : ℕ) → replicate {A = ℕ} (length (β ++ X ∷ [])) 0 ≡ replicate (length β) 0 ++ 0 ∷ []
zeros_snoc β X =
    ap (λ (n : ℕ). replicate {A = ℕ} n 0) (length-append β (X ∷ [])) ∙ sym (replicate-append-replicate (length β) 1 0)

pub before_starts : (β : List ℕ) (X : ℕ) → replicate {A = ℕ} (length (β ++ X ∷ [])) 0 ++ [] ≡ (replicate (length β) 0 ++ []) ++ 0 ∷ []
before_starts β X = simp (append-nil, zeros_snoc)

concat_snoc : (γs : List (List ℕ)) (γ : List ℕ) → concat (γs ++ γ ∷ []) ≡ concat γs ++ γ
concat_snoc [] γ = append-nil γ
concat_snoc (δ ∷ γs) γ = ap (λ (l : List ℕ). δ ++ l) (concat_snoc γs γ) ∙ sym (append_assoc δ (concat γs) γ)

starts_snoc : (γs : List (List ℕ)) (γ : List ℕ) → group_starts (γs ++ γ ∷ []) ≡ group_starts γs ++ group_start γ
starts_snoc [] γ = append-nil (group_start γ)
starts_snoc (δ ∷ γs) γ = ap (λ (l : List ℕ). group_start δ ++ l) (starts_snoc γs γ) ∙ sym (append_assoc (group_start δ) (group_starts γs) (group_start γ))

-- a new group
pub group_symbols : (γs : List (List ℕ)) (X : ℕ) → concat (γs ++ (X ∷ []) ∷ []) ≡ concat γs ++ X ∷ []
group_symbols γs X = concat_snoc γs (X ∷ [])

pub group_starts_lem : (γs : List (List ℕ)) (X : ℕ) → group_starts (γs ++ (X ∷ []) ∷ []) ≡ group_starts γs ++ 1 ∷ []
group_starts_lem γs X = starts_snoc γs (X ∷ [])

-- one more of the last group, which has a first symbol Y
pub last_symbols : (γs : List (List ℕ)) (γ : List ℕ) (X : ℕ) → concat (γs ++ (γ ++ X ∷ []) ∷ []) ≡ concat (γs ++ γ ∷ []) ++ X ∷ []
last_symbols γs γ X = simp (concat_snoc, append_assoc)

pub last_starts : (γs : List (List ℕ)) (Y : ℕ) (γ : List ℕ) (X : ℕ)
    → group_starts (γs ++ (Y ∷ (γ ++ X ∷ [])) ∷ []) ≡ group_starts (γs ++ (Y ∷ γ) ∷ []) ++ 0 ∷ []
last_starts γs Y γ X = simp (starts_snoc, zeros_snoc, append_assoc)

-- a mark for each symbol
pub start_length : (γ : List ℕ) → length (group_start γ) ≡ length γ
start_length [] = refl
start_length (X ∷ γ) = ap suc (length-replicate {A = ℕ} (length γ) 0)

pub starts_length : (γs : List (List ℕ)) → length (group_starts γs) ≡ length (concat γs)
starts_length [] = refl
starts_length (γ ∷ γs) =
    length-append (group_start γ) (group_starts γs) ∙ (ap₂ ◌+◌ (start_length γ) (starts_length γs) ∙ sym (length-append γ (concat γs)))

pub rule_starts_length : (r : Rule) → length (starts_of r) ≡ length (right r)
rule_starts_length r =
    length-append (replicate {A = ℕ} (length r.before) 0) (group_starts r.groups)
    ∙ (ap₂ ◌+◌ (length-replicate {A = ℕ} (length r.before) 0) (starts_length r.groups) ∙ sym (length-append r.before (concat r.groups)))
