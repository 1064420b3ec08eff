-- A state that is left: what moves from it joins the states, and its next states are stored.
use Rattle.std.specs.Prelude.{ℕ, ◌-◌, ◌≤◌, ◌<◌, ◌≡◌, List, [], take}
use Rattle.build_states.specs.States.{range, leave}
use Rattle.build_moves.specs.Moved.{Numbered, picked}
use Rattle.build_kernel_sets.specs.Sets.{sets_in, Bounds, Leads, moves_by, leave_by}
use Rattle.build_kernel_sets.specs.Cells.{Cell}

-- l lists what moves from state q
module _ (l sets₀ starts₀ kinds₀ values₀ gotos₀ : List ℕ) (q states₀ lines₀ : ℕ) where
  pub record Leaves (sets starts kinds values gotos : List ℕ) (states lines : ℕ) : Type 0 where
    pub bounds : Bounds sets starts states lines
    pub sets_are : sets_in sets starts states ≡ leave_by l (sets_in sets₀ starts₀ states₀)
    pub numbered : (count : ℕ) → Numbered count (take lines₀ sets₀) → ((X : ℕ) → Numbered count (picked X l)) → Numbered count (take lines sets)
    pub next : states ≤ 255 → lines ≤ 1023 → (X : ℕ) → 1 ≤ X → X < 128 → Cell kinds₀ values₀ gotos₀ q X 0
        → (v : ℕ) × Cell kinds values gotos q X v × Leads (sets_in sets starts states) (picked X l) v
    pub other : (p X u : ℕ) → X < 128 → (p ≡ q → 1 ≤ X → ⊥) → Cell kinds₀ values₀ gotos₀ p X u → Cell kinds values gotos p X u

  -- while the symbols below x have been visited
  pub record Leaving (sets starts kinds values gotos : List ℕ) (states lines x : ℕ) : Type 0 where
    pub bounds : Bounds sets starts states lines
    pub few_states : states ≤ 255
    pub few_lines : lines ≤ 1023
    pub sets_to : leave (moves_by l) [] (range x (128 - x)) (sets_in sets starts states) ≡ leave_by l (sets_in sets₀ starts₀ states₀)
    pub numbered : (count : ℕ) → Numbered count (take lines₀ sets₀) → ((X : ℕ) → Numbered count (picked X l)) → Numbered count (take lines sets)
    pub next : (X : ℕ) → 1 ≤ X → X < x → Cell kinds₀ values₀ gotos₀ q X 0 → (v : ℕ) × Cell kinds values gotos q X v × Leads (sets_in sets starts states) (picked X l) v
    pub other : (p X u : ℕ) → X < 128 → (p ≡ q → 1 ≤ X → X < x → ⊥) → Cell kinds₀ values₀ gotos₀ p X u → Cell kinds values gotos p X u
