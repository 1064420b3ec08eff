-- The first group that is a string, sought rule by rule.
use Rattle.std.specs.Prelude.{ℕ, ◌≡◌, List, ◌++◌}
use Rattle.table_order.specs.Order.{use_from}
use Rattle.item_groups.specs.declared.Search.{Search}

-- the first use of γ, where the groups `later` follow those that were searched
abbrev pub use_after : Search → List (List ℕ) → List ℕ → ℕ
use_after (Search.Found k) later γ = k
use_after (Search.Passed k) later γ = use_from k later γ

-- x comes of the search for γ among the groups δs, whose first has that number
pub record Seeks (first : ℕ) (δs : List (List ℕ)) (γ : List ℕ) (x : Search) : Type 0 where
  pub use_is : (later : List (List ℕ)) → use_from first (δs ++ later) γ ≡ use_after x later γ
