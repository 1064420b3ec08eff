-- Derivation heights in memory, a byte for each symbol.
use Rattle.std.specs.Prelude.{ℕ, zero, suc, ◌<◌, ◌≡◌, Bool, cond, List, [], ◌∷◌, get_or, leb, ltb}
use Rattle.language.specs.Grammar.{Grammar}
use Rattle.language.specs.Sentence.{AllProductive}
use Rattle.language.specs.WellFormed.{WellFormed}
use Rattle.language.specs.Tests.{all}
use Rattle.items.specs.Layout.{Holds, length_at, symbol_at}
use Rattle.generate_loads.specs.Load.{IsSymbol, derives_within, height_of}

-- memory holds the rules of g, whose symbols all have a height
pub record Source (items : List ℕ) (rules : ℕ) (g : Grammar) : Type 0 where
  pub holds : Holds items rules g
  pub formed : WellFormed g
  pub productive : AllProductive g

-- the heights of its symbols
pub record HoldsHeights (g : Grammar) (heights : List ℕ) : Type 0 where
  pub height_is : (X : ℕ) → IsSymbol g X → get_or heights X 0 ≡ height_of g X

-- ---- on the way
-- n symbols of rule i from place k on
abbrev pub symbols_from : List ℕ → ℕ → ℕ → ℕ → List ℕ
symbols_from items i k zero = []
symbols_from items i k (suc n) = symbol_at items i k ∷ symbols_from items i (suc k) n

abbrev pub is_lower : List ℕ → ℕ → ℕ → Bool
is_lower heights high X = ltb (get_or heights X 0) high

-- every symbol of rule i is lower than `high`
unfoldable pub lower_in : List ℕ → List ℕ → ℕ → ℕ → Bool
lower_in items heights high i = all (is_lower heights high) (symbols_from items i 0 (length_at items i))

-- of the first k symbols terminals have 0, all else 255
abbrev pub Started : ℕ → ℕ → List ℕ → Type 0
Started terminals k heights = (X : ℕ) → X < k → get_or heights X 0 ≡ cond (leb X terminals) 0 255

-- after round h the symbols that derive something within h have their height, the others 255
pub record Reached (g : Grammar) (h : ℕ) (heights : List ℕ) : Type 0 where
  pub height : (X : ℕ) → IsSymbol g X → get_or heights X 0 ≡ cond (derives_within g h X) (height_of g X) 255
