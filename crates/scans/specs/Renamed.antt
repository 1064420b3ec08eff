-- Scan files whose letters are renamed, and the codes with them.
use Rattle.std.specs.Prelude.{ℕ, ◌≤◌, ◌≡◌, List, [], ◌∷◌}
use Rattle.scan_lines.specs.Tokens.{Scan, code_of}

-- a line with its letter renamed
abbrev pub renamed : (ℕ → ℕ) → Scan → Scan
renamed ρ x = record { sequence = x.sequence; letter = ρ x.letter; text = x.text }

abbrev pub renamed_all : (ℕ → ℕ) → List Scan → List Scan
renamed_all ρ [] = []
renamed_all ρ (x ∷ l) = renamed ρ x ∷ renamed_all ρ l

-- "one of A to Z"
abbrev pub IsLetter : ℕ → Type 0
IsLetter b = (65 ≤ b) × (b ≤ 90)

-- ρ takes letters to letters, no two to one, and the codes l to the codes m
pub record Renames (ρ : ℕ → ℕ) (l m : List ℕ) : Type 0 where
  pub letters : (b : ℕ) → IsLetter b → IsLetter (ρ b)
  pub apart : (b c : ℕ) → IsLetter b → IsLetter c → ρ b ≡ ρ c → b ≡ c
  pub coded : (b : ℕ) → IsLetter b → code_of m (ρ b) ≡ code_of l b
