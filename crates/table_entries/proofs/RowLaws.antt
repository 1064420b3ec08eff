-- The row of an entry string while it is stored, and symbols tested one after the other.
use Prim.Native.Nat.{ℕ, ◌+◌, ◌≤◌, ◌<◌}
use mathlib.Core.Path.{◌≡◌, sym, ap, ◌∙◌}
use mathlib.Core.List.{List, []}
use mathlib.Core.Bool.{true, false}
use native.Mathlib.Omega.{arith}
use lib.ListN.{length, get_or, take, drop, set, length-take, drop_of_length-le}
use lib.Seq.{sets}
use Rattle.std.proofs.lemmas.List.{take_more, take_all}
use Rattle.items.specs.Layout.{entry_row}
use Rattle.items.proofs.BuildLaws.{building, build_symbol, build_end}
use Rattle.symbol.specs.Symbol.{is_declared}
use Rattle.text.proofs.Bytes.{here}
use Rattle.table_entries.specs.Entries.{all_declared}

module _ (m : List ℕ) (base : ℕ) (σ : List ℕ) where
  -- the first k symbols are stored
  abbrev pub Stored : ℕ → List ℕ → Type 0
  Stored k items = items ≡ building m base (take k σ) []

  pub stored_more : (k : ℕ) → k < length σ → k < 16 → {items : List ℕ} → Stored k items → set items (base + 16 + k) (get_or σ k 0) ≡ building m base (take (k + 1) σ) []
  stored_more k low short {items} e =
      ap (λ (l : List ℕ). set l (base + 16 + k) (get_or σ k 0)) e
      ∙ (ap (λ (n : ℕ). set (building m base (take k σ) []) (base + 16 + n) (get_or σ k 0)) (sym len)
      ∙ (build_symbol m base (take k σ) [] (get_or σ k 0) (omega (arith, len))
      ∙ ap (λ (α : List ℕ). building m base α []) (sym (take_more σ k 0 low))))
    where
      len : length (take k σ) ≡ k
      len = length-take k σ ∙ omega arith

  pub stored_end : (k : ℕ) → length σ ≤ k → {items : List ℕ} → Stored k items
      → set (set (set (set items base 0) (base + 1) (length σ)) (base + 2) 255) (base + 3) 0 ≡ sets m base (entry_row σ)
  stored_end k q {items} e =
      ap (λ (l : List ℕ). set (set (set (set l base 0) (base + 1) (length σ)) (base + 2) 255) (base + 3) 0) (e ∙ ap (λ (α : List ℕ). building m base α []) (take_all k σ q))
      ∙ build_end m base σ [] 0 255 0

-- ---- symbols, all declared
module _ (t n : ℕ) (σ : List ℕ) (k : ℕ) where
  pub declared_more : k < length σ → is_declared t n (get_or σ k 0) ≡ true → all_declared t n (drop k σ) ≡ all_declared t n (drop (k + 1) σ)
  declared_more l e = rw (here σ k l) (simp e)

  pub declared_not : k < length σ → is_declared t n (get_or σ k 0) ≡ false → all_declared t n (drop k σ) ≡ false
  declared_not l e = rw (here σ k l) (simp e)

  pub declared_end : length σ ≤ k → all_declared t n (drop k σ) ≡ true
  declared_end l = simp (drop_of_length-le σ {i = k} l)
