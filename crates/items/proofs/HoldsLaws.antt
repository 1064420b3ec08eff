-- From memory to the grammar it holds, and back: a rule's symbols by place.
use Prim.Native.Nat.{ℕ, ◌≤◌, ◌<◌}
use mathlib.Core.Path.{◌≡◌, sym, subst, ◌∙◌}
use mathlib.Core.List.{List}
use native.Mathlib.Omega.{arith}
use Rattle.language.specs.Sentence.{In}
use Rattle.language.proofs.GrammarLaws.{in_string, in_index}
use Rattle.items.specs.Layout.{length_at, symbol_at, RowIs}

-- a rule's symbols and those in memory
pub symbol_in : {m : List ℕ} {i left mark unit : ℕ} {α φ : List ℕ} → RowIs m i left mark unit α φ → length_at m i ≤ 15
    → (k : ℕ) → k < length_at m i → In (symbol_at m i k) α
symbol_in {α = α} row s k l =
    subst (λ (x : ℕ). In x α) (sym (row.symbol_is k (omega arith))) (in_string α k (subst (λ (n : ℕ). k < n) row.length_is l))

pub in_symbol : {m : List ℕ} {i left mark unit a : ℕ} {α φ : List ℕ} → RowIs m i left mark unit α φ → length_at m i ≤ 15
    → In a α → (k : ℕ) × (k < length_at m i) × (symbol_at m i k ≡ a)
in_symbol {m = m} {i = i} {α = α} row s h =
    let j = in_index h in
    let l : j.0 < length_at m i = subst (λ (n : ℕ). j.0 < n) (sym row.length_is) j.1 in
    (j.0, l, row.symbol_is j.0 (omega arith) ∙ j.2)
