-- Rows of codes under the rules: what a row copied into another, a rule gone through and a pass with nothing added mean.
use Prim.Native.Nat.{ℕ, ◌%◌, ◌<◌}
use mathlib.Core.Path.{◌≡◌, refl, sym, subst, subst₂, ◌∙◌}
use mathlib.Core.List.{List}
use native.Mathlib.Decide.{dec_lt}
use native.Mathlib.Omega.{arith}
use Rattle.items.specs.Layout.{left_at, length_at, symbol_at}
use Rattle.fixpoint.specs.Flags.{On, Off, Marks}
use Rattle.fixpoint.specs.Least.{seed, by, least_every, least_join}
use Rattle.fixpoint.specs.Rows.{cell, Row, row_cell, column_low, to_row, from_row}
use Rattle.grammar_reduction.specs.Reaches.{occurs, rule_of, symbol_of}
use Rattle.grammar_reduction.specs.InMemory.{IsRule}
use Rattle.analysis.specs.InMemory.{starting_in, Has, FirstFrom, Copied, old, copy, Includes, RuleMet}

module _ (m : List ℕ) (rules : ℕ) (N : ℕ → Type 0) where
  pub row_seed : {fs : List ℕ} (y : ℕ) → On fs y → Row (FirstFrom m rules N (Has fs)) y
  row_seed {fs} y on = seed (record { on = subst (On fs) (sym (row_cell y)) on })

  -- closing twice adds nothing
  pub row_join : {fs₀ fs : List ℕ} → ((y : ℕ) → On fs y → Row (FirstFrom m rules N (Has fs₀)) y)
      → (y : ℕ) → Row (FirstFrom m rules N (Has fs)) y → Row (FirstFrom m rules N (Has fs₀)) y
  row_join {fs₀} only y p =
      least_join (starting_in m rules N) (λ z h. from_row (FirstFrom m rules N (Has fs₀)) z (y % 64) (column_low y) (only (cell z (y % 64)) h.on)) p

  -- the row of symbol k of rule i, behind symbols of N, copied into that of the left side
  pub row_fired : {fs₀ fs : List ℕ} → ((y : ℕ) → On fs y → Row (FirstFrom m rules N (Has fs₀)) y) → (i k : ℕ) {x left : ℕ} → IsRule rules i → k < length_at m i
      → ((j : ℕ) → j < k → N (symbol_at m i j)) → x ≡ symbol_at m i k → left ≡ left_at m i → (y : ℕ) → Copied fs x left y → Row (FirstFrom m rules N (Has fs₀)) y
  row_fired only i k r l run ex el y (old on) = only y on
  row_fired {fs₀} {fs} only i k {x} {left} r l run ex el y (copy c lc on) =
      let F = FirstFrom m rules N (Has fs₀) in
      to_row F left c lc (subst (λ (z : ℕ). F z c) (sym el)
      (by (occurs i k) (r, l, run) (λ a n. subst (λ (z : ℕ). F z c) (ex ∙ sym n) (from_row F x c lc (only (cell x c) on)))))

  -- flags that meet every rule hold all that the rules give
  pub row_marks : {fs₀ fs : List ℕ} → ((y : ℕ) → On fs y → Row (FirstFrom m rules N (Has fs₀)) y) → ((y : ℕ) → On fs₀ y → On fs y)
      → ((i : ℕ) → IsRule rules i → RuleMet m N i fs) → Marks (Row (FirstFrom m rules N (Has fs₀))) fs
  row_marks {fs₀} {fs} only kept met = record { only = only; every = every }
    where
      every : (y : ℕ) → Row (FirstFrom m rules N (Has fs₀)) y → On fs y
      every y p =
          subst (On fs) (row_cell y)
          (least_every (starting_in m rules N) (λ x. On fs (cell x (y % 64))) (λ z h. kept (cell z (y % 64)) h.on)
          (λ c ok ns. met (rule_of c) ok.0 (symbol_of c) ok.1 ok.2 (y % 64) (column_low y) (ns _ refl)) p)

pub includes_at : {fs : List ℕ} {x x' l l' : ℕ} → x ≡ x' → l ≡ l' → Includes x l fs → (c : ℕ) → c < 64 → On fs (cell x' c) → On fs (cell l' c)
includes_at {fs} ex el f = subst₂ (λ (a b : ℕ). Includes a b fs) ex el f

-- a symbol that is not nullable ends the rule
pub met_at : (m nul fs : List ℕ) (i k : ℕ) → ((j : ℕ) → j < k → Includes (symbol_at m i j) (left_at m i) fs) → Includes (symbol_at m i k) (left_at m i) fs
    → Off nul (symbol_at m i k) → RuleMet m (On nul) i fs
met_at m nul fs i k below here off q l run = go (dec_lt q k) (dec_lt k q)
  where
    go : Dec (q < k) → Dec (k < q) → Includes (symbol_at m i q) (left_at m i) fs
    go (yes h) d = below q h
    go (no n) (yes h) = absurd ((run k h).nonzero off)
    go (no n) (no o) = subst (λ (p : ℕ). Includes (symbol_at m i p) (left_at m i) fs) (same q k n o) here
      where
        same : (a b : ℕ) → ¬ (a < b) → ¬ (b < a) → b ≡ a
        same a b n o = omega arith
