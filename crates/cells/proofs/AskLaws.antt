-- What an item asks of cells, and what a line and a rule ask, from what is asked of codes.
use Prim.Native.Nat.{ℕ, ◌+◌, ◌*◌, ◌-◌, ◌<◌}
use mathlib.Core.Path.{◌≡◌, sym, subst, subst₂}
use mathlib.Core.Logic.{◌⊎◌, inl, inr}
use mathlib.Core.List.{List}
use native.Mathlib.Omega.{arith}
use lib.ListN.{replicate}
use Rattle.items.specs.Layout.{left_at, mark_at}
use Rattle.fixpoint.specs.Flags.{On}
use Rattle.fixpoint.proofs.PassLaws.{all_off}
use Rattle.memory.specs.Memory.{state_at, item_at, dot_at}
use Rattle.analysis.specs.FirstBy.{first_low}
use Rattle.analysis.specs.Adds.{Adds}
use Rattle.item_first.specs.Rows.{FirstsAt}
use Rattle.item_first.proofs.FirstLaws.{at_zero}
use Rattle.cell_demands.specs.Demands.{Asks, CodeAsks}
use Rattle.cell_demands.proofs.DemandLaws.{asks_map}
use Rattle.cells.specs.Demands.{ItemAsks, announces, pops, LinesAsk, RuleAsks}

-- ---- an item
module _ {items nul fst from : List ℕ} {rules codes i k start : ℕ} where
  -- at its recognition point
  pub announce_asks : {row₀ row : List ℕ} {s₀ o₀ s o : List ℕ} → mark_at items i ≡ k → row₀ ≡ replicate 64 0
      → Adds (FirstsAt items codes nul fst from start i k) row₀ row → Asks (CodeAsks row 0 0 codes (512 + i)) s₀ o₀ s o
      → Asks (ItemAsks items nul fst from rules codes i k start) s₀ o₀ s o
  announce_asks {row₀} {row} m none r a = asks_map to_item of_item a
    where
      flagged : (c : ℕ) → On row₀ c ⊎ FirstsAt items codes nul fst from start i k c → FirstsAt items codes nul fst from start i k c
      flagged c (inl on) = all_off 64 none on
      flagged c (inr f) = f

      to_item : (c v : ℕ) → CodeAsks row 0 0 codes (512 + i) c v → ItemAsks items nul fst from rules codes i k start c v
      to_item c v w = announces m (flagged c (r.only c (subst (On row) (at_zero c) w.on))) w.is

      of_item : (c v : ℕ) → ItemAsks items nul fst from rules codes i k start c v → CodeAsks row 0 0 codes (512 + i) c v
      of_item c v (announces e f is) = record { above = omega arith; below = first_low codes nul fst f.low f.first; on = subst (On row) (sym (at_zero c)) (r.every c f); is = is }
      of_item c v (pops n hi len low on is) = absurd (n m)

-- ---- a kernel line

-- what line l asks
abbrev pub LineAsks : List ℕ → List ℕ → List ℕ → List ℕ → List ℕ → ℕ → ℕ → ℕ → ℕ → ℕ → Type 0
LineAsks items nul fst kernels lookaheads rules codes l c v = ItemAsks items nul fst lookaheads rules codes (item_at kernels l) (dot_at kernels l) (l * 64) c v

module _ {items nul fst : List ℕ} (kernels : List ℕ) {lookaheads : List ℕ} {rules codes : ℕ} (l : ℕ) where
  pub line_asks : {i k : ℕ} {s o s' o' : List ℕ} → i ≡ item_at kernels l → k ≡ dot_at kernels l
      → Asks (ItemAsks items nul fst lookaheads rules codes i k (l * 64)) s o s' o' → Asks (LineAsks items nul fst kernels lookaheads rules codes l) s o s' o'
  line_asks {s = s} {o = o} {s' = s'} {o' = o'} ei ek a = subst₂ (λ (j n : ℕ). Asks (ItemAsks items nul fst lookaheads rules codes j n (l * 64)) s o s' o') ei ek a

  pub of_line : {lines q : ℕ} → l < lines → state_at kernels l ≡ q
      → (c v : ℕ) → LineAsks items nul fst kernels lookaheads rules codes l c v → LinesAsk items nul fst kernels lookaheads rules lines codes q c v
  of_line low e c v w = record { line = l; low = low; state = e; asks = w }

-- a rule that the closure adds
pub rule_row : {items nul fst follow : List ℕ} {rules codes i left : ℕ} {s o s' o' : List ℕ} → left ≡ left_at items i
    → Asks (ItemAsks items nul fst follow rules codes i 0 ((left - 64) * 64)) s o s' o' → Asks (RuleAsks items nul fst follow rules codes i) s o s' o'
rule_row {items} {nul} {fst} {follow} {rules} {codes} {i} {s = s} {o = o} {s' = s'} {o' = o'} e a =
    subst (λ (n : ℕ). Asks (ItemAsks items nul fst follow rules codes i 0 ((n - 64) * 64)) s o s' o') e a
