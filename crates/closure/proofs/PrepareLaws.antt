-- Rules prepared one by one.
use Prim.Native.Nat.{ℕ, ◌+◌, ◌*◌, ◌≤◌, ◌<◌}
use native.Mathlib.Decide.{dec_lt}
use native.Mathlib.Omega.{arith}
use mathlib.Core.Path.{◌≡◌, sym, subst}
use mathlib.Core.Logic.{◌⊎◌, inl, inr}
use mathlib.Core.Bool.{Bool, true}
use mathlib.Core.List.{List}
use lib.ListN.{length, set}
use Rattle.fixpoint.specs.Flags.{On}
use Rattle.analysis.specs.FirstBy.{FirstBy, BeginsAt}
use Rattle.analysis.specs.Rests.{rest_at}
use Rattle.analysis.specs.Adds.{Adds, RestFirst}
use Rattle.closure.specs.Prepared.{Prepared}
use Rattle.analysis.proofs.AddLaws.{adds_none, adds_map, adds_one}

-- where the rest of rule i can be empty its flag is set
pub through_set : {through through' : List ℕ} {b : Bool} (i : ℕ) → b ≡ true → through' ≡ set through i 1 → i < length through
    → Adds (λ (y : ℕ). (b ≡ true) × (y ≡ i)) through through'
through_set i t e l = adds_map (λ y q. (t, q)) (λ y q. q.1) (adds_one i e l)

pub through_kept : {through through' : List ℕ} {b : Bool} (i : ℕ) → (b ≡ true → ⊥) → through' ≡ through
    → Adds (λ (y : ℕ). (b ≡ true) × (y ≡ i)) through through'
through_kept {through = through} {b = b} i f e =
    subst (λ (xs : List ℕ). Adds (λ (y : ℕ). (b ≡ true) × (y ≡ i)) through xs) (sym e) (adds_none through (λ y q. f q.0))

module _ (m : List ℕ) (codes : ℕ) (nul fst : List ℕ) where
  -- the rules below `limit` are prepared, nothing is said of the others
  pub record Filled (limit : ℕ) (starts through : List ℕ) : Type 0 where
    pub prepared : Prepared m limit codes nul fst starts through
    pub starts_low : (y : ℕ) → On starts y → y < limit * 64
    pub through_low : (i : ℕ) → On through i → i < limit

  module _ (few : codes ≤ 64) {starts starts' through through' : List ℕ} {b : Bool} (i : ℕ) (f : Filled i starts through)
      (r : RestFirst codes nul fst (rest_at m i 1) (i * 64) starts starts' b) (a : Adds (λ (y : ℕ). (b ≡ true) × (y ≡ i)) through through') where
    -- the rows of the rules below i stay
    old_row : (j c : ℕ) → j < i → c < codes → On starts' (j * 64 + c) → On starts (j * 64 + c)
    old_row j c l u on = go (r.only (j * 64 + c) on)
      where
        go : On starts (j * 64 + c) ⊎ BeginsAt codes nul fst (rest_at m i 1) (i * 64) (j * 64 + c) → On starts (j * 64 + c)
        go (inl o) = o
        go (inr q) = absurd (omega (arith, q.is, q.low))

    new_row : (c : ℕ) → c < codes → On starts' (i * 64 + c) → (d : ℕ) → FirstBy codes nul fst (rest_at m i 1) d c
    new_row c u on d = go (r.only (i * 64 + c) on)
      where
        go : On starts (i * 64 + c) ⊎ BeginsAt codes nul fst (rest_at m i 1) (i * 64) (i * 64 + c) → FirstBy codes nul fst (rest_at m i 1) d c
        go (inl o) = absurd (omega (arith, f.starts_low (i * 64 + c) o))
        go (inr q) = let e : q.code ≡ c = omega (arith, q.is) in subst (FirstBy codes nul fst (rest_at m i 1) d) e (q.first d)

    old_flag : (j : ℕ) → j < i → On through' j → On through j
    old_flag j l on = go (a.only j on)
      where
        go : On through j ⊎ ((b ≡ true) × (j ≡ i)) → On through j
        go (inl o) = o
        go (inr q) = absurd (omega (arith, q.1))

    new_flag : On through' i → b ≡ true
    new_flag on = go (a.only i on)
      where
        go : On through i ⊎ ((b ≡ true) × (i ≡ i)) → b ≡ true
        go (inl o) = absurd (omega (arith, f.through_low i o))
        go (inr q) = q.0

    at_last : (j : ℕ) → j < i + 1 → ¬ (j < i) → i ≡ j
    at_last j u n = omega arith

    starts_only : (j c : ℕ) → 1 ≤ j → j < i + 1 → c < codes → On starts' (j * 64 + c) → (d : ℕ) → FirstBy codes nul fst (rest_at m j 1) d c
    starts_only j c l u lc on d = go (dec_lt j i)
      where
        go : Dec (j < i) → FirstBy codes nul fst (rest_at m j 1) d c
        go (yes k) = f.prepared.starts_only j c l k lc (old_row j c k lc on) d
        go (no n) =
            let e = at_last j u n in
            subst (λ (k : ℕ). FirstBy codes nul fst (rest_at m k 1) d c) e (new_row c lc (subst (λ (k : ℕ). On starts' (k * 64 + c)) (sym e) on) d)

    through_only : (j : ℕ) → 1 ≤ j → j < i + 1 → On through' j → (d : ℕ) → FirstBy codes nul fst (rest_at m j 1) d d
    through_only j l u on d = go (dec_lt j i)
      where
        go : Dec (j < i) → FirstBy codes nul fst (rest_at m j 1) d d
        go (yes k) = f.prepared.through_only j l k (old_flag j k on) d
        go (no n) =
            let e = at_last j u n in
            subst (λ (k : ℕ). FirstBy codes nul fst (rest_at m k 1) d d) e (r.through (new_flag (subst (On through') (sym e) on)) d)

    every : (j d c : ℕ) → 1 ≤ j → j < i + 1 → FirstBy codes nul fst (rest_at m j 1) d c → On starts' (j * 64 + c) ⊎ (On through' j × (c ≡ d))
    every j d c l u h = go (dec_lt j i)
      where
        low : On starts (j * 64 + c) ⊎ (On through j × (c ≡ d)) → On starts' (j * 64 + c) ⊎ (On through' j × (c ≡ d))
        low (inl on) = inl (r.kept (j * 64 + c) on)
        low (inr q) = inr (a.kept j q.0, q.1)

        high : i ≡ j → On starts' (i * 64 + c) ⊎ ((b ≡ true) × (c ≡ d)) → On starts' (j * 64 + c) ⊎ (On through' j × (c ≡ d))
        high e (inl on) = inl (subst (λ (k : ℕ). On starts' (k * 64 + c)) e on)
        high e (inr q) = inr (a.every j (q.0, sym e), q.1)

        go : Dec (j < i) → On starts' (j * 64 + c) ⊎ (On through' j × (c ≡ d))
        go (yes k) = low (f.prepared.every j d c l k h)
        go (no n) =
            let e = at_last j u n in
            high e (r.every d c (subst (λ (k : ℕ). FirstBy codes nul fst (rest_at m k 1) d c) (sym e) h))

    low_starts : (y : ℕ) → On starts' y → y < (i + 1) * 64
    low_starts y on = go (r.only y on)
      where
        go : On starts y ⊎ BeginsAt codes nul fst (rest_at m i 1) (i * 64) y → y < (i + 1) * 64
        go (inl o) = omega (arith, f.starts_low y o)
        go (inr q) = omega (arith, q.is, q.low)

    low_through : (j : ℕ) → On through' j → j < i + 1
    low_through j on = go (a.only j on)
      where
        go : On through j ⊎ ((b ≡ true) × (j ≡ i)) → j < i + 1
        go (inl o) = omega (arith, f.through_low j o)
        go (inr q) = omega (arith, q.1)

    pub filled_more : Filled (i + 1) starts' through'
    filled_more = record {
      prepared = record { starts_only = starts_only; through_only = through_only; every = every };
      starts_low = low_starts;
      through_low = low_through;
    }
