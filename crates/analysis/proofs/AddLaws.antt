-- Flags added one by one and row by row.
use Prim.Native.Nat.{ℕ, ◌+◌, ◌*◌, ◌≤◌, ◌<◌}
use native.Mathlib.Decide.{dec_lt}
use native.Mathlib.Omega.{arith}
use mathlib.Core.Path.{◌≡◌, refl, sym, ap, subst, ◌∙◌}
use mathlib.Core.Logic.{◌⊎◌, inl, inr}
use mathlib.Core.Bool.{true, false, false≢true}
use mathlib.Core.List.{List, [], ◌∷◌}
use lib.ListN.{length, set, length-set, replicate, length-replicate}
use Rattle.items.specs.Layout.{length_at, symbol_at}
use Rattle.fixpoint.specs.Flags.{On, Off}
use Rattle.fixpoint.proofs.CountLaws.{on_set, only_set, keep_set}
use Rattle.analysis.specs.FirstBy.{FirstBy, follows, begins, skips, first_nil, first_cons, BeginsAt}
use Rattle.analysis.specs.Rests.{rest_at, rest_none, rest_more}
use Rattle.analysis.specs.Adds.{Adds, InRow, RestFirst}

-- the length of a slice that was cleared
pub zeroed : {xs : List ℕ} {n k : ℕ} → xs ≡ replicate n 0 → n ≡ k → length xs ≡ k
zeroed {n = n} e l = ap length e ∙ length-replicate {A = ℕ} n 0 ∙ l

pub adds_none : {P : ℕ → Type 0} (fs : List ℕ) → ((y : ℕ) → P y → ⊥) → Adds P fs fs
adds_none fs f = record { long = refl; only = λ y on. inl on; kept = λ y on. on; every = λ y p. absurd (f y p) }

pub adds_map : {P Q : ℕ → Type 0} {fs₀ fs : List ℕ} → ((y : ℕ) → P y → Q y) → ((y : ℕ) → Q y → P y) → Adds P fs₀ fs → Adds Q fs₀ fs
adds_map {P = P} {Q = Q} {fs₀ = fs₀} f g a =
    record { long = a.long; only = λ y on. go y (a.only y on); kept = a.kept; every = λ y q. a.every y (g y q) }
  where
    go : (y : ℕ) → On fs₀ y ⊎ P y → On fs₀ y ⊎ Q y
    go y (inl on) = inl on
    go y (inr p) = inr (f y p)

pub adds_then : {P Q : ℕ → Type 0} {fs₀ fs fs' : List ℕ} → Adds P fs₀ fs → Adds Q fs fs' → Adds (λ (y : ℕ). P y ⊎ Q y) fs₀ fs'
adds_then {P = P} {Q = Q} {fs₀ = fs₀} {fs = fs} {fs' = fs'} a b = record {
  long = b.long ∙ a.long;
  only = λ y on. late y (b.only y on);
  kept = λ y on. b.kept y (a.kept y on);
  every = λ y p. here y p;
}
  where
    early : (y : ℕ) → On fs₀ y ⊎ P y → On fs₀ y ⊎ (P y ⊎ Q y)
    early y (inl on) = inl on
    early y (inr p) = inr (inl p)

    late : (y : ℕ) → On fs y ⊎ Q y → On fs₀ y ⊎ (P y ⊎ Q y)
    late y (inl on) = early y (a.only y on)
    late y (inr q) = inr (inr q)

    here : (y : ℕ) → P y ⊎ Q y → On fs' y
    here y (inl p) = b.kept y (a.every y p)
    here y (inr q) = b.every y q

-- one flag
pub adds_one : {fs fs' : List ℕ} (x : ℕ) → fs' ≡ set fs x 1 → x < length fs → Adds (λ (y : ℕ). y ≡ x) fs fs'
adds_one {fs = fs} {fs' = fs'} x e l = subst (λ (xs : List ℕ). Adds (λ (y : ℕ). y ≡ x) fs xs) (sym e) (record {
  long = length-set fs x 1;
  only = only_set (λ (y : ℕ). On fs y ⊎ (y ≡ x)) fs x (λ y on. inl on) (inr refl);
  kept = keep_set fs x l;
  every = λ y q. subst (On (set fs x 1)) (sym q) (on_set fs x l);
})

-- ---- rows

-- the row up to c + 1 is that up to c, and c
row_split : (from : List ℕ) (start at c y : ℕ) → InRow from start (c + 1) at y → InRow from start c at y ⊎ ((y ≡ at + c) × On from (start + c))
row_split from start at c y r = go (dec_lt r.code c)
  where
    go : Dec (r.code < c) → InRow from start c at y ⊎ ((y ≡ at + c) × On from (start + c))
    go (yes l) = inl (record { code = r.code; low = l; on = r.on; is = r.is })
    go (no n) =
        let e : r.code ≡ c = omega (arith, r.low) in
        inr (r.is ∙ ap (λ (k : ℕ). at + k) e, subst (λ (k : ℕ). On from (start + k)) e r.on)

row_wider : (from : List ℕ) (start at c y : ℕ) → InRow from start c at y → InRow from start (c + 1) at y
row_wider from start at c y r = record { code = r.code; low = omega (arith, r.low); on = r.on; is = r.is }

pub row_set : (from : List ℕ) (start at c : ℕ) {fs₀ fs fs' : List ℕ} → fs' ≡ set fs (at + c) 1 → at + c < length fs → On from (start + c)
    → Adds (InRow from start c at) fs₀ fs → Adds (InRow from start (c + 1) at) fs₀ fs'
row_set from start at c e l on a = adds_map up down (adds_then a (adds_one (at + c) e l))
  where
    up : (y : ℕ) → InRow from start c at y ⊎ (y ≡ at + c) → InRow from start (c + 1) at y
    up y (inl r) = row_wider from start at c y r
    up y (inr q) = record { code = c; low = omega arith; on = on; is = q }

    pick : (y : ℕ) → InRow from start c at y ⊎ ((y ≡ at + c) × On from (start + c)) → InRow from start c at y ⊎ (y ≡ at + c)
    pick y (inl r) = inl r
    pick y (inr q) = inr q.0

    down : (y : ℕ) → InRow from start (c + 1) at y → InRow from start c at y ⊎ (y ≡ at + c)
    down y r = pick y (row_split from start at c y r)

pub row_skip : (from : List ℕ) (start at c : ℕ) {fs₀ fs fs' : List ℕ} → fs' ≡ fs → Off from (start + c)
    → Adds (InRow from start c at) fs₀ fs → Adds (InRow from start (c + 1) at) fs₀ fs'
row_skip from start at c {fs₀ = fs₀} e off a =
    subst (λ (xs : List ℕ). Adds (InRow from start (c + 1) at) fs₀ xs) (sym e) (adds_map (row_wider from start at c) down a)
  where
    pick : (y : ℕ) → InRow from start c at y ⊎ ((y ≡ at + c) × On from (start + c)) → InRow from start c at y
    pick y (inl r) = r
    pick y (inr q) = absurd (q.1.nonzero off)

    down : (y : ℕ) → InRow from start (c + 1) at y → InRow from start c at y
    down y r = pick y (row_split from start at c y r)

-- ---- first of a rest, symbol by symbol

-- the symbols of β up to some point are passed, γ is left
pub record Passed (codes : ℕ) (nul fst β γ : List ℕ) (at : ℕ) (fs₀ fs : List ℕ) : Type 0 where
  pub long : length fs ≡ length fs₀
  pub only : (y : ℕ) → On fs y → On fs₀ y ⊎ BeginsAt codes nul fst β at y
  pub kept : (y : ℕ) → On fs₀ y → On fs y
  pub every : (d c : ℕ) → FirstBy codes nul fst β d c → On fs (at + c) ⊎ FirstBy codes nul fst γ d c
  pub past : (d c : ℕ) → FirstBy codes nul fst γ d c → FirstBy codes nul fst β d c

module _ (codes : ℕ) (nul fst β : List ℕ) (at : ℕ) where
  -- the codes of X are set
  module _ {fs₀ fs fs' : List ℕ} (X : ℕ) (γ : List ℕ) (p : Passed codes nul fst β (X ∷ γ) at fs₀ fs) (a : Adds (InRow fst (X * 64) codes at) fs fs') where
    begun : (y : ℕ) → InRow fst (X * 64) codes at y → BeginsAt codes nul fst β at y
    begun y r = record { code = r.code; low = r.low; is = r.is; first = λ d. p.past d r.code (begins r.low r.on) }

    old : (y : ℕ) → On fs y ⊎ InRow fst (X * 64) codes at y → On fs₀ y ⊎ BeginsAt codes nul fst β at y
    old y (inl on) = p.only y on
    old y (inr r) = inr (begun y r)

    set_or : (d c : ℕ) → FirstBy codes nul fst (X ∷ γ) d c → On fs' (at + c) ⊎ (On nul X × FirstBy codes nul fst γ d c)
    set_or d c f = go (first_cons codes nul fst f)
      where
        go : ((c < codes) × On fst (X * 64 + c)) ⊎ (On nul X × FirstBy codes nul fst γ d c) → On fs' (at + c) ⊎ (On nul X × FirstBy codes nul fst γ d c)
        go (inl h) = inl (a.every (at + c) (record { code = c; low = h.0; on = h.1; is = refl }))
        go (inr h) = inr h

    new : (d c : ℕ) → On fs (at + c) ⊎ FirstBy codes nul fst (X ∷ γ) d c → On fs' (at + c) ⊎ (On nul X × FirstBy codes nul fst γ d c)
    new d c (inl on) = inl (a.kept (at + c) on)
    new d c (inr f) = set_or d c f

    -- X cannot be empty
    pub passed_stop : Off nul X → RestFirst codes nul fst β at fs₀ fs' false
    passed_stop off = record {
      long = a.long ∙ p.long;
      only = λ y on. old y (a.only y on);
      kept = λ y on. a.kept y (p.kept y on);
      every = λ d c f. go d c (new d c (p.every d c f));
      through = λ e. absurd (false≢true e);
    }
      where
        go : (d c : ℕ) → On fs' (at + c) ⊎ (On nul X × FirstBy codes nul fst γ d c) → On fs' (at + c) ⊎ ((false ≡ true) × (c ≡ d))
        go d c (inl on) = inl on
        go d c (inr h) = absurd (h.0.nonzero off)

    -- X can be empty
    pub passed_more : On nul X → Passed codes nul fst β γ at fs₀ fs'
    passed_more on-nul = record {
      long = a.long ∙ p.long;
      only = λ y on. old y (a.only y on);
      kept = λ y on. a.kept y (p.kept y on);
      every = λ d c f. go d c (new d c (p.every d c f));
      past = λ d c f. p.past d c (skips on-nul f);
    }
      where
        go : (d c : ℕ) → On fs' (at + c) ⊎ (On nul X × FirstBy codes nul fst γ d c) → On fs' (at + c) ⊎ FirstBy codes nul fst γ d c
        go d c (inl on) = inl on
        go d c (inr h) = inr h.1

  -- nothing is left
  pub passed_all : {fs₀ fs : List ℕ} → Passed codes nul fst β [] at fs₀ fs → RestFirst codes nul fst β at fs₀ fs true
  passed_all {fs₀ = fs₀} {fs = fs} p = record {
    long = p.long;
    only = p.only;
    kept = p.kept;
    every = λ d c f. go d c (p.every d c f);
    through = λ _ d. p.past d d follows;
  }
    where
      go : (d c : ℕ) → On fs (at + c) ⊎ FirstBy codes nul fst [] d c → On fs (at + c) ⊎ ((true ≡ true) × (c ≡ d))
      go d c (inl on) = inl on
      go d c (inr f) = inr (refl, first_nil codes nul fst f)

-- the same for an item's symbols, dot by dot
module _ (m : List ℕ) (i codes : ℕ) (nul fst β : List ℕ) (at : ℕ) {fs₀ fs fs' : List ℕ} (j x : ℕ) (l : j < length_at m i) (e : x ≡ symbol_at m i j)
    (p : Passed codes nul fst β (rest_at m i j) at fs₀ fs) (a : Adds (InRow fst (x * 64) codes at) fs fs') where
  here : Passed codes nul fst β (x ∷ rest_at m i (j + 1)) at fs₀ fs
  here = subst (λ (γ : List ℕ). Passed codes nul fst β γ at fs₀ fs) (rest_more m i j l ∙ ap (λ (y : ℕ). y ∷ rest_at m i (j + 1)) (sym e)) p

  pub dot_stop : Off nul x → RestFirst codes nul fst β at fs₀ fs' false
  dot_stop off = passed_stop codes nul fst β at x (rest_at m i (j + 1)) here a off

  pub dot_more : On nul x → Passed codes nul fst β (rest_at m i (j + 1)) at fs₀ fs'
  dot_more on = passed_more codes nul fst β at x (rest_at m i (j + 1)) here a on

pub dot_end : (m : List ℕ) (i codes : ℕ) (nul fst β : List ℕ) (at : ℕ) {fs₀ fs : List ℕ} (j : ℕ) → length_at m i ≤ j
    → Passed codes nul fst β (rest_at m i j) at fs₀ fs → RestFirst codes nul fst β at fs₀ fs true
dot_end m i codes nul fst β at {fs₀ = fs₀} {fs = fs} j l p =
    passed_all codes nul fst β at (subst (λ (γ : List ℕ). Passed codes nul fst β γ at fs₀ fs) (rest_none m i j l) p)
