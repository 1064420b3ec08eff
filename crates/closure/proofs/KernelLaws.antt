-- What a kernel line adds to the closure of its state.
use Prim.Native.Nat.{ℕ, ◌+◌, ◌*◌, ◌-◌, ◌≤◌}
use native.Mathlib.Omega.{arith}
use mathlib.Core.Path.{◌≡◌, ap, subst, subst₂, ◌∙◌}
use mathlib.Core.Logic.{◌⊎◌, inl, inr}
use mathlib.Core.Bool.{Bool, true}
use mathlib.Core.List.{List}
use Rattle.items.specs.Layout.{symbol_at}
use Rattle.memory.specs.Memory.{item_at, dot_at}
use Rattle.fixpoint.specs.Flags.{On}
use Rattle.analysis.specs.FirstBy.{BeginsAt}
use Rattle.analysis.specs.Rests.{Before, rest_at}
use Rattle.analysis.specs.Adds.{Adds, InRow, AnyIn, RestFirst}
use Rattle.closure.specs.Kernel.{BeforeNonterminal, FollowsNonterminal, LineBefore, LineFollows}

-- ---- one line: item i with dot k

module _ (m : List ℕ) (i k codes : ℕ) (nul fst lookaheads : List ℕ) (start : ℕ) {fs₀ fs : List ℕ} {b : Bool} {x : ℕ} (h : Before m i k) (e : x ≡ symbol_at m i k) (g : 64 ≤ x) (a : AnyIn lookaheads start codes)
    (r : RestFirst codes nul fst (rest_at m i (k + 1)) ((x - 64) * 64) fs₀ fs b) where
  stands_here : BeforeNonterminal m i k (x - 64)
  stands_here = record { before = h; symbol = omega arith }

  begun : (y : ℕ) → BeginsAt codes nul fst (rest_at m i (k + 1)) ((x - 64) * 64) y → FollowsNonterminal m codes nul fst lookaheads start i k y
  begun y q = record {
    base = x - 64;
    stands = stands_here;
    code = a.code;
    low = a.low;
    on = a.on;
    next = q.code;
    first = q.first a.code;
    is = q.is;
  }

  old : (y : ℕ) → On fs₀ y ⊎ BeginsAt codes nul fst (rest_at m i (k + 1)) ((x - 64) * 64) y
      → On fs₀ y ⊎ FollowsNonterminal m codes nul fst lookaheads start i k y
  old y (inl on) = inl on
  old y (inr q) = inr (begun y q)

  place : (y : ℕ) (p : FollowsNonterminal m codes nul fst lookaheads start i k y) → (x - 64) * 64 + p.next ≡ y
  place y p = omega (arith, p.is, p.stands.symbol)

  pub all_follows : {fs' : List ℕ} → b ≡ true → Adds (InRow lookaheads start codes ((x - 64) * 64)) fs fs'
      → Adds (FollowsNonterminal m codes nul fst lookaheads start i k) fs₀ fs'
  all_follows {fs' = fs'} t w = record {
    long = w.long ∙ r.long;
    only = λ y on. late y (w.only y on);
    kept = λ y on. w.kept y (r.kept y on);
    every = λ y p. subst (On fs') (place y p) (set_on y p (r.every p.code p.next p.first));
  }
    where
      late : (y : ℕ) → On fs y ⊎ InRow lookaheads start codes ((x - 64) * 64) y → On fs₀ y ⊎ FollowsNonterminal m codes nul fst lookaheads start i k y
      late y (inl on) = old y (r.only y on)
      late y (inr q) = inr (record {
        base = x - 64;
        stands = stands_here;
        code = q.code;
        low = q.low;
        on = q.on;
        next = q.code;
        first = r.through t q.code;
        is = q.is;
      })

      set_on : (y : ℕ) (p : FollowsNonterminal m codes nul fst lookaheads start i k y) → On fs ((x - 64) * 64 + p.next) ⊎ ((b ≡ true) × (p.next ≡ p.code))
          → On fs' ((x - 64) * 64 + p.next)
      set_on y p (inl on) = w.kept ((x - 64) * 64 + p.next) on
      set_on y p (inr q) =
          w.every ((x - 64) * 64 + p.next) (record { code = p.code; low = p.low; on = p.on; is = ap (λ (n : ℕ). (x - 64) * 64 + n) q.1 })

-- ---- a line of q

module _ (m kernels : List ℕ) (l : ℕ) {fs fs' : List ℕ} {i k : ℕ} (ei : i ≡ item_at kernels l) (ek : k ≡ dot_at kernels l) where
  pub line_before : Adds (BeforeNonterminal m i k) fs fs' → Adds (LineBefore m kernels l) fs fs'
  line_before a = subst₂ (λ (j n : ℕ). Adds (BeforeNonterminal m j n) fs fs') ei ek a

  pub line_follows : (codes : ℕ) (nul fst lookaheads : List ℕ) → Adds (FollowsNonterminal m codes nul fst lookaheads (l * 64) i k) fs fs'
      → Adds (LineFollows m codes nul fst kernels lookaheads l) fs fs'
  line_follows codes nul fst lookaheads a = subst₂ (λ (j n : ℕ). Adds (FollowsNonterminal m codes nul fst lookaheads (l * 64) j n) fs fs') ei ek a
