-- How passes go on, one in another, and small laws of flags, ranges and tests.
use Prim.Native.Nat.{ℕ, zero, suc, ◌+◌, ◌≤◌, ◌<◌}
use mathlib.Core.Path.{◌≡◌, refl, sym, subst, subst₂, ◌∙◌}
use mathlib.Core.Bool.{Bool, true, false, true≢false, false≢true}
use mathlib.Core.List.{List}
use native.Mathlib.Nat.{le_refl}
use native.Mathlib.Omega.{arith}
use borrow.Author.Count.{below_more}
use lib.ListN.{length, get_or, set, replicate, length-set}
use Rattle.fixpoint.specs.Flags.{On, Off, Decides}
use Rattle.fixpoint.specs.Pass.{Pass}
use Rattle.fixpoint.proofs.CountLaws.{zeros-set, only_set, keep_set}

module _ {n : ℕ} {P : ℕ → Type 0} where
  pub pass_start : {fs : List ℕ} {added : ℕ} (Done : List ℕ → Type 0) → length fs ≡ n → ((y : ℕ) → On fs y → P y) → (added ≡ 0 → Done fs) → Pass n P fs fs added added Done
  pass_start {added = a} Done l o d = record { long = l; only = o; kept = λ y on. on; count = refl; grown = le_refl a; still = λ e. refl; closed = d }

  -- nothing set, and more is met
  pub pass_more : {fs₀ fs fs' : List ℕ} {added₀ added added' : ℕ} (Done Done' : List ℕ → Type 0) → fs' ≡ fs → added' ≡ added
      → Pass n P fs₀ fs added₀ added Done → (Done fs → Done' fs) → Pass n P fs₀ fs' added₀ added' Done'
  pass_more {fs₀ = fs₀} {added₀ = a₀} Done Done' ef ea p f =
      subst₂ (λ (xs : List ℕ) (a : ℕ). Pass n P fs₀ xs a₀ a Done') (sym ef) (sym ea)
      (record { long = p.long; only = p.only; kept = p.kept; count = p.count; grown = p.grown; still = p.still; closed = λ e. f (p.closed e) })

  -- a flag set: `added` is no longer 0, so nothing is claimed to be met
  pub pass_add : {fs₀ fs fs' : List ℕ} {added₀ added added' : ℕ} (Done Done' : List ℕ → Type 0) (x : ℕ) → fs' ≡ set fs x 1 → added' ≡ added + 1
      → Pass n P fs₀ fs added₀ added Done → x < n → Off fs x → P x → Pass n P fs₀ fs' added₀ added' Done'
  pass_add {fs₀ = fs₀} {fs = fs} {added₀ = a₀} {added = added} Done Done' x ef ea p l z px =
      let l' = subst (λ (k : ℕ). x < k) (sym p.long) l in
      subst₂ (λ (xs : List ℕ) (a : ℕ). Pass n P fs₀ xs a₀ a Done') (sym ef) (sym ea)
      (record {
        long = length-set fs x 1 ∙ p.long;
        only = only_set P fs x p.only px;
        kept = λ y on. keep_set fs x l' y (p.kept y on);
        count = omega (arith, zeros-set fs x l' z, p.count);
        grown = omega (arith, p.grown);
        still = λ e. absurd (higher a₀ added p.grown e);
        closed = λ e. absurd (not_zero added e);
      })
    where
      not_zero : (m : ℕ) → m + 1 ≡ 0 → ⊥
      not_zero m e = omega arith

      higher : (a b : ℕ) → a ≤ b → b + 1 ≡ a → ⊥
      higher a b h e = omega arith

  -- an inner pass within an outer one, which goes on counting
  pub pass_join : {P' : ℕ → Type 0} {fs₀ fs fs' fs'' : List ℕ} {added₀ added added' added'' : ℕ} (Done Done' Done'' : List ℕ → Type 0) → fs'' ≡ fs' → added'' ≡ added'
      → Pass n P fs₀ fs added₀ added Done → Pass n P' fs fs' added added' Done' → ((y : ℕ) → P' y → P y) → (Done' fs' → Done'' fs') → Pass n P fs₀ fs'' added₀ added'' Done''
  pass_join {fs₀ = fs₀} {added₀ = a₀} Done Done' Done'' ef ea p q up f =
      subst₂ (λ (xs : List ℕ) (a : ℕ). Pass n P fs₀ xs a₀ a Done'') (sym ef) (sym ea)
      (record {
        long = q.long;
        only = λ y on. up y (q.only y on);
        kept = λ y on. q.kept y (p.kept y on);
        count = omega (arith, p.count, q.count);
        grown = omega (arith, p.grown, q.grown);
        still = λ e. q.still (omega (arith, e, p.grown, q.grown)) ∙ p.still (omega (arith, e, p.grown, q.grown));
        closed = λ e. f (q.closed e);
      })

  -- the pass of a function that was called, which counts its own
  pub pass_call : {P' : ℕ → Type 0} {fs₀ fs fs' fs'' : List ℕ} {added₀ added r added'' : ℕ} (Done Done' Done'' : List ℕ → Type 0) → fs'' ≡ fs' → added'' ≡ added + r
      → Pass n P fs₀ fs added₀ added Done → Pass n P' fs fs' 0 r Done' → ((y : ℕ) → P' y → P y) → (Done fs' → Done' fs' → Done'' fs') → Pass n P fs₀ fs'' added₀ added'' Done''
  pass_call {fs₀ = fs₀} {added₀ = a₀} {added = a} {r = r} Done Done' Done'' ef ea p q up f =
      subst₂ (λ (xs : List ℕ) (b : ℕ). Pass n P fs₀ xs a₀ b Done'') (sym ef) (sym ea)
      (record {
        long = q.long;
        only = λ y on. up y (q.only y on);
        kept = λ y on. q.kept y (p.kept y on);
        count = omega (arith, p.count, q.count);
        grown = omega (arith, p.grown);
        still = λ e. q.still (none_more e) ∙ p.still (none_before e);
        closed = λ e. f (subst Done (sym (q.still (right_zero a r e))) (p.closed (left_zero a r e))) (q.closed (right_zero a r e));
      })
    where
      left_zero : (x y : ℕ) → x + y ≡ 0 → x ≡ 0
      left_zero x y e = omega arith

      right_zero : (x y : ℕ) → x + y ≡ 0 → y ≡ 0
      right_zero x y e = omega arith

      none_more : a + r ≡ a₀ → r ≡ 0
      none_more e = omega (arith, p.grown)

      none_before : a + r ≡ a₀ → a ≡ a₀
      none_before e = omega (arith, p.grown)

-- ---- flags
pub none_on : (n x : ℕ) → get_or {A = ℕ} (replicate n 0) x 0 ≡ 0
none_on zero x = refl
none_on (suc n) zero = refl
none_on (suc n) (suc x) = none_on n x

-- cleared flags hold nothing
pub all_off : {Q : Type 0} {fs : List ℕ} {y : ℕ} (n : ℕ) → fs ≡ replicate n 0 → On fs y → Q
all_off {y = y} n e on = absurd (on.nonzero (subst (λ (l : List ℕ). get_or l y 0 ≡ 0) (sym e) (none_on n y)))

pub set_on : {fs : List ℕ} {x : ℕ} → (get_or fs x 0 ≡ 0 → ⊥) → On fs x
set_on f = record { nonzero = f }

-- the flag of a number under another name
pub on_at : {fs : List ℕ} {x y : ℕ} → x ≡ y → On fs x → On fs y
on_at {fs = fs} e on = subst (On fs) e on

pub off_at : (fs : List ℕ) {x y : ℕ} → x ≡ y → Off fs x → Off fs y
off_at fs e z = subst (λ (k : ℕ). get_or fs k 0 ≡ 0) e z

-- a flag is not both set and unset
pub not_off : {Q : Type 0} {fs : List ℕ} {x y : ℕ} → On fs y → x ≡ y → Off fs x → Q
not_off {fs = fs} on e z = absurd (on.nonzero (off_at fs e z))

-- ---- ranges
pub no_gap : {d k : ℕ} → d ≤ k → k < d → ⊥
no_gap l m = omega arith

-- what holds from d up to j, and at j, holds up to j + 1
pub from_more : (P : ℕ → Type 0) (d j : ℕ) → ((k : ℕ) → d ≤ k → k < j → P k) → P j → (k : ℕ) → d ≤ k → k < j + 1 → P k
from_more P d j all here k l m = below_more (λ (i : ℕ). d ≤ i → P i) j (λ i li di. all i di li) (λ _. here) k m l

-- ---- answers of tests
pub is_yes : (P : Type 0) → P → Decides P true
is_yes P p = record { yes = λ _. p; no = λ e _. true≢false e }

pub is_no : (P : Type 0) → (P → ⊥) → Decides P false
is_no P f = record { yes = λ e. absurd (false≢true e); no = λ _. f }

pub decides_map : {P Q : Type 0} {b : Bool} → (P → Q) → (Q → P) → Decides P b → Decides Q b
decides_map f g d = record { yes = λ e. f (d.yes e); no = λ e q. d.no e (g q) }
