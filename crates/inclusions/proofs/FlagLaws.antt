-- Flags at line * 64 + code: each is that of one line and code.
use Prim.Native.Nat.{ℕ, ◌+◌, ◌*◌, ◌≤◌, ◌<◌}
use mathlib.Core.Path.{◌≡◌, sym, subst}
use mathlib.Core.List.{List}
use native.Mathlib.Omega.{arith}
use Rattle.memory.specs.Memory.{state_at, item_at, dot_at}
use Rattle.closure.specs.InMemory.{LineIs}
use Rattle.inclusions.specs.Included.{FlagAsked}

flag_same : (l d m e : ℕ) → d < 64 → e < 64 → l * 64 + d ≡ m * 64 + e → (l ≡ m) × (d ≡ e)
flag_same l d m e u v h = (omega arith, omega arith)

pub flag_map : {P Q : ℕ → ℕ → ℕ → ℕ → Type 0} {kernels : List ℕ} {lines codes y : ℕ} → ((q i k c : ℕ) → P q i k c → Q q i k c) → FlagAsked P kernels lines codes y
    → FlagAsked Q kernels lines codes y
flag_map f h = record { line = h.line; within = h.within; code = h.code; low = h.low; is = h.is; asked = f _ _ _ _ h.asked }

-- what is asked of the item of a line
pub flag_at : {P : ℕ → ℕ → ℕ → ℕ → Type 0} {kernels : List ℕ} {lines codes q i k c y : ℕ} (l : ℕ) → LineIs kernels lines q i k l → c < codes → y ≡ l * 64 + c → P q i k c
    → FlagAsked P kernels lines codes y
flag_at {P} {kernels} {q = q} {i = i} {c = c} l d low e h = record {
  line = l;
  within = d.within;
  code = c;
  low = low;
  is = e;
  asked = subst (λ (m : ℕ). P m (item_at kernels l) (dot_at kernels l) c) (sym d.state)
      (subst (λ (m : ℕ). P q m (dot_at kernels l) c) (sym d.item) (subst (λ (m : ℕ). P q i m c) (sym d.dot) h));
}

-- and back
pub flag_line : {P : ℕ → ℕ → ℕ → ℕ → Type 0} {kernels : List ℕ} {lines codes : ℕ} (l c : ℕ) → codes ≤ 64 → c < 64 → FlagAsked P kernels lines codes (l * 64 + c)
    → (c < codes) × P (state_at kernels l) (item_at kernels l) (dot_at kernels l) c
flag_line {P} {kernels} l c few low h =
    let e = flag_same l c h.line h.code low (omega (arith, h.low, few)) h.is in (
      omega (arith, e.1, h.low),
      subst (λ (d : ℕ). P (state_at kernels l) (item_at kernels l) (dot_at kernels l) d) (sym e.1)
          (subst (λ (m : ℕ). P (state_at kernels m) (item_at kernels m) (dot_at kernels m) h.code) (sym e.0) h.asked),
    )
