-- How a row is built: a store for each symbol as it comes, one where a group begins, and the four figures at the end.
use Prim.Native.Nat.{ℕ, ◌+◌, ◌≤◌, ◌<◌}
use mathlib.Core.Path.{◌≡◌, sym, ap, ◌∙◌}
use mathlib.Core.List.{List, [], ◌∷◌, ◌++◌}
use native.Mathlib.Omega.{arith}
use lib.ListN.{length, get_or, set, replicate, length-replicate}
use lib.Seq.{sets, length-sets}
use Rattle.items.specs.Layout.{body, row}
use Rattle.items.proofs.StoreLaws.{sets_snoc, set_below, set_inside, read_above, read_zeros, set_zero, sets_zeros}

pub body-length : (α φ : List ℕ) → length (body α φ) ≡ 64
unfolding body
body-length α φ = length-sets (sets (replicate 64 0) 16 α) 32 φ ∙ (length-sets (replicate 64 0) 16 α ∙ length-replicate {A = ℕ} 64 0)

pub row-length : (left mark unit : ℕ) (α φ : List ℕ) → length (row left mark unit α φ) ≡ 64
unfolding row
row-length left mark unit α φ = length-sets (body α φ) 0 (left ∷ length α ∷ mark ∷ unit ∷ []) ∙ body-length α φ

pub body_symbol : (α φ : List ℕ) (X : ℕ) → length α < 16 → set (body α φ) (16 + length α) X ≡ body (α ++ X ∷ []) φ
unfolding body
body_symbol α φ X h =
    set_below (sets (replicate 64 0) 16 α) φ 32 (16 + length α) X (omega arith) ∙ ap (λ (m : List ℕ). sets m 32 φ) (sets_snoc (replicate 64 0) α 16 X)

pub body_start : (α φ : List ℕ) (f : ℕ) → set (body α φ) (32 + length φ) f ≡ body α (φ ++ f ∷ [])
unfolding body
body_start α φ f = sets_snoc (sets (replicate 64 0) 16 α) φ 32 f

-- where no group begins nothing is stored
pub body_inside : (α φ : List ℕ) → length α ≤ 16 → body α (φ ++ 0 ∷ []) ≡ body α φ
unfolding body
body_inside α φ h =
    sym (sets_snoc (sets (replicate 64 0) 16 α) φ 32 0)
    ∙ set_zero (sets (sets (replicate 64 0) 16 α) 32 φ) (32 + length φ)
    (read_above (sets (replicate 64 0) 16 α) φ 32 (32 + length φ) (omega arith)
    ∙ (read_above (replicate 64 0) α 16 (32 + length φ) (omega arith) ∙ read_zeros 64 (32 + length φ)))

-- ---- in memory: the row at `base` of m while its symbols come
unfoldable pub building : List ℕ → ℕ → List ℕ → List ℕ → List ℕ
building m base α φ = sets m base (body α φ)

pub build_start : (m : List ℕ) (base : ℕ) → ((j : ℕ) → base ≤ j → j < base + 64 → get_or m j 0 ≡ 0) → building m base [] [] ≡ m
unfolding building body
build_start m base h = sets_zeros 64 m base h

pub build_symbol : (m : List ℕ) (base : ℕ) (α φ : List ℕ) (X : ℕ) → length α < 16
    → set (building m base α φ) (base + 16 + length α) X ≡ building m base (α ++ X ∷ []) φ
unfolding building
build_symbol m base α φ X h =
    ap (λ (n : ℕ). set (sets m base (body α φ)) n X) (group base (length α))
    ∙ (set_inside m (body α φ) base (16 + length α) X (omega (arith, body-length α φ)) ∙ ap (sets m base) (body_symbol α φ X h))
  where
    group : (a b : ℕ) → a + 16 + b ≡ a + (16 + b)
    group a b = omega arith

pub build_start_flag : (m : List ℕ) (base : ℕ) (α φ : List ℕ) (f : ℕ) → length φ < 32
    → set (building m base α φ) (base + 32 + length φ) f ≡ building m base α (φ ++ f ∷ [])
unfolding building
build_start_flag m base α φ f h =
    ap (λ (n : ℕ). set (sets m base (body α φ)) n f) (group base (length φ))
    ∙ (set_inside m (body α φ) base (32 + length φ) f (omega (arith, body-length α φ)) ∙ ap (sets m base) (body_start α φ f))
  where
    group : (a b : ℕ) → a + 32 + b ≡ a + (32 + b)
    group a b = omega arith

pub build_inside : (m : List ℕ) (base : ℕ) (α φ : List ℕ) → length α ≤ 16 → building m base α φ ≡ building m base α (φ ++ 0 ∷ [])
unfolding building
build_inside m base α φ h = ap (sets m base) (sym (body_inside α φ h))

-- the four figures complete the row
pub build_end : (m : List ℕ) (base : ℕ) (α φ : List ℕ) (left mark unit : ℕ)
    → set (set (set (set (building m base α φ) base left) (base + 1) (length α)) (base + 2) mark) (base + 3) unit ≡ sets m base (row left mark unit α φ)
unfolding building row
build_end m base α φ left mark unit = go (body α φ) (body-length α φ)
  where
    store : (b : List ℕ) (j v : ℕ) → length b ≡ 64 → j < 64 → set (sets m base b) (base + j) v ≡ sets m base (set b j v)
    store b j v e h = set_inside m b base j v (omega arith)

    zero_at : (n : ℕ) → n ≡ n + 0
    zero_at n = omega arith

    go : (b : List ℕ) → length b ≡ 64 → set (set (set (set (sets m base b) base left) (base + 1) (length α)) (base + 2) mark) (base + 3) unit
        ≡ sets m base (sets b 0 (left ∷ length α ∷ mark ∷ unit ∷ []))
    go b e =
        let e1 : length (set b 0 left) ≡ 64 = length-sets b 0 (left ∷ []) ∙ e in
        let e2 : length (set (set b 0 left) 1 (length α)) ≡ 64 = length-sets b 0 (left ∷ length α ∷ []) ∙ e in
        let e3 : length (set (set (set b 0 left) 1 (length α)) 2 mark) ≡ 64 = length-sets b 0 (left ∷ length α ∷ mark ∷ []) ∙ e in
        ap (λ (l : List ℕ). set (set (set l (base + 1) (length α)) (base + 2) mark) (base + 3) unit)
        (ap (λ (n : ℕ). set (sets m base b) n left) (zero_at base) ∙ store b 0 left e (omega arith))
        ∙ (ap (λ (l : List ℕ). set (set l (base + 2) mark) (base + 3) unit) (store (set b 0 left) 1 (length α) e1 (omega arith))
        ∙ (ap (λ (l : List ℕ). set l (base + 3) unit) (store (set (set b 0 left) 1 (length α)) 2 mark e2 (omega arith))
        ∙ store (set (set (set b 0 left) 1 (length α)) 2 mark) 3 unit e3 (omega arith)))
