-- Memory as the values of a function: what is read, and what a store changes.
use Prim.Native.Nat.{ℕ, zero, suc, ◌<◌}
use mathlib.Core.Path.{◌≡◌, refl, sym, ap, ◌∙◌}
use mathlib.Core.List.{List, ◌∷◌}
use native.Mathlib.Nat.{le_of_suc-le-suc}
use native.Mathlib.Decide.{ℕ_discrete}
use native.Mathlib.Omega.{arith}
use lib.ListN.{length, get_or, set, replicate, length-set}
use lib.Seq.{ext_get_or, get_or-set_same, get_or-set_other}
use Rattle.table_lines.specs.Image.{image}

pub image-length : (n : ℕ) (f : ℕ → ℕ) → length (image n f) ≡ n
unfolding image
image-length zero f = refl
image-length (suc n) f = ap suc (image-length n (λ i. f (suc i)))

pub image_at : (n : ℕ) (f : ℕ → ℕ) (i : ℕ) → i < n → get_or (image n f) i 0 ≡ f i
unfolding image
image_at zero f i h = absurd (omega arith)
image_at (suc n) f zero h = refl
image_at (suc n) f (suc i) h = image_at n (λ j. f (suc j)) i (le_of_suc-le-suc h)

pub image_zeros : (n : ℕ) (f : ℕ → ℕ) → ((i : ℕ) → i < n → f i ≡ 0) → image n f ≡ replicate n 0
unfolding image
image_zeros zero f h = refl
image_zeros (suc n) f h = ap₂' (h zero (omega arith)) (image_zeros n (λ i. f (suc i)) (λ i l. h (suc i) (omega arith)))
  where
    ap₂' : {x : ℕ} {l : List ℕ} → x ≡ 0 → l ≡ replicate n 0 → x ∷ l ≡ 0 ∷ replicate n 0
    ap₂' p q = cc

-- a store at i of what the new function has there; nothing else changes
pub image-set : (n : ℕ) (f h : ℕ → ℕ) (i v : ℕ) → h i ≡ v → ((j : ℕ) → (j ≡ i → ⊥) → h j ≡ f j) → set (image n f) i v ≡ image n h
image-set n f h i v e same =
    ext_get_or 0 (set (image n f) i v) (image n h) (length-set (image n f) i v ∙ (image-length n f ∙ sym (image-length n h))) at
  where
    at : (j : ℕ) → j < length (set (image n f) i v) → get_or (set (image n f) i v) j 0 ≡ get_or (image n h) j 0
    at j l = go (ℕ_discrete j i)
      where
        below : j < n
        below = omega (arith, l, length-set (image n f) i v, image-length n f)

        go : Dec (j ≡ i) → get_or (set (image n f) i v) j 0 ≡ get_or (image n h) j 0
        go (yes q) =
            ap (λ (k : ℕ). get_or (set (image n f) i v) k 0) q
            ∙ (get_or-set_same (image n f) i v 0 (omega (arith, q, below, image-length n f)) ∙ (sym e ∙ (ap h (sym q) ∙ sym (image_at n h j below))))
        go (no q) = get_or-set_other (image n f) i j v 0 q ∙ (image_at n f j below ∙ (sym (same j q) ∙ sym (image_at n h j below)))

-- what two functions that agree below n have in memory is the same
pub image_same : (n : ℕ) (f h : ℕ → ℕ) → ((j : ℕ) → j < n → h j ≡ f j) → image n f ≡ image n h
image_same n f h same =
    ext_get_or 0 (image n f) (image n h) (image-length n f ∙ sym (image-length n h))
    (λ j l. let b : j < n = omega (arith, l, image-length n f) in image_at n f j b ∙ (sym (same j b) ∙ sym (image_at n h j b)))

-- memory that is known to be such
module _ {m : List ℕ} (n : ℕ) (f : ℕ → ℕ) (e : m ≡ image n f) where
  pub image_long : length m ≡ n
  image_long = ap length e ∙ image-length n f

  pub image_read : (i : ℕ) → i < n → get_or m i 0 ≡ f i
  image_read i h = ap (λ (l : List ℕ). get_or l i 0) e ∙ image_at n f i h
