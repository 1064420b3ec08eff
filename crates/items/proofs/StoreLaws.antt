-- A run of stores: what a store beside it or into it does, and what is read back.
use Prim.Native.Nat.{ℕ, zero, suc, ◌+◌, ◌≤◌, ◌<◌}
use mathlib.Core.Path.{◌≡◌, refl, sym, ap, ◌∙◌}
use mathlib.Core.List.{List, [], ◌∷◌, ◌++◌}
use native.Mathlib.Nat.{not-suc-le-zero, le_of_suc-le-suc, add-zero}
use native.Mathlib.Omega.{arith}
use lib.ListN.{length, get_or, set, replicate, length-set}
use lib.Seq.{sets, set_comm, set-set, set-get_or, get_or-set_same, get_or-set_other}

pub sets_join : (l a b : List ℕ) (i : ℕ) → sets l i (a ++ b) ≡ sets (sets l i a) (i + length a) b
sets_join l [] b i = ap (λ (n : ℕ). sets l n b) (sym (add-zero i))
sets_join l (x ∷ a) b i = sets_join (set l i x) a b (suc i) ∙ ap (λ (n : ℕ). sets (sets (set l i x) (suc i) a) n b) (next i (length a))
  where
    next : (m n : ℕ) → suc m + n ≡ m + suc n
    next m n = omega arith

-- one more at the end
pub sets_snoc : (l a : List ℕ) (i x : ℕ) → set (sets l i a) (i + length a) x ≡ sets l i (a ++ x ∷ [])
sets_snoc l a i x = sym (sets_join l a (x ∷ []) i)

-- a store below or above the run
pub set_below : (l a : List ℕ) (i j x : ℕ) → j < i → set (sets l i a) j x ≡ sets (set l j x) i a
set_below l [] i j x h = refl
set_below l (y ∷ a) i j x h =
    set_below (set l i y) a (suc i) j x (omega arith) ∙ ap (λ (m : List ℕ). sets m (suc i) a) (set_comm l i j y x (λ (e : i ≡ j). omega arith))

pub set_above : (l a : List ℕ) (i j x : ℕ) → i + length a ≤ j → set (sets l i a) j x ≡ sets (set l j x) i a
set_above l [] i j x h = refl
set_above l (y ∷ a) i j x h =
    set_above (set l i y) a (suc i) j x (omega arith) ∙ ap (λ (m : List ℕ). sets m (suc i) a) (set_comm l i j y x (λ (e : i ≡ j). omega arith))

-- a store into the run
pub set_inside : (l a : List ℕ) (i j x : ℕ) → j < length a → set (sets l i a) (i + j) x ≡ sets l i (set a j x)
set_inside l [] i j x h = absurd (not-suc-le-zero h)
set_inside l (y ∷ a) i zero x h =
    ap (λ (n : ℕ). set (sets (set l i y) (suc i) a) n x) (add-zero i)
    ∙ (set_below (set l i y) a (suc i) i x (omega arith) ∙ ap (λ (m : List ℕ). sets m (suc i) a) (set-set l i y x))
set_inside l (y ∷ a) i (suc j) x h =
    ap (λ (n : ℕ). set (sets (set l i y) (suc i) a) n x) (next i j) ∙ set_inside (set l i y) a (suc i) j x (le_of_suc-le-suc h)
  where
    next : (m n : ℕ) → m + suc n ≡ suc m + n
    next m n = omega arith

-- what is read back
pub read_below : (l a : List ℕ) (i j : ℕ) → j < i → get_or (sets l i a) j 0 ≡ get_or l j 0
read_below l [] i j h = refl
read_below l (y ∷ a) i j h = read_below (set l i y) a (suc i) j (omega arith) ∙ get_or-set_other l i j y 0 (λ (e : j ≡ i). omega arith)

pub read_above : (l a : List ℕ) (i j : ℕ) → i + length a ≤ j → get_or (sets l i a) j 0 ≡ get_or l j 0
read_above l [] i j h = refl
read_above l (y ∷ a) i j h = read_above (set l i y) a (suc i) j (omega arith) ∙ get_or-set_other l i j y 0 (λ (e : j ≡ i). omega arith)

pub read_inside : (l a : List ℕ) (i j : ℕ) → j < length a → i + j < length l → get_or (sets l i a) (i + j) 0 ≡ get_or a j 0
read_inside l [] i j h k = absurd (not-suc-le-zero h)
read_inside l (y ∷ a) i zero h k =
    ap (λ (n : ℕ). get_or (sets (set l i y) (suc i) a) n 0) (add-zero i)
    ∙ (read_below (set l i y) a (suc i) i (omega arith) ∙ get_or-set_same l i y 0 (omega arith))
read_inside l (y ∷ a) i (suc j) h k =
    ap (λ (n : ℕ). get_or (sets (set l i y) (suc i) a) n 0) (next i j)
    ∙ read_inside (set l i y) a (suc i) j (le_of_suc-le-suc h) (simp length-set (omega arith))
  where
    next : (m n : ℕ) → m + suc n ≡ suc m + n
    next m n = omega arith

pub read_zeros : (n j : ℕ) → get_or {A = ℕ} (replicate n 0) j 0 ≡ 0
read_zeros zero j = refl
read_zeros (suc n) zero = refl
read_zeros (suc n) (suc j) = read_zeros n j

-- a zero stored on a zero
pub set_zero : (l : List ℕ) (j : ℕ) → get_or l j 0 ≡ 0 → set l j 0 ≡ l
set_zero l j h = ap (λ (v : ℕ). set l j v) (sym h) ∙ set-get_or l j 0

pub sets_zeros : (n : ℕ) (l : List ℕ) (i : ℕ) → ((j : ℕ) → i ≤ j → j < i + n → get_or l j 0 ≡ 0) → sets l i (replicate n 0) ≡ l
sets_zeros zero l i h = refl
sets_zeros (suc n) l i h =
    let e : set l i 0 ≡ l = set_zero l i (h i (omega arith) (omega arith)) in
    ap (λ (m : List ℕ). sets m (suc i) (replicate n 0)) e ∙ sets_zeros n l (suc i) (λ j p q. h j (omega arith) (omega arith))
