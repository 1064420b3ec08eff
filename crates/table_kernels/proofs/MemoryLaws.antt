-- One more kernel line in memory.
use Prim.Native.Nat.{ℕ, zero, suc, ◌+◌, ◌*◌, ◌/◌, ◌%◌, ◌≤◌, ◌<◌}
use mathlib.Core.Path.{◌≡◌, refl, sym, ap, ◌∙◌}
use mathlib.Core.List.{List, [], ◌∷◌, ◌++◌, append_assoc, append-nil}
use mathlib.Core.Bool.{Bool, true, false, ◌||◌}
use mathlib.Core.Option.{Option, some}
use native.Mathlib.Decide.{ℕ_discrete}
use native.Mathlib.Omega.{arith}
use borrow.Author.Tests.{eq-eqb, ne_eqb}
use lib.Dec.{eqb}
use lib.ListN.{length, get_or, drop, set, drop_of_length-le}
use Rattle.language.specs.Grammar.{at}
use Rattle.leftcorner.specs.Table.{KernelLine, K}
use Rattle.table_lines.specs.Image.{image, flag}
use Rattle.table_lines.proofs.ImageLaws.{image-set, image_same}
use Rattle.table_lines.proofs.ListLaws.{at_last, at_front, at_end}
use Rattle.table_order.proofs.LastLaws.{last_more}
use Rattle.table_kernels.specs.Memory.{figure_of, figure_at, is_in, codes_of, lookahead_at, flagged, KernelMemory}

module _ (l : List KernelLine) where
  -- ---- figures
  figure_last : (x : KernelLine) (y : ℕ) → y / 4 ≡ length l → figure_at (l ++ x ∷ []) y ≡ figure_of (some x) (y % 4)
  unfolding figure_at
  figure_last x y e = ap (λ (n : ℕ). figure_of (at (l ++ x ∷ []) n) (y % 4)) e ∙ ap (λ (o : Option KernelLine). figure_of o (y % 4)) (at_last l x)

  figure_front : (x : KernelLine) (y : ℕ) → (y / 4 ≡ length l → ⊥) → figure_at (l ++ x ∷ []) y ≡ figure_at l y
  unfolding figure_at
  figure_front x y f = ap (λ (o : Option KernelLine). figure_of o (y % 4)) (at_front l x (y / 4) f)

  figure_none : (y : ℕ) → y / 4 ≡ length l → figure_at l y ≡ 0
  unfolding figure_at
  figure_none y e = ap (λ (n : ℕ). figure_of (at l n) (y % 4)) e ∙ ap (λ (o : Option KernelLine). figure_of o (y % 4)) (at_end l)

  blank : (j : ℕ) → figure_of (some (K 0 0 0 [])) j ≡ 0
  blank zero = refl
  blank (suc zero) = refl
  blank (suc (suc zero)) = refl
  blank (suc (suc (suc j))) = refl

  figures_start : (a : ℕ) → image a (figure_at l) ≡ image a (figure_at (l ++ K 0 0 0 [] ∷ []))
  figures_start a = image_same a (figure_at l) (figure_at (l ++ K 0 0 0 [] ∷ [])) (λ y h. go y (ℕ_discrete (y / 4) (length l)))
    where
      go : (y : ℕ) → Dec (y / 4 ≡ length l) → figure_at (l ++ K 0 0 0 [] ∷ []) y ≡ figure_at l y
      go y (yes e) = figure_last (K 0 0 0 []) y e ∙ (blank (y % 4) ∙ sym (figure_none y e))
      go y (no f) = figure_front (K 0 0 0 []) y f

  -- a figure of the last line
  figures_step : (a : ℕ) (x z : KernelLine) (j v : ℕ) → j < 4 → figure_of (some z) j ≡ v
      → ((k : ℕ) → (k ≡ j → ⊥) → figure_of (some z) k ≡ figure_of (some x) k)
      → set (image a (figure_at (l ++ x ∷ []))) (length l * 4 + j) v ≡ image a (figure_at (l ++ z ∷ []))
  figures_step a x z j v h e same = image-set a (figure_at (l ++ x ∷ [])) (figure_at (l ++ z ∷ [])) (length l * 4 + j) v at_it other
    where
      at_it : figure_at (l ++ z ∷ []) (length l * 4 + j) ≡ v
      at_it = figure_last z (length l * 4 + j) (omega arith) ∙ (ap (figure_of (some z)) (let q : (length l * 4 + j) % 4 ≡ j = omega arith in q) ∙ e)

      other : (y : ℕ) → (y ≡ length l * 4 + j → ⊥) → figure_at (l ++ z ∷ []) y ≡ figure_at (l ++ x ∷ []) y
      other y f = go (ℕ_discrete (y / 4) (length l))
        where
          go : Dec (y / 4 ≡ length l) → figure_at (l ++ z ∷ []) y ≡ figure_at (l ++ x ∷ []) y
          go (yes q) = figure_last z y q ∙ (same (y % 4) (λ w. f (omega (arith, q, w))) ∙ sym (figure_last x y q))
          go (no q) = figure_front z y q ∙ sym (figure_front x y q)

  figures_more : (a q i k : ℕ) (σ : List ℕ) → set (set (set (image a (figure_at l)) (length l * 4) q) (length l * 4 + 1) i) (length l * 4 + 2) k
      ≡ image a (figure_at (l ++ K q i k σ ∷ []))
  figures_more a q i k σ =
      ap (λ (m : List ℕ). set (set (set m (length l * 4) q) (length l * 4 + 1) i) (length l * 4 + 2) k) (figures_start a)
      ∙ (ap (λ (n : ℕ). set (set (set (image a (figure_at (l ++ K 0 0 0 [] ∷ []))) n q) (length l * 4 + 1) i) (length l * 4 + 2) k) (plus_none (length l * 4))
      ∙ (ap (λ (m : List ℕ). set (set m (length l * 4 + 1) i) (length l * 4 + 2) k) (figures_step a (K 0 0 0 []) (K q 0 0 []) 0 q (omega arith) refl first)
      ∙ (ap (λ (m : List ℕ). set m (length l * 4 + 2) k) (figures_step a (K q 0 0 []) (K q i 0 []) 1 i (omega arith) refl second)
      ∙ figures_step a (K q i 0 []) (K q i k σ) 2 k (omega arith) refl third)))
    where
      plus_none : (n : ℕ) → n ≡ n + 0
      plus_none n = omega arith

      first : (j : ℕ) → (j ≡ 0 → ⊥) → get_or (q ∷ 0 ∷ 0 ∷ []) j 0 ≡ get_or (0 ∷ 0 ∷ 0 ∷ []) j 0
      first zero f = absurd (f refl)
      first (suc j) f = refl

      second : (j : ℕ) → (j ≡ 1 → ⊥) → get_or (q ∷ i ∷ 0 ∷ []) j 0 ≡ get_or (q ∷ 0 ∷ 0 ∷ []) j 0
      second zero f = refl
      second (suc zero) f = absurd (f refl)
      second (suc (suc j)) f = refl

      third : (j : ℕ) → (j ≡ 2 → ⊥) → get_or (q ∷ i ∷ k ∷ []) j 0 ≡ get_or (q ∷ i ∷ 0 ∷ []) j 0
      third zero f = refl
      third (suc zero) f = refl
      third (suc (suc zero)) f = absurd (f refl)
      third (suc (suc (suc j))) f = refl

  -- ---- lookaheads
  code_last : (x : KernelLine) (y : ℕ) → y / 64 ≡ length l → lookahead_at (l ++ x ∷ []) y ≡ flag (is_in (y % 64) (codes_of (some x)))
  unfolding lookahead_at
  code_last x y e = ap (λ (n : ℕ). flag (is_in (y % 64) (codes_of (at (l ++ x ∷ []) n)))) e ∙ ap (λ (o : Option KernelLine). flag (is_in (y % 64) (codes_of o))) (at_last l x)

  code_front : (x : KernelLine) (y : ℕ) → (y / 64 ≡ length l → ⊥) → lookahead_at (l ++ x ∷ []) y ≡ lookahead_at l y
  unfolding lookahead_at
  code_front x y f = ap (λ (o : Option KernelLine). flag (is_in (y % 64) (codes_of o))) (at_front l x (y / 64) f)

  code_none : (y : ℕ) → y / 64 ≡ length l → lookahead_at l y ≡ 0
  unfolding lookahead_at
  code_none y e = ap (λ (n : ℕ). flag (is_in (y % 64) (codes_of (at l n)))) e ∙ ap (λ (o : Option KernelLine). flag (is_in (y % 64) (codes_of o))) (at_end l)

  in_snoc : (τ : List ℕ) (c d : ℕ) → is_in d (τ ++ c ∷ []) ≡ is_in d τ || eqb c d
  in_snoc [] c d = or_false (eqb c d)
    where
      or_false : (b : Bool) → b || false ≡ b
      or_false true = refl
      or_false false = refl
  in_snoc (x ∷ τ) c d = ap (λ (b : Bool). eqb x d || b) (in_snoc τ c d) ∙ or_assoc (eqb x d) (is_in d τ) (eqb c d)
    where
      or_assoc : (a b c : Bool) → a || (b || c) ≡ a || b || c
      or_assoc true b c = refl
      or_assoc false b c = refl

  module _ (b q i k : ℕ) where
    codes_start : image b (lookahead_at l) ≡ image b (lookahead_at (l ++ K q i k [] ∷ []))
    codes_start = image_same b (lookahead_at l) (lookahead_at (l ++ K q i k [] ∷ [])) (λ y h. go y (ℕ_discrete (y / 64) (length l)))
      where
        go : (y : ℕ) → Dec (y / 64 ≡ length l) → lookahead_at (l ++ K q i k [] ∷ []) y ≡ lookahead_at l y
        go y (yes e) = code_last (K q i k []) y e ∙ sym (code_none y e)
        go y (no f) = code_front (K q i k []) y f

    codes_step : (τ : List ℕ) (d : ℕ) → d < 64 → set (image b (lookahead_at (l ++ K q i k τ ∷ []))) (length l * 64 + d) 1 ≡ image b (lookahead_at (l ++ K q i k (τ ++ d ∷ []) ∷ []))
    codes_step τ d h = image-set b (lookahead_at (l ++ K q i k τ ∷ [])) (lookahead_at (l ++ K q i k (τ ++ d ∷ []) ∷ [])) (length l * 64 + d) 1 at_it other
      where
        or_true : (b : Bool) → b || true ≡ true
        or_true true = refl
        or_true false = refl

        or_false : (b : Bool) → b || false ≡ b
        or_false true = refl
        or_false false = refl

        at_it : lookahead_at (l ++ K q i k (τ ++ d ∷ []) ∷ []) (length l * 64 + d) ≡ 1
        at_it =
            code_last (K q i k (τ ++ d ∷ [])) (length l * 64 + d) (omega arith)
            ∙ (ap (λ (n : ℕ). flag (is_in n (τ ++ d ∷ []))) (let z : (length l * 64 + d) % 64 ≡ d = omega arith in z)
            ∙ ap flag (in_snoc τ d d ∙ (ap (λ (x : Bool). is_in d τ || x) (eq-eqb d d refl) ∙ or_true (is_in d τ))))

        other : (y : ℕ) → (y ≡ length l * 64 + d → ⊥) → lookahead_at (l ++ K q i k (τ ++ d ∷ []) ∷ []) y ≡ lookahead_at (l ++ K q i k τ ∷ []) y
        other y f = go (ℕ_discrete (y / 64) (length l))
          where
            go : Dec (y / 64 ≡ length l) → lookahead_at (l ++ K q i k (τ ++ d ∷ []) ∷ []) y ≡ lookahead_at (l ++ K q i k τ ∷ []) y
            go (yes e) =
                code_last (K q i k (τ ++ d ∷ [])) y e
                ∙ (ap flag (in_snoc τ d (y % 64) ∙ (ap (λ (x : Bool). is_in (y % 64) τ || x) (ne_eqb d (y % 64) (λ w. f (omega (arith, e, w)))) ∙ or_false (is_in (y % 64) τ)))
                ∙ sym (code_last (K q i k τ) y e))
            go (no e) = code_front (K q i k (τ ++ d ∷ [])) y e ∙ sym (code_front (K q i k τ) y e)

    codes_rest : (τ σ : List ℕ) → ((j : ℕ) → get_or σ j 0 < 64) → flagged (image b (lookahead_at (l ++ K q i k τ ∷ []))) (length l * 64) σ ≡ image b (lookahead_at (l ++ K q i k (τ ++ σ) ∷ []))
    codes_rest τ [] h = ap (λ (x : List ℕ). image b (lookahead_at (l ++ K q i k x ∷ []))) (sym (append-nil τ))
    codes_rest τ (d ∷ σ) h =
        ap (λ (m : List ℕ). flagged m (length l * 64) σ) (codes_step τ d (h 0))
        ∙ (codes_rest (τ ++ d ∷ []) σ (λ j. h (suc j)) ∙ ap (λ (x : List ℕ). image b (lookahead_at (l ++ K q i k x ∷ []))) (append_assoc τ (d ∷ []) σ))

    codes_more : (σ : List ℕ) → ((j : ℕ) → get_or σ j 0 < 64) → flagged (image b (lookahead_at l)) (length l * 64) σ ≡ image b (lookahead_at (l ++ K q i k σ ∷ []))
    codes_more σ h = ap (λ (m : List ℕ). flagged m (length l * 64) σ) codes_start ∙ codes_rest [] σ h

-- ---- all of it
pub kernel_more : {a b : ℕ} {l : List KernelLine} {kernels lookaheads last : List ℕ} → KernelMemory a b l kernels lookaheads last
    → (q i k : ℕ) (σ : List ℕ) → ((j : ℕ) → get_or (q ∷ i ∷ k ∷ []) j 0 ≤ 65535) → ((j : ℕ) → get_or σ j 0 < 64) → {kernels' lookaheads' last' : List ℕ}
    → kernels' ≡ set (set (set kernels (length l * 4) q) (length l * 4 + 1) i) (length l * 4 + 2) k
    → lookaheads' ≡ flagged lookaheads (length l * 64) σ → last' ≡ q ∷ i ∷ k ∷ []
    → KernelMemory a b (l ++ K q i k σ ∷ []) kernels' lookaheads' last'
kernel_more {a} {b} {l} h q i k σ small low ks ls e = record {
  held = record {
    kernels_are = ks ∙ (ap (λ (m : List ℕ). set (set (set m (length l * 4) q) (length l * 4 + 1) i) (length l * 4 + 2) k) h.held.kernels_are ∙ figures_more l a q i k σ);
    lookaheads_are = ls ∙ (ap (λ (m : List ℕ). flagged m (length l * 64) σ) h.held.lookaheads_are ∙ codes_more l b q i k σ low);
  };
  last_is = last_more l (K q i k σ) e small;
}

-- past the last code nothing is stored
pub flags_end : (m : List ℕ) (base : ℕ) (σ : List ℕ) (k : ℕ) → length σ ≤ k → flagged m base (drop k σ) ≡ m
flags_end m base σ k l = simp (drop_of_length-le σ {i = k} l)

-- the same stores, told by other expressions
pub figures_by : (m : List ℕ) {n o q r i j k c : ℕ} → n ≡ o → q ≡ r → i ≡ j → k ≡ c
    → set (set (set m (n * 4) q) (n * 4 + 1) i) (n * 4 + 2) k ≡ set (set (set m (o * 4) r) (o * 4 + 1) j) (o * 4 + 2) c
figures_by m a b c d = cc

pub triple_by : {q r i j k c : ℕ} → q ≡ r → i ≡ j → k ≡ c → q ∷ i ∷ k ∷ [] ≡ r ∷ j ∷ c ∷ []
triple_by a b c = cc

pub flags_by : (m : List ℕ) {n o : ℕ} {σ τ : List ℕ} → n ≡ o → σ ≡ τ → flagged m (n * 64) σ ≡ flagged m (o * 64) τ
flags_by m a b = cc
