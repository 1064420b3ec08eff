-- The search for a token that is no terminal.
use Prim.Native.Nat.{ℕ, suc, ◌+◌, ◌≤◌, ◌<◌}
use native.Mathlib.Omega.{arith}
use mathlib.Core.Path.{◌≡◌, refl, ap, ◌∙◌}
use mathlib.Core.Bool.{Bool, true, false, cond}
use mathlib.Core.List.{List, [], ◌∷◌}
use lib.ListN.{length, get_or, drop, drop_of_length-le}
use lib.Seq.{drop-cons}
use Rattle.fixpoint.specs.declared.Found.{Found}
use Rattle.range.specs.Range.{within}
use Rattle.range.proofs.RangeLaws.{within-true, true-within}
use Rattle.stray_tokens.specs.Stray.{stray_from, Spans}

module _ (t i : ℕ) (tokens : List ℕ) where
  next_token : i < length tokens → stray_from t i (drop i tokens) ≡ cond (within 1 (get_or tokens i 0) t) (stray_from t (suc i) (drop (suc i) tokens)) (Found.At i)
  unfolding stray_from
  next_token l = ap (stray_from t i) (drop-cons tokens i 0 l)

  decided : {b : Bool} → within 1 (get_or tokens i 0) t ≡ b → (x y : Found) → cond (within 1 (get_or tokens i 0) t) x y ≡ cond b x y
  decided e x y = ap (λ (c : Bool). cond c x y) e

  pub stray_more : i < length tokens → within 1 (get_or tokens i 0) t ≡ true → stray_from t i (drop i tokens) ≡ stray_from t (i + 1) (drop (i + 1) tokens)
  stray_more l e =
      next_token l ∙ decided e _ _ ∙ (let n : suc i ≡ i + 1 = omega arith in ap (λ (k : ℕ). stray_from t k (drop k tokens)) n)

  pub stray_here : i < length tokens → within 1 (get_or tokens i 0) t ≡ false → stray_from t i (drop i tokens) ≡ Found.At i
  stray_here l e = next_token l ∙ decided e _ _

  pub stray_none : length tokens ≤ i → stray_from t i (drop i tokens) ≡ Found.Nothing
  unfolding stray_from
  stray_none l = ap (stray_from t i) (drop_of_length-le tokens {i = i} l)

-- tokens between two terminals are terminals
pub spanned : (t at least most : ℕ) (w : List ℕ) → within 1 least t ≡ true → within 1 most t ≡ true → Spans w least most → stray_from t at w ≡ Found.Nothing
unfolding stray_from
spanned t at least most [] lo hi all = refl
spanned t at least most (a ∷ w) lo hi all =
    let first = all 0 (omega arith) in
    let inside : within 1 a t ≡ true =
    true-within 1 a t (omega (arith, first.0, (within-true 1 least t lo).0)) (omega (arith, first.1, (within-true 1 most t hi).1)) in
    ap (λ (b : Bool). cond b (stray_from t (suc at) w) (Found.At at)) inside ∙ spanned t (suc at) least most w lo hi (λ i l. all (suc i) (omega arith))

-- the tokens before i
abbrev pub SpansBefore : ℕ → List ℕ → ℕ → ℕ → Type 0
SpansBefore i w least most = (j : ℕ) → j < i → (least ≤ get_or w j 0) × (get_or w j 0 ≤ most)
