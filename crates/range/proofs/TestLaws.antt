-- What a test by a call tells: r is its answer, and w what the answer means.
use mathlib.Core.Bool.{Bool, true, false, cond, not, ◌&&◌}
use mathlib.Core.Path.{◌≡◌, refl, sym, ◌∙◌}
use borrow.Author.Tests.{not-true, not-false}

module _ {r w : Bool} (e : r ≡ w) where
  pub fails : not r ≡ true → w ≡ false
  fails h = sym e ∙ not-true r h

  pub holds : not r ≡ false → w ≡ true
  holds h = sym e ∙ not-false r h

-- both parts of a test
pub both : (a b : Bool) → a && b ≡ true → (a ≡ true) × (b ≡ true)
both true b e = (refl, e)
both false b e = (e, cc)

-- what holds of each way out holds of the choice
pub all_cond : {A : Type 0} (P : A → Type 0) (b : Bool) {x y : A} → (b ≡ true → P x) → (b ≡ false → P y) → P (cond b x y)
all_cond P true f g = f refl
all_cond P false f g = g refl
