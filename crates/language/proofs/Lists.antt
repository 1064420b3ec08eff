-- Laws about lists that the proofs share: joining lists of lists, and the symbol at a dot.
use Prim.Native.Nat.{ℕ, zero, suc}
use native.Mathlib.Nat.{suc-ne-zero}
use mathlib.Core.Path.{◌≡◌, refl, sym, ap, ◌∙◌}
use mathlib.Core.List.{List, [], ◌∷◌, ◌++◌, append_assoc}
use lib.ListN.{length, take, drop}
use Rattle.language.specs.Grammar.{concat}
use Rattle.language.specs.First.{next}

pub concat-++ : (l n : List (List ℕ)) → concat (l ++ n) ≡ concat l ++ concat n
concat-++ [] n = refl
concat-++ (x ∷ l) n = ap (λ (k : List ℕ). x ++ k) (concat-++ l n) ∙ sym (append_assoc x (concat l) (concat n))

-- ---- where X stands behind the first n

pub drop_next : (n : ℕ) (l : List ℕ) (X : ℕ) (β : List ℕ) → drop n l ≡ X ∷ β → drop (suc n) l ≡ β
drop_next zero [] X β e = cc
drop_next zero (Y ∷ l) X β e = cc
drop_next (suc n) [] X β e = cc
drop_next (suc n) (Y ∷ l) X β e = drop_next n l X β e

pub take_next : (n : ℕ) (l : List ℕ) (X : ℕ) (β : List ℕ) → drop n l ≡ X ∷ β → take (suc n) l ≡ take n l ++ X ∷ []
take_next zero [] X β e = cc
take_next zero (Y ∷ l) X β e = cc
take_next (suc n) [] X β e = cc
take_next (suc n) (Y ∷ l) X β e = ap (λ (k : List ℕ). Y ∷ k) (take_next n l X β e)

pub take_long : (n : ℕ) (l : List ℕ) (X : ℕ) (β : List ℕ) → drop n l ≡ X ∷ β → length (take (suc n) l) ≡ suc n
take_long zero [] X β e = absurd (suc-ne-zero (length β) (sym (ap length e)))
take_long zero (Y ∷ l) X β e = refl
take_long (suc n) [] X β e = absurd (suc-ne-zero (length β) (sym (ap length e)))
take_long (suc n) (Y ∷ l) X β e = ap suc (take_long n l X β e)

-- ---- the first of a join

pub next_join : (l n : List ℕ) (d : ℕ) → next (l ++ n) d ≡ next l (next n d)
next_join [] n d = refl
next_join (a ∷ l) n d = refl
