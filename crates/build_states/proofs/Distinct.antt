-- Lists of strings in which none stands twice, and what joins them. A kernel set is a string too.
use Prim.Native.Nat.{ℕ, zero, suc, ◌≤◌, ◌<◌}
use native.Mathlib.Omega.{arith}
use native.Mathlib.Nat.{le_of_suc-le-suc, not-suc-le-zero}
use mathlib.Core.Path.{◌≡◌, refl, sym, ap, subst, ◌∙◌}
use mathlib.Core.Logic.{◌⊎◌, inl, inr, ⊎_elim}
use mathlib.Core.Bool.{Bool, true, false, cond, true≢false}
use mathlib.Core.List.{List, [], ◌∷◌, ◌++◌, append_assoc, append-nil}
use mathlib.Core.Option.{some}
use lib.ListN.{length, get_or, length-append}
use Rattle.language.specs.Grammar.{at}
use Rattle.language.specs.Sentence.{In, here, there}
use Rattle.language.proofs.Member.{in_left, in_right}
use Rattle.leftcorner.specs.Table.{same_string}
use Rattle.leftcorner.proofs.ReadOff.{clash, same_string_lem, string_same}
use Rattle.build_states.specs.Strings.{among, add_string}

pub among_in : (γ : List ℕ) (l : List (List ℕ)) → among γ l ≡ true → In γ l
among_in γ [] e = clash cc
among_in γ (δ ∷ l) e = go (same_string δ γ) refl e (among_in γ l)
  where
    go : (t : Bool) → same_string δ γ ≡ t → cond t true (among γ l) ≡ true → (among γ l ≡ true → In γ l) → In γ (δ ∷ l)
    go true q e f = subst (λ (x : List ℕ). In γ (x ∷ l)) (sym (same_string_lem δ γ q)) here
    go false q e f = there (f e)

pub in_among : {γ : List ℕ} {l : List (List ℕ)} → In γ l → among γ l ≡ true
in_among {γ = γ} (here {l = l}) = ap (λ (t : Bool). cond t true (among γ l)) (string_same γ)
in_among {γ = γ} (there {y = δ} {l = l} m) = go (same_string δ γ) (in_among m)
  where
    go : (t : Bool) → among γ l ≡ true → cond t true (among γ l) ≡ true
    go true e = refl
    go false e = e

-- no string twice
abbrev pub Distinct : List (List ℕ) → Type 0
Distinct [] = Unit {0}
Distinct (γ ∷ l) = (In γ l → ⊥) × Distinct l

pub in_end : (γ δ : List ℕ) (l : List (List ℕ)) → In γ (l ++ δ ∷ []) → In γ l ⊎ (γ ≡ δ)
in_end γ δ [] here = inr refl
in_end γ δ [] (there u) = elim u [ ]
in_end γ δ (h ∷ l) here = inl here
in_end γ δ (h ∷ l) (there u) = ⊎_elim (λ v. inl (there v)) (λ e. inr e) (in_end γ δ l u)

distinct_end : (l : List (List ℕ)) (γ : List ℕ) → Distinct l → (In γ l → ⊥) → Distinct (l ++ γ ∷ [])
distinct_end [] γ d f = (λ u. elim u [ ], tt)
distinct_end (δ ∷ l) γ d f = (λ u. ⊎_elim d.0 (λ e. f (subst (λ (x : List ℕ). In γ (x ∷ l)) (sym e) here)) (in_end δ γ l u), distinct_end l γ d.1 (λ u. f (there u)))

-- ---- by position

pub at_in : {A : Type 0} (l : List A) (j : ℕ) (x : A) → at l j ≡ some x → In x l
at_in [] j x e = clash cc
at_in {A = A} (y ∷ l) zero x e = let f : y ≡ x = cc in subst (λ (z : A). In x (z ∷ l)) (sym f) here
at_in (y ∷ l) (suc j) x e = there (at_in l j x e)

pub in_at : {A : Type 0} {x : A} {l : List A} → In x l → (j : ℕ) × (at l j ≡ some x)
in_at here = (0, refl)
in_at (there m) = let r = in_at m in (suc r.0, r.1)

pub distinct_at : (l : List (List ℕ)) (i j : ℕ) (γ : List ℕ) → Distinct l → at l i ≡ some γ → at l j ≡ some γ → i ≡ j
distinct_at [] i j γ d e f = clash cc
distinct_at (δ ∷ l) zero zero γ d e f = refl
distinct_at (δ ∷ l) zero (suc j) γ d e f = let z : γ ≡ δ = cc in absurd (d.0 (subst (λ (x : List ℕ). In x l) z (at_in l j γ f)))
distinct_at (δ ∷ l) (suc i) zero γ d e f = let z : γ ≡ δ = cc in absurd (d.0 (subst (λ (x : List ℕ). In x l) z (at_in l i γ e)))
distinct_at (δ ∷ l) (suc i) (suc j) γ d e f = ap suc (distinct_at l i j γ d.1 e f)

-- ---- lists that go on

pub record Extends (a b : List (List ℕ)) : Type 0 where
  pub more : List (List ℕ)
  pub is : b ≡ a ++ more

pub stays : (a : List (List ℕ)) → Extends a a
stays a = record { more = []; is = sym (append-nil a) }

pub extends_trans : {a b c : List (List ℕ)} → Extends a b → Extends b c → Extends a c
extends_trans {a = a} e f = record { more = e.more ++ f.more; is = f.is ∙ ap (λ (l : List (List ℕ)). l ++ f.more) e.is ∙ append_assoc a e.more f.more }

get_d_left : (a r : List (List ℕ)) (p : ℕ) → p < length a → get_or (a ++ r) p [] ≡ get_or a p []
get_d_left [] r p l = absurd (not-suc-le-zero l)
get_d_left (k ∷ a) r zero l = refl
get_d_left (k ∷ a) r (suc p) l = get_d_left a r p (le_of_suc-le-suc l)

pub get_d_end : (a : List (List ℕ)) (m : List ℕ) → get_or (a ++ m ∷ []) (length a) [] ≡ m
get_d_end [] m = refl
get_d_end (k ∷ a) m = get_d_end a m

pub kept : {a b : List (List ℕ)} → Extends a b → (p : ℕ) → p < length a → get_or b p [] ≡ get_or a p []
kept {a = a} e p l = rw e.is (get_d_left a e.more p l)

pub longer : {a b : List (List ℕ)} → Extends a b → length a ≤ length b
longer {a = a} e = rw (e.is, length-append) (omega arith)

pub still_in : {γ : List ℕ} {a b : List (List ℕ)} → Extends a b → In γ a → In γ b
still_in {γ = γ} e m = subst (λ (l : List (List ℕ)). In γ l) (sym e.is) (in_left e.more m)

-- ---- a string that joins

module _ (l : List (List ℕ)) where
  -- the list after it, by whether it was there
  pub joined : (Φ : List (List ℕ) → Type 0) (γ : List ℕ) → (In γ l → Φ l) → ((In γ l → ⊥) → Φ (l ++ γ ∷ [])) → Φ (add_string l γ)
  unfolding add_string
  joined Φ γ p f = go (among γ l) refl
    where
      go : (t : Bool) → among γ l ≡ t → Φ (cond t l (l ++ γ ∷ []))
      go true e = p (among_in γ l e)
      go false e = f (λ u. true≢false (sym (in_among u) ∙ e))

  pub join_extends : (γ : List ℕ) → Extends l (add_string l γ)
  join_extends γ = joined (λ (m : List (List ℕ)). Extends l m) γ (λ _. stays l) (λ _. record { more = γ ∷ []; is = refl })

  pub join_distinct : (γ : List ℕ) → Distinct l → Distinct (add_string l γ)
  join_distinct γ d = joined Distinct γ (λ _. d) (distinct_end l γ d)

  pub join_in : (γ : List ℕ) → In γ (add_string l γ)
  join_in γ = joined (λ (m : List (List ℕ)). In γ m) γ (λ u. u) (λ _. in_right l here)

  pub join_only : (γ δ : List ℕ) → In δ (add_string l γ) → In δ l ⊎ (δ ≡ γ)
  join_only γ δ = joined (λ (m : List (List ℕ)). In δ m → In δ l ⊎ (δ ≡ γ)) γ (λ _ u. inl u) (λ _ u. in_end δ γ l u)
