-- The tests over lines whose answers stand in memory as flags, and what they tell.
use Prim.Native.Nat.{ℕ}
use native.Mathlib.Omega.{arith}
use mathlib.Core.Path.{◌≡◌, refl, sym, ap, subst, ◌∙◌}
use mathlib.Core.Logic.{◌⊎◌, inl, inr}
use mathlib.Core.Bool.{Bool, true, false, ◌||◌}
use mathlib.Core.List.{List, [], ◌∷◌}
use mathlib.Core.Option.{some}
use borrow.Author.Tests.{eqb-true, eq-eqb}
use lib.Dec.{eqb}
use lib.ListN.{get_or}
use Rattle.language.specs.Sentence.{In, here, there}
use Rattle.leftcorner.specs.Table.{EntryLine, E, Action, S, N, A, P, ActionLine, L, next_state}
use Rattle.leftcorner.proofs.ReadOff.{clash}
use Rattle.fixpoint.specs.Flags.{On}
use Rattle.table_lines.specs.Image.{flag}
use Rattle.table_entries.specs.Memory.{is_entry_state}
use Rattle.table_kernels.specs.Memory.{is_in}
use Rattle.table_actions.specs.Memory.{names, is_named}

-- ---- a flag, by its test
pub on_true : {m : List ℕ} {x : ℕ} (b : Bool) → get_or m x 0 ≡ flag b → On m x → b ≡ true
on_true true e h = refl
on_true false e h = absurd (h.nonzero e)

pub true_on : {m : List ℕ} {x : ℕ} (b : Bool) → get_or m x 0 ≡ flag b → b ≡ true → On m x
true_on true e h = record { nonzero = λ z. omega (arith, e, z) }
true_on false e h = clash cc

pub or_tells : (a b : Bool) → a || b ≡ true → (a ≡ true) ⊎ (b ≡ true)
or_tells true b e = inl refl
or_tells false b e = inr e

pub or_left : {a : Bool} (b : Bool) → a ≡ true → a || b ≡ true
or_left b e = ap (λ (a : Bool). a || b) e

pub or_right : (a : Bool) {b : Bool} → b ≡ true → a || b ≡ true
or_right true e = refl
or_right false e = e

-- ---- one of a list's elements meets a test
module _ {A : Type 0} (f : A → Bool) where
  abbrev any : List A → Bool
  any [] = false
  any (x ∷ l) = f x || any l

  any_in : (l : List A) → any l ≡ true → (x : A) × In x l × (f x ≡ true)
  any_in [] e = clash cc
  any_in (x ∷ l) e = go (or_tells (f x) (any l) e) (any_in l)
    where
      go : (f x ≡ true) ⊎ (any l ≡ true) → (any l ≡ true → (y : A) × In y l × (f y ≡ true)) → (y : A) × In y (x ∷ l) × (f y ≡ true)
      go (inl h) rest = (x, here, h)
      go (inr h) rest = let r = rest h in (r.0, there r.1, r.2)

  in_any : {x : A} {l : List A} → In x l → f x ≡ true → any l ≡ true
  in_any (here {l = l}) e = or_left (any l) e
  in_any (there {y = y} m) e = or_right (f y) (in_any m e)

-- ---- codes
codes_any : (d : ℕ) (σ : List ℕ) → is_in d σ ≡ any (λ c. eqb c d) σ
codes_any d [] = refl
codes_any d (c ∷ σ) = ap (λ (b : Bool). eqb c d || b) (codes_any d σ)

pub true_in : (d : ℕ) (σ : List ℕ) → is_in d σ ≡ true → In d σ
true_in d σ e = let r = any_in (λ c. eqb c d) σ (sym (codes_any d σ) ∙ e) in subst (λ (c : ℕ). In c σ) (eqb-true r.0 d r.2) r.1

pub in_true : (d : ℕ) (σ : List ℕ) → In d σ → is_in d σ ≡ true
in_true d σ m = codes_any d σ ∙ in_any (λ c. eqb c d) m (eq-eqb d d refl)

-- ---- states of entries
abbrev enters : ℕ → EntryLine → Bool
enters q (E s γ) = eqb s q

entries_any : (q : ℕ) (l : List EntryLine) → is_entry_state l q ≡ any (enters q) l
entries_any q [] = refl
entries_any q (E s γ ∷ l) = ap (λ (b : Bool). eqb s q || b) (entries_any q l)

pub true_entry : (q : ℕ) (l : List EntryLine) → is_entry_state l q ≡ true → (γ : List ℕ) × In (E q γ) l
true_entry q l e = go (any_in (enters q) l (sym (entries_any q l) ∙ e))
  where
    go : (x : EntryLine) × In x l × (enters q x ≡ true) → (γ : List ℕ) × In (E q γ) l
    go (E s γ, m, h) = (γ, subst (λ (p : ℕ). In (E p γ) l) (eqb-true s q h) m)

pub entry_true : (q : ℕ) (l : List EntryLine) (γ : List ℕ) → In (E q γ) l → is_entry_state l q ≡ true
entry_true q l γ m = entries_any q l ∙ in_any (enters q) m (eq-eqb q q refl)

-- ---- states that action lines name
abbrev leads : ℕ → ActionLine → Bool
leads q (L p X x) = names x q

actions_any : (q : ℕ) (l : List ActionLine) → is_named l q ≡ any (leads q) l
actions_any q [] = refl
actions_any q (L p X x ∷ l) = ap (λ (b : Bool). names x q || b) (actions_any q l)

names_next : (q : ℕ) (x : Action) → names x q ≡ true → next_state x ≡ some q
names_next q (S s) e = ap (λ (n : ℕ). some n) (eqb-true s q e)
names_next q (N s) e = ap (λ (n : ℕ). some n) (eqb-true s q e)
names_next q (A i) e = clash cc
names_next q (P n) e = clash cc

next_names : (q : ℕ) (x : Action) → next_state x ≡ some q → names x q ≡ true
next_names q (S s) e = eq-eqb s q (let z : s ≡ q = cc in z)
next_names q (N s) e = eq-eqb s q (let z : s ≡ q = cc in z)
next_names q (A i) e = clash cc
next_names q (P n) e = clash cc

pub true_next : (q : ℕ) (l : List ActionLine) → is_named l q ≡ true → (p : ℕ) × (X : ℕ) × (x : Action) × In (L p X x) l × (next_state x ≡ some q)
true_next q l e = go (any_in (leads q) l (sym (actions_any q l) ∙ e))
  where
    go : (y : ActionLine) × In y l × (leads q y ≡ true) → (p : ℕ) × (X : ℕ) × (x : Action) × In (L p X x) l × (next_state x ≡ some q)
    go (L p X x, m, h) = (p, X, x, m, names_next q x h)

pub next_true : (q : ℕ) (l : List ActionLine) (p X : ℕ) (x : Action) → In (L p X x) l → next_state x ≡ some q → is_named l q ≡ true
next_true q l p X x m e = actions_any q l ∙ in_any (leads q) m (next_names q x e)
