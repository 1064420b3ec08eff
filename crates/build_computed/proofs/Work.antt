-- What is reached from some numbers by steps, computed: a list of what is done and a list of what is still to do.
use Prim.Native.Nat.{ℕ, zero, suc}
use mathlib.Core.Path.{◌≡◌, refl, sym, subst}
use mathlib.Core.Logic.{◌⊎◌, inl, inr}
use mathlib.Core.Bool.{Bool, true, false, not, ◌||◌}
use mathlib.Core.List.{List, [], ◌∷◌, ◌++◌}
use mathlib.Core.Option.{Option, some, none}
use borrow.Author.Tests.{eqb-true, eq-eqb}
use lib.Dec.{eqb}
use Rattle.language.specs.Sentence.{In, here, there}
use Rattle.language.proofs.Member.{in_cons, in_left, in_right, in_either}
use Rattle.leftcorner.proofs.ReadOff.{clash}

-- ---- tests

-- a test's branches are clauses, since arguments are computed before a call
abbrev pub push_if : Bool → ℕ → List ℕ → List ℕ
push_if true x l = x ∷ l
push_if false x l = l

abbrev pub member : ℕ → List ℕ → Bool
member x [] = false
member x (y ∷ l) = eqb y x || member x l

pub push_in : (b : Bool) (x : ℕ) (l : List ℕ) (y : ℕ) → In y (push_if b x l) → ((b ≡ true) × (y ≡ x)) ⊎ In y l
push_in true x l y m = go (in_cons m)
  where
    go : (y ≡ x) ⊎ In y l → ((true ≡ true) × (y ≡ x)) ⊎ In y l
    go (inl e) = inl (refl, e)
    go (inr n) = inr n
push_in false x l y m = inr m

pub push_here : (b : Bool) (x : ℕ) (l : List ℕ) → b ≡ true → In x (push_if b x l)
push_here true x l e = here
push_here false x l e = clash cc

pub push_there : (b : Bool) (x : ℕ) {l : List ℕ} {y : ℕ} → In y l → In y (push_if b x l)
push_there true x m = there m
push_there false x m = m

pub or_true : (a b : Bool) → a || b ≡ true → (a ≡ true) ⊎ (b ≡ true)
or_true true b e = inl refl
or_true false b e = inr e

pub or_left : (a b : Bool) → a ≡ true → a || b ≡ true
or_left true b e = refl
or_left false b e = clash cc

pub or_right : (a b : Bool) → b ≡ true → a || b ≡ true
or_right true b e = refl
or_right false b e = e

pub member_in : (x : ℕ) (l : List ℕ) → member x l ≡ true → In x l
member_in x [] e = clash cc
member_in x (y ∷ l) e = go (or_true (eqb y x) (member x l) e) (member_in x l)
  where
    go : (eqb y x ≡ true) ⊎ (member x l ≡ true) → (member x l ≡ true → In x l) → In x (y ∷ l)
    go (inl h) rec = subst (λ (z : ℕ). In x (z ∷ l)) (sym (eqb-true y x h)) here
    go (inr h) rec = there (rec h)

pub in_member : {x : ℕ} {l : List ℕ} → In x l → member x l ≡ true
in_member {x = x} (here {l = l}) = or_left (eqb x x) (member x l) (eq-eqb x x refl)
in_member {x = x} (there {y = y} {l = l} m) = or_right (eqb y x) (member x l) (in_member m)

-- ---- the work

module _ (next : ℕ → List ℕ) where
  abbrev pub to_do : Bool → ℕ → List ℕ → List ℕ
  to_do true x todo = next x ++ todo
  to_do false x todo = todo

  -- none where the fuel does not last
  abbrev pub work : ℕ → List ℕ → List ℕ → Option (List ℕ)
  work zero [] done = some done
  work zero (x ∷ todo) done = none
  work (suc f) [] done = some done
  work (suc f) (x ∷ todo) done = let new = not (member x done) in work f (to_do new x todo) (push_if new x done)

  -- ---- all that it finds is reached

  module _ (Φ : ℕ → Type 0) (step : (x y : ℕ) → Φ x → In y (next x) → Φ y) where
    pub work_only : (f : ℕ) (todo done l : List ℕ) → work f todo done ≡ some l → ((x : ℕ) → In x todo → Φ x) → ((x : ℕ) → In x done → Φ x) → (x : ℕ)
        → In x l → Φ x
    work_only zero [] done l e t d x m = let z : done ≡ l = cc in d x (subst (λ (k : List ℕ). In x k) (sym z) m)
    work_only zero (y ∷ todo) done l e t d x m = clash cc
    work_only (suc f) [] done l e t d x m = let z : done ≡ l = cc in d x (subst (λ (k : List ℕ). In x k) (sym z) m)
    work_only (suc f) (y ∷ todo) done l e t d x m =
        work_only f (to_do (not (member y done)) y todo) (push_if (not (member y done)) y done) l e (λ z n. due (not (member y done)) z n)
        (λ z n. past z (push_in (not (member y done)) y done z n)) x m
      where
        joined : (z : ℕ) → In z (next y) ⊎ In z todo → Φ z
        joined z (inl n) = step y z (t y here) n
        joined z (inr n) = t z (there n)

        due : (b : Bool) (z : ℕ) → In z (to_do b y todo) → Φ z
        due true z n = joined z (in_either (next y) n)
        due false z n = t z (there n)

        past : (z : ℕ) → ((not (member y done) ≡ true) × (z ≡ y)) ⊎ In z done → Φ z
        past z (inl h) = subst Φ (sym h.1) (t y here)
        past z (inr n) = d z n

  -- ---- and it finds all: what was to do, and the next of each that it has

  pub record Whole (todo done l : List ℕ) : Type 0 where
    pub did : (x : ℕ) → In x todo → In x l
    pub kept : (x : ℕ) → In x done → In x l
    pub closed : (x y : ℕ) → In x l → In y (next x) → In y l

  abbrev pub Open : List ℕ → List ℕ → Type 0
  Open todo done = (x y : ℕ) → In x done → In y (next x) → In y done ⊎ In y todo

  ended : (done l : List ℕ) → done ≡ l → Open [] done → Whole [] done l
  ended done l e h = subst (Whole [] done) e (record { did = λ x m. elim m [ ]; kept = λ x m. m; closed = λ x y m n. one y (h x y m n) })
    where
      one : (y : ℕ) → In y done ⊎ In y [] → In y done
      one y (inl m) = m
      one y (inr m) = elim m [ ]

  pub work_whole : (f : ℕ) (todo done l : List ℕ) → work f todo done ≡ some l → Open todo done → Whole todo done l
  work_whole zero [] done l e h = let z : done ≡ l = cc in ended done l z h
  work_whole zero (x ∷ todo) done l e h = clash cc
  work_whole (suc f) [] done l e h = let z : done ≡ l = cc in ended done l z h
  work_whole (suc f) (x ∷ todo) done l e h =
      go (member x done) refl (λ o. work_whole f (to_do (not (member x done)) x todo) (push_if (not (member x done)) x done) l e o)
    where
      After : Bool → Type 0
      After b = Open (to_do (not b) x todo) (push_if (not b) x done) → Whole (to_do (not b) x todo) (push_if (not b) x done) l

      known : In x done → (y : ℕ) → In y done ⊎ In y (x ∷ todo) → In y done ⊎ In y todo
      known m y (inl n) = inl n
      known m y (inr n) = one (in_cons n)
        where
          one : (y ≡ x) ⊎ In y todo → In y done ⊎ In y todo
          one (inl e) = inl (subst (λ (z : ℕ). In z done) (sym e) m)
          one (inr k) = inr k

      new : (z y : ℕ) → In y (next z) → (z ≡ x) ⊎ In z done → In y (x ∷ done) ⊎ In y (next x ++ todo)
      new z y n (inl e) = inr (in_left todo (subst (λ (w : ℕ). In y (next w)) e n))
      new z y n (inr m) = one (h z y m n)
        where
          two : (y ≡ x) ⊎ In y todo → In y (x ∷ done) ⊎ In y (next x ++ todo)
          two (inl e) = inl (subst (λ (w : ℕ). In y (w ∷ done)) e here)
          two (inr k) = inr (in_right (next x) k)

          one : In y done ⊎ In y (x ∷ todo) → In y (x ∷ done) ⊎ In y (next x ++ todo)
          one (inl k) = inl (there k)
          one (inr k) = two (in_cons k)

      back : (w : Whole todo done l) → In x l → (y : ℕ) → (y ≡ x) ⊎ In y todo → In y l
      back w m y (inl e) = subst (λ (z : ℕ). In z l) (sym e) m
      back w m y (inr n) = w.did y n

      go : (b : Bool) → member x done ≡ b → After b → Whole (x ∷ todo) done l
      go true m rec =
          let w = rec (λ z y a n. known (member_in x done m) y (h z y a n)) in
          record { did = λ y n. back w (w.kept x (member_in x done m)) y (in_cons n); kept = w.kept; closed = w.closed }
      go false m rec =
          let w = rec (λ z y a n. new z y n (in_cons a)) in
          record { did = λ y n. one w y (in_cons n); kept = λ y n. w.kept y (there n); closed = w.closed }
        where
          one : Whole (next x ++ todo) (x ∷ done) l → (y : ℕ) → (y ≡ x) ⊎ In y todo → In y l
          one w y (inl e) = subst (λ (z : ℕ). In z l) (sym e) (w.kept x here)
          one w y (inr n) = w.did y (in_right (next x) n)
