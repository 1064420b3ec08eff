-- The discovery step by step: what a move adds, and that nothing joins where a limit is passed.
use Prim.Native.Nat.{ℕ, zero, suc, ◌≤◌, ◌<◌}
use mathlib.Core.Path.{◌≡◌, refl, sym, ap, ◌∙◌}
use mathlib.Core.Bool.{Bool, true, false, cond}
use mathlib.Core.List.{List, [], ◌∷◌, ◌++◌}
use borrow.Author.Tests.{lt-ltb, le-ltb}
use lib.Dec.{ltb}
use lib.ListN.{length, get_or}
use Rattle.language.specs.Sentence.{In, here, there}
use Rattle.build_states.specs.States.{Kernel, range, note, note_if, leave, explore}
use Rattle.build_states.proofs.Distinct.{joined}
use Rattle.build_states.proofs.Discovery.{Fits, noted, noted_if}

-- ---- one kernel set

pub note_none : (ks : List Kernel) → note_if ks [] ≡ ks
unfolding note
note_none ks = noted_if ks (λ (l : List Kernel). l ≡ ks) [] (λ _. refl) (λ _. refl)

pub note_known : (ks : List Kernel) (m : Kernel) → In m ks → note_if ks m ≡ ks
note_known ks m u = noted_if ks (λ (l : List Kernel). l ≡ ks) m (λ _. refl) (λ _. noted ks (λ (l : List Kernel). l ≡ ks) m refl (λ _ f. absurd (f u)))

pub note_new : (ks : List Kernel) (m : Kernel) → Fits ks → (m ≡ [] → ⊥) → (In m ks → ⊥) → note_if ks m ≡ ks ++ m ∷ []
unfolding note
note_new ks [] fits some new = absurd (some refl)
note_new ks (x ∷ m) fits some new =
    noted_if ks (λ (l : List Kernel). l ≡ ks ++ (x ∷ m) ∷ []) (x ∷ m) (λ f. absurd (f fits))
    (λ _. joined ks (λ (l : List Kernel). l ≡ ks ++ (x ∷ m) ∷ []) (x ∷ m) (λ u. absurd (new u)) (λ _. refl))

pub note_full : (ks : List Kernel) (m : Kernel) → (Fits ks → ⊥) → note_if ks m ≡ ks
note_full ks m f = noted_if ks (λ (l : List Kernel). l ≡ ks) m (λ _. refl) (λ h. absurd (f h))

-- ---- one state

module _ (move : Kernel → ℕ → Kernel) where
  pub leave_none : (k : Kernel) (ks : List Kernel) → leave move k [] ks ≡ ks
  unfolding leave
  leave_none k ks = refl

  pub leave_more : (k : Kernel) (X : ℕ) (xs : List ℕ) (ks : List Kernel) → leave move k (X ∷ xs) ks ≡ leave move k xs (note_if ks (move k X))
  unfolding leave
  leave_more k X xs ks = refl

  pub leave_full : (k : Kernel) (xs : List ℕ) (ks : List Kernel) → (Fits ks → ⊥) → leave move k xs ks ≡ ks
  leave_full k [] ks f = leave_none k ks
  leave_full k (X ∷ xs) ks f = leave_more k X xs ks ∙ ap (leave move k xs) (note_full ks (move k X) f) ∙ leave_full k xs ks f

  -- ---- all states

  pub explore_more : (f q : ℕ) (ks : List Kernel) → q < length ks → explore move (suc f) q ks ≡ explore move f (suc q) (leave move (get_or ks q []) (range 1 127) ks)
  unfolding explore
  explore_more f q ks l = simp (lt-ltb q (length ks) l)

  pub explore_done : (f q : ℕ) (ks : List Kernel) → length ks ≤ q → explore move f q ks ≡ ks
  unfolding explore
  explore_done zero q ks l = refl
  explore_done (suc f) q ks l = simp (le-ltb q (length ks) l)

  pub explore_full : (f q : ℕ) (ks : List Kernel) → (Fits ks → ⊥) → explore move f q ks ≡ ks
  unfolding explore
  explore_full zero q ks f = refl
  explore_full (suc n) q ks f = go (ltb q (length ks)) (explore_full n (suc q) ks f)
    where
      after : explore move n (suc q) ks ≡ ks → explore move n (suc q) (leave move (get_or ks q []) (range 1 127) ks) ≡ ks
      after e = ap (explore move n (suc q)) (leave_full (get_or ks q []) (range 1 127) ks f) ∙ e

      go : (b : Bool) → explore move n (suc q) ks ≡ ks → cond b (explore move n (suc q) (leave move (get_or ks q []) (range 1 127) ks)) ks ≡ ks
      go true e = after e
      go false e = refl

-- leaving a state asks for its moves on some symbols, and nothing else of it
pub leave_over : (move move' : Kernel → ℕ → Kernel) (k k' : Kernel) (xs : List ℕ) (ks : List Kernel) → ((X : ℕ) → In X xs → move k X ≡ move' k' X)
    → leave move k xs ks ≡ leave move' k' xs ks
leave_over move move' k k' [] ks same = leave_none move k ks ∙ sym (leave_none move' k' ks)
leave_over move move' k k' (X ∷ xs) ks same =
    leave_more move k X xs ks ∙ leave_over move move' k k' xs (note_if ks (move k X)) (λ Y m. same Y (there m))
    ∙ ap (λ (m : Kernel). leave move' k' xs (note_if ks m)) (same X here) ∙ sym (leave_more move' k' X xs ks)
