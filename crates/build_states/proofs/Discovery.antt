-- What holds of the states that are discovered: no kernel set twice, every move's target among them, each an entry or the
-- target of an earlier one.
use Prim.Native.Nat.{ℕ, zero, suc, ◌+◌, ◌≤◌, ◌<◌}
use native.Mathlib.Omega.{arith}
use native.Mathlib.Nat.{not-suc-le-zero}
use mathlib.Core.Path.{◌≡◌, refl, sym, ap, subst, ◌∙◌}
use mathlib.Core.Logic.{◌⊎◌, inl, inr, ⊎_elim}
use mathlib.Core.Bool.{Bool, true, false, cond}
use mathlib.Core.List.{List, [], ◌∷◌, ◌++◌}
use borrow.Author.Tests.{ltb-true, ltb-false}
use lib.Dec.{ltb}
use lib.ListN.{length, get_or, length-append}
use Rattle.language.specs.Sentence.{In, here, there}
use Rattle.leftcorner.proofs.ReadOff.{clash, same_string_lem, string_same}
use Rattle.leftcorner.specs.Table.{same_string}
use Rattle.build_states.proofs.Distinct.{Distinct, Extends, stays, extends_trans, get_d_end, kept, longer, still_in, joined, join_distinct, join_in}
use Rattle.build_states.specs.States.{Kernel, find, note, note_if, total, range, leave, explore}

-- where a kernel set of the list is found, it stands
pub find_is : {k : Kernel} {ks : List Kernel} → In k ks → (find k ks < length ks) × (get_or ks (find k ks) [] ≡ k)
find_is {k = k} (here {l = ks}) = subst (λ (t : Bool). (cond t 0 (suc (find k ks)) < suc (length ks)) × (get_or (k ∷ ks) (cond t 0 (suc (find k ks))) [] ≡ k))
    (sym (string_same k)) (omega arith, refl)
find_is {k = k} (there {y = h} {l = ks} m) = go (same_string h k) refl (find_is m)
  where
    go : (t : Bool) → same_string h k ≡ t → (find k ks < length ks) × (get_or ks (find k ks) [] ≡ k)
        → (cond t 0 (suc (find k ks)) < suc (length ks)) × (get_or (h ∷ ks) (cond t 0 (suc (find k ks))) [] ≡ k)
    go true q f = (omega arith, same_string_lem h k q)
    go false q f = (omega (arith, f.0), f.1)

-- and where none stands twice, it is found where it stands
pub in_get_d : (ks : List Kernel) (p : ℕ) → p < length ks → In (get_or ks p []) ks
in_get_d [] p l = absurd (not-suc-le-zero l)
in_get_d (k ∷ ks) zero l = here
in_get_d (k ∷ ks) (suc p) l = there (in_get_d ks p (omega (arith, l)))

pub find_at : (ks : List Kernel) (p : ℕ) → Distinct ks → p < length ks → find (get_or ks p []) ks ≡ p
find_at [] p d l = absurd (not-suc-le-zero l)
find_at (k ∷ ks) zero d l = ap (λ (t : Bool). cond t 0 (suc (find k ks))) (string_same k)
find_at (k ∷ ks) (suc p) d l = go (same_string k (get_or ks p [])) refl (find_at ks p d.1 (omega (arith, l)))
  where
    go : (t : Bool) → same_string k (get_or ks p []) ≡ t → find (get_or ks p []) ks ≡ p → cond t 0 (suc (find (get_or ks p []) ks)) ≡ suc p
    go true q e = absurd (d.0 (subst (λ (x : Kernel). In x ks) (sym (same_string_lem k (get_or ks p []) q)) (in_get_d ks p (omega (arith, l)))))
    go false q e = ap suc e

-- nothing moves, or the set is among them
abbrev pub Target : Kernel → List Kernel → Type 0
Target m ks = (m ≡ []) ⊎ In m ks

target_kept : {m : Kernel} {a b : List Kernel} → Extends a b → Target m a → Target m b
target_kept e (inl z) = inl z
target_kept e (inr m) = inr (still_in e m)

-- ---- a set that joins

-- the list after a set, by whether it was there
pub noted : (ks : List Kernel) (Φ : List Kernel → Type 0) (m : Kernel) → Φ ks → ((m ≡ [] → ⊥) → (In m ks → ⊥) → Φ (ks ++ m ∷ [])) → Φ (note ks m)
unfolding note
noted ks Φ [] p f = p
noted ks Φ (x ∷ m) p f = joined ks Φ (x ∷ m) (λ _. p) (f (λ e. clash cc))

note_target : (ks : List Kernel) (m : Kernel) → Target m (note ks m)
unfolding note
note_target ks [] = inl refl
note_target ks (x ∷ m) = inr (join_in ks (x ∷ m))

-- as many states and kernel lines as a book may have
pub record Fits (ks : List Kernel) : Type 0 where
  pub states : length ks ≤ 255
  pub lines : total ks ≤ 1023

pub total_and : (a b : List Kernel) → total (a ++ b) ≡ total a + total b
total_and [] b = omega arith
total_and (k ∷ a) b = omega (arith, total_and a b)

fits_back : {a b : List Kernel} → Extends a b → Fits b → Fits a
fits_back {a = a} {b = b} x f = record {
  states = omega (arith, f.states, longer x);
  lines = omega (arith, f.lines, ap total x.is, total_and a x.more);
}

-- the list after a set, by whether there was room
pub noted_if : (ks : List Kernel) (Φ : List Kernel → Type 0) (m : Kernel) → ((Fits ks → ⊥) → Φ ks) → (Fits ks → Φ (note ks m)) → Φ (note_if ks m)
unfolding note_if
noted_if ks Φ m p f = go (ltb 255 (length ks)) (ltb 1023 (total ks)) refl refl
  where
    go : (t u : Bool) → ltb 255 (length ks) ≡ t → ltb 1023 (total ks) ≡ u → Φ (cond t ks (cond u ks (note ks m)))
    go true u e g = p (λ h. omega (arith, h.states, ltb-true 255 (length ks) e))
    go false true e g = p (λ h. omega (arith, h.lines, ltb-true 1023 (total ks) g))
    go false false e g = f (record { states = ltb-false 255 (length ks) e; lines = ltb-false 1023 (total ks) g })

-- what is kept by a set that joins
after : (ks : List Kernel) (Φ : List Kernel → Type 0) (m : Kernel) → Φ ks → ((m ≡ [] → ⊥) → (In m ks → ⊥) → Φ (ks ++ m ∷ [])) → Φ (note_if ks m)
after ks Φ m p f = noted_if ks Φ m (λ _. p) (λ _. noted ks Φ m p f)

pub after_extends : (ks : List Kernel) (m : Kernel) → Extends ks (note_if ks m)
after_extends ks m = after ks (λ (l : List Kernel). Extends ks l) m (stays ks) (λ _ _. record { more = m ∷ []; is = refl })

after_distinct : (ks : List Kernel) (m : Kernel) → Distinct ks → Distinct (note_if ks m)
unfolding note
after_distinct ks m d = noted_if ks Distinct m (λ _. d) (λ _. go m)
  where
    go : (m : Kernel) → Distinct (note ks m)
    go [] = d
    go (x ∷ m) = join_distinct ks (x ∷ m) d

after_target : (ks : List Kernel) (m : Kernel) → Fits ks → Target m (note_if ks m)
after_target ks m f = noted_if ks (λ (l : List Kernel). Target m l) m (λ n. absurd (n f)) (λ _. note_target ks m)

module _ (move : Kernel → ℕ → Kernel) where
  -- state p is the target of an earlier one, and something is in it
  pub record Came (ks : List Kernel) (p : ℕ) : Type 0 where
    pub from : ℕ
    pub symbol : ℕ
    pub earlier : from < p
    pub is : get_or ks p [] ≡ move (get_or ks from []) symbol
    pub filled : get_or ks p [] ≡ [] → ⊥

  -- every state after the first e
  abbrev pub Origin : ℕ → List Kernel → Type 0
  Origin e ks = (p : ℕ) → e ≤ p → p < length ks → Came ks p

  came_kept : {a b : List Kernel} → Extends a b → {p : ℕ} → p < length a → Came a p → Came b p
  came_kept x {p = p} l c = record {
    from = c.from;
    symbol = c.symbol;
    earlier = c.earlier;
    is = kept x p l ∙ c.is ∙ ap (λ (k : Kernel). move k c.symbol) (sym (kept x c.from (omega (arith, l, c.earlier))));
    filled = λ e. c.filled (sym (kept x p l) ∙ e);
  }

  after_origin : (e q X : ℕ) (k : Kernel) (ks : List Kernel) → q < length ks → get_or ks q [] ≡ k → Origin e ks → Origin e (note_if ks (move k X))
  after_origin e q X k ks l is o = after ks (Origin e) (move k X) o (λ f _ p ep lp. go f p (ltb p (length ks)) refl ep lp)
    where
      m : Kernel
      m = move k X

      big : Extends ks (ks ++ m ∷ [])
      big = record { more = m ∷ []; is = refl }

      go : (m ≡ [] → ⊥) → (p : ℕ) (t : Bool) → ltb p (length ks) ≡ t → e ≤ p → p < length (ks ++ m ∷ []) → Came (ks ++ m ∷ []) p
      go f p true t ep lp = came_kept big (ltb-true p (length ks) t) (o p ep (ltb-true p (length ks) t))
      go f p false t ep lp =
          let z : p ≡ length ks = omega (arith, ltb-false p (length ks) t, lp, length-append ks (m ∷ [])) in
          let w : get_or (ks ++ m ∷ []) p [] ≡ m = ap (λ (n : ℕ). get_or (ks ++ m ∷ []) n []) z ∙ get_d_end ks m in
          record { from = q; symbol = X; earlier = omega (arith, l, z); is = w ∙ ap (λ (h : Kernel). move h X) (sym (kept big q l ∙ is)); filled = λ h. f (sym w ∙ h) }

  pub leave_extends : (xs : List ℕ) (k : Kernel) (ks : List Kernel) → Extends ks (leave move k xs ks)
  unfolding leave
  leave_extends [] k ks = stays ks
  leave_extends (x ∷ xs) k ks = extends_trans (after_extends ks (move k x)) (leave_extends xs k (note_if ks (move k x)))

  leave_distinct : (xs : List ℕ) (k : Kernel) (ks : List Kernel) → Distinct ks → Distinct (leave move k xs ks)
  unfolding leave
  leave_distinct [] k ks d = d
  leave_distinct (x ∷ xs) k ks d = leave_distinct xs k (note_if ks (move k x)) (after_distinct ks (move k x) d)

  leave_target : (xs : List ℕ) (k : Kernel) (ks : List Kernel) {x : ℕ} → Fits (leave move k xs ks) → In x xs → Target (move k x) (leave move k xs ks)
  unfolding leave
  leave_target [] k ks f u = elim u [ ]
  leave_target (x ∷ xs) k ks f here = target_kept (leave_extends xs k (note_if ks (move k x))) (after_target ks (move k x) (fits_back (leave_extends (x ∷ xs) k ks) f))
  leave_target (x ∷ xs) k ks f (there u) = leave_target xs k (note_if ks (move k x)) f u

  leave_origin : (xs : List ℕ) (e q : ℕ) (k : Kernel) (ks : List Kernel) → q < length ks → get_or ks q [] ≡ k → Origin e ks → Origin e (leave move k xs ks)
  unfolding leave
  leave_origin [] e q k ks l is o = o
  leave_origin (x ∷ xs) e q k ks l is o =
      leave_origin xs e q k (note_if ks (move k x)) (omega (arith, l, longer (after_extends ks (move k x)))) (kept (after_extends ks (move k x)) q l ∙ is)
      (after_origin e q x k ks l is o)

  -- "symbols by code"
  abbrev pub symbols : List ℕ
  symbols = range 1 127

  abbrev left : ℕ → List Kernel → List Kernel
  left q ks = leave move (get_or ks q []) symbols ks

  -- every move of the states below q goes to one of the list
  abbrev pub Closed : ℕ → List Kernel → Type 0
  Closed q ks = (p : ℕ) → p < q → (X : ℕ) → In X symbols → Target (move (get_or ks p []) X) ks

  -- the laws go by one recursion: Φ is kept by leaving a state
  explored : (Φ : ℕ → List Kernel → Type 0) → ((q : ℕ) (ks : List Kernel) → q < length ks → Φ q ks → Φ (suc q) (left q ks))
      → (f q : ℕ) (ks : List Kernel) → Φ q ks → (R : List Kernel → Type 0) → ((r : ℕ) (l : List Kernel) → (r ≡ q + f) ⊎ (length l ≤ r) → Φ r l → R l) → R (explore move f q ks)
  unfolding explore
  explored Φ step zero q ks p R out = out q ks (inl (omega arith)) p
  explored Φ step (suc f) q ks p R out =
      go (ltb q (length ks)) refl (λ h. explored Φ step f (suc q) (left q ks) (step q ks h p) R (λ r l c. out r l (⊎_elim (λ e. inl (omega (arith, e))) (λ e. inr e) c)))
    where
      go : (t : Bool) → ltb q (length ks) ≡ t → (q < length ks → R (explore move f (suc q) (left q ks))) → R (cond t (explore move f (suc q) (left q ks)) ks)
      go true e r = r (ltb-true q (length ks) e)
      go false e r = out q ks (inr (ltb-false q (length ks) e)) p

  -- all that is said of the states that are found while those below q have been left
  pub record Found (e₀ : List Kernel) (q : ℕ) (ks : List Kernel) : Type 0 where
    pub from : Extends e₀ ks
    pub distinct : Distinct ks
    pub closed : Fits ks → Closed q ks
    pub origin : Origin (length e₀) ks

  leave_found : (e₀ : List Kernel) (q : ℕ) (ks : List Kernel) → q < length ks → Found e₀ q ks → Found e₀ (suc q) (left q ks)
  leave_found e₀ q ks l F = record {
    from = extends_trans F.from x;
    distinct = leave_distinct symbols k ks F.distinct;
    closed = λ f p lp s u. go f p (ltb p q) refl lp s u;
    origin = leave_origin symbols (length e₀) q k ks l refl F.origin;
  }
    where
      k : Kernel
      k = get_or ks q []

      x : Extends ks (leave move k symbols ks)
      x = leave_extends symbols k ks

      go : Fits (leave move k symbols ks) → (p : ℕ) (t : Bool) → ltb p q ≡ t → p < suc q → (s : ℕ) → In s symbols
          → Target (move (get_or (leave move k symbols ks) p []) s) (leave move k symbols ks)
      go f p true t lp s u = rw (kept x p (omega (arith, ltb-true p q t, l))) (target_kept x (F.closed (fits_back x f) p (ltb-true p q t) s u))
      go f p false t lp s u = let z : p ≡ q = omega (arith, ltb-false p q t, lp) in rw (z, kept x q l) (leave_target symbols k ks f u)

  -- all states of a book that fits have been left
  pub states_found : (e₀ : List Kernel) → Distinct e₀ → Found e₀ (length (explore move 255 0 e₀)) (explore move 255 0 e₀)
  states_found e₀ d = explored (Found e₀) (leave_found e₀) 255 0 e₀ start (λ (l : List Kernel). Found e₀ (length l) l) (λ r l c F. record {
    from = F.from;
    distinct = F.distinct;
    origin = F.origin;
    closed = λ f p lp. F.closed f p (⊎_elim (λ e. omega (arith, lp, f.states, e)) (λ e. omega (arith, lp, e)) c);
  })
    where
      start : Found e₀ 0 e₀
      start = record { from = stays e₀; distinct = d; closed = λ _ p lp. absurd (not-suc-le-zero lp); origin = λ p ep lp. absurd (omega (arith, ep, lp)) }
