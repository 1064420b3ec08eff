-- Each part of the construction is decided.
use Prim.Native.Nat.{ℕ, zero, suc, ◌≤◌}
use native.Mathlib.Omega.{arith}
use native.Mathlib.Decide.{ℕ_discrete, dec_le}
use mathlib.Core.Logic.{◌⊎◌}
use mathlib.Core.Path.{◌≡◌, refl, ap, ap₂, subst}
use mathlib.Core.List.{List, [], ◌∷◌}
use mathlib.Core.Option.{Option, some, none}
use Rattle.language.specs.Grammar.{Grammar, at}
use Rattle.language.specs.Sentence.{In}
use Rattle.leftcorner.specs.Table.{EntryLine, E, KernelLine, K, Action, ActionLine, L, Table, next_state, Goes}
use Rattle.leftcorner.specs.Construction.{entry_item, EntryAt, KernelAt, ActionAt, Has, MovedBy, moved, ItemsMeet}
use Rattle.check_verdict.proofs.Tests.{map_dec, both?, either?, implies?, any?, all?}
use Rattle.check_verdict.proofs.Closure.{Spot, spot, goes?, same_next, kernel?, closure_list, closure_only, closure_every}

pub clash : {A : Type 0} → ◌≡◌ {A = ℕ} 0 1 → A
clash e = absurd (omega (arith, e))

pub at_all? : {A : Type 0} (l : List A) (Φ : ℕ → A → Type 0) → ((j : ℕ) (x : A) → Dec (Φ j x)) → Dec ((j : ℕ) (x : A) → at l j ≡ some x → Φ j x)
at_all? {A = A} [] Φ test = yes (λ j x e. let z : ◌≡◌ {A = ℕ} 0 1 = cc in clash z)
at_all? {A = A} (y ∷ l) Φ test = go (test 0 y) (at_all? l (λ j. Φ (suc j)) (λ j. test (suc j)))
  where
    on : Φ 0 y → ((j : ℕ) (x : A) → at l j ≡ some x → Φ (suc j) x) → (j : ℕ) (x : A) → at (y ∷ l) j ≡ some x → Φ j x
    on p h zero x e = subst (Φ 0) (let z : y ≡ x = cc in z) p
    on p h (suc j) x e = h j x e

    go : Dec (Φ 0 y) → Dec ((j : ℕ) (x : A) → at l j ≡ some x → Φ (suc j) x) → Dec ((j : ℕ) (x : A) → at (y ∷ l) j ≡ some x → Φ j x)
    go (yes p) (yes h) = yes (on p h)
    go (yes p) (no f) = no (λ h. f (λ j. h (suc j)))
    go (no f) d = no (λ h. f (h 0 y refl))

pub at_any? : {A : Type 0} (l : List A) (Φ : ℕ → A → Type 0) → ((j : ℕ) (x : A) → Dec (Φ j x)) → Dec ((j : ℕ) × (x : A) × (at l j ≡ some x) × Φ j x)
at_any? {A = A} [] Φ test = no (λ h. let e = h.2 in let z : ◌≡◌ {A = ℕ} 0 1 = cc in clash z)
at_any? {A = A} (y ∷ l) Φ test = go (test 0 y) (at_any? l (λ j. Φ (suc j)) (λ j. test (suc j)))
  where
    off : (Φ 0 y → ⊥) → ((j : ℕ) × (x : A) × (at l j ≡ some x) × Φ (suc j) x → ⊥) → (j : ℕ) (x : A) → at (y ∷ l) j ≡ some x → Φ j x → ⊥
    off f h zero x e p = f (subst (Φ 0) (let z : x ≡ y = cc in z) p)
    off f h (suc j) x e p = h (j, x, e, p)

    go : Dec (Φ 0 y) → Dec ((j : ℕ) × (x : A) × (at l j ≡ some x) × Φ (suc j) x) → Dec ((j : ℕ) × (x : A) × (at (y ∷ l) j ≡ some x) × Φ j x)
    go (yes p) d = yes (0, y, refl, p)
    go (no f) (yes h) = yes (suc h.0, h.1, h.2, h.3)
    go (no f) (no h) = no (λ k. off f h k.0 k.1 k.2 k.3)

pub some_all? : (o : Option ℕ) (Q : ℕ → Type 0) → ((s : ℕ) → Dec (Q s)) → Dec ((s : ℕ) → o ≡ some s → Q s)
some_all? none Q test = yes (λ s e. let z : ◌≡◌ {A = ℕ} 0 1 = cc in clash z)
some_all? (some u) Q test = map_dec (λ q s e. subst Q (let z : u ≡ s = cc in z) q) (λ h. h u refl) (test u)

pub some? : (o : Option ℕ) (s : ℕ) → Dec (o ≡ some s)
some? none s = no (λ e. let z : ◌≡◌ {A = ℕ} 0 1 = cc in clash z)
some? (some u) s = map_dec (λ e. ap (λ (x : ℕ). some x) e) (λ e. let z : u ≡ s = cc in z) (ℕ_discrete u s)

module _ (g : Grammar) (t : Table) where
  pub entries_all? : (Φ : ℕ → ℕ → List ℕ → Type 0) → ((k s : ℕ) (γ : List ℕ) → Dec (Φ k s γ)) → Dec ((k s : ℕ) (γ : List ℕ) → EntryAt g t k s γ → Φ k s γ)
  entries_all? Φ test = map_dec out (λ h. into h) (at_all? t.entries Q test')
    where
      Q : ℕ → EntryLine → Type 0
      Q j (E s γ) = Φ (suc j) s γ

      test' : (j : ℕ) (x : EntryLine) → Dec (Q j x)
      test' j (E s γ) = test (suc j) s γ

      out : ((j : ℕ) (x : EntryLine) → at t.entries j ≡ some x → Q j x) → (k s : ℕ) (γ : List ℕ) → EntryAt g t k s γ → Φ k s γ
      out h zero s γ e = let z : ◌≡◌ {A = ℕ} 0 1 = cc in clash z
      out h (suc j) s γ e = h j (E s γ) e

      into : ((k s : ℕ) (γ : List ℕ) → EntryAt g t k s γ → Φ k s γ) → (j : ℕ) (x : EntryLine) → at t.entries j ≡ some x → Q j x
      into h j (E s γ) e = h (suc j) s γ e

  pub entries_any? : (Φ : ℕ → ℕ → List ℕ → Type 0) → ((k s : ℕ) (γ : List ℕ) → Dec (Φ k s γ)) → Dec ((k : ℕ) × (s : ℕ) × (γ : List ℕ) × EntryAt g t k s γ × Φ k s γ)
  entries_any? Φ test = map_dec (λ h. out h.0 h.1 h.2 h.3) (λ h. into h.0 h.1 h.2 h.3 h.4) (at_any? t.entries Q test')
    where
      Q : ℕ → EntryLine → Type 0
      Q j (E s γ) = Φ (suc j) s γ

      test' : (j : ℕ) (x : EntryLine) → Dec (Q j x)
      test' j (E s γ) = test (suc j) s γ

      out : (j : ℕ) (x : EntryLine) → at t.entries j ≡ some x → Q j x → (k : ℕ) × (s : ℕ) × (γ : List ℕ) × EntryAt g t k s γ × Φ k s γ
      out j (E s γ) e p = (suc j, s, γ, e, p)

      into : (k s : ℕ) (γ : List ℕ) → EntryAt g t k s γ → Φ k s γ → (j : ℕ) × (x : EntryLine) × (at t.entries j ≡ some x) × Q j x
      into zero s γ e p = let z : ◌≡◌ {A = ℕ} 0 1 = cc in clash z
      into (suc j) s γ e p = (j, E s γ, e, p)

  pub kernels_all? : (Φ : ℕ → ℕ → ℕ → List ℕ → Type 0) → ((q i k : ℕ) (σ : List ℕ) → Dec (Φ q i k σ)) → Dec ((q i k : ℕ) (σ : List ℕ) → KernelAt g t q i k σ → Φ q i k σ)
  kernels_all? Φ test = map_dec (λ h q i k σ m. h (K q i k σ) m) (λ h. on h) (all? Q test' t.kernels)
    where
      Q : KernelLine → Type 0
      Q (K q i k σ) = Φ q i k σ

      test' : (x : KernelLine) → Dec (Q x)
      test' (K q i k σ) = test q i k σ

      on : ((q i k : ℕ) (σ : List ℕ) → KernelAt g t q i k σ → Φ q i k σ) → (x : KernelLine) → In x t.kernels → Q x
      on h (K q i k σ) m = h q i k σ m

  pub actions_all? : (Φ : ℕ → ℕ → Action → Type 0) → ((q X : ℕ) (x : Action) → Dec (Φ q X x)) → Dec ((q X : ℕ) (x : Action) → ActionAt g t q X x → Φ q X x)
  actions_all? Φ test = map_dec (λ h q X x m. h (L q X x) m) (λ h. on h) (all? Q test' t.actions)
    where
      Q : ActionLine → Type 0
      Q (L q X x) = Φ q X x

      test' : (x : ActionLine) → Dec (Q x)
      test' (L q X x) = test q X x

      on : ((q X : ℕ) (x : Action) → ActionAt g t q X x → Φ q X x) → (x : ActionLine) → In x t.actions → Q x
      on h (L q X x) m = h q X x m

  pub actions_any? : (Φ : ℕ → ℕ → Action → Type 0) → ((q X : ℕ) (x : Action) → Dec (Φ q X x)) → Dec ((q : ℕ) × (X : ℕ) × (x : Action) × ActionAt g t q X x × Φ q X x)
  actions_any? Φ test = map_dec (λ h. on h.0 h.1 h.2) (λ h. (L h.0 h.1 h.2, h.3, h.4)) (any? Q test' t.actions)
    where
      Q : ActionLine → Type 0
      Q (L q X x) = Φ q X x

      test' : (x : ActionLine) → Dec (Q x)
      test' (L q X x) = test q X x

      on : (x : ActionLine) → In x t.actions → Q x → (q : ℕ) × (X : ℕ) × (x : Action) × ActionAt g t q X x × Φ q X x
      on (L q X x) m p = (q, X, x, m, p)

  pub goes_all? : (i k : ℕ) (Q : ℕ → List ℕ → Type 0) → ((X : ℕ) (β : List ℕ) → Dec (Q X β)) → Dec ((X : ℕ) (β : List ℕ) → Goes g t i k X β → Q X β)
  goes_all? i k Q test = go (goes? g t i k)
    where
      go : Dec ((X : ℕ) × (β : List ℕ) × Goes g t i k X β) → Dec ((X : ℕ) (β : List ℕ) → Goes g t i k X β → Q X β)
      go (no f) = yes (λ X β h. absurd (f (X, β, h)))
      go (yes a) = map_dec (λ q X β h. let s = same_next g t a.2 h in subst (λ (Y : ℕ). Q Y β) s.0 (subst (λ (γ : List ℕ). Q a.0 γ) s.1 q)) (λ h. h a.0 a.1 a.2) (test a.0 a.1)

  pub closure_of : ℕ → List Spot
  closure_of q = closure_list g t q

  pub moved_all? : (q : ℕ) (Φ : ℕ → ℕ → ℕ → Type 0) → ((X i n : ℕ) → Dec (Φ X i n)) → Dec ((X i n : ℕ) → MovedBy g t q X i n → Φ X i n)
  unfolding closure_of
  moved_all? q Φ test = map_dec from (λ h. to h) (all? Q test' (closure_of q))
    where
      Q : Spot → Type 0
      Q (spot i k) = (X : ℕ) (β : List ℕ) → Goes g t i k X β → Φ X i (suc k)

      test' : (x : Spot) → Dec (Q x)
      test' (spot i k) = goes_all? i k (λ X β. Φ X i (suc k)) (λ X β. test X i (suc k))

      from : ((x : Spot) → In x (closure_of q) → Q x) → (X i n : ℕ) → MovedBy g t q X i n → Φ X i n
      from h X i n (moved {k = k} {β = β} a go) = h (spot i k) (closure_every g t q i k a) X β go

      to : ((X i n : ℕ) → MovedBy g t q X i n → Φ X i n) → (x : Spot) → In x (closure_of q) → Q x
      to h (spot i k) m = λ X β go. h X i (suc k) (moved (closure_only g t q i k m) go)

  has? : (q i k : ℕ) → Dec (Has g t q i k)
  unfolding closure_of
  has? q i k = map_dec (λ h. closure_only g t q i k (subst (λ (a : Spot). In a (closure_of q)) h.2 h.1)) (λ h. (spot i k, closure_every g t q i k h, refl))
      (any? (λ (a : Spot). a ≡ spot i k) same? (closure_of q))
    where
      same? : (a : Spot) → Dec (a ≡ spot i k)
      same? (spot m n) = map_dec (λ h. ap₂ spot h.0 h.1) (λ e. (let a : m ≡ i = cc in a, let b : n ≡ k = cc in b)) (both? (ℕ_discrete m i) (ℕ_discrete n k))

  pub moved? : (q X i n : ℕ) → Dec (MovedBy g t q X i n)
  moved? q X i zero = no (λ m. elim m [ ])
  moved? q X i (suc k) = go (has? q i k) (goes? g t i k)
    where
      out : MovedBy g t q X i (suc k) → Has g t q i k × ((β : List ℕ) × Goes g t i k X β)
      out (moved {β = β} h b) = (h, (β, b))

      fit : Has g t q i k → (a : (Y : ℕ) × (β : List ℕ) × Goes g t i k Y β) → Dec (a.0 ≡ X) → Dec (MovedBy g t q X i (suc k))
      fit h a (yes e) = yes (moved h (subst (λ (Y : ℕ). Goes g t i k Y a.1) e a.2))
      fit h a (no f) = no (λ m. f (same_next g t a.2 (out m).1.1).0)

      go : Dec (Has g t q i k) → Dec ((Y : ℕ) × (β : List ℕ) × Goes g t i k Y β) → Dec (MovedBy g t q X i (suc k))
      go (no f) d = no (λ m. f (out m).0)
      go (yes h) (no f) = no (λ m. f (X, (out m).1.0, (out m).1.1))
      go (yes h) (yes a) = fit h a (ℕ_discrete a.0 X)

  -- 7 at q
  abbrev EntryHas : ℕ → Type 0
  EntryHas q = (j : ℕ) (γ : List ℕ) → EntryAt g t j q γ → (σ : List ℕ) × KernelAt g t q (entry_item g t j) zero σ

  entry_has? : (q : ℕ) → Dec (EntryHas q)
  entry_has? q = map_dec (λ h j γ e. h j q γ e refl) (λ h j s γ e a. h j γ (subst (λ (x : ℕ). EntryAt g t j x γ) a e))
      (entries_all? (λ j s γ. s ≡ q → (σ : List ℕ) × KernelAt g t q (entry_item g t j) zero σ) (λ j s γ. implies? (ℕ_discrete s q) (kernel? g t q (entry_item g t j) zero)))

  abbrev EntryOnly : ℕ → Type 0
  EntryOnly q = (j : ℕ) (γ : List ℕ) → EntryAt g t j q γ → (i k : ℕ) (σ : List ℕ) → KernelAt g t q i k σ → (i ≡ entry_item g t j) × (k ≡ zero)

  entry_only? : (q : ℕ) → Dec (EntryOnly q)
  entry_only? q = map_dec (λ h j γ e i k σ m. h j q γ e refl q i k σ m refl) (λ h j s γ e a p i k σ m b. h j γ (subst (λ (x : ℕ). EntryAt g t j x γ) a e) i k σ (subst (λ (x : ℕ). KernelAt g t x i k σ) b m))
      (entries_all? (λ j s γ. s ≡ q → (p i k : ℕ) (σ : List ℕ) → KernelAt g t p i k σ → p ≡ q → (i ≡ entry_item g t j) × (k ≡ zero))
      (λ j s γ. implies? (ℕ_discrete s q) (kernels_all? (λ p i k σ. p ≡ q → (i ≡ entry_item g t j) × (k ≡ zero)) (λ p i k σ. implies? (ℕ_discrete p q) (both? (ℕ_discrete i (entry_item g t j)) (ℕ_discrete k zero))))))

  abbrev MoveHas : ℕ → Type 0
  MoveHas q = (X s i n : ℕ) (x : Action) → ActionAt g t q X x → next_state x ≡ some s → MovedBy g t q X i n → (σ : List ℕ) × KernelAt g t s i n σ

  move_has? : (q : ℕ) → Dec (MoveHas q)
  move_has? q = map_dec (λ h X s i n x a e m. h q X x a refl s e X i n m refl)
      (λ h p X x a b s e Y i n m c. h X s i n x (subst (λ (z : ℕ). ActionAt g t z X x) b a) e (subst (λ (z : ℕ). MovedBy g t q z i n) c m))
      (actions_all? (λ p X x. p ≡ q → (s : ℕ) → next_state x ≡ some s → (Y i n : ℕ) → MovedBy g t q Y i n → Y ≡ X → (σ : List ℕ) × KernelAt g t s i n σ)
      (λ p X x. implies? (ℕ_discrete p q) (some_all? (next_state x) (λ s. (Y i n : ℕ) → MovedBy g t q Y i n → Y ≡ X → (σ : List ℕ) × KernelAt g t s i n σ)
      (λ s. moved_all? q (λ Y i n. Y ≡ X → (σ : List ℕ) × KernelAt g t s i n σ) (λ Y i n. implies? (ℕ_discrete Y X) (kernel? g t s i n))))))

  abbrev MoveOnly : ℕ → Type 0
  MoveOnly q = (X s i n : ℕ) (x : Action) → ActionAt g t q X x → next_state x ≡ some s → MovedBy g t q X i n → (κ m : ℕ) (σ : List ℕ) → KernelAt g t s κ m σ → MovedBy g t q X κ m

  move_only? : (q : ℕ) → Dec (MoveOnly q)
  move_only? q = map_dec (λ h X s i n x a e m κ o σ y. h q X x a refl s e X i n m refl s κ o σ y refl)
      (λ h p X x a b s e Y i n m c r κ o σ y d. h X s i n x (subst (λ (z : ℕ). ActionAt g t z X x) b a) e (subst (λ (z : ℕ). MovedBy g t q z i n) c m) κ o σ (subst (λ (z : ℕ). KernelAt g t z κ o σ) d y))
      (actions_all? (λ p X x. p ≡ q → (s : ℕ) → next_state x ≡ some s → (Y i n : ℕ) → MovedBy g t q Y i n → Y ≡ X → Comes X s)
      (λ p X x. implies? (ℕ_discrete p q) (some_all? (next_state x) (λ s. (Y i n : ℕ) → MovedBy g t q Y i n → Y ≡ X → Comes X s)
      (λ s. moved_all? q (λ Y i n. Y ≡ X → Comes X s) (λ Y i n. implies? (ℕ_discrete Y X) (comes? X s))))))
    where
      Comes : ℕ → ℕ → Type 0
      Comes X s = (r κ o : ℕ) (σ : List ℕ) → KernelAt g t r κ o σ → r ≡ s → MovedBy g t q X κ o

      comes? : (X s : ℕ) → Dec (Comes X s)
      comes? X s = kernels_all? (λ r κ o σ. r ≡ s → MovedBy g t q X κ o) (λ r κ o σ. implies? (ℕ_discrete r s) (moved? q X κ o))

  abbrev Named : ℕ → Type 0
  Named q = 1 ≤ q → q ≤ t.states → ((j : ℕ) × (γ : List ℕ) × EntryAt g t j q γ) ⊎ ((p : ℕ) × (X : ℕ) × (x : Action) × ActionAt g t p X x × (next_state x ≡ some q))

  named? : (q : ℕ) → Dec (Named q)
  named? q = implies? (dec_le 1 q) (implies? (dec_le q t.states) (either?
      (map_dec (λ h. (h.0, h.2, subst (λ (s : ℕ). EntryAt g t h.0 s h.2) h.4 h.3)) (λ h. (h.0, q, h.1, h.2, refl)) (entries_any? (λ j s γ. s ≡ q) (λ j s γ. ℕ_discrete s q)))
      (actions_any? (λ p X x. next_state x ≡ some q) (λ p X x. some? (next_state x) q))))

  pub items? : (q : ℕ) → Dec (ItemsMeet g t q)
  items? q = map_dec (λ h. record { entry_has = h.0; entry_only = h.1.0; move_has = h.1.1.0; move_only = h.1.1.1.0; named = h.1.1.1.1 })
      (λ r. (r.entry_has, (r.entry_only, (r.move_has, (r.move_only, r.named)))))
      (both? (entry_has? q) (both? (entry_only? q) (both? (move_has? q) (both? (move_only? q) (named? q)))))
