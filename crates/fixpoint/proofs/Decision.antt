-- A least set with finitely many clauses is decided: what fires is put in, and taken off the list of clauses, until none fires.
-- For definitions that go by tests.
use Prim.Native.Nat.{ℕ, zero, suc, ◌≤◌}
use mathlib.Core.Path.{◌≡◌, refl, sym, ap, subst}
use mathlib.Core.Logic.{◌⊎◌, inl, inr}
use mathlib.Core.List.{List, [], ◌∷◌}
use native.Mathlib.Omega.{arith}
use lib.ListN.{length}
use Rattle.fixpoint.proofs.Tests.{map?, either?}
use Rattle.fixpoint.specs.Each.{Each}
use Rattle.fixpoint.specs.Least.{Clauses, Least, seed, by, Met, least_every}

-- one of a list's elements
abbrev pub Member : {A : Type 0} → A → List A → Type 0
Member x [] = ⊥
Member x (y ∷ l) = (x ≡ y) ⊎ Member x l

unfoldable pub member? : {A : Type 0} → ((x y : A) → Dec (x ≡ y)) → (x : A) (l : List A) → Dec (Member x l)
member? same? x [] = no (λ h. h)
member? same? x (y ∷ l) = either? (same? x y) (member? same? x l)

-- `all` lists every clause that is ok; `fires?` tests a clause against a set that is decided
module _ {C A : Type 0} (k : Clauses C A) (S : A → Type 0) (same? : (x y : A) → Dec (x ≡ y)) (seed? : (x : A) → Dec (S x)) (all : List C)
    (covers : (Q : C → Type 0) → Each Q all → (c : C) → k.ok c → Q c)
    (fires? : (D : A → Type 0) → ((x : A) → Dec (D x)) → (c : C) → Dec (k.ok c × ((a : A) → k.needs c a → D a))) where
  -- the seeds and what was put in
  abbrev pub Has : List A → A → Type 0
  Has xs x = S x ⊎ Member x xs

  abbrev pub Fires : List A → C → Type 0
  Fires xs c = k.ok c × ((a : A) → k.needs c a → Has xs a)

  unfoldable pub has? : (xs : List A) (x : A) → Dec (Has xs x)
  has? xs x = either? (seed? x) (member? same? x xs)

  -- a clause that fires, with the others, or none
  pub data Next (xs : List A) (cs : List C) : Type 1 where
    found : (c : C) (rest : List C) → suc (length rest) ≡ length cs → ((Q : C → Type 0) → Each Q rest → Q c → Each Q cs) → Fires xs c → Next xs cs
    none : Each (λ c. Fires xs c → ⊥) cs → Next xs cs

  unfoldable pub more : (xs : List A) (c : C) (cs : List C) → Dec (Fires xs c) → Next xs cs → Next xs (c ∷ cs)
  more xs c cs (yes f) n = found c cs refl (λ Q e q. (q, e)) f
  more xs c cs (no f) (found b rest e put g) = found b (c ∷ rest) (ap suc e) (λ Q h q. (h.0, put Q h.1 q)) g
  more xs c cs (no f) (none h) = none (f, h)

  unfoldable pub next : (xs : List A) (cs : List C) → Next xs cs
  next xs [] = none tt
  next xs (c ∷ cs) = more xs c cs (fires? (Has xs) (has? xs) c) (next xs cs)

  -- the least set as a list
  pub record Listed : Type 0 where
    pub members : List A
    pub only : (x : A) → Has members x → Least k S x
    pub every : (x : A) → Least k S x → Has members x

  pub only_cons : {P : A → Type 0} (xs : List A) (y : A) → ((x : A) → Has xs x → P x) → P y → (x : A) → Has (y ∷ xs) x → P x
  only_cons xs y f p x (inl s) = f x (inl s)
  only_cons {P = P} xs y f p x (inr (inl e)) = subst P (sym e) p
  only_cons xs y f p x (inr (inr m)) = f x (inr m)

  pub wider : (xs : List A) (y x : A) → Has xs x → Has (y ∷ xs) x
  wider xs y x (inl s) = inl s
  wider xs y x (inr m) = inr (inr m)

  pub each_map : {P Q : C → Type 0} → ((c : C) → P c → Q c) → (cs : List C) → Each P cs → Each Q cs
  each_map f [] h = tt
  each_map f (c ∷ cs) h = (f c h.0, each_map f cs h.1)

  -- no clause that is left fires, and the others have put their heads in
  pub settled : (xs : List A) (cs : List C) → ((Q : C → Type 0) → ((c : C) → Has xs (k.head c) → Q c) → Each Q cs → Each Q all)
      → Each (λ c. Fires xs c → ⊥) cs → (c : C) → Met k (Has xs) c
  settled xs cs past h c ok = covers (Met k (Has xs)) (past (Met k (Has xs)) (λ b p o ns. p) (each_map (λ b f o ns. absurd (f (o, ns))) cs h)) c ok ok

  unfoldable pub done : (xs : List A) (cs : List C) → ((x : A) → Has xs x → Least k S x)
      → ((Q : C → Type 0) → ((c : C) → Has xs (k.head c) → Q c) → Each Q cs → Each Q all) → Each (λ c. Fires xs c → ⊥) cs → Listed
  done xs cs only past h = record { members = xs; only = only; every = λ x p. least_every k (Has xs) (λ y s. inl s) (settled xs cs past h) p }

  unfoldable pub grow : (m : ℕ) (xs : List A) (cs : List C) → length cs ≤ m → ((x : A) → Has xs x → Least k S x)
      → ((Q : C → Type 0) → ((c : C) → Has xs (k.head c) → Q c) → Each Q cs → Each Q all) → Next xs cs → Listed
  grow zero xs cs l only past (none h) = done xs cs only past h
  grow (suc m) xs cs l only past (none h) = done xs cs only past h
  grow zero xs cs l only past (found c rest e put f) = absurd (omega arith)
  grow (suc m) xs cs l only past (found c rest e put f) =
      let y = k.head c in
      grow m (y ∷ xs) rest (omega arith) (only_cons xs y only (by c f.0 (λ a n. only a (f.1 a n))))
      (λ Q h r. past Q (λ b p. h b (wider xs y (k.head b) p)) (put Q r (h c (inr (inl refl)))))
      (next (y ∷ xs) rest)

  unfoldable pub listed : Listed
  listed = grow (length all) [] all (omega arith) none_in (λ Q h e. e) (next [] all)
    where
      none_in : (x : A) → Has [] x → Least k S x
      none_in x (inl s) = seed s
      none_in x (inr m) = absurd m

  unfoldable pub decide : (x : A) → Dec (Least k S x)
  decide x = map? (listed.only x) (listed.every x) (has? listed.members x)
