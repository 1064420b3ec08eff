-- Least sets, given by clauses.
use Rattle.std.specs.Prelude.{ℕ, ◌≡◌, List}
use Rattle.std.proofs.Common.{subst}
use Rattle.fixpoint.specs.Flags.{On, Marks}

-- clause c, where it is `ok`, puts its head into the set once all that it needs is there
pub record Clauses (C A : Type 0) : Type 1 where
  pub ok : C → Type 0
  pub needs : C → A → Type 0
  pub head : C → A

-- the least set that holds S and is closed under the clauses
pub data Least {C A : Type 0} (k : Clauses C A) (S : A → Type 0) : A → Type 0 where
  seed : {x : A} → S x → Least k S x
  by : (c : C) → k.ok c → ((a : A) → k.needs c a → Least k S a) → Least k S (k.head c)

-- clause c adds nothing to D
abbrev pub Met : {C A : Type 0} → Clauses C A → (A → Type 0) → C → Type 0
Met k D c = k.ok c → ((a : _) → k.needs c a → D a) → D (k.head c)

module _ {C A : Type 0} (k : Clauses C A) where
  -- what holds the seeds and meets every clause holds the least set
  pub least_every : {S : A → Type 0} (D : A → Type 0) → ((y : A) → S y → D y) → ((c : C) → Met k D c) → {x : A} → Least k S x → D x
  least_every D seeds met (seed {x = x} s) = seeds x s
  least_every D seeds met (by c ok ns) = met c ok (λ a n. least_every D seeds met (ns a n))

  -- closing twice adds nothing
  pub least_join : {S S' : A → Type 0} → ((y : A) → S' y → Least k S y) → {x : A} → Least k S' x → Least k S x
  least_join {S = S} f p = least_every (Least k S) f by p

-- the one law of every fixpoint in memory: flags of the least set, none but they, that meet every clause, mark it
pub least_marks : {C : Type 0} (k : Clauses C ℕ) {S : ℕ → Type 0} {fs : List ℕ} → ((y : ℕ) → On fs y → Least k S y) → ((y : ℕ) → S y → On fs y)
    → ((c : C) → Met k (On fs) c) → Marks (Least k S) fs
least_marks k {fs = fs} only seeds met = record { only = only; every = λ x p. least_every k (On fs) seeds met p }

-- clauses of one kind are among those of another
pub record Among {C D A : Type 0} (k : Clauses C A) (l : Clauses D A) : Type 0 where
  pub send : (c : C) → k.ok c → D
  pub send_ok : (c : C) (o : k.ok c) → l.ok (send c o)
  pub send_needs : (c : C) (o : k.ok c) (a : A) → l.needs (send c o) a → k.needs c a
  pub send_head : (c : C) (o : k.ok c) → l.head (send c o) ≡ k.head c

pub least_map : {C D A : Type 0} {k : Clauses C A} {l : Clauses D A} → Among k l → {S S' : A → Type 0} → ((y : A) → S y → S' y)
    → {x : A} → Least k S x → Least l S' x
least_map {k = k} {l = l} m {S' = S'} f p =
    least_every k (Least l S') (λ y s. seed (f y s))
    (λ c ok ns. subst (Least l S') (m.send_head c ok) (by (m.send c ok) (m.send_ok c ok) (λ a n. ns a (m.send_needs c ok a n)))) p
