-- The closure of a state as a list, without and with codes.
use Prim.Native.Nat.{ℕ, zero, suc, ◌<◌}
use native.Mathlib.Omega.{arith}
use native.Mathlib.Decide.{ℕ_discrete}
use mathlib.Core.Logic.{◌⊎◌, inl, inr}
use mathlib.Core.Path.{◌≡◌, refl, sym, ap, ap₂, ◌∙◌, subst}
use mathlib.Core.List.{List, [], ◌∷◌, ◌++◌, map}
use mathlib.Core.Option.{Option, some, none}
use lib.ListN.{length, drop}
use Rattle.language.specs.Grammar.{Grammar, Rule, rule_at, at}
use Rattle.language.specs.Sentence.{In, here, there}
use Rattle.language.proofs.Member.{in_cons, in_left, in_right}
use Rattle.leftcorner.specs.Table.{KernelLine, K, Table, symbols_of, recognition_point, Goes}
use Rattle.leftcorner.specs.Construction.{KernelAt, Has, in_kernel, in_closure, Carries}
use Rattle.check_verdict.proofs.Tests.{map_dec, both?, any?}
use Rattle.check_verdict.proofs.Reach.{Reach, seed, step, members}

pub data Spot : Type 0 where
  spot : ℕ → ℕ → Spot

pub data Coded : Type 0 where
  coded : ℕ → ℕ → ℕ → Coded

pub image_in : {A B : Type 0} (f : A → B) (x : A) (l : List A) → In x l → In (f x) (map f l)
image_in f x [] h = elim h [ ]
image_in f x (y ∷ l) here = here
image_in f x (y ∷ l) (there h) = there (image_in f x l h)

abbrev pub upto : ℕ → List ℕ
upto zero = []
upto (suc n) = n ∷ upto n

pub in_upto : (n i : ℕ) → i < n → In i (upto n)
in_upto zero i l = absurd (omega (arith, l))
in_upto (suc n) i l = go (ℕ_discrete i n) (λ h. in_upto n i h)
  where
    go : Dec (i ≡ n) → (i < n → In i (upto n)) → In i (n ∷ upto n)
    go (yes e) rec = subst (λ (k : ℕ). In i (k ∷ upto n)) e here
    go (no f) rec = there (rec (omega (arith, l, f)))

-- f x y for every x of one list and y of another
abbrev pub pairs : {A B C : Type 0} → (A → B → C) → List A → List B → List C
pairs f [] m = []
pairs f (x ∷ l) m = map (f x) m ++ pairs f l m

pub in_pairs : {A B C : Type 0} (f : A → B → C) (x : A) (y : B) (l : List A) (m : List B) → In x l → In y m → In (f x y) (pairs f l m)
in_pairs f x y [] m h k = elim h [ ]
in_pairs f x y (z ∷ l) m here k = in_left (pairs f l m) (image_in (f x) y m k)
in_pairs f x y (z ∷ l) m (there h) k = in_right (map (f z) m) (in_pairs f x y l m h k)

pub rule? : (o : Option Rule) → Dec ((r : Rule) × (o ≡ some r))
rule? none = no (λ h. let e = h.1 in let z : ◌≡◌ {A = ℕ} 0 1 = cc in absurd (omega arith))
rule? (some r) = yes (r, refl)

at_less : (l : List Rule) (i : ℕ) (r : Rule) → at l i ≡ some r → i < length l
at_less [] i r e = let z : ◌≡◌ {A = ℕ} 0 1 = cc in absurd (omega arith)
at_less (x ∷ l) zero r e = omega arith
at_less (x ∷ l) (suc i) r e = omega (arith, at_less l i r e)

pub record OfKernel (q i k : ℕ) (l : KernelLine) : Type 0 where
  pub codes : List ℕ
  pub is : l ≡ K q i k codes

of_kernel? : (q i k : ℕ) (l : KernelLine) → Dec (OfKernel q i k l)
of_kernel? q i k (K p j n σ) =
    map_dec (λ h. record { codes = σ; is = ap₂ (λ (a b : ℕ). K a b n σ) h.0 h.1.0 ∙ ap (λ (b : ℕ). K q i b σ) h.1.1 })
    (λ o. let e = o.is in (let a : p ≡ q = cc in a, (let b : j ≡ i = cc in b, let c : n ≡ k = cc in c)))
    (both? (ℕ_discrete p q) (both? (ℕ_discrete j i) (ℕ_discrete n k)))

pub in? : (d : ℕ) (l : List ℕ) → Dec (In d l)
in? d l = map_dec (λ h. subst (λ (x : ℕ). In x l) h.2 h.1) (λ m. (d, m, refl)) (any? (λ (x : ℕ). x ≡ d) (λ x. ℕ_discrete x d) l)

pub record OfKernelCode (q i k d : ℕ) (l : KernelLine) : Type 0 where
  pub codes : List ℕ
  pub is : l ≡ K q i k codes
  pub code : In d codes

of_kernel_code? : (q i k d : ℕ) (l : KernelLine) → Dec (OfKernelCode q i k d l)
of_kernel_code? q i k d (K p j n σ) =
    map_dec (λ h. record { codes = h.0.codes; is = h.0.is; code = subst (λ (x : List ℕ). In d x) (let e = h.0.is in let y : σ ≡ h.0.codes = cc in y) h.1 })
    (λ o. (record { codes = o.codes; is = o.is }, subst (λ (x : List ℕ). In d x) (let e = o.is in let y : o.codes ≡ σ = cc in y) o.code))
    (both? (of_kernel? q i k (K p j n σ)) (in? d σ))

abbrev pub all_codes : List KernelLine → List ℕ
all_codes [] = []
all_codes (K q i k σ ∷ l) = σ ++ all_codes l

abbrev pub all_coded : List KernelLine → List Coded
all_coded [] = []
all_coded (K q i k σ ∷ l) = map (coded i k) σ ++ all_coded l

in_all_codes : (l : List KernelLine) (q i k d : ℕ) (σ : List ℕ) → In (K q i k σ) l → In d σ → In d (all_codes l)
in_all_codes [] q i k d σ m h = elim m [ ]
in_all_codes (K p j n τ ∷ l) q i k d σ m h = go (in_cons m) (λ x. in_all_codes l q i k d σ x h)
  where
    go : (K q i k σ ≡ K p j n τ) ⊎ In (K q i k σ) l → (In (K q i k σ) l → In d (all_codes l)) → In d (τ ++ all_codes l)
    go (inl e) rec = in_left (all_codes l) (subst (λ (x : List ℕ). In d x) (let y : σ ≡ τ = cc in y) h)
    go (inr x) rec = in_right τ (rec x)

in_all_coded : (l : List KernelLine) (q i k d : ℕ) (σ : List ℕ) → In (K q i k σ) l → In d σ → In (coded i k d) (all_coded l)
in_all_coded [] q i k d σ m h = elim m [ ]
in_all_coded (K p j n τ ∷ l) q i k d σ m h = go (in_cons m) (λ x. in_all_coded l q i k d σ x h)
  where
    go : (K q i k σ ≡ K p j n τ) ⊎ In (K q i k σ) l → (In (K q i k σ) l → In (coded i k d) (all_coded l)) → In (coded i k d) (map (coded j n) τ ++ all_coded l)
    go (inl e) rec =
        let y : σ ≡ τ = cc in
        let a : i ≡ j = cc in
        let b : k ≡ n = cc in
        in_left (all_coded l) (subst (λ (x : Coded). In x (map (coded j n) τ)) (ap₂ (λ (u v : ℕ). coded u v d) (sym a) (sym b)) (image_in (coded j n) d τ (subst (λ (x : List ℕ). In d x) y h)))
    go (inr x) rec = in_right (map (coded j n) τ) (rec x)

module _ (g : Grammar) (t : Table) where
  pub rule_less : (i : ℕ) (r : Rule) → rule_at g i ≡ some r → i < suc (length g.rules)
  rule_less zero r e = omega arith
  rule_less (suc i) r e = omega (arith, at_less g.rules i r e)

  mark? : (o : Option ℕ) (k : ℕ) → Dec (o ≡ some k)
  mark? none k = no (λ e. let z : ◌≡◌ {A = ℕ} 0 1 = cc in absurd (omega arith))
  mark? (some u) k = map_dec (λ e. ap (λ (x : ℕ). some x) e) (λ e. let z : u ≡ k = cc in z) (ℕ_discrete u k)

  abbrev pub Next : ℕ → ℕ → Type 0
  Next i k = (X : ℕ) × (β : List ℕ) × Goes g t i k X β

  pub goes? : (i k : ℕ) → Dec (Next i k)
  goes? i k = go (drop k (symbols_of g t i)) refl (mark? (recognition_point g t i) k)
    where
      go : (l : List ℕ) → drop k (symbols_of g t i) ≡ l → Dec (recognition_point g t i ≡ some k) → Dec (Next i k)
      go [] e d = no (λ h. let f = sym e ∙ h.2.before in let z : ◌≡◌ {A = ℕ} 0 1 = cc in absurd (omega arith))
      go (X ∷ β) e (yes m) = no (λ h. h.2.unmarked m)
      go (X ∷ β) e (no m) = yes (X, β, record { before = e; unmarked = m })

  pub same_next : {i k X Y : ℕ} {β γ : List ℕ} → Goes g t i k X β → Goes g t i k Y γ → (X ≡ Y) × (β ≡ γ)
  same_next {X = X} {Y = Y} {β = β} {γ = γ} a b = let e = sym a.before ∙ b.before in (let x : X ≡ Y = cc in x, let y : β ≡ γ = cc in y)

  pub kernel? : (q i k : ℕ) → Dec ((σ : List ℕ) × KernelAt g t q i k σ)
  kernel? q i k =
      map_dec (λ h. (h.2.codes, subst (λ (l : KernelLine). In l t.kernels) h.2.is h.1)) (λ h. (K q i k h.0, h.1, record { codes = h.0; is = refl }))
      (any? (OfKernel q i k) (of_kernel? q i k) t.kernels)

  pub record Added (i k j : ℕ) : Type 0 where
    pub symbol : ℕ
    pub rest : List ℕ
    pub by : Rule
    pub goes : Goes g t i k symbol rest
    pub is : rule_at g j ≡ some by
    pub of : by.left ≡ symbol

  pub added? : (i k j : ℕ) → Dec (Added i k j)
  added? i k j = go (goes? i k) (rule? (rule_at g j))
    where
      fit : (a : Next i k) (r : (r : Rule) × (rule_at g j ≡ some r)) → Dec (r.0.left ≡ a.0) → Dec (Added i k j)
      fit a r (yes e) = yes (record { symbol = a.0; rest = a.1; by = r.0; goes = a.2; is = r.1; of = e })
      fit a r (no f) = no (λ h. f (let e = sym r.1 ∙ h.is in let s : r.0 ≡ h.by = cc in ap (λ (x : Rule). x.left) s ∙ h.of ∙ (same_next h.goes a.2).0))

      go : Dec (Next i k) → Dec ((r : Rule) × (rule_at g j ≡ some r)) → Dec (Added i k j)
      go (no f) d = no (λ h. f (h.symbol, h.rest, h.goes))
      go (yes a) (no f) = no (λ h. f (h.by, h.is))
      go (yes a) (yes r) = fit a r (ℕ_discrete r.0.left a.0)

  abbrev Seed : ℕ → Spot → Type 0
  Seed q (spot i k) = (σ : List ℕ) × KernelAt g t q i k σ

  abbrev Step : Spot → Spot → Type 0
  Step (spot i k) (spot j n) = Added i k j × (n ≡ zero)

  seed? : (q : ℕ) (a : Spot) → Dec (Seed q a)
  seed? q (spot i k) = kernel? q i k

  step? : (a b : Spot) → Dec (Step a b)
  step? (spot i k) (spot j n) = both? (added? i k j) (ℕ_discrete n zero)

  abbrev spot_of : KernelLine → Spot
  spot_of (K q i k σ) = spot i k

  spots : List Spot
  spots = map spot_of t.kernels ++ map (λ (j : ℕ). spot j zero) (upto (suc (length g.rules)))

  inside : (q : ℕ) (a : Spot) → Reach (Seed q) Step a → In a spots
  unfolding spots
  inside q (spot i k) (seed h) = in_left _ (image_in spot_of (K q i k h.0) t.kernels h.1)
  inside q (spot j n) (step {a = spot i k} r s) =
      subst (λ (m : ℕ). In (spot j m) (map spot_of t.kernels ++ map (λ (j : ℕ). spot j zero) (upto (suc (length g.rules))))) (sym s.1)
      (in_right (map spot_of t.kernels) (image_in (λ (j : ℕ). spot j zero) j (upto (suc (length g.rules))) (in_upto (suc (length g.rules)) j (rule_less j s.0.by s.0.is))))

  pub closure_list : (q : ℕ) → List Spot
  closure_list q = (members (Seed q) Step (seed? q) step? spots (inside q)).list

  reach_has : (q : ℕ) (a : Spot) → Reach (Seed q) Step a → (i k : ℕ) → a ≡ spot i k → Has g t q i k
  reach_has q (spot m n) (seed h) i k e = let a : m ≡ i = cc in let b : n ≡ k = cc in in_kernel (subst (λ (x : ℕ). KernelAt g t q x k h.0) a (subst (λ (x : ℕ). KernelAt g t q m x h.0) b h.1))
  reach_has q (spot m n) (step {a = spot x y} r s) i k e =
      let a : m ≡ i = cc in
      let b : n ≡ k = cc in
      subst (λ (z : ℕ). Has g t q z k) a (subst (λ (z : ℕ). Has g t q m z) (sym s.1 ∙ b) (in_closure m (reach_has q (spot x y) r x y refl) s.0.goes s.0.is s.0.of))

  has_reach : (q i k : ℕ) → Has g t q i k → Reach (Seed q) Step (spot i k)
  has_reach q i k (in_kernel {σ = σ} h) = seed {a = spot i k} (σ, h)
  has_reach q i k (in_closure {i = x} {k = y} {X = X} j {β = β} {r = r} h go e l) = step {a = spot x y} {b = spot j zero} (has_reach q x y h) (record { symbol = X; rest = β; by = r; goes = go; is = e; of = l }, refl)

  pub closure_only : (q i k : ℕ) → In (spot i k) (closure_list q) → Has g t q i k
  unfolding closure_list
  closure_only q i k m = reach_has q (spot i k) ((members (Seed q) Step (seed? q) step? spots (inside q)).only (spot i k) m) i k refl

  pub closure_every : (q i k : ℕ) → Has g t q i k → In (spot i k) (closure_list q)
  unfolding closure_list
  closure_every q i k h = (members (Seed q) Step (seed? q) step? spots (inside q)).every (spot i k) (has_reach q i k h)

  module _ (F : List ℕ → ℕ → ℕ → Type 0) (F? : (β : List ℕ) (d c : ℕ) → Dec (F β d c)) (first-codes : List ℕ)
      (F-in : (β : List ℕ) (d c : ℕ) → F β d c → (c ≡ d) ⊎ In c first-codes) where
    -- with codes
    pub record Given (i k d j c : ℕ) : Type 0 where
      pub added : Added i k j
      pub first : F added.rest d c

    pub given? : (i k d j c : ℕ) → Dec (Given i k d j c)
    given? i k d j c = go (added? i k j)
      where
        fit : (a : Added i k j) → Dec (F a.rest d c) → Dec (Given i k d j c)
        fit a (yes f) = yes (record { added = a; first = f })
        fit a (no f) = no (λ h. f (subst (λ (β : List ℕ). F β d c) (same_next h.added.goes a.goes).1 h.first))

        go : Dec (Added i k j) → Dec (Given i k d j c)
        go (yes a) = fit a (F? a.rest d c)
        go (no f) = no (λ h. f h.added)

    abbrev SeedC : ℕ → Coded → Type 0
    SeedC q (coded i k d) = (l : KernelLine) × In l t.kernels × OfKernelCode q i k d l

    abbrev StepC : Coded → Coded → Type 0
    StepC (coded i k d) (coded j n c) = Given i k d j c × (n ≡ zero)

    seed_c? : (q : ℕ) (a : Coded) → Dec (SeedC q a)
    seed_c? q (coded i k d) = any? (OfKernelCode q i k d) (of_kernel_code? q i k d) t.kernels

    step_c? : (a b : Coded) → Dec (StepC a b)
    step_c? (coded i k d) (coded j n c) = both? (given? i k d j c) (ℕ_discrete n zero)

    codes_all : List ℕ
    codes_all = first-codes ++ all_codes t.kernels

    codeds : List Coded
    codeds = all_coded t.kernels ++ pairs (λ (j c : ℕ). coded j zero c) (upto (suc (length g.rules))) codes_all

    code_in : (q : ℕ) (a : Coded) → Reach (SeedC q) StepC a → (i k d : ℕ) → a ≡ coded i k d → In d codes_all
    unfolding codes_all
    code_in q (coded m n b) (seed h) i k d e =
        let x : b ≡ d = cc in
        subst (λ (z : ℕ). In z (first-codes ++ all_codes t.kernels)) x (in_right first-codes (in_all_codes t.kernels q m n b h.2.codes (subst (λ (l : KernelLine). In l t.kernels) h.2.is h.1) h.2.code))
    code_in q (coded m n b) (step {a = coded x y z} r s) i k d e = let w : b ≡ d = cc in subst (λ (v : ℕ). In v (first-codes ++ all_codes t.kernels)) w (go (F-in s.0.added.rest z b s.0.first) (code_in q (coded x y z) r x y z refl))
      where
        go : (b ≡ z) ⊎ In b first-codes → In z (first-codes ++ all_codes t.kernels) → In b (first-codes ++ all_codes t.kernels)
        go (inl f) h = subst (λ (v : ℕ). In v (first-codes ++ all_codes t.kernels)) (sym f) h
        go (inr m) h = in_left (all_codes t.kernels) m

    inside_c : (q : ℕ) (a : Coded) → Reach (SeedC q) StepC a → In a codeds
    unfolding codeds
    inside_c q (coded i k d) (seed h) =
        in_left _ (in_all_coded t.kernels q i k d h.2.codes (subst (λ (l : KernelLine). In l t.kernels) h.2.is h.1) h.2.code)
    inside_c q (coded j n c) (step {a = coded i k d} r s) =
        in_right (all_coded t.kernels)
        (subst (λ (m : ℕ). In (coded j m c) (pairs (λ (j c : ℕ). coded j zero c) (upto (suc (length g.rules))) codes_all)) (sym s.1)
        (in_pairs (λ (j c : ℕ). coded j zero c) j c (upto (suc (length g.rules))) codes_all (in_upto (suc (length g.rules)) j (rule_less j s.0.added.by s.0.added.is))
        (code_in q (coded j n c) (step {a = coded i k d} {b = coded j n c} r s) j n c refl)))

    pub context_list : (q : ℕ) → List Coded
    context_list q = (members (SeedC q) StepC (seed_c? q) step_c? codeds (inside_c q)).list

    reach_carries : (q : ℕ) (a : Coded) → Reach (SeedC q) StepC a → (i k d : ℕ) → a ≡ coded i k d → Carries g t F q i k d
    reach_carries q (coded m n b) (seed h) i k d e =
        let x : coded m n b ≡ coded i k d = e in
        let a : m ≡ i = cc in
        let c : n ≡ k = cc in
        let f : b ≡ d = cc in
        in_kernel {σ = h.2.codes} (subst (λ (l : KernelLine). In l t.kernels) (h.2.is ∙ ap₂ (λ (u v : ℕ). K q u v h.2.codes) a c) h.1) (subst (λ (v : ℕ). In v h.2.codes) f h.2.code)
    reach_carries q (coded m n b) (step {a = coded x y z} r s) i k d e =
        let a : m ≡ i = cc in
        let c : zero ≡ k = sym s.1 ∙ (let w : n ≡ k = cc in w) in
        let f : b ≡ d = cc in
        subst (λ (v : ℕ). Carries g t F q i k v) f (subst (λ (v : ℕ). Carries g t F q i v b) c (subst (λ (v : ℕ). Carries g t F q v zero b) a
        (in_closure m (reach_carries q (coded x y z) r x y z refl) s.0.added.goes s.0.added.is s.0.added.of s.0.first)))

    carries_reach : (q i k d : ℕ) → Carries g t F q i k d → Reach (SeedC q) StepC (coded i k d)
    carries_reach q i k d (in_kernel {σ = σ} h m) = seed {a = coded i k d} (K q i k σ, h, record { codes = σ; is = refl; code = m })
    carries_reach q i k d (in_closure {i = x} {k = y} {d = z} {X = X} j {c = c} {β = β} {r = r} h go e l f) =
        step {a = coded x y z} {b = coded j zero c} (carries_reach q x y z h) (record { added = record { symbol = X; rest = β; by = r; goes = go; is = e; of = l }; first = f }, refl)

    pub context_only : (q i k d : ℕ) → In (coded i k d) (context_list q) → Carries g t F q i k d
    unfolding context_list
    context_only q i k d m = reach_carries q (coded i k d) ((members (SeedC q) StepC (seed_c? q) step_c? codeds (inside_c q)).only (coded i k d) m) i k d refl

    pub context_every : (q i k d : ℕ) → Carries g t F q i k d → In (coded i k d) (context_list q)
    unfolding context_list
    context_every q i k d h = (members (SeedC q) StepC (seed_c? q) step_c? codeds (inside_c q)).every (coded i k d) (carries_reach q i k d h)
