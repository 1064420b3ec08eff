-- Links lead through all lines of a state, from the last to the first.
use Prim.Native.Nat.{ℕ, zero, suc, ◌+◌, ◌-◌, ◌≤◌, ◌<◌}
use mathlib.Core.Path.{◌≡◌, refl, sym, ap, subst, ◌∙◌}
use mathlib.Core.Bool.{Bool, cond}
use mathlib.Core.List.{List, ◌++◌}
use native.Mathlib.Nat.{not-suc-le-zero}
use native.Mathlib.Decide.{ℕ_discrete, dec_lt}
use native.Mathlib.Omega.{arith}
use borrow.Author.Tests.{eq-eqb, ne_eqb}
use lib.Dec.{eqb}
use lib.ListN.{length, get_or, set, replicate, take, drop, get_or-append, length-set, length-replicate}
use lib.Seq.{get_or-set_same, get_or-set_other}
use borrow.Rule.Slice.PartMut.{put_mid}
use Rattle.std.proofs.lemmas.List.{get_or-append_right, get_or-replicate, length-append, length-take-le, length-drop}
use Rattle.memory.specs.Memory.{state_at}
use Rattle.kernel_lines.specs.Lines.{last_before}

module _ (kernels : List ℕ) (q : ℕ) where
  -- p is one more than the last line before l for q, or 0
  pub record Last (p l : ℕ) : Type 0 where
    pub low : p ≤ l
    pub here : (p ≡ 0 → ⊥) → state_at kernels (p - 1) ≡ q
    pub none_between : (m : ℕ) → p ≤ m → m < l → state_at kernels m ≡ q → ⊥

  one_less : (l : ℕ) → suc l - 1 ≡ l
  one_less l = omega arith

  pub last_is : (l : ℕ) → Last (last_before kernels q l) l
  unfolding last_before
  last_is zero = record { low = omega arith; here = λ n. absurd (n refl); none_between = λ m a b e. not-suc-le-zero b }
  last_is (suc l) = go (ℕ_discrete (state_at kernels l) q) (last_is l)
    where
      go : Dec (state_at kernels l ≡ q) → Last (last_before kernels q l) l → Last (cond (eqb (state_at kernels l) q) (suc l) (last_before kernels q l)) (suc l)
      go (yes e) r = subst (λ (b : Bool). Last (cond b (suc l) (last_before kernels q l)) (suc l)) (sym (eq-eqb _ _ e))
          (record { low = omega arith; here = λ n. subst (λ (x : ℕ). state_at kernels x ≡ q) (sym (one_less l)) e; none_between = λ m a b f. omega (arith, a, b) })
      go (no n) r = subst (λ (b : Bool). Last (cond b (suc l) (last_before kernels q l)) (suc l)) (sym (ne_eqb _ _ n))
          (record { low = omega (arith, r.low); here = r.here; none_between = λ m a b f. off m a b f (dec_lt m l) })
        where
          off : (m : ℕ) → last_before kernels q l ≤ m → m < suc l → state_at kernels m ≡ q → Dec (m < l) → ⊥
          off m a b f (yes lt) = r.none_between m a lt f
          off m a b f (no g) = n (subst (λ (x : ℕ). state_at kernels x ≡ q) (let z : m ≡ l = omega arith in z) f)

pub last_low : (kernels : List ℕ) (q l : ℕ) {n : ℕ} → n ≡ last_before kernels q l → n ≤ l
last_low kernels q l e = subst (λ (x : ℕ). x ≤ l) (sym e) (last_is kernels q l).low

-- the lines for q from p on have P, and p leads on
pub record Passed (P : ℕ → Type 0) (kernels : List ℕ) (q lines p : ℕ) : Type 0 where
  pub low : p ≤ lines
  pub here : (p ≡ 0 → ⊥) → state_at kernels (p - 1) ≡ q
  pub past : (m : ℕ) → p ≤ m → m < lines → state_at kernels m ≡ q → P m

pub passed_start : {P : ℕ → Type 0} {kernels : List ℕ} {q lines p : ℕ} → p ≡ last_before kernels q lines → Passed P kernels q lines p
passed_start {P} {kernels} {q} {lines} {p} e = subst (λ (x : ℕ). Passed P kernels q lines x) (sym e) (go (last_is kernels q lines))
  where
    go : Last kernels q (last_before kernels q lines) lines → Passed P kernels q lines (last_before kernels q lines)
    go r = record { low = r.low; here = r.here; past = λ m a b f. absurd (r.none_between m a b f) }

pub passed_more : {P : ℕ → Type 0} {kernels : List ℕ} {q lines p n : ℕ} → Passed P kernels q lines p → (p ≡ 0 → ⊥) → P (p - 1)
    → n ≡ last_before kernels (state_at kernels (p - 1)) (p - 1) → Passed P kernels q lines n
passed_more {P} {kernels} {q} {lines} {p} {n} h f here e =
    go (subst (λ (x : ℕ). Last kernels q x (p - 1)) (sym (e ∙ ap (λ (x : ℕ). last_before kernels x (p - 1)) (h.here f))) (last_is kernels q (p - 1)))
  where
    go : Last kernels q n (p - 1) → Passed P kernels q lines n
    go r = record { low = omega (arith, r.low, h.low); here = r.here; past = λ m a b g. on m a b g (dec_lt m (p - 1)) (dec_lt m p) }
      where
        on : (m : ℕ) → n ≤ m → m < lines → state_at kernels m ≡ q → Dec (m < p - 1) → Dec (m < p) → P m
        on m a b g (yes lt) d = absurd (r.none_between m a lt g)
        on m a b g (no x) (yes lt) = subst P (let z : p - 1 ≡ m = omega arith in z) here
        on m a b g (no x) (no y) = h.past m (let z : p ≤ m = omega arith in z) b g

pub passed_map : {P Q : ℕ → Type 0} {kernels : List ℕ} {q lines p : ℕ} → ((m : ℕ) → P m → Q m) → Passed P kernels q lines p → Passed Q kernels q lines p
passed_map f h = record { low = h.low; here = h.here; past = λ m a b e. f m (h.past m a b e) }

pub passed_all : {P : ℕ → Type 0} {kernels : List ℕ} {q lines p : ℕ} → Passed P kernels q lines p → p ≡ 0 → (m : ℕ) → m < lines → state_at kernels m ≡ q → P m
passed_all h e m l f = h.past m (omega (arith, e)) l f

-- ---- how links are made: line l is linked
pub record Linking (kernels links : List ℕ) (l : ℕ) : Type 0 where
  pub room : length links ≡ 1280
  pub previous : (m : ℕ) → m < l → get_or links m 0 ≡ last_before kernels (state_at kernels m) m
  pub last : (q : ℕ) → q < 256 → get_or links (1024 + q) 0 ≡ last_before kernels q l

pub linking_start : {kernels links : List ℕ} → length links ≡ 1280 → ((q : ℕ) → q < 256 → get_or links (1024 + q) 0 ≡ 0) → Linking kernels links 0
unfolding last_before
linking_start r h = record { room = r; previous = λ m l. absurd (not-suc-le-zero l); last = h }

module _ {kernels links : List ℕ} {l : ℕ} (h : Linking kernels links l) (low : l ≤ 1022) (q : ℕ) (is-q : q ≡ state_at kernels l) (lq : q < 256) where
  next : List ℕ
  next = set (set links l (get_or links (1024 + q) 0)) (1024 + q) (l + 1)

  linking_more : Linking kernels next (suc l)
  unfolding last_before next
  linking_more = record {
    room = simp length-set h.room;
    previous = λ m b. back m b (ℕ_discrete m l);
    last = λ p b. on p b (ℕ_discrete p q);
  }
    where
      back : (m : ℕ) → m < suc l → Dec (m ≡ l) → get_or next m 0 ≡ last_before kernels (state_at kernels m) m
      back m b d = get_or-set_other (set links l (get_or links (1024 + q) 0)) (1024 + q) m (l + 1) 0 (λ e. omega (arith, e)) ∙ go d
        where
          go : Dec (m ≡ l) → get_or (set links l (get_or links (1024 + q) 0)) m 0 ≡ last_before kernels (state_at kernels m) m
          go (yes e) = subst (λ (x : ℕ). get_or (set links l (get_or links (1024 + q) 0)) x 0 ≡ last_before kernels (state_at kernels x) x) (sym e)
              (get_or-set_same links l (get_or links (1024 + q) 0) 0 (omega (arith, h.room)) ∙ (h.last q lq ∙ ap (λ (x : ℕ). last_before kernels x l) is-q))
          go (no n) = get_or-set_other links l m (get_or links (1024 + q) 0) 0 n ∙ h.previous m (omega arith)

      on : (p : ℕ) → p < 256 → Dec (p ≡ q) → get_or next (1024 + p) 0 ≡ cond (eqb (state_at kernels l) p) (suc l) (last_before kernels p l)
      on p b (yes e) = subst (λ (x : ℕ). get_or next (1024 + x) 0 ≡ cond (eqb (state_at kernels l) x) (suc l) (last_before kernels x l)) (sym e)
          (get_or-set_same (set links l (get_or links (1024 + q) 0)) (1024 + q) (l + 1) 0 (simp length-set (omega (arith, h.room)))
          ∙ (let z : l + 1 ≡ suc l = omega arith in z) ∙ sym (ap (λ (x : Bool). cond x (suc l) (last_before kernels q l)) (eq-eqb _ _ (sym is-q))))
      on p b (no n) =
          get_or-set_other (set links l (get_or links (1024 + q) 0)) (1024 + q) (1024 + p) (l + 1) 0 (λ e. n (omega (arith, e)))
          ∙ (get_or-set_other links l (1024 + p) (get_or links (1024 + q) 0) 0 (λ e. omega (arith, e))
          ∙ (h.last p b ∙ sym (ap (λ (x : Bool). cond x (suc l) (last_before kernels p l)) (ne_eqb _ _ (λ e. n (sym (is-q ∙ e)))))))

  -- the link of a line, then the last line of its state
  pub linked_line : {links' : List ℕ} {n : ℕ} → links' ≡ set (set links l (get_or links (1024 + q) 0)) (1024 + q) (l + 1) → n ≡ l + 1 → Linking kernels links' n
  unfolding next
  linked_line {n = n} e f = subst (λ (x : List ℕ). Linking kernels x n) (sym e) (subst (Linking kernels next) (let z : suc l ≡ n = omega arith in z) linking_more)

-- no state has a line yet: the second part of the links is zeros
pub nothing_linked : {kernels : List ℕ} (links : List ℕ) {zs : List ℕ} (k n : ℕ) → length links ≡ 1280 → k ≡ 256 → n ≡ 256 → zs ≡ replicate n 0
    → Linking kernels (put_mid 1024 k links zs) 0
nothing_linked links {zs} k n r ek en e =
    let lz : length zs ≡ 256 = ap length e ∙ (length-replicate {A = ℕ} n 0 ∙ en) in
    let room : 1024 ≤ length links = omega arith in
    let front : length (take 1024 links) ≡ 1024 = simp length-take-le in
    linking_start (simp (length-append, length-take-le, length-drop) (omega arith)) (λ q l.
    let past : (1024 + q) - 1024 ≡ q = omega arith in
    get_or-append_right (take 1024 links) (zs ++ drop k (drop 1024 links)) 1024 (1024 + q) 0 front (omega arith)
    ∙ rw past (get_or-append zs (drop k (drop 1024 links)) 0 q (omega arith)
    ∙ (ap (λ (xs : List ℕ). get_or xs q 0) e ∙ get_or-replicate n q 0 0 (omega arith))))
