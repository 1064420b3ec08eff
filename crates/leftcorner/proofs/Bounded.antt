-- The walk with lent lengths against the walk with none: lent its needs it ends as that one does, lent less it is short at
-- the first step that outgrows them.
use Prim.Native.Nat.{ℕ, zero, suc, ◌+◌, ◌*◌, ◌≤◌, ◌<◌, max}
use native.Mathlib.Omega.{arith}
use native.Mathlib.Decide.{dec_le}
use mathlib.Core.Path.{◌≡◌, refl, sym, ap, ◌∙◌}
use mathlib.Core.Logic.{◌⊎◌, inl, inr}
use mathlib.Core.Bool.{Bool, true, false, cond, ◌&&◌}
use mathlib.Core.List.{List, [], ◌∷◌, ◌++◌, append_assoc, append-nil}
use lib.ListN.{length, length-append}
use borrow.Author.Tests.{le-leb, lt-leb}
use lib.Dec.{leb}
use Rattle.language.specs.Grammar.{Grammar}
use Rattle.language.specs.Sentence.{In, here, there}
use Rattle.language.specs.First.{next}
use Rattle.leftcorner.specs.Machine.{Automaton, Event, shifted, announced, closed, Outcome, on, whole, wrong, rules_of, to_come, taken, step, start, Ending, Walk, ends_whole, ends_wrong, goes_on, Verdict, whole_at, short_at, fits, proceed, walk_for, enough_steps, walk}
use Rattle.leftcorner.specs.Claim.{comes_back, Within, begins, steps, Outgrows, at_start, at_step}
use Rattle.leftcorner.proofs.Progress.{Progress, PopsSome, progress, whole_on_end}

-- ---- tokens

-- no token is 0
abbrev pub NoEnd : List ℕ → Type 0
NoEnd w = (a : ℕ) → In a w → 1 ≤ a

no_end_rest : (e : Event) (w : List ℕ) → NoEnd w → NoEnd (to_come e w)
no_end_rest (shifted a) [] h = h
no_end_rest (shifted a) (x ∷ w) h = λ b i. h b (there i)
no_end_rest (announced i) w h = h
no_end_rest closed w h = h

-- where the next code is 0, nothing is to come
none_left : (w : List ℕ) → NoEnd w → next w 0 ≡ 0 → length w ≡ 0
none_left [] h e = refl
none_left (a ∷ w) h e = let f : ⊥ = omega (arith, h a here, e) in absurd f

module _ (g : Grammar) (m : Automaton) where
  -- a walk needs at least the stack that it starts with
  start_need : {S w l : List ℕ} {p h : ℕ} {o : Ending} → Walk g m S w p o h l → length S ≤ h
  start_need (ends_whole e) = omega arith
  start_need (ends_wrong e) = omega arith
  start_need (goes_on e x) = omega arith

  module _ (n k : ℕ) where
    pub fits_yes : (p : ℕ) (U l : List ℕ) (v : Verdict) → length U ≤ n → length l ≤ k → fits g m n k p U l v ≡ v
    fits_yes p U l v a b = simp (le-leb (length U) n a, le-leb (length l) k b)

    pub fits_no : (p : ℕ) (U l : List ℕ) (v : Verdict) → (n < length U) ⊎ (k < length l) → fits g m n k p U l v ≡ short_at p
    fits_no p U l v (inl a) = simp (lt-leb (length U) n a)
    fits_no p U l v (inr b) = go (leb (length U) n)
      where
        go : (t : Bool) → cond (t && leb (length l) k) v (short_at p) ≡ short_at p
        go true = simp (lt-leb (length l) k b)
        go false = refl

    -- f steps are enough from stack S, with w to come and l announced: `left` is what is left of listing and tokens together
    pub record Enough (S w l : List ℕ) (f : ℕ) : Type 0 where
      pub left : ℕ
      pub covers : k + length w ≤ length l + left
      pub fuel : left * suc n + length S < f

    pub enough_on : {S w l U : List ℕ} {e : Event} {f : ℕ} → Enough S w l (suc f) → Progress S w e U → length U ≤ n → length (l ++ rules_of e) ≤ k
        → Enough U (to_come e w) (l ++ rules_of e) f
    enough_on {S} {w} {l} {U} {e} {f} x y high long = go y.less x.left x.covers x.fuel
      where
        go : (length w + length (rules_of e) ≡ suc (length (to_come e w))) ⊎ ((length w + length (rules_of e) ≡ length (to_come e w)) × (length U < length S))
            → (a : ℕ) → k + length w ≤ length l + a → a * suc n + length S < suc f → Enough U (to_come e w) (l ++ rules_of e) f
        go (inl z) zero c b = let t : ⊥ = omega (arith, length-append l (rules_of e)) in absurd t
        go (inl z) (suc a) c b = record { left = a; covers = omega (arith, length-append l (rules_of e)); fuel = omega arith }
        go (inr z) a c b = record { left = a; covers = omega (arith, length-append l (rules_of e), z.0); fuel = omega (arith, z.1) }

    pub enough_at_start : (w : List ℕ) → 1 ≤ n → Enough (start g m) w [] (enough_steps g m n k w)
    enough_at_start w a = record { left = k + length w; covers = omega arith; fuel = omega arith }

    pub no_fuel : {A : Type 0} {S w l : List ℕ} → Enough S w l zero → A
    no_fuel x = let t : ⊥ = omega (arith, x.fuel) in absurd t

    one_step : (f : ℕ) (S w : List ℕ) (p : ℕ) (l : List ℕ) (x : Outcome) → step g m S (next w 0) ≡ x
        → walk_for g m n k (suc f) S w p l ≡ proceed g m n k x w p l (walk_for g m n k f)
    one_step f S w p l x e = ap (λ (y : Outcome). proceed g m n k y w p l (walk_for g m n k f)) e

    within_fits : {u S w l : List ℕ} {p : ℕ} → Within g m n k u S w p l → (length S ≤ n) × (length l ≤ k)
    within_fits (begins a) = (a, omega arith)
    within_fits (steps x e a b) = (a, b)

    module _ (least : PopsSome m) where
      -- ---- lent the needs

      ends_alike : {S w r : List ℕ} {p h : ℕ} {o : Ending} → Walk g m S w p o h r → (l : List ℕ) (f : ℕ) → NoEnd w → Enough S w l f
          → h ≤ n → length (l ++ r) ≤ k → walk_for g m n k f S w p l ≡ comes_back o (p + length w) (l ++ r)
      ends_alike (ends_whole e) l zero t c high long = no_fuel c
      ends_alike (ends_whole {S = S} {w = w} {p = p} e) l (suc f) t c high long =
          let z = none_left w t (whole_on_end g m S (next w 0) e) in
          let q : p ≡ p + length w = omega (arith, z) in
          one_step f S w p l whole e ∙ ap (λ (i : ℕ). whole_at i l) q ∙ ap (whole_at (p + length w)) (sym (append-nil l))
      ends_alike (ends_wrong e) l zero t c high long = no_fuel c
      ends_alike (ends_wrong {S = S} {w = w} {p = p} e) l (suc f) t c high long = one_step f S w p l wrong e
      ends_alike (goes_on e x) l zero t c high long = no_fuel c
      ends_alike (goes_on {S = S} {U = U} {w = w} {l = r} {e = e} {p = p} {h = h} {o = o} eq x) l (suc f) t c high long =
          let y = progress g m least S w e U eq in
          let hU : length U ≤ n = omega (arith, start_need x) in
          let join : (l ++ rules_of e) ++ r ≡ l ++ (rules_of e ++ r) = append_assoc l (rules_of e) r in
          let all : length ((l ++ rules_of e) ++ r) ≤ k = rw join long in
          let hl : length (l ++ rules_of e) ≤ k = omega (arith, all, length-append (l ++ rules_of e) r) in
          let again = ends_alike x (l ++ rules_of e) f (no_end_rest e w t) (enough_on c y hU hl) (omega arith) all in
          one_step f S w p l (on e U) eq ∙ fits_yes _ U (l ++ rules_of e) _ hU hl ∙ again ∙ ap (λ (i : ℕ). comes_back o i ((l ++ rules_of e) ++ r)) (y.count p)
          ∙ ap (comes_back o (p + length w)) join

      -- ---- lent less

      abbrev Short : List ℕ → Verdict → Type 0
      Short u v = (p : ℕ) × (v ≡ short_at p) × Outgrows g m n k u p

      -- a walk that ends where it stands needs no more than it has
      no_more : {A : Type 0} {u S w l : List ℕ} {p : ℕ} → Within g m n k u S w p l → (n < length S) ⊎ (k < length (l ++ [])) → A
      no_more i (inl a) = let t : ⊥ = omega (arith, (within_fits i).0, a) in absurd t
      no_more {l = l} i (inr a) = let t : ⊥ = omega (arith, (within_fits i).1, a, length-append l []) in absurd t

      -- a step that goes on, where the walk from there falls short if the step fits
      short_step : {u S w U : List ℕ} {p : ℕ} {e : Event} (r l : List ℕ) (h f : ℕ) → step g m S (next w 0) ≡ on e U → Within g m n k u S w p l → Enough S w l (suc f)
          → (n < max (length S) h) ⊎ (k < length (l ++ (rules_of e ++ r)))
          → (Within g m n k u U (to_come e w) (taken e p) (l ++ rules_of e) → Enough U (to_come e w) (l ++ rules_of e) f
          → (n < h) ⊎ (k < length ((l ++ rules_of e) ++ r)) → Short u (walk_for g m n k f U (to_come e w) (taken e p) (l ++ rules_of e)))
          → Short u (walk_for g m n k (suc f) S w p l)
      short_step {u} {S} {w} {U} {p} {e} r l h f eq i c less again = go (dec_le (length U) n) (dec_le (length (l ++ rules_of e)) k)
        where
          rest : (n < max (length S) h) ⊎ (k < length (l ++ (rules_of e ++ r))) → (n < h) ⊎ (k < length ((l ++ rules_of e) ++ r))
          rest (inl a) = inl (omega (arith, (within_fits i).0, a))
          rest (inr a) = inr (rw (append_assoc l (rules_of e) r) a)

          outgrown : (n < length U) ⊎ (k < length (l ++ rules_of e)) → Short u (walk_for g m n k (suc f) S w p l)
          outgrown a = (p, one_step f S w p l (on e U) eq ∙ fits_no _ U (l ++ rules_of e) _ a, at_step i eq a)

          go : Dec (length U ≤ n) → Dec (length (l ++ rules_of e) ≤ k) → Short u (walk_for g m n k (suc f) S w p l)
          go (yes a) (yes b) =
              let s = again (steps i eq a b) (enough_on c (progress g m least S w e U eq) a b) (rest less) in
              (s.0, one_step f S w p l (on e U) eq ∙ fits_yes _ U (l ++ rules_of e) _ a b ∙ s.1, s.2)
          go (yes a) (no b) = outgrown (inr (omega (arith, b)))
          go (no a) b = outgrown (inl (omega (arith, a)))

      falls_short : {u S w r : List ℕ} {p h : ℕ} {o : Ending} → Walk g m S w p o h r → (l : List ℕ) (f : ℕ) → Within g m n k u S w p l → Enough S w l f
          → (n < h) ⊎ (k < length (l ++ r)) → Short u (walk_for g m n k f S w p l)
      falls_short (ends_whole e) l f i c less = no_more i less
      falls_short (ends_wrong e) l f i c less = no_more i less
      falls_short (goes_on e x) l zero i c less = no_fuel c
      falls_short (goes_on {S = S} {U = U} {w = w} {l = r} {e = e} {p = p} {h = h} eq x) l (suc f) i c less =
          short_step r l h f eq i c less (λ i' c' less'. falls_short x (l ++ rules_of e) f i' c' less')

  -- ---- from the start

  module _ (least : PopsSome m) {w listed : List ℕ} {ending : Ending} {need : ℕ} (e : Walk g m (start g m) w zero ending need listed) where
    -- "lent enough listing and stack, the session comes back whole or wrong"
    pub enough : NoEnd w → (n k : ℕ) → need ≤ n → length listed ≤ k → walk g m n k w ≡ comes_back ending (length w) listed
    enough t n k a b =
        let one : 1 ≤ n = omega (arith, start_need e) in
        let all : 0 + length w ≡ length w = omega arith in
        fits_yes n k 0 (start g m) [] _ one (omega arith) ∙ ends_alike n k least e [] (enough_steps g m n k w) t (enough_at_start n k w one) a b
        ∙ ap (λ (i : ℕ). comes_back ending i listed) all

    -- "lent less in either, it is a short slip"
    pub short : (n k : ℕ) → (n < need) ⊎ (k < length listed) → (p : ℕ) × (walk g m n k w ≡ short_at p) × Outgrows g m n k w p
    short n k less = go (dec_le 1 n)
      where
        go : Dec (1 ≤ n) → (p : ℕ) × (walk g m n k w ≡ short_at p) × Outgrows g m n k w p
        go (yes a) =
            let s = falls_short n k least e [] (enough_steps g m n k w) (begins a) (enough_at_start n k w a) less in
            (s.0, fits_yes n k 0 (start g m) [] _ a (omega arith) ∙ s.1, s.2)
        go (no a) =
            let b : n < 1 = omega (arith, a) in
            (0, fits_no n k 0 (start g m) [] _ (inl b), at_start b)
