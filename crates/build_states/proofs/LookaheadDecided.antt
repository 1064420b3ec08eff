-- The builder's lookaheads are decided: they are what is reached from the goal's entry by single steps, within a list.
use Prim.Native.Nat.{ℕ, zero, suc, ◌+◌, ◌≤◌, ◌<◌}
use native.Mathlib.Omega.{arith}
use native.Mathlib.Decide.{ℕ_discrete}
use mathlib.Core.Path.{◌≡◌, refl, sym, ap, subst, ◌∙◌}
use mathlib.Core.Logic.{◌⊎◌, inl, inr}
use mathlib.Core.Bool.{Bool, true, false, cond}
use mathlib.Core.List.{List, [], ◌∷◌, ◌++◌, map}
use mathlib.Core.Option.{some}
use lib.ListN.{length, length-drop}
use Rattle.language.specs.Grammar.{Grammar, Rule, rule_at, concat}
use Rattle.language.specs.Sentence.{In, here, there}
use Rattle.language.proofs.Member.{in_left, in_right}
use Rattle.leftcorner.specs.Table.{EntryLine, E, same_string, entry_from, symbols_of, Goes}
use Rattle.leftcorner.specs.Construction.{entry_item}
use Rattle.leftcorner.proofs.ReadOff.{clash}
use Rattle.check_verdict.proofs.Tests.{map_dec, both?, either?, any?}
use Rattle.check_verdict.proofs.Reach.{Reach, seed, step, members}
use Rattle.check_verdict.proofs.Closure.{Spot, spot, Coded, coded, image_in, upto, in_upto, pairs, in_pairs, rule_less, Next, goes?, same_next, Given, given?}
use Rattle.check_verdict.proofs.EntriesDecided.{rule_any?}
use Rattle.build_states.specs.Strings.{entry_strings}
use Rattle.build_states.proofs.EntryLaws.{lines_length}
use Rattle.build_states.specs.States.{Kernel, find, move, states, kernel_of, goto}
use Rattle.build_states.specs.Lookaheads.{bare, entry_of, Lookahead, of_goal, of_closure, of_move, of_group}

pub data Look : Type 0 where
  look : ℕ → ℕ → ℕ → ℕ → Look

abbrev with_state : ℕ → Coded → Look
with_state q (coded i k d) = look q i k d

abbrev with_code : Spot → ℕ → Coded
with_code (spot i k) d = coded i k d

unfoldable pub splits_any? : (l : List (List ℕ)) (Φ : List ℕ → List (List ℕ) → Type 0) → ((γ : List ℕ) (εs : List (List ℕ)) → Dec (Φ γ εs))
    → Dec ((δs : List (List ℕ)) × (γ : List ℕ) × (εs : List (List ℕ)) × (l ≡ δs ++ γ ∷ εs) × Φ γ εs)
splits_any? [] Φ test = no (λ h. none_of h.0 h.1 h.2 h.3)
  where
    none_of : (δs : List (List ℕ)) (γ : List ℕ) (εs : List (List ℕ)) → [] ≡ δs ++ γ ∷ εs → ⊥
    none_of [] γ εs e = clash cc
    none_of (δ ∷ δs) γ εs e = clash cc
splits_any? (x ∷ l) Φ test = go (test x l) (splits_any? l Φ test)
  where
    Split : List (List ℕ) → Type 0
    Split m = (δs : List (List ℕ)) × (γ : List ℕ) × (εs : List (List ℕ)) × (m ≡ δs ++ γ ∷ εs) × Φ γ εs

    off : (Φ x l → ⊥) → (Split l → ⊥) → (δs : List (List ℕ)) (γ : List ℕ) (εs : List (List ℕ)) → x ∷ l ≡ δs ++ γ ∷ εs → Φ γ εs → ⊥
    off f h [] γ εs e p =
        let a : γ ≡ x = cc in
        let b : εs ≡ l = cc in
        f (subst (λ (z : List ℕ). Φ z l) a (subst (λ (z : List (List ℕ)). Φ γ z) b p))
    off f h (δ ∷ δs) γ εs e p = let b : l ≡ δs ++ γ ∷ εs = cc in h (δs, γ, εs, b, p)

    go : Dec (Φ x l) → Dec (Split l) → Dec (Split (x ∷ l))
    go (yes p) d = yes ([], x, l, refl, p)
    go (no f) (yes h) = yes (x ∷ h.0, h.1, h.2, ap (λ (z : List (List ℕ)). x ∷ z) h.3, h.4)
    go (no f) (no h) = no (λ k. off f h k.0 k.1 k.2 k.3 k.4)

find_low : (k : Kernel) (ks : List Kernel) → find k ks ≤ length ks
find_low k [] = omega arith
find_low k (h ∷ ks) = go (same_string h k) (find_low k ks)
  where
    go : (b : Bool) → find k ks ≤ length ks → cond b 0 (suc (find k ks)) ≤ suc (length ks)
    go true l = omega arith
    go false l = omega (arith, l)

entry_low : (a : ℕ) (l : List EntryLine) (γ : List ℕ) → entry_from (suc a) l γ ≤ a + length l
entry_low a [] γ = omega arith
entry_low a (E s δ ∷ l) γ = go (same_string δ γ) (entry_low (suc a) l γ)
  where
    go : (b : Bool) → entry_from (suc (suc a)) l γ ≤ suc a + length l → cond b (suc a) (entry_from (suc (suc a)) l γ) ≤ a + suc (length l)
    go true h = omega arith
    go false h = omega (arith, h)

module _ (g : Grammar) (F : List ℕ → ℕ → ℕ → Type 0) (F? : (β : List ℕ) (d c : ℕ) → Dec (F β d c)) (first-codes : List ℕ)
    (F-in : (β : List ℕ) (d c : ℕ) → F β d c → (c ≡ d) ⊎ In c first-codes) where
  -- ---- the steps

  abbrev Moves : ℕ → ℕ → ℕ → ℕ → ℕ → ℕ → ℕ → ℕ → Type 0
  Moves q i k d p j n c = (X : ℕ) × (β : List ℕ) × Goes g (bare g) i k X β × ((p ≡ goto g q X) × ((j ≡ i) × ((n ≡ suc k) × (c ≡ d))))

  abbrev ToGroup : ℕ → ℕ → ℕ → ℕ → ℕ → List ℕ → List (List ℕ) → Type 0
  ToGroup d p j n c γ εs = F (concat εs) d c × ((p ≡ entry_of g γ) × ((j ≡ entry_item g (bare g) (entry_of g γ)) × (n ≡ zero)))

  abbrev Groups : ℕ → ℕ → ℕ → ℕ → ℕ → ℕ → ℕ → Type 0
  Groups i k d p j n c = (r : Rule) × (rule_at g i ≡ some r)
      × ((k ≡ length r.before) × ((δs : List (List ℕ)) × (γ : List ℕ) × (εs : List (List ℕ)) × (r.groups ≡ δs ++ γ ∷ εs) × ToGroup d p j n c γ εs))

  abbrev Closes : ℕ → ℕ → ℕ → ℕ → ℕ → ℕ → ℕ → ℕ → Type 0
  Closes q i k d p j n c = Given g (bare g) F F? first-codes F-in i k d j c × ((p ≡ q) × (n ≡ zero))

  abbrev Seed : Look → Type 0
  Seed (look q i k d) = (q ≡ 1) × ((i ≡ entry_item g (bare g) 1) × ((k ≡ zero) × (d ≡ zero)))

  abbrev Step : Look → Look → Type 0
  Step (look q i k d) (look p j n c) = Closes q i k d p j n c ⊎ (Moves q i k d p j n c ⊎ Groups i k d p j n c)

  unfoldable pub seed? : (a : Look) → Dec (Seed a)
  seed? (look q i k d) = both? (ℕ_discrete q 1) (both? (ℕ_discrete i (entry_item g (bare g) 1)) (both? (ℕ_discrete k zero) (ℕ_discrete d zero)))

  unfoldable pub moves? : (q i k d p j n c : ℕ) → Dec (Moves q i k d p j n c)
  moves? q i k d p j n c = go (goes? g (bare g) i k)
    where
      Ends : ℕ → Type 0
      Ends X = (p ≡ goto g q X) × ((j ≡ i) × ((n ≡ suc k) × (c ≡ d)))

      fit : (a : Next g (bare g) i k) → Dec (Ends a.0) → Dec (Moves q i k d p j n c)
      fit a (yes e) = yes (a.0, a.1, a.2, e)
      fit a (no f) = no (λ h. f (subst Ends (same_next g (bare g) h.2 a.2).0 h.3))

      go : Dec (Next g (bare g) i k) → Dec (Moves q i k d p j n c)
      go (yes a) = fit a (both? (ℕ_discrete p (goto g q a.0)) (both? (ℕ_discrete j i) (both? (ℕ_discrete n (suc k)) (ℕ_discrete c d))))
      go (no f) = no (λ h. f (h.0, h.1, h.2))

  unfoldable pub groups? : (i k d p j n c : ℕ) → Dec (Groups i k d p j n c)
  groups? i k d p j n c =
      rule_any? (rule_at g i) _ (λ r. both? (ℕ_discrete k (length r.before))
      (splits_any? r.groups (ToGroup d p j n c) (λ γ εs. both? (F? (concat εs) d c)
      (both? (ℕ_discrete p (entry_of g γ)) (both? (ℕ_discrete j (entry_item g (bare g) (entry_of g γ))) (ℕ_discrete n zero))))))

  unfoldable pub step? : (a b : Look) → Dec (Step a b)
  step? (look q i k d) (look p j n c) =
      either? (both? (given? g (bare g) F F? first-codes F-in i k d j c) (both? (ℕ_discrete p q) (ℕ_discrete n zero))) (either? (moves? q i k d p j n c) (groups? i k d p j n c))

  -- ---- the list that they stay in

  abbrev last_item : ℕ
  last_item = suc (length g.rules + length (entry_strings g))

  abbrev last_state : ℕ
  last_state = suc (length (states g) + length (entry_strings g))

  record Inside (q i k d : ℕ) : Type 0 where
    state : q ≤ last_state
    item : i ≤ last_item
    dot : k ≤ length (symbols_of g (bare g) i)
    code : In d (0 ∷ first-codes)

  code_in : {c d : ℕ} → (c ≡ d) ⊎ In c first-codes → In d (0 ∷ first-codes) → In c (0 ∷ first-codes)
  code_in (inl z) m = subst (λ (x : ℕ). In x (0 ∷ first-codes)) (sym z) m
  code_in (inr n) m = there n

  inside : {q i k d : ℕ} → Lookahead g F q i k d → Inside q i k d
  unfolding goto
  inside of_goal = record { state = omega arith; item = omega arith; dot = omega arith; code = here }
  inside (of_closure {d = d} j {c = c} {β = β} {r = r} h go e l f) =
      let b = inside h in
      record { state = b.state; item = omega (arith, rule_less g (bare g) j r e); dot = omega arith; code = code_in (F-in β d c f) b.code }
  inside (of_move {q = q} {i = i} {k = k} {X = X} {β = β} h go) =
      let b = inside h in
      record {
        state = omega (arith, find_low (move g (kernel_of g q) X) (states g));
        item = b.item;
        dot = omega (arith, sym (length-drop k (symbols_of g (bare g) i)) ∙ ap length go.before);
        code = b.code;
      }
  inside (of_group {d = d} {c = c} i {r = r} δs γ εs e h p f) =
      let b = inside h in
      let n = entry_low 0 (bare g).entries γ in
      record {
        state = omega (arith, n, lines_length 1 (entry_strings g));
        item = omega (arith, n, lines_length 1 (entry_strings g));
        dot = omega arith;
        code = code_in (F-in (concat εs) d c f) b.code;
      }

  unfoldable pub spots_of : ℕ → List Spot
  spots_of i = map (spot i) (upto (suc (length (symbols_of g (bare g) i))))

  unfoldable pub spots_below : ℕ → List Spot
  spots_below zero = []
  spots_below (suc i) = spots_of i ++ spots_below i

  in_spots : (m i k : ℕ) → i < m → k ≤ length (symbols_of g (bare g) i) → In (spot i k) (spots_below m)
  unfolding spots_below spots_of
  in_spots zero i k l h = absurd (omega (arith, l))
  in_spots (suc m) i k l h = go (ℕ_discrete i m) (λ n. in_spots m i k n h)
    where
      go : Dec (i ≡ m) → (i < m → In (spot i k) (spots_below m)) → In (spot i k) (spots_of m ++ spots_below m)
      go (yes e) rec = in_left (spots_below m) (subst (λ (z : ℕ). In (spot i k) (spots_of z)) e
          (image_in (spot i) k (upto (suc (length (symbols_of g (bare g) i)))) (in_upto (suc (length (symbols_of g (bare g) i))) k (omega (arith, h)))))
      go (no f) rec = in_right (spots_of m) (rec (omega (arith, l, f)))

  unfoldable pub looks : List Look
  looks = pairs with_state (upto (suc last_state)) (pairs with_code (spots_below (suc last_item)) (0 ∷ first-codes))

  in_looks : {q i k d : ℕ} → Inside q i k d → In (look q i k d) looks
  unfolding looks
  in_looks {q = q} {i = i} {k = k} {d = d} b =
      in_pairs with_state q (coded i k d) (upto (suc last_state)) (pairs with_code (spots_below (suc last_item)) (0 ∷ first-codes))
      (in_upto (suc last_state) q (omega (arith, b.state)))
      (in_pairs with_code (spot i k) d (spots_below (suc last_item)) (0 ∷ first-codes) (in_spots (suc last_item) i k (omega (arith, b.item)) b.dot) b.code)

  -- ---- the same family

  same_look : {q i k d p j n c : ℕ} → q ≡ p → i ≡ j → k ≡ n → d ≡ c → Lookahead g F q i k d → Lookahead g F p j n c
  same_look {i = i} {k = k} {d = d} {p = p} {j = j} {n = n} a b c e h =
      subst (λ (z : ℕ). Lookahead g F p j n z) e (subst (λ (z : ℕ). Lookahead g F p j z d) c
      (subst (λ (z : ℕ). Lookahead g F p z k d) b (subst (λ (z : ℕ). Lookahead g F z i k d) a h)))

  one_step : (q i k d p j n c : ℕ) → Lookahead g F q i k d → Step (look q i k d) (look p j n c) → Lookahead g F p j n c
  one_step q i k d p j n c h (inl s) =
      let a = s.0.added in same_look (sym s.1.0) refl (sym s.1.1) refl (of_closure j h a.goes a.is a.of s.0.first)
  one_step q i k d p j n c h (inr (inl s)) = let e = s.3 in same_look (sym e.0) (sym e.1.0) (sym e.1.1.0) (sym e.1.1.1) (of_move h s.2)
  one_step q i k d p j n c h (inr (inr s)) =
      let x = s.2.1 in
      let e = x.4 in
      same_look (sym e.1.0) (sym e.1.1.0) (sym e.1.1.1) refl
      (of_group i x.0 x.1 x.2 s.1 (same_look refl refl s.2.0 refl h) x.3 e.0)

  pub reach_look : (a : Look) → Reach Seed Step a → (q i k d : ℕ) → a ≡ look q i k d → Lookahead g F q i k d
  reach_look (look p j n c) (seed s) q i k d e =
      let a : p ≡ q = cc in
      let b : j ≡ i = cc in
      let x : n ≡ k = cc in
      let y : c ≡ d = cc in
      same_look a b x y (same_look (sym s.0) (sym s.1.0) (sym s.1.1.0) (sym s.1.1.1) of_goal)
  reach_look (look p j n c) (step {a = look q' i' k' d'} r s) q i k d e =
      let a : p ≡ q = cc in
      let b : j ≡ i = cc in
      let x : n ≡ k = cc in
      let y : c ≡ d = cc in
      same_look a b x y (one_step q' i' k' d' p j n c (reach_look (look q' i' k' d') r q' i' k' d' refl) s)

  pub look_reach : {q i k d : ℕ} → Lookahead g F q i k d → Reach Seed Step (look q i k d)
  look_reach of_goal = seed {a = look 1 (entry_item g (bare g) 1) zero zero} (refl, (refl, (refl, refl)))
  look_reach (of_closure {q = q} {i = i} {k = k} {d = d} {X = X} j {c = c} {β = β} {r = r} h go e l f) =
      step {a = look q i k d} {b = look q j zero c} (look_reach h)
      (inl (record { added = record { symbol = X; rest = β; by = r; goes = go; is = e; of = l }; first = f }, (refl, refl)))
  look_reach (of_move {q = q} {i = i} {k = k} {d = d} {X = X} {β = β} h go) =
      step {a = look q i k d} {b = look (goto g q X) i (suc k) d} (look_reach h) (inr (inl (X, β, go, (refl, (refl, (refl, refl))))))
  look_reach (of_group {q = q} {d = d} {c = c} i {r = r} δs γ εs e h p f) =
      step {a = look q i (length r.before) d} {b = look (entry_of g γ) (entry_item g (bare g) (entry_of g γ)) zero c} (look_reach h)
      (inr (inr (r, e, (refl, (δs, γ, εs, p, (f, (refl, (refl, refl))))))))

  pub stays_inside : (a : Look) → Reach Seed Step a → In a looks
  stays_inside (look q i k d) r = in_looks (inside (reach_look (look q i k d) r q i k d refl))

  -- ---- the decision

  unfoldable pub all_looks : List Look
  all_looks = (members Seed Step seed? step? looks stays_inside).list

  unfoldable pub lookahead? : (q i k d : ℕ) → Dec (Lookahead g F q i k d)
  unfolding all_looks
  lookahead? q i k d = map_dec (λ h. from h.0 h.1 h.2)
      (λ h. (look q i k d, (members Seed Step seed? step? looks stays_inside).every (look q i k d) (look_reach h), refl))
      (any? (λ (a : Look). a ≡ look q i k d) same? all_looks)
    where
      from : (a : Look) → In a all_looks → a ≡ look q i k d → Lookahead g F q i k d
      from a m e = reach_look a ((members Seed Step seed? step? looks stays_inside).only a m) q i k d e

      same? : (a : Look) → Dec (a ≡ look q i k d)
      same? (look p j n c) =
          map_dec (λ h. ap (λ (x : ℕ). look x j n c) h.0 ∙ ap (λ (x : ℕ). look q x n c) h.1.0
          ∙ ap (λ (x : ℕ). look q i x c) h.1.1.0 ∙ ap (λ (x : ℕ). look q i k x) h.1.1.1)
          (λ e. (let a : p ≡ q = cc in a, (let a : j ≡ i = cc in a, (let a : n ≡ k = cc in a, let a : c ≡ d = cc in a))))
          (both? (ℕ_discrete p q) (both? (ℕ_discrete j i) (both? (ℕ_discrete n k) (ℕ_discrete c d))))
