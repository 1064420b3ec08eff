-- What one step does to the tokens, the listing and the height of the stack, and that where a walk starts determines it.
use Prim.Native.Nat.{ℕ, zero, suc, ◌+◌, ◌-◌, ◌≤◌, ◌<◌, max}
use native.Mathlib.Omega.{arith}
use mathlib.Core.Path.{◌≡◌, refl, sym, ap, ap₂, ◌∙◌, subst}
use mathlib.Core.Logic.{◌⊎◌, inl, inr}
use mathlib.Core.List.{List, [], ◌∷◌, ◌++◌}
use mathlib.Core.Option.{Option, some, none}
use lib.ListN.{length, drop, length-drop}
use Rattle.language.specs.Grammar.{Grammar, Rule, rule_at}
use Rattle.language.specs.First.{next}
use Rattle.leftcorner.specs.Machine.{Cell, shift, announce, pop, empty, Automaton, Event, shifted, announced, closed, Outcome, on, whole, wrong, rules_of, to_come, taken, shift_to, pop_to, land, tell, act, step, Ending, Walk, ends_whole, ends_wrong, goes_on}

-- outcomes of two kinds are not equal
abbrev kind : Outcome → ℕ
kind (on e U) = 0
kind whole = 1
kind wrong = 2

clash : {A : Type 0} {x y : Outcome} → x ≡ y → (kind x ≡ kind y → ⊥) → A
clash e f = absurd (f (ap kind e))

-- a step that goes on takes a token or lists a rule, or lowers the stack
pub record Progress (S w : List ℕ) (e : Event) (U : List ℕ) : Type 0 where
  pub count : (p : ℕ) → taken e p + length (to_come e w) ≡ p + length w
  pub less : (length w + length (rules_of e) ≡ suc (length (to_come e w))) ⊎ ((length w + length (rules_of e) ≡ length (to_come e w)) × (length U < length S))

by_shift : (s : ℕ) (S w : List ℕ) (e : Event) (U : List ℕ) → shift_to s S (next w 0) ≡ on e U → Progress S w e U
by_shift s S [] e U h = clash h (λ z. omega arith)
by_shift s S (zero ∷ w) e U h = clash h (λ z. omega arith)
by_shift s S (suc a ∷ w) e U h =
    let k : shifted (suc a) ≡ e = cc in
    subst (λ (x : Event). Progress S (suc a ∷ w) x U) k (record { count = λ p. omega arith; less = inl (omega arith) })

by_pop : (c n : ℕ) (S w : List ℕ) (e : Event) (U : List ℕ) → 1 ≤ n → pop_to (drop n S) c ≡ on e U → Progress S w e U
by_pop c n S w e U least = go (drop n S) (length-drop n S) c
  where
    go : (R : List ℕ) → length R ≡ length S - n → (c : ℕ) → pop_to R c ≡ on e U → Progress S w e U
    go [] len zero h = clash h (λ z. omega arith)
    go [] len (suc a) h = clash h (λ z. omega arith)
    go (q ∷ R) len c h =
        let k : closed ≡ e = cc in
        let u : q ∷ R ≡ U = cc in
        subst (λ (x : Event). Progress S w x U) k (record { count = λ p. omega arith; less = inr (omega arith, omega (arith, len, least, ap length u)) })

-- every pop takes a state off
abbrev pub PopsSome : Automaton → Type 0
PopsSome m = (q c n : ℕ) → m.cell q c ≡ pop n → 1 ≤ n

module _ (g : Grammar) (m : Automaton) where
  by_announce : (o : Option Rule) (i : ℕ) (es S w : List ℕ) (e : Event) (U : List ℕ) → tell g m o i es S ≡ on e U → Progress S w e U
  by_announce none i es S w e U h = clash h (λ z. omega arith)
  by_announce (some r) i es S w e U h = go (drop (length r.before) S) h
    where
      go : (R : List ℕ) → land g m i r es R ≡ on e U → Progress S w e U
      go [] h = clash h (λ z. omega arith)
      go (q ∷ R) h =
          let k : announced i ≡ e = cc in
          subst (λ (x : Event). Progress S w x U) k (record { count = λ p. omega arith; less = inl (omega arith) })

  pub progress : PopsSome m → (S w : List ℕ) (e : Event) (U : List ℕ) → step g m S (next w 0) ≡ on e U → Progress S w e U
  progress least S w e U = go (m.cell (next S 0) (next w 0)) refl
    where
      go : (x : Cell) → m.cell (next S 0) (next w 0) ≡ x → act g m x S (next w 0) ≡ on e U → Progress S w e U
      go (shift s) k h = by_shift s S w e U h
      go (announce i es) k h = by_announce (rule_at g i) i es S w e U h
      go (pop n) k h = by_pop (next w 0) n S w e U (least (next S 0) (next w 0) n k) h
      go empty k h = clash h (λ z. omega arith)

  -- a walk is whole on code 0 only
  pub whole_on_end : (S : List ℕ) (c : ℕ) → step g m S c ≡ whole → c ≡ 0
  whole_on_end S c = go (m.cell (next S 0) c) c
    where
      told : (o : Option Rule) (i : ℕ) (es : List ℕ) (c : ℕ) → tell g m o i es S ≡ whole → c ≡ 0
      told none i es c h = clash h (λ z. omega arith)
      told (some r) i es c h = landed (drop (length r.before) S) h
        where
          landed : (R : List ℕ) → land g m i r es R ≡ whole → c ≡ 0
          landed [] h = clash h (λ z. omega arith)
          landed (q ∷ R) h = clash h (λ z. omega arith)

      popped : (R : List ℕ) (c : ℕ) → pop_to R c ≡ whole → c ≡ 0
      popped [] zero h = refl
      popped [] (suc a) h = clash h (λ z. omega arith)
      popped (q ∷ R) c h = clash h (λ z. omega arith)

      go : (x : Cell) (c : ℕ) → act g m x S c ≡ whole → c ≡ 0
      go (shift s) zero h = refl
      go (shift s) (suc a) h = clash h (λ z. omega arith)
      go (announce i es) c h = told (rule_at g i) i es c h
      go (pop n) c h = popped (drop n S) c h
      go empty c h = clash h (λ z. omega arith)

  -- two walks from one configuration end alike, with the same need and listing
  pub walk_unique : {S w : List ℕ} {p : ℕ} {o o' : Ending} {h h' : ℕ} {l l' : List ℕ} → Walk g m S w p o h l → Walk g m S w p o' h' l'
      → (o ≡ o') × (h ≡ h') × (l ≡ l')
  walk_unique (ends_whole e) (ends_whole e') = (refl, refl, refl)
  walk_unique (ends_whole e) (ends_wrong e') = clash (sym e ∙ e') (λ z. omega arith)
  walk_unique (ends_whole e) (goes_on e' x') = clash (sym e ∙ e') (λ z. omega arith)
  walk_unique (ends_wrong e) (ends_whole e') = clash (sym e ∙ e') (λ z. omega arith)
  walk_unique (ends_wrong e) (ends_wrong e') = (refl, refl, refl)
  walk_unique (ends_wrong e) (goes_on e' x') = clash (sym e ∙ e') (λ z. omega arith)
  walk_unique (goes_on e x) (ends_whole e') = clash (sym e ∙ e') (λ z. omega arith)
  walk_unique (goes_on e x) (ends_wrong e') = clash (sym e ∙ e') (λ z. omega arith)
  walk_unique (goes_on {S = S} {U = U} {w = w} {e = e} {p = p} k x) (goes_on {U = U'} {l = l'} {e = e'} {h = h'} {o = o'} k' x') =
      let a : e' ≡ e = cc in
      let b : U' ≡ U = cc in
      let y : Walk g m U (to_come e w) (taken e p) o' h' l' = rw (a, b) at x' in
      let u = walk_unique x y in
      (u.0, ap (max (length S)) u.1, ap₂ (λ (f : Event) (n : List ℕ). rules_of f ++ n) (sym a) u.2)
