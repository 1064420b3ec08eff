-- What the machine reads of a table is what stands in its lines.
use Prim.Native.Nat.{ℕ, zero, suc, ◌+◌}
use native.Mathlib.Omega.{arith}
use mathlib.Core.Path.{◌≡◌, refl, sym, ap, ap₂, ◌∙◌, subst}
use mathlib.Core.Logic.{◌⊎◌, inl, inr}
use mathlib.Core.Bool.{Bool, true, false, cond, ◌&&◌}
use mathlib.Core.List.{List, [], ◌∷◌, map}
use mathlib.Core.Option.{Option, some, none}
use lib.Dec.{eqb}
use borrow.Author.Tests.{eqb-true, eq-eqb}
use Rattle.language.specs.Grammar.{Grammar, at}
use Rattle.language.specs.Sentence.{In, here, there}
use Rattle.language.proofs.Member.{in_cons, in_map}
use Rattle.language.proofs.TestLaws.{both_true}
use Rattle.leftcorner.specs.Machine.{shift, announce, pop}
use Rattle.leftcorner.specs.Table.{EntryLine, E, Action, S, N, A, P, ActionLine, L, Table, entry_at, string_of, same_string, entry_from, action_for, group_entries, cell_of, automaton}
use Rattle.leftcorner.specs.Construction.{EntryAt, ActionAt, WellFormed}

-- two constructors are not the same
pub clash : {A : Type 0} → ◌≡◌ {A = ℕ} 0 1 → A
clash e = absurd (omega arith)

-- the string of an entry
abbrev pub string_at : Table → ℕ → List ℕ
string_at t e = string_of (entry_at t e)

-- ---- the tests

same_place : (p q Y X : ℕ) → eqb p q && eqb Y X ≡ true → (p ≡ q) × (Y ≡ X)
same_place p q Y X e = let h = both_true (eqb p q) (eqb Y X) e in (eqb-true p q h.0, eqb-true Y X h.1)

place_same : (p q Y X : ℕ) → p ≡ q → Y ≡ X → eqb p q && eqb Y X ≡ true
place_same p q Y X e f = ap₂ ◌&&◌ (eq-eqb p q e) (eq-eqb Y X f)

pub same_string_lem : (δ γ : List ℕ) → same_string δ γ ≡ true → δ ≡ γ
same_string_lem [] [] e = refl
same_string_lem [] (y ∷ m) e = cc
same_string_lem (x ∷ l) [] e = cc
same_string_lem (x ∷ l) (y ∷ m) e =
    let h = both_true (eqb x y) (same_string l m) e in
    ap₂ (λ (a : ℕ) (k : List ℕ). a ∷ k) (eqb-true x y h.0) (same_string_lem l m h.1)

pub string_same : (γ : List ℕ) → same_string γ γ ≡ true
string_same [] = refl
string_same (x ∷ l) = ap₂ ◌&&◌ (eq-eqb x x refl) (string_same l)

-- ---- actions

action_found : (l : List ActionLine) (q X : ℕ) (x : Action) → In (L q X x) l → (y : Action) × In (L q X y) l × (action_for l q X ≡ some y)
action_found [] q X x m = elim m [ ]
action_found (L p Y z ∷ l) q X x m = go (eqb p q && eqb Y X) refl (λ n. action_found l q X x n) (in_cons m)
  where
    go : (b : Bool) → eqb p q && eqb Y X ≡ b → (In (L q X x) l → (y : Action) × In (L q X y) l × (action_for l q X ≡ some y)) → (L q X x ≡ L p Y z) ⊎ In (L q X x) l
        → (y : Action) × In (L q X y) (L p Y z ∷ l) × (cond b (some z) (action_for l q X) ≡ some y)
    go true e rec n = let h = same_place p q Y X e in (z, subst (λ (a : ActionLine). In a (L p Y z ∷ l)) (ap₂ (λ (a b : ℕ). L a b z) h.0 h.1) here, refl)
    go false e rec (inl k) = let a : p ≡ q = cc in let b : Y ≡ X = cc in let f = place_same p q Y X a b in clash cc
    go false e rec (inr n) = let r = rec n in (r.0, there r.1, r.2)

pub action_back : (l : List ActionLine) (q X : ℕ) (y : Action) → action_for l q X ≡ some y → In (L q X y) l
action_back [] q X y e = clash cc
action_back (L p Y z ∷ l) q X y e = go (eqb p q && eqb Y X) refl (λ h. action_back l q X y h) e
  where
    go : (b : Bool) → eqb p q && eqb Y X ≡ b → (action_for l q X ≡ some y → In (L q X y) l) → cond b (some z) (action_for l q X) ≡ some y → In (L q X y) (L p Y z ∷ l)
    go true e rec h =
        let a = same_place p q Y X e in
        let k : z ≡ y = cc in
        subst (λ (b : ActionLine). In b (L p Y z ∷ l)) (ap₂ (λ (a b : ℕ). L a b z) a.0 a.1 ∙ ap (L q X) k) here
    go false e rec h = there (rec h)

-- ---- entries

pub entry_found : (l : List EntryLine) (γ : List ℕ) (k j s : ℕ) → at l j ≡ some (E s γ)
    → (i : ℕ) × (u : ℕ) × (at l i ≡ some (E u γ)) × (entry_from (suc k) l γ ≡ suc (k + i))
entry_found [] γ k j s e = clash cc
entry_found (E p δ ∷ l) γ k j s e = go (same_string δ γ) refl j (λ i h. entry_found l γ (suc k) i s h) e
  where
    go : (b : Bool) → same_string δ γ ≡ b → (i : ℕ)
        → ((n : ℕ) → at l n ≡ some (E s γ) → (i : ℕ) × (u : ℕ) × (at l i ≡ some (E u γ)) × (entry_from (suc (suc k)) l γ ≡ suc (suc k + i)))
        → at (E p δ ∷ l) i ≡ some (E s γ) → (i : ℕ) × (u : ℕ) × (at (E p δ ∷ l) i ≡ some (E u γ)) × (cond b (suc k) (entry_from (suc (suc k)) l γ) ≡ suc (k + i))
    go true e i rec h = (0, p, ap (λ (m : List ℕ). some (E p m)) (same_string_lem δ γ e), omega arith)
    go false e zero rec h =
        let d : δ ≡ γ = cc in
        let f : same_string δ γ ≡ true = subst (λ (m : List ℕ). same_string m γ ≡ true) (sym d) (string_same γ) in clash cc
    go false e (suc i) rec h = let r = rec i h in (suc r.0, r.1, r.2, omega (arith, r.3))

-- ---- cells

module _ (g : Grammar) (t : Table) where
  pub cell_shift : (o : Option Action) (s : ℕ) → cell_of g t o ≡ shift s → o ≡ some (S s)
  cell_shift none s e = cc
  cell_shift (some (S u)) s e = let k : u ≡ s = cc in ap (λ (x : ℕ). some (S x)) k
  cell_shift (some (N u)) s e = cc
  cell_shift (some (A u)) s e = cc
  cell_shift (some (P u)) s e = cc

  pub cell_pop : (o : Option Action) (n : ℕ) → cell_of g t o ≡ pop n → o ≡ some (P n)
  cell_pop none n e = cc
  cell_pop (some (S u)) n e = cc
  cell_pop (some (N u)) n e = cc
  cell_pop (some (A u)) n e = cc
  cell_pop (some (P u)) n e = let k : u ≡ n = cc in ap (λ (x : ℕ). some (P x)) k

  pub cell_announce : (o : Option Action) (i : ℕ) (es : List ℕ) → cell_of g t o ≡ announce i es → (o ≡ some (A i)) × (es ≡ group_entries g t i)
  cell_announce none i es e = clash cc
  cell_announce (some (S u)) i es e = clash cc
  cell_announce (some (N u)) i es e = clash cc
  cell_announce (some (A u)) i es e =
      let k : u ≡ i = cc in
      let f : group_entries g t u ≡ es = cc in
      (ap (λ (x : ℕ). some (A x)) k, sym f ∙ ap (group_entries g t) k)
  cell_announce (some (P u)) i es e = clash cc

  -- a filled cell's line
  pub shift_line : (q a s : ℕ) → (automaton g t).cell q a ≡ shift s → ActionAt g t q a (S s)
  shift_line q a s e = action_back t.actions q a (S s) (cell_shift (action_for t.actions q a) s e)

  pub pop_line : (q c n : ℕ) → (automaton g t).cell q c ≡ pop n → ActionAt g t q c (P n)
  pop_line q c n e = action_back t.actions q c (P n) (cell_pop (action_for t.actions q c) n e)

  pub announce_line : (q c i : ℕ) (es : List ℕ) → (automaton g t).cell q c ≡ announce i es → ActionAt g t q c (A i) × (es ≡ group_entries g t i)
  announce_line q c i es e = let h = cell_announce (action_for t.actions q c) i es e in (action_back t.actions q c (A i) h.0, h.1)

  module _ (W : WellFormed g t) where
    -- the line that there is for a state and symbol is the one that is read
    pub action_is : (q X : ℕ) (x : Action) → ActionAt g t q X x → action_for t.actions q X ≡ some x
    action_is q X x m = let r = action_found t.actions q X x m in r.2 ∙ ap (λ (y : Action). some y) (W.one_action q X r.0 x r.1 m)

    -- and the entry with a string is the one that is found for it
    pub entry_is : (e s : ℕ) (γ : List ℕ) → EntryAt g t e s γ → entry_from 1 t.entries γ ≡ e
    entry_is zero s γ h = clash cc
    entry_is (suc j) s γ h =
        let r = entry_found t.entries γ 0 j s h in
        let k : suc r.0 ≡ suc j = W.one_entry (suc r.0) (suc j) r.1 s γ r.2 h in
        omega (arith, r.3, k)

    -- for strings that all have entries
    module _ (γs : List (List ℕ)) (all : (γ : List ℕ) → In γ γs → (k : ℕ) × (s : ℕ) × EntryAt g t k s γ) where
      pub found_entry : (e : ℕ) → In e (map (entry_from 1 t.entries) γs) → (s : ℕ) × EntryAt g t e s (string_at t e)
      found_entry e m =
          let x = in_map (entry_from 1 t.entries) γs m in
          let k = all x.0 x.1 in
          let n : k.0 ≡ e = sym (entry_is k.0 k.1 x.0 k.2) ∙ sym x.2 in
          let h : EntryAt g t e k.1 x.0 = subst (λ (i : ℕ). EntryAt g t i k.1 x.0) n k.2 in
          (k.1, h ∙ ap (λ (l : List ℕ). some (E k.1 l)) (sym (ap string_of h)))

    pub found_strings : (γs : List (List ℕ)) → ((γ : List ℕ) → In γ γs → (k : ℕ) × (s : ℕ) × EntryAt g t k s γ)
        → map (string_at t) (map (entry_from 1 t.entries) γs) ≡ γs
    found_strings [] all = refl
    found_strings (γ ∷ γs) all =
        let k = all γ here in
        ap₂ (λ (δ : List ℕ) (δs : List (List ℕ)). δ ∷ δs) (ap (string_at t) (entry_is k.0 k.1 γ k.2) ∙ ap string_of k.2)
        (found_strings γs (λ δ m. all δ (there m)))
