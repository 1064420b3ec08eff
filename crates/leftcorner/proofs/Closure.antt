-- The items that the states of a table hold, if it meets the construction: each has a source and a code, and none stands past
-- its recognition point.
use Prim.Native.Nat.{ℕ, zero, suc, ◌≤◌, zero-le}
use native.Mathlib.Nat.{suc-ne-zero}
use native.Mathlib.Omega.{arith}
use mathlib.Core.Path.{◌≡◌, refl, sym, ap, ◌∙◌, subst}
use mathlib.Core.Logic.{◌⊎◌, inl, inr}
use mathlib.Core.List.{List}
use mathlib.Core.Option.{some}
use Rattle.language.specs.Grammar.{Grammar, Rule, rule_at}
use Rattle.language.specs.Derivation.{yields}
use Rattle.language.specs.Sentence.{Declared, AllProductive}
use Rattle.language.specs.First.{First, next}
use Rattle.language.proofs.Strings.{string_derives}
use Rattle.leftcorner.specs.Table.{Action, S, N, A, P, Table, next_state, recognition_point, Goes}
use Rattle.leftcorner.specs.Construction.{forget, entry_item, EntryAt, KernelAt, ActionAt, Has, in_kernel, in_closure, MovedBy, moved, WellFormed, Carries, Asked, to_move, Meets}
use Rattle.leftcorner.proofs.Adequate.{Source, rule, entry}
use Rattle.leftcorner.proofs.ReadOff.{clash}
use Rattle.leftcorner.proofs.Sources.{IsItem, rule_item, entry_item_lem}
use Rattle.leftcorner.proofs.ItemStrings.{rest_declared}

module _ (g : Grammar) (t : Table) where
  pub has_of : {F : List ℕ → ℕ → ℕ → Type 0} {q i k d : ℕ} → Carries g t F q i k d → Has g t q i k
  has_of (in_kernel h m) = in_kernel h
  has_of (in_closure j h go e l f) = in_closure j (has_of h) go e l

  declared_source : (i : ℕ) → ((r : Rule) × (rule_at g i ≡ some r)) ⊎ ((j : ℕ) × (s : ℕ) × (γ : List ℕ) × (i ≡ entry_item g t j) × EntryAt g t j s γ)
      → (ι : Source) × IsItem g t ι i
  declared_source i (inl h) = (rule i, rule_item i h.0 h.1)
  declared_source i (inr h) = (entry h.0, subst (IsItem g t (entry h.0)) (sym h.3) (entry_item_lem h.0 h.1 h.2 h.4))

  pub source_of : WellFormed g t → {q i k : ℕ} → Has g t q i k → (ι : Source) × IsItem g t ι i
  source_of W {q = q} {i = i} {k = k} (in_kernel {σ = σ} h) = declared_source i (W.item_declared q i k σ h)
  source_of W (in_closure j {r = r} h go e l) = (rule j, rule_item j r e)

  module _ (M : Meets g t) where
    asked_moves : {q X : ℕ} → Asked g t (First g) q X (S 0) → (i : ℕ) × (n : ℕ) × MovedBy g t q X i n
    asked_moves (to_move {i = i} {n = n} m) = (i, n, m)

    asked_next : {q X s : ℕ} (x : Action) → next_state x ≡ some s → Asked g t (First g) q X (forget x) → (i : ℕ) × (n : ℕ) × MovedBy g t q X i n
    asked_next (S v) e a = asked_moves a
    asked_next (N v) e a = asked_moves a
    asked_next (A v) e a = clash cc
    asked_next (P v) e a = clash cc

    -- something moves by each line with a next state
    pub line_moves : (q X s : ℕ) (x : Action) → ActionAt g t q X x → next_state x ≡ some s → (i : ℕ) × (n : ℕ) × MovedBy g t q X i n
    line_moves q X s x a e = asked_next x e ((M.cells q).asked X x a)

    -- ---- no item stands past its recognition point

    abbrev NotPast : ℕ → Type 0
    NotPast k = (q i : ℕ) → Has g t q i k → (m : ℕ) → recognition_point g t i ≡ some m → k ≤ m

    not_past_moved : {p X i k : ℕ} → NotPast k → MovedBy g t p X i (suc k) → (m : ℕ) → recognition_point g t i ≡ some m → suc k ≤ m
    not_past_moved {p = p} {i = i} {k = k} rec (moved h go) m e =
        let n : k ≡ m → ⊥ = λ f. go.unmarked (e ∙ ap (λ (j : ℕ). some j) (sym f)) in
        omega (arith, rec p i h m e, n)

    not_past_line : (k : ℕ) → NotPast k → (q i : ℕ) (σ : List ℕ) → KernelAt g t q i (suc k) σ → (m : ℕ) → recognition_point g t i ≡ some m → suc k ≤ m
    not_past_line k rec q i σ h = go ((M.items q).named (M.form.kernel_state q i (suc k) σ h).0 (M.form.kernel_state q i (suc k) σ h).1)
      where
        go : ((j : ℕ) × (γ : List ℕ) × EntryAt g t j q γ) ⊎ ((p : ℕ) × (X : ℕ) × (x : Action) × ActionAt g t p X x × (next_state x ≡ some q))
            → (m : ℕ) → recognition_point g t i ≡ some m → suc k ≤ m
        go (inl e) = absurd (suc-ne-zero k ((M.items q).entry_only e.0 e.1 e.2 i (suc k) σ h).1)
        go (inr a) =
            let v = line_moves a.0 a.1 q a.2 a.3 a.4 in
            not_past_moved rec ((M.items a.0).move_only a.1 q v.0 v.1 a.2 a.3 a.4 v.2 i (suc k) σ h)

    pub not_past : (k q i : ℕ) → Has g t q i k → (m : ℕ) → recognition_point g t i ≡ some m → k ≤ m
    not_past zero q i h m e = zero-le
    not_past (suc k) q i (in_kernel {σ = σ} h) m e = not_past_line k (λ p j x. not_past k p j x) q i σ h m e

    -- ---- every item has a code, since what stands after a symbol derives something

    module _ (D : Declared g) (R : AllProductive g) where
      some_first : (i k X d : ℕ) (β : List ℕ) → Goes g t i k X β → (c : ℕ) × First g β d c
      some_first i k X d β go =
          let f = string_derives g R β (rest_declared g t D M.entries i k X β go) in
          (next (yields f.0) d, record { forest = f.0; derives = f.1; begins = refl })

      pub carries_of : {q i k : ℕ} → Has g t q i k → (d : ℕ) × Carries g t (First g) q i k d
      carries_of {q = q} {i = i} {k = k} (in_kernel {σ = σ} h) = let m = M.form.some_code q i k σ h in (m.0, in_kernel h m.1)
      carries_of (in_closure {i = i} {k = k} {X = X} j {β = β} h go e l) =
          let c = carries_of h in
          let f = some_first i k X c.0 β go in
          (_, in_closure j c.1 go e l f.1)
