-- The lookaheads are decided.
use Prim.Native.Nat.{ℕ, zero, suc}
use native.Mathlib.Decide.{ℕ_discrete}
use mathlib.Core.Logic.{◌⊎◌, inl, inr}
use mathlib.Core.Path.{◌≡◌, refl, ap, ap₂, ◌∙◌, subst}
use mathlib.Core.List.{List, ◌∷◌, ◌++◌}
use mathlib.Core.Option.{some}
use lib.ListN.{length}
use Rattle.language.specs.Grammar.{Grammar, Rule, rule_at, concat}
use Rattle.language.specs.Sentence.{In, here, there}
use Rattle.leftcorner.specs.Table.{KernelLine, K, Action, Table, next_state, Goes}
use Rattle.leftcorner.specs.Construction.{entry_item, EntryAt, KernelAt, ActionAt, Carries, in_kernel, in_closure, LookaheadsMeet}
use Rattle.check_verdict.proofs.Tests.{map_dec, both?, implies?, any?, all?, list?}
use Rattle.check_verdict.proofs.Closure.{Coded, coded, in?, context_list, context_only, context_every}
use Rattle.check_verdict.proofs.ItemsDecided.{some?, entries_all?, kernels_all?, actions_all?, goes_all?}
use Rattle.check_verdict.proofs.EntriesDecided.{rule_all?, splits_all?}

module _ (g : Grammar) (t : Table) (F : List ℕ → ℕ → ℕ → Type 0) (F? : (β : List ℕ) (d c : ℕ) → Dec (F β d c)) (first-codes : List ℕ)
    (F-in : (β : List ℕ) (d c : ℕ) → F β d c → (c ≡ d) ⊎ In c first-codes) where
  -- every code of a context
  contexts_of : ℕ → List Coded
  contexts_of q = context_list g t F F? first-codes F-in q

  pub carried_all? : (q : ℕ) (Φ : ℕ → ℕ → ℕ → Type 0) → ((i k d : ℕ) → Dec (Φ i k d)) → Dec ((i k d : ℕ) → Carries g t F q i k d → Φ i k d)
  unfolding contexts_of
  carried_all? q Φ test = map_dec (λ h i k d c. h (coded i k d) (context_every g t F F? first-codes F-in q i k d c)) to (all? Q test' (contexts_of q))
    where
      Q : Coded → Type 0
      Q (coded i k d) = Φ i k d

      test' : (x : Coded) → Dec (Q x)
      test' (coded i k d) = test i k d

      to : ((i k d : ℕ) → Carries g t F q i k d → Φ i k d) → (x : Coded) → In x (contexts_of q) → Q x
      to h (coded i k d) m = h i k d (context_only g t F F? first-codes F-in q i k d m)

  pub carried_any? : (q : ℕ) (Φ : ℕ → ℕ → ℕ → Type 0) → ((i k d : ℕ) → Dec (Φ i k d)) → Dec ((i : ℕ) × (k : ℕ) × (d : ℕ) × Carries g t F q i k d × Φ i k d)
  unfolding contexts_of
  carried_any? q Φ test = map_dec (λ h. from h.0 h.1 h.2) (λ h. (coded h.0 h.1 h.2, context_every g t F F? first-codes F-in q h.0 h.1 h.2 h.3, h.4)) (any? Q test' (contexts_of q))
    where
      Q : Coded → Type 0
      Q (coded i k d) = Φ i k d

      test' : (x : Coded) → Dec (Q x)
      test' (coded i k d) = test i k d

      from : (x : Coded) → In x (contexts_of q) → Q x → (i : ℕ) × (k : ℕ) × (d : ℕ) × Carries g t F q i k d × Φ i k d
      from (coded i k d) m p = (i, k, d, context_only g t F F? first-codes F-in q i k d m, p)

  pub first_all? : (β : List ℕ) (d : ℕ) (Q : ℕ → Type 0) → ((c : ℕ) → Dec (Q c)) → Dec ((c : ℕ) → F β d c → Q c)
  first_all? β d Q test = map_dec (λ h c f. h c (place c (F-in β d c f)) f) (λ h c m f. h c f) (all? (λ (c : ℕ). F β d c → Q c) (λ c. implies? (F? β d c) (test c)) (d ∷ first-codes))
    where
      place : (c : ℕ) → (c ≡ d) ⊎ In c first-codes → In c (d ∷ first-codes)
      place c (inl e) = subst (λ (z : ℕ). In c (z ∷ first-codes)) e here
      place c (inr m) = there m

  -- the codes of the line (q, i, k), if there is one, hold d
  abbrev Wide : ℕ → ℕ → ℕ → ℕ → Type 0
  Wide q i k d = (p j n : ℕ) (σ : List ℕ) → KernelAt g t p j n σ → p ≡ q → j ≡ i → n ≡ k → In d σ

  wide? : (q i k d : ℕ) → Dec (Wide q i k d)
  wide? q i k d = kernels_all? g t (λ p j n σ. p ≡ q → j ≡ i → n ≡ k → In d σ) (λ p j n σ. implies? (ℕ_discrete p q) (implies? (ℕ_discrete j i) (implies? (ℕ_discrete n k) (in? d σ))))

  narrow : (q i k d : ℕ) → ((σ : List ℕ) → KernelAt g t q i k σ → In d σ) → Wide q i k d
  narrow q i k d h p j n σ m a b c = h σ (subst (λ (z : KernelLine). In z t.kernels) (ap₂ (λ (x y : ℕ). K x y n σ) a b ∙ ap (λ (z : ℕ). K q i z σ) c) m)

  -- 8 at q
  abbrev OfMove : ℕ → Type 0
  OfMove q = (p X : ℕ) (x : Action) → ActionAt g t p X x → next_state x ≡ some q → (i k d : ℕ) → Carries g t F p i k d → (Y : ℕ) (β : List ℕ) → Goes g t i k Y β → Y ≡ X → Wide q i (suc k) d

  of_move? : (q : ℕ) → Dec (OfMove q)
  of_move? q = actions_all? g t _ (λ p X x. implies? (some? (next_state x) q) (carried_all? p _ (λ i k d. goes_all? g t i k _ (λ Y β. implies? (ℕ_discrete Y X) (wide? q i (suc k) d)))))

  abbrev OfGroup : ℕ → Type 0
  OfGroup q = (p a b : ℕ) (τ : List ℕ) → KernelAt g t p a b τ → (i k d : ℕ) → Carries g t F p i k d → (r : Rule) → rule_at g i ≡ some r → k ≡ length r.before
      → (δs : List (List ℕ)) (γ : List ℕ) (εs : List (List ℕ)) → r.groups ≡ δs ++ γ ∷ εs → (c : ℕ) → F (concat εs) d c → (j s : ℕ) (δ : List ℕ) → EntryAt g t j s δ → (s ≡ q) → δ ≡ γ → Wide q (entry_item g t j) zero c

  of_group? : (q : ℕ) → Dec (OfGroup q)
  of_group? q = kernels_all? g t _ (λ p a b τ. carried_all? p _ (λ i k d. rule_all? (rule_at g i) _ (λ r. implies? (ℕ_discrete k (length r.before))
      (splits_all? r.groups _ (λ γ εs. first_all? (concat εs) d _ (λ c. entries_all? g t _ (λ j s δ. implies? (ℕ_discrete s q) (implies? (list? δ γ) (wide? q (entry_item g t j) zero c)))))))))

  abbrev OfGoal : ℕ → Type 0
  OfGoal q = (j s : ℕ) (γ : List ℕ) → EntryAt g t j s γ → j ≡ 1 → s ≡ q → Wide q (entry_item g t 1) zero 0

  of_goal? : (q : ℕ) → Dec (OfGoal q)
  of_goal? q = entries_all? g t _ (λ j s γ. implies? (ℕ_discrete j 1) (implies? (ℕ_discrete s q) (wide? q (entry_item g t 1) zero 0)))

  a_line : {q i k d : ℕ} → Carries g t F q i k d → (j : ℕ) × (n : ℕ) × (σ : List ℕ) × KernelAt g t q j n σ
  a_line {i = i} {k = k} (in_kernel {σ = σ} h m) = (i, k, σ, h)
  a_line (in_closure j h go e l f) = a_line h

  pub lookaheads? : (q : ℕ) → Dec (LookaheadsMeet g t F q)
  lookaheads? q = map_dec from to (both? (of_move? q) (both? (of_group? q) (of_goal? q)))
    where
      from : OfMove q × (OfGroup q × OfGoal q) → LookaheadsMeet g t F q
      from h = record {
        of_move = λ p X i k d β σ x a n c go l. h.0 p X x a n i k d c X β go refl q i (suc k) σ l refl refl refl;
        of_group = λ j p i d c γ σ r δs εs e re ge car f l. let z = a_line car in h.1.0 p z.0 z.1 z.2 z.3 i (length r.before) d car r re refl δs γ εs ge c f j q γ e refl refl q (entry_item g t j) zero σ l refl refl refl;
        of_goal = λ γ σ e l. h.1.1 1 q γ e refl refl q (entry_item g t 1) zero σ l refl refl refl;
      }

      to : LookaheadsMeet g t F q → OfMove q × (OfGroup q × OfGoal q)
      to C = (
        (λ p X x a n i k d c Y β go e. narrow q i (suc k) d (λ σ l. C.of_move p X i k d β σ x a n c (subst (λ (Z : ℕ). Goes g t i k Z β) e go) l)),
        (
          (λ p a b τ m i k d car r re ke δs γ εs ge c f j s δ e se de. narrow q (entry_item g t j) zero c
              (λ σ l. C.of_group j p i d c γ σ r δs εs (subst (λ (z : ℕ). EntryAt g t j z γ) se (subst (λ (z : List ℕ). EntryAt g t j s z) de e)) re ge (subst (λ (z : ℕ). Carries g t F p i z d) ke car) f l)),
          (λ j s γ e je se. narrow q (entry_item g t 1) zero 0 (λ σ l. C.of_goal γ σ (subst (λ (z : ℕ). EntryAt g t 1 z γ) se (subst (λ (z : ℕ). EntryAt g t z s γ) je e)) l)),
        ),
      )
