-- What is asked of cells, and the cells, are decided.
use Prim.Native.Nat.{ℕ, zero, suc}
use native.Mathlib.Decide.{ℕ_discrete}
use mathlib.Core.Logic.{◌⊎◌}
use mathlib.Core.Path.{◌≡◌, refl, sym, ap, ap₂, ◌∙◌, subst}
use mathlib.Core.List.{List, [], ◌∷◌}
use mathlib.Core.Option.{some}
use lib.ListN.{length}
use Rattle.language.specs.Grammar.{Grammar, Rule, rule_at, concat}
use Rattle.language.specs.Sentence.{In}
use Rattle.leftcorner.specs.Table.{Action, S, N, A, P, ActionLine, L, Table}
use Rattle.leftcorner.specs.Construction.{forget, entry_item, EntryAt, ActionAt, Carries, MovedBy, moved, Asked, to_move, to_announce, to_pop, CellsAgree, CellsMeet}
use Rattle.check_verdict.proofs.Tests.{map_dec, both?, implies?, any?, list?}
use Rattle.check_verdict.proofs.Closure.{Spot, spot, closure_list, closure_every}
use Rattle.check_verdict.proofs.ItemsDecided.{entries_all?, entries_any?, actions_all?, actions_any?, moved_all?, moved?}
use Rattle.check_verdict.proofs.EntriesDecided.{rule_all?, rule_any?}
use Rattle.check_verdict.proofs.LookaheadsDecided.{carried_all?, carried_any?, first_all?}

pub act? : (x y : Action) → Dec (x ≡ y)
act? x y = map_dec (λ h. code_eq x y h) (λ e. ap code e) (list? (code x) (code y))
  where
    code : Action → List ℕ
    code (S s) = 0 ∷ s ∷ []
    code (N s) = 1 ∷ s ∷ []
    code (A s) = 2 ∷ s ∷ []
    code (P s) = 3 ∷ s ∷ []

    back : List ℕ → Action
    back [] = S 0
    back (a ∷ []) = S 0
    back (zero ∷ s ∷ l) = S s
    back (suc zero ∷ s ∷ l) = N s
    back (suc (suc zero) ∷ s ∷ l) = A s
    back (suc (suc (suc n)) ∷ s ∷ l) = P s

    undo : (x : Action) → back (code x) ≡ x
    undo (S s) = refl
    undo (N s) = refl
    undo (A s) = refl
    undo (P s) = refl

    code_eq : (x y : Action) → code x ≡ code y → x ≡ y
    code_eq x y e = sym (undo x) ∙ ap back e ∙ undo y

module _ (g : Grammar) (t : Table) (F : List ℕ → ℕ → ℕ → Type 0) (F? : (β : List ℕ) (d c : ℕ) → Dec (F β d c)) (first-codes : List ℕ)
    (F-in : (β : List ℕ) (d c : ℕ) → F β d c → (c ≡ d) ⊎ In c first-codes) where
  -- what is asked of the cells of q
  asked_all? : (q : ℕ) (Φ : ℕ → Action → Type 0) → ((X : ℕ) (x : Action) → Dec (Φ X x)) → Dec ((X : ℕ) (x : Action) → Asked g t F q X x → Φ X x)
  asked_all? q Φ test = map_dec from to (both? (moved_all? g t q (λ X i n. Φ X (S 0)) (λ X i n. test X (S 0))) (both? tell? pop?))
    where
      Tells : Type 0
      Tells = (i k d : ℕ) → Carries g t F q i k d → (r : Rule) → rule_at g i ≡ some r → k ≡ length r.before → (c : ℕ) → F (concat r.groups) d c → Φ c (A i)

      Pops : Type 0
      Pops = (j s : ℕ) (γ : List ℕ) → EntryAt g t j s γ → (i k d : ℕ) → Carries g t F q i k d → i ≡ entry_item g t j → k ≡ length γ → Φ d (P (suc (length γ)))

      tell? : Dec Tells
      tell? = carried_all? g t F F? first-codes F-in q _ (λ i k d. rule_all? (rule_at g i) _ (λ r. implies? (ℕ_discrete k (length r.before)) (first_all? g t F F? first-codes F-in (concat r.groups) d _ (λ c. test c (A i)))))

      pop? : Dec Pops
      pop? = entries_all? g t _ (λ j s γ. carried_all? g t F F? first-codes F-in q _ (λ i k d. implies? (ℕ_discrete i (entry_item g t j)) (implies? (ℕ_discrete k (length γ)) (test d (P (suc (length γ)))))))

      from : ((X i n : ℕ) → MovedBy g t q X i n → Φ X (S 0)) × (Tells × Pops) → (X : ℕ) (x : Action) → Asked g t F q X x → Φ X x
      from h X x (to_move {i = i} {n = n} m) = h.0 X i n m
      from h X x (to_announce i {d = d} {r = r} e c f) = h.1.0 i (length r.before) d c r e refl X f
      from h X x (to_pop j {s = s} {γ = γ} e c) = h.1.1 j s γ e (entry_item g t j) (length γ) X c refl refl

      to : ((X : ℕ) (x : Action) → Asked g t F q X x → Φ X x) → ((X i n : ℕ) → MovedBy g t q X i n → Φ X (S 0)) × (Tells × Pops)
      to h = (
        (λ X i n m. h X (S 0) (to_move m)),
        (
          (λ i k d c r e ke b f. h b (A i) (to_announce i e (subst (λ (z : ℕ). Carries g t F q i z d) ke c) f)),
          (λ j s γ e i k d c ie ke. h d (P (suc (length γ))) (to_pop j e (subst (λ (z : ℕ). Carries g t F q (entry_item g t j) z d) ke (subst (λ (z : ℕ). Carries g t F q z k d) ie c)))),
        ),
      )

  pub agree? : (q : ℕ) → Dec (CellsAgree g t F q)
  agree? q = map_dec (λ h. record { one = λ X x y a b. h X x a X y b refl }) (λ r X x a Y y b e. r.one X x y a (subst (λ (Z : ℕ). Asked g t F q Z y) e b))
      (asked_all? q (λ X x. (Y : ℕ) (y : Action) → Asked g t F q Y y → Y ≡ X → x ≡ y) (λ X x. asked_all? q (λ Y y. Y ≡ X → x ≡ y) (λ Y y. implies? (ℕ_discrete Y X) (act? x y))))

  spots_any? : (q X : ℕ) → Dec ((i : ℕ) × (n : ℕ) × MovedBy g t q X i n)
  spots_any? q X = map_dec (λ h. from h.0 h.2) (λ h. to h.2) (any? Q test' (closure_list g t q))
    where
      Q : Spot → Type 0
      Q (spot i k) = MovedBy g t q X i (suc k)

      test' : (x : Spot) → Dec (Q x)
      test' (spot i k) = moved? g t q X i (suc k)

      from : (x : Spot) → Q x → (i : ℕ) × (n : ℕ) × MovedBy g t q X i n
      from (spot i k) m = (i, suc k, m)

      to : {i n : ℕ} → MovedBy g t q X i n → (x : Spot) × In x (closure_list g t q) × Q x
      to {i = i} (moved {k = k} h go) = (spot i k, closure_every g t q i k h, moved h go)

  pub asked? : (q X : ℕ) (x : Action) → Dec (Asked g t F q X x)
  asked? q X (S zero) = map_dec (λ h. to_move h.2) out (spots_any? q X)
    where
      out : Asked g t F q X (S zero) → (i : ℕ) × (n : ℕ) × MovedBy g t q X i n
      out (to_move {i = i} {n = n} m) = (i, n, m)
  asked? q X (S (suc s)) = no (λ a. elim a [ ])
  asked? q X (N s) = no (λ a. elim a [ ])
  asked? q X (A i) = map_dec from to (carried_any? g t F F? first-codes F-in q (λ j k d. (j ≡ i) × Q k d) (λ j k d. both? (ℕ_discrete j i) (rule_any? (rule_at g i) _ (λ r. both? (ℕ_discrete k (length r.before)) (F? (concat r.groups) d X)))))
    where
      Q : ℕ → ℕ → Type 0
      Q k d = (r : Rule) × (rule_at g i ≡ some r) × ((k ≡ length r.before) × F (concat r.groups) d X)

      from : (j : ℕ) × (k : ℕ) × (d : ℕ) × Carries g t F q j k d × ((j ≡ i) × Q k d) → Asked g t F q X (A i)
      from h = to_announce i h.4.1.1 (subst (λ (z : ℕ). Carries g t F q i z h.2) h.4.1.2.0 (subst (λ (z : ℕ). Carries g t F q z h.1 h.2) h.4.0 h.3)) h.4.1.2.1

      to : Asked g t F q X (A i) → (j : ℕ) × (k : ℕ) × (d : ℕ) × Carries g t F q j k d × ((j ≡ i) × Q k d)
      to (to_announce i {d = d} {r = r} e c f) = (i, length r.before, d, c, (refl, (r, e, (refl, f))))
  asked? q X (P n) = map_dec from to (entries_any? g t (λ j s γ. (n ≡ suc (length γ)) × Q j γ) (λ j s γ. both? (ℕ_discrete n (suc (length γ))) (carried_any? g t F F? first-codes F-in q _ (λ i k d. both? (ℕ_discrete i (entry_item g t j)) (both? (ℕ_discrete k (length γ)) (ℕ_discrete d X))))))
    where
      Q : ℕ → List ℕ → Type 0
      Q j γ = (i : ℕ) × (k : ℕ) × (d : ℕ) × Carries g t F q i k d × ((i ≡ entry_item g t j) × ((k ≡ length γ) × (d ≡ X)))

      from : (j : ℕ) × (s : ℕ) × (γ : List ℕ) × EntryAt g t j s γ × ((n ≡ suc (length γ)) × Q j γ) → Asked g t F q X (P n)
      from h =
          let c = h.4.1 in
          subst (λ (z : ℕ). Asked g t F q X (P z)) (sym h.4.0)
          (to_pop h.0 h.3 (subst (λ (z : ℕ). Carries g t F q (entry_item g t h.0) (length h.2) z) c.4.1.1 (subst (λ (z : ℕ). Carries g t F q (entry_item g t h.0) z c.2) c.4.1.0 (subst (λ (z : ℕ). Carries g t F q z c.1 c.2) c.4.0 c.3))))

      to : {m : ℕ} → Asked g t F q X (P m) → (j : ℕ) × (s : ℕ) × (γ : List ℕ) × EntryAt g t j s γ × ((m ≡ suc (length γ)) × Q j γ)
      to (to_pop j {s = s} {γ = γ} e c) = (j, s, γ, e, (refl, (entry_item g t j, length γ, X, c, (refl, (refl, refl)))))

  abbrev Filled : ℕ → ℕ → Action → Type 0
  Filled q X x = (y : Action) × ActionAt g t q X y × (forget y ≡ x)

  filled? : (q X : ℕ) (x : Action) → Dec (Filled q X x)
  filled? q X x = map_dec (λ h. (h.2, subst (λ (z : ActionLine). In z t.actions) (ap₂ (λ (a b : ℕ). L a b h.2) h.4.0 h.4.1.0) h.3, h.4.1.1)) (λ h. (q, X, h.0, h.1, (refl, (refl, h.2))))
      (actions_any? g t (λ p Y y. (p ≡ q) × ((Y ≡ X) × (forget y ≡ x))) (λ p Y y. both? (ℕ_discrete p q) (both? (ℕ_discrete Y X) (act? (forget y) x))))

  pub cells? : (q : ℕ) → Dec (CellsMeet g t F q)
  cells? q = map_dec (λ h. record { filled = h.0; asked = λ X y a. h.1 q X y a refl }) (λ r. (r.filled, λ p X y a e. r.asked X y (subst (λ (z : ℕ). ActionAt g t z X y) e a)))
      (both? (asked_all? q (Filled q) (filled? q)) (actions_all? g t (λ p X y. p ≡ q → Asked g t F q X (forget y)) (λ p X y. implies? (ℕ_discrete p q) (asked? q X (forget y)))))
