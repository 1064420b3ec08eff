-- The entry list is decided; quantifiers over rules and groups.
use Prim.Native.Nat.{ℕ, suc}
use mathlib.Core.Logic.{◌⊎◌, inl, inr}
use mathlib.Core.Path.{◌≡◌, refl, sym, ap, subst}
use mathlib.Core.List.{List, [], ◌∷◌, ◌++◌}
use mathlib.Core.Option.{Option, some, none}
use lib.ListN.{length}
use Rattle.language.specs.Grammar.{Grammar, Rule, rule_at}
use Rattle.language.specs.Sentence.{In}
use Rattle.leftcorner.specs.Table.{EntryLine, E, Table, entry_at}
use Rattle.leftcorner.specs.Construction.{Wanted, of_goal, of_group, EntryAt, EntriesMeet}
use Rattle.check_verdict.proofs.Tests.{map_dec, both?, either?, any?, all?, list?}
use Rattle.check_verdict.proofs.Closure.{upto, in_upto, rule_less}
use Rattle.check_verdict.proofs.ItemsDecided.{entries_all?, entries_any?, clash}

pub in_list? : (γ : List ℕ) (l : List (List ℕ)) → Dec (In γ l)
in_list? γ l = map_dec (λ h. subst (λ (x : List ℕ). In x l) h.2 h.1) (λ m. (γ, m, refl)) (any? (λ (x : List ℕ). x ≡ γ) (λ x. list? x γ) l)

pub rule_all? : (o : Option Rule) (Q : Rule → Type 0) → ((r : Rule) → Dec (Q r)) → Dec ((r : Rule) → o ≡ some r → Q r)
rule_all? none Q test = yes (λ r e. let z : ◌≡◌ {A = ℕ} 0 1 = cc in clash z)
rule_all? (some u) Q test = map_dec (λ q r e. subst Q (let z : u ≡ r = cc in z) q) (λ h. h u refl) (test u)

pub rule_any? : (o : Option Rule) (Q : Rule → Type 0) → ((r : Rule) → Dec (Q r)) → Dec ((r : Rule) × (o ≡ some r) × Q r)
rule_any? none Q test = no (λ h. let e = h.1 in let z : ◌≡◌ {A = ℕ} 0 1 = cc in clash z)
rule_any? (some u) Q test = map_dec (λ q. (u, refl, q)) (λ h. subst Q (let e = h.1 in let z : h.0 ≡ u = cc in z) h.2) (test u)

pub splits_all? : (l : List (List ℕ)) (Φ : List ℕ → List (List ℕ) → Type 0) → ((γ : List ℕ) (εs : List (List ℕ)) → Dec (Φ γ εs))
    → Dec ((δs : List (List ℕ)) (γ : List ℕ) (εs : List (List ℕ)) → l ≡ δs ++ γ ∷ εs → Φ γ εs)
splits_all? [] Φ test = yes none_of
  where
    none_of : (δs : List (List ℕ)) (γ : List ℕ) (εs : List (List ℕ)) → [] ≡ δs ++ γ ∷ εs → Φ γ εs
    none_of [] γ εs e = let z : ◌≡◌ {A = ℕ} 0 1 = cc in clash z
    none_of (δ ∷ δs) γ εs e = let z : ◌≡◌ {A = ℕ} 0 1 = cc in clash z
splits_all? (x ∷ l) Φ test = go (test x l) (splits_all? l Φ test)
  where
    on : Φ x l → ((δs : List (List ℕ)) (γ : List ℕ) (εs : List (List ℕ)) → l ≡ δs ++ γ ∷ εs → Φ γ εs) → (δs : List (List ℕ)) (γ : List ℕ) (εs : List (List ℕ)) → x ∷ l ≡ δs ++ γ ∷ εs → Φ γ εs
    on p h [] γ εs e =
        let a : x ≡ γ = cc in
        let b : l ≡ εs = cc in
        subst (λ (z : List ℕ). Φ z εs) a (subst (λ (z : List (List ℕ)). Φ x z) b p)
    on p h (δ ∷ δs) γ εs e = let b : l ≡ δs ++ γ ∷ εs = cc in h δs γ εs b

    go : Dec (Φ x l) → Dec ((δs : List (List ℕ)) (γ : List ℕ) (εs : List (List ℕ)) → l ≡ δs ++ γ ∷ εs → Φ γ εs)
        → Dec ((δs : List (List ℕ)) (γ : List ℕ) (εs : List (List ℕ)) → x ∷ l ≡ δs ++ γ ∷ εs → Φ γ εs)
    go (yes p) (yes h) = yes (on p h)
    go (yes p) (no f) = no (λ h. f (λ δs γ εs e. h (x ∷ δs) γ εs (ap (λ (z : List (List ℕ)). x ∷ z) e)))
    go (no f) d = no (λ h. f (h [] x l refl))

module _ (g : Grammar) (t : Table) where
  -- 7 at 0
  abbrev rule_numbers : List ℕ
  rule_numbers = upto (suc (length g.rules))

  in_rules : (i : ℕ) (r : Rule) → rule_at g i ≡ some r → In i rule_numbers
  in_rules i r e = in_upto (suc (length g.rules)) i (rule_less g t i r e)

  wanted? : (γ : List ℕ) → Dec (Wanted g γ)
  wanted? γ = map_dec from to (either? (list? γ (g.goal ∷ [])) (any? Q (λ i. rule_any? (rule_at g i) (λ r. In γ r.groups) (λ r. in_list? γ r.groups)) rule_numbers))
    where
      Q : ℕ → Type 0
      Q i = (r : Rule) × (rule_at g i ≡ some r) × In γ r.groups

      from : (γ ≡ g.goal ∷ []) ⊎ ((i : ℕ) × In i rule_numbers × Q i) → Wanted g γ
      from (inl e) = of_goal e
      from (inr h) = of_group h.0 h.2.1 h.2.2

      to : Wanted g γ → (γ ≡ g.goal ∷ []) ⊎ ((i : ℕ) × In i rule_numbers × Q i)
      to (of_goal e) = inl e
      to (of_group i {r = r} e m) = inr (i, in_rules i r e, (r, e, m))

  abbrev Listed : List ℕ → Type 0
  Listed γ = (j : ℕ) × (s : ℕ) × EntryAt g t j s γ

  listed? : (γ : List ℕ) → Dec (Listed γ)
  listed? γ = map_dec (λ h. (h.0, h.1, subst (λ (δ : List ℕ). EntryAt g t h.0 h.1 δ) h.4 h.3)) (λ h. (h.0, h.1, γ, h.2, refl))
      (entries_any? g t (λ j s δ. δ ≡ γ) (λ j s δ. list? δ γ))

  all_listed? : Dec ((γ : List ℕ) → Wanted g γ → Listed γ)
  all_listed? = map_dec from to (both? (listed? (g.goal ∷ [])) (all? Q (λ i. rule_all? (rule_at g i) (λ r. (γ : List ℕ) → In γ r.groups → Listed γ) (λ r. all? Listed listed? r.groups)) rule_numbers))
    where
      Q : ℕ → Type 0
      Q i = (r : Rule) → rule_at g i ≡ some r → (γ : List ℕ) → In γ r.groups → Listed γ

      from : Listed (g.goal ∷ []) × ((i : ℕ) → In i rule_numbers → Q i) → (γ : List ℕ) → Wanted g γ → Listed γ
      from h γ (of_goal e) = subst Listed (sym e) h.0
      from h γ (of_group i {r = r} e m) = h.1 i (in_rules i r e) r e γ m

      to : ((γ : List ℕ) → Wanted g γ → Listed γ) → Listed (g.goal ∷ []) × ((i : ℕ) → In i rule_numbers → Q i)
      to h = (h (g.goal ∷ []) (of_goal refl), λ i _ r e γ m. h γ (of_group i e m))

  goal_first? : Dec ((s : ℕ) × EntryAt g t 1 s (g.goal ∷ []))
  goal_first? = go (entry_at t 1)
    where
      go : (o : Option EntryLine) → Dec ((s : ℕ) × (o ≡ some (E s (g.goal ∷ []))))
      go none = no (λ h. let e = h.1 in let z : ◌≡◌ {A = ℕ} 0 1 = cc in clash z)
      go (some (E s γ)) = map_dec (λ e. (s, ap (λ (δ : List ℕ). some (E s δ)) e)) (λ h. let e = h.1 in let z : γ ≡ g.goal ∷ [] = cc in z) (list? γ (g.goal ∷ []))

  pub entries? : Dec (EntriesMeet g t)
  entries? = map_dec (λ h. record { goal_first = h.0; only_wanted = h.1.0; all_wanted = h.1.1 }) (λ r. (r.goal_first, (r.only_wanted, r.all_wanted)))
      (both? goal_first? (both? (entries_all? g t (λ j s γ. Wanted g γ) (λ j s γ. wanted? γ)) all_listed?))
