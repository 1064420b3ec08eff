-- The loop over a right side: k subtrees are written, and the rule where its mark is passed.
use Prim.Native.Nat.{ℕ, suc, ◌≤◌, ◌<◌}
use mathlib.Core.Path.{◌≡◌, refl, sym, ap, subst, ◌∙◌}
use mathlib.Core.List.{List, [], ◌∷◌, ◌++◌, append-nil}
use mathlib.Core.Option.{Option, some}
use native.Mathlib.Omega.{arith}
use lib.ListN.{length, take, drop, get_or, length-append, take-append-drop}
use lib.Seq.{take-suc, take_all, length-take-le}
use borrow.Author.Tests.{lt-ltb}
use Rattle.language.specs.Grammar.{Grammar, Rule, rule_at, concat}
use Rattle.language.specs.Derivation.{Forest, node, yield, yields}
use Rattle.language.proofs.Forests.{yields-⧺}
use Rattle.language.specs.Listing.{listing, listings, around}
use Rattle.language.proofs.Announced.{listings-⧺}
use Rattle.language.proofs.Lists.{concat-++}
use Rattle.generate_steps.specs.declared.Point.{Point}
use Rattle.generate_steps.specs.declared.Step.{Step}
use Rattle.generate_loads.specs.Load.{Grown, grow_all}
use Rattle.generate_steps.specs.Put.{PutsRule, at_mark}
use Rattle.generator.specs.Written.{Writes, Inside}
use Rattle.generator.proofs.PutLaws.{fitted, writes_none, writes_then, still_long, rule_writes, same_length}
use Rattle.generator.proofs.ForestLaws.{forest-++, state_++, progress, progress_none, progress_mark, progress_more, progress_short, around-length}

module _ (g : Grammar) where
  grown_length : (f : ℕ → ℕ → Grown) (α : List ℕ) (s : ℕ) → length (listings g (grow_all f α s).forest) ≡ length α
  grown_length f [] s = refl
  grown_length f (X ∷ α) s = ap suc (grown_length f α (f X s).state)

  -- the listing of the grown right side, cut behind α and its next symbol
  module _ (f : ℕ → ℕ → Grown) (s : ℕ) where
    listed_snoc : (α : List ℕ) (y : ℕ) → listings g (grow_all f (α ++ y ∷ []) s).forest ≡ listings g (grow_all f α s).forest ++ listing g (f y (grow_all f α s).state).tree ∷ []
    listed_snoc α y = ap (listings g) (forest-++ f α (y ∷ []) s) ∙ listings-⧺ g (grow_all f α s).forest (grow_all f (y ∷ []) (grow_all f α s).state).forest

    yields_snoc : (α : List ℕ) (y : ℕ) → yields (grow_all f (α ++ y ∷ []) s).forest ≡ yields (grow_all f α s).forest ++ yield (f y (grow_all f α s).state).tree
    yields_snoc α y =
        ap yields (forest-++ f α (y ∷ []) s) ∙ yields-⧺ (grow_all f α s).forest (grow_all f (y ∷ []) (grow_all f α s).state).forest
        ∙ ap (λ (l : List ℕ). yields (grow_all f α s).forest ++ l) (append-nil (yield (f y (grow_all f α s).state).tree))

    -- more symbols yield and list no less
    yields_less : (α β : List ℕ) → length (yields (grow_all f α s).forest) ≤ length (yields (grow_all f (α ++ β) s).forest)
    yields_less α β =
        let F = (grow_all f α s).forest in
        let G = (grow_all f β (grow_all f α s).state).forest in
        omega (arith, ap (λ (H : Forest). length (yields H)) (forest-++ f α β s), ap length (yields-⧺ F G), length-append (yields F) (yields G))

    listed_less : (α β : List ℕ) → length (concat (listings g (grow_all f α s).forest)) ≤ length (concat (listings g (grow_all f (α ++ β) s).forest))
    listed_less α β =
        let F = (grow_all f α s).forest in
        let G = (grow_all f β (grow_all f α s).state).forest in
        omega (
          arith,
          ap (λ (H : Forest). length (concat (listings g H))) (forest-++ f α β s),
          ap (λ (l : List (List ℕ)). length (concat l)) (listings-⧺ g F G),
          ap length (concat-++ (listings g F) (listings g G)),
          length-append (concat (listings g F)) (concat (listings g G)),
        )

  -- what does not fit of the first α does not fit with the rest of the node either
  node_long : (f : ℕ → ℕ → Grown) (i mark j : ℕ) {r : Rule} (α β : List ℕ) {s : ℕ} (s' : ℕ) (p : Point) {t₀ l₀ t l : List ℕ} → rule_at g i ≡ some r
      → Writes (yields (grow_all f α p.state).forest) (progress i mark j (listings g (grow_all f α p.state).forest)) s p t₀ l₀ t l Step.Full
      → Writes (yields (grow_all f (α ++ β) p.state).forest) (listing g (node i (grow_all f (α ++ β) p.state).forest)) s' p t₀ l₀ t l Step.Full
  node_long f i mark j {r = r} α β s' p is w =
      let F = (grow_all f α p.state).forest in
      let G = (grow_all f (α ++ β) p.state).forest in
      still_long s' w (yields_less f p.state α β)
      (omega (
        arith,
        listed_less f p.state α β,
        progress_short i mark j (listings g F),
        around-length r i (listings g G),
        ap (λ (o : Option Rule). length (around o i (listings g G))) is,
      ))

  -- ---- the loop's invariant: of rule i with right side ρ and this mark, k subtrees are written, the rule itself where the mark is below j
  pub record Sofar (f : ℕ → ℕ → Grown) (ρ : List ℕ) (i mark j k : ℕ) (p : Point) (t₀ l₀ t l : List ℕ) (q : Point) : Type 0 where
    pub wrote : Writes (yields (grow_all f (take k ρ) p.state).forest) (progress i mark j (listings g (grow_all f (take k ρ) p.state).forest))
        (grow_all f (take k ρ) p.state).state p t₀ l₀ t l (Step.Fits q)

  module _ {f : ℕ → ℕ → Grown} {ρ : List ℕ} {i mark : ℕ} {p : Point} {t₀ l₀ : List ℕ} where
    pub sofar_none : Inside p t₀ l₀ → Sofar f ρ i mark 0 0 p t₀ l₀ t₀ l₀ p
    sofar_none h = record {
      wrote = subst (λ (b : List ℕ). Writes [] b p.state p t₀ l₀ t₀ l₀ (Step.Fits p)) (sym (progress_none i mark)) (writes_none p t₀ l₀ h);
    }

    -- with the rule where k is its mark
    marks : {k : ℕ} {t l l' : List ℕ} {q : Point} (r : Step) → k ≤ length ρ → Sofar f ρ i mark k k p t₀ l₀ t l q → PutsRule (at_mark i k mark) q l l' r
        → Writes (yields (grow_all f (take k ρ) p.state).forest) (progress i mark (suc k) (listings g (grow_all f (take k ρ) p.state).forest))
        (grow_all f (take k ρ) p.state).state p t₀ l₀ t l' r
    marks {k} {t} {l} {l'} {q} r h w x =
        let F = (grow_all f (take k ρ) p.state).forest in
        let v = fitted w.wrote in
        let done : length (listings g F) ≡ k = grown_length f (take k ρ) p.state ∙ length-take-le k ρ h in
        let one : Writes [] (at_mark i k mark) q.state q t l t l' r = rule_writes t r x (omega (arith, v.0.room, same_length v.0)) in
        let both : Writes (yields F ++ []) (progress i mark k (listings g F) ++ at_mark i k mark) q.state p t₀ l₀ t l' r = writes_then w.wrote one in
        rw (← append-nil (yields F), ← progress_mark i mark k (listings g F) done, ← v.2) both

    -- a subtree more
    grows : {k : ℕ} {t l t' l' : List ℕ} {q : Point} {r : Step} (y : ℕ) → k < length ρ → y ≡ get_or ρ k 0 → Sofar f ρ i mark (suc k) k p t₀ l₀ t l q
        → Writes (yield (f y q.state).tree) (listing g (f y q.state).tree) (f y q.state).state q t l t' l' r
        → Writes (yields (grow_all f (take (suc k) ρ) p.state).forest) (progress i mark (suc k) (listings g (grow_all f (take (suc k) ρ) p.state).forest))
        (grow_all f (take (suc k) ρ) p.state).state p t₀ l₀ t' l' r
    grows {k} {t} {l} {t'} {l'} {q} {r} y h e w x =
        let α = take k ρ in
        let F = (grow_all f α p.state).forest in
        let S = (grow_all f α p.state).state in
        let v = fitted w.wrote in
        let next : take (suc k) ρ ≡ α ++ y ∷ [] = take-suc ρ k 0 h ∙ ap (λ (z : ℕ). α ++ z ∷ []) (sym e) in
        let done : length (listings g F) ≡ k = grown_length f α p.state ∙ length-take-le k ρ (omega arith) in
        let x' : Writes (yield (f y S).tree) (listing g (f y S).tree) (f y S).state q t l t' l' r = rw (← v.2) x in
        let both : Writes (yields F ++ yield (f y S).tree) (progress i mark (suc k) (listings g F) ++ listing g (f y S).tree) (f y S).state p t₀ l₀ t' l' r
        = writes_then w.wrote x' in
        let listed : progress i mark (suc k) (listings g (grow_all f (α ++ y ∷ []) p.state).forest) ≡ progress i mark (suc k) (listings g F) ++ listing g (f y S).tree
        = ap (progress i mark (suc k)) (listed_snoc f p.state α y) ∙ progress_more i mark (suc k) (listings g F) (listing g (f y S).tree) (omega arith) in
        rw (next, listed, yields_snoc f p.state α y, state_++ f α (y ∷ []) p.state) both

    pub sofar_grown : {k j : ℕ} {t l t' l' : List ℕ} {q n : Point} (y : ℕ) → k < length ρ → y ≡ get_or ρ k 0 → j ≡ suc k → Sofar f ρ i mark (suc k) k p t₀ l₀ t l q
        → Writes (yield (f y q.state).tree) (listing g (f y q.state).tree) (f y q.state).state q t l t' l' (Step.Fits n)
        → Sofar f ρ i mark j j p t₀ l₀ t' l' n
    sofar_grown y h e u w x = rw u (record { wrote = grows y h e w x })

    module _ {r : Rule} (is : rule_at g i ≡ some r) where
      pub full_mark : {k : ℕ} {t l l' : List ℕ} {q : Point} (s' : ℕ) → k ≤ length ρ → Sofar f ρ i mark k k p t₀ l₀ t l q → PutsRule (at_mark i k mark) q l l' Step.Full
          → Writes (yields (grow_all f ρ p.state).forest) (listing g (node i (grow_all f ρ p.state).forest)) s' p t₀ l₀ t l' Step.Full
      full_mark {k} {t} {l} {l'} s' h w x =
          rw (take-append-drop k ρ) at (node_long f i mark (suc k) (take k ρ) (drop k ρ) s' p {t₀ = t₀} {l₀ = l₀} {t = t} {l = l'} is (marks Step.Full h w x))

      pub full_child : {k : ℕ} {t l t' l' : List ℕ} {q : Point} (s' y : ℕ) → k < length ρ → y ≡ get_or ρ k 0 → Sofar f ρ i mark (suc k) k p t₀ l₀ t l q
          → Writes (yield (f y q.state).tree) (listing g (f y q.state).tree) (f y q.state).state q t l t' l' Step.Full
          → Writes (yields (grow_all f ρ p.state).forest) (listing g (node i (grow_all f ρ p.state).forest)) s' p t₀ l₀ t' l' Step.Full
      full_child {k} {t' = t'} {l' = l'} s' y h e w x =
          rw (take-append-drop (suc k) ρ) at
          (node_long f i mark (suc k) (take (suc k) ρ) (drop (suc k) ρ) s' p {t₀ = t₀} {l₀ = l₀} {t = t'} {l = l'} is (grows y h e w x))

      -- the whole right side, and the rule if its mark is at the end
      ends : {n : ℕ} {t l l' : List ℕ} {q : Point} (z : Step) → n ≡ length ρ → mark ≡ length r.before → mark ≤ n → Sofar f ρ i mark n n p t₀ l₀ t l q
          → PutsRule (at_mark i n mark) q l l' z
          → Writes (yields (grow_all f ρ p.state).forest) (listing g (node i (grow_all f ρ p.state).forest)) (grow_all f ρ p.state).state p t₀ l₀ t l' z
      ends {n} {t} {l} {l'} z e h le w x =
          let whole : take n ρ ≡ ρ = take_all n ρ (omega arith) in
          let G = (grow_all f ρ p.state).forest in
          let listed : listing g (node i G) ≡ progress i mark (suc n) (listings g G)
          = ap (λ (o : Option Rule). around o i (listings g G)) is
          ∙ (ap (λ (c : ℕ). concat (take c (listings g G)) ++ i ∷ concat (drop c (listings g G))) (sym h) ∙ sym (simp (lt-ltb mark (suc n) (omega arith)))) in
          let m : Writes (yields (grow_all f (take n ρ) p.state).forest) (progress i mark (suc n) (listings g (grow_all f (take n ρ) p.state).forest))
          (grow_all f (take n ρ) p.state).state p t₀ l₀ t l' z = marks z (omega arith) w x in
          rw listed (rw whole at m)

      pub sofar_end : {k : ℕ} (n : ℕ) {t l l' : List ℕ} {q : Point} (z : Step) → k ≤ n → n ≤ k → n ≡ length ρ → mark ≡ length r.before → mark ≤ n
          → Sofar f ρ i mark k k p t₀ l₀ t l q → PutsRule (at_mark i n mark) q l l' z
          → Writes (yields (grow_all f ρ p.state).forest) (listing g (node i (grow_all f ρ p.state).forest)) (grow_all f ρ p.state).state p t₀ l₀ t l' z
      sofar_end {k} n {t = t} {l = l} {q = q} z a b e h le w x =
          let same : k ≡ n = omega arith in
          ends z e h le (subst (λ (c : ℕ). Sofar f ρ i mark c c p t₀ l₀ t l q) same w) x

    pub sofar_marked : {k : ℕ} {t l l' : List ℕ} {q n : Point} → k ≤ length ρ → Sofar f ρ i mark k k p t₀ l₀ t l q → PutsRule (at_mark i k mark) q l l' (Step.Fits n)
        → Sofar f ρ i mark (suc k) k p t₀ l₀ t l' n
    sofar_marked h w x = record { wrote = marks (Step.Fits _) h w x }
