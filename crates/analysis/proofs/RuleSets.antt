-- Nullable symbols, and what begins with a code, by rules (specs/ByRules.antt), are what trees say.
use Prim.Native.Nat.{ℕ, zero, suc, ◌<◌, zero-le, suc-le-suc}
use mathlib.Core.Path.{◌≡◌, refl, sym, ap, subst, ◌∙◌}
use mathlib.Core.Logic.{◌⊎◌, inl, inr}
use mathlib.Core.List.{List, [], ◌∷◌}
use mathlib.Core.Option.{Option, some, none}
use native.Mathlib.Nat.{not-suc-le-zero, le_of_suc-le-suc}
use lib.ListN.{length, get_or}
use Rattle.language.specs.Grammar.{Grammar, Rule, right, rule_at, IsTerminal}
use Rattle.language.specs.Derivation.{leaf, node}
use Rattle.language.specs.Sentence.{In, here, there, Productive}
use Rattle.language.specs.First.{First}
use Rattle.language.specs.Nullable.{Nullable, Begins, RightProductive, AllIn, Starts}
use Rattle.language.proofs.FirstLaws.{nullable_in, begins_in, empty_forest, starts_forest, first_starts, starts_first}
use Rattle.fixpoint.specs.Least.{Least, seed, by, least_every}
use Rattle.grammar_reduction.specs.Derives.{left_of, derive, derive_every}
use Rattle.grammar_reduction.specs.Reaches.{occurs, rule_of, symbol_of}
use Rattle.analysis.specs.ByRules.{Below, right_of, starting, NullableByRules, Itself, BeginsByRules, FirstByRules}

-- ---- strings by place
pub record Place (N F : ℕ → Type 0) (α : List ℕ) : Type 0 where
  pub place : ℕ
  pub within : place < length α
  pub run : Below N α place
  pub begins : F (get_or α place 0)

pub starts_place : {N F : ℕ → Type 0} (α : List ℕ) → Starts N F α → Place N F α
starts_place [] h = absurd h
starts_place (X ∷ α) (inl f) = record { place = 0; within = suc-le-suc zero-le; run = λ j l. absurd (not-suc-le-zero l); begins = f }
starts_place {N = N} (X ∷ α) (inr h) =
    let p = starts_place α h.1 in
    record { place = suc p.place; within = suc-le-suc p.within; run = run p; begins = p.begins }
  where
    run : {F : ℕ → Type 0} (p : Place N F α) (j : ℕ) → j < suc p.place → N (get_or (X ∷ α) j 0)
    run p zero l = h.0
    run p (suc j) l = p.run j (le_of_suc-le-suc l)

pub place_starts : (N F : ℕ → Type 0) (α : List ℕ) (k : ℕ) → k < length α → Below N α k → F (get_or α k 0) → Starts N F α
place_starts N F [] k l run f = absurd (not-suc-le-zero l)
place_starts N F (X ∷ α) zero l run f = inl f
place_starts N F (X ∷ α) (suc k) l run f = inr (run 0 (suc-le-suc zero-le), place_starts N F α k (le_of_suc-le-suc l) (λ j m. run (suc j) (suc-le-suc m)) f)

pub all_in : {N : ℕ → Type 0} (β : List ℕ) → ((a : ℕ) → In a β → N a) → AllIn N β
all_in [] f = tt
all_in (X ∷ β) f = (f X here, all_in β (λ a m. f a (there m)))

pub in_all : (N : ℕ → Type 0) (β : List ℕ) → AllIn N β → (a : ℕ) → In a β → N a
in_all N [] h a m = elim m [ ]
in_all N (X ∷ β) h a here = h.0
in_all N (X ∷ β) h a (there m) = in_all N β h.1 a m

pub starts_map : {N N' F F' : ℕ → Type 0} → ((x : ℕ) → N x → N' x) → ((x : ℕ) → F x → F' x) → (β : List ℕ) → Starts N F β → Starts N' F' β
starts_map f g [] h = h
starts_map f g (X ∷ β) (inl h) = inl (g X h)
starts_map f g (X ∷ β) (inr h) = inr (f X h.0, starts_map f g β h.1)

module _ (g : Grammar) where
  pub rules_nullable : {X : ℕ} → NullableByRules g X → Nullable g X
  rules_nullable p =
      derive_every g (Nullable g) (λ y s. absurd s)
      (λ i r e f. let F = empty_forest g (right r) (all_in (right r) f) in record { tree = node i F.0; derives = (r, e, refl, F.1); empty = F.2 }) p

  pub nullable_rules : {X : ℕ} → Nullable g X → NullableByRules g X
  nullable_rules n = nullable_in g (NullableByRules g) (λ i r e h. derive g i e (in_all (NullableByRules g) (right r) h)) n

  pub start : (N S : ℕ → Type 0) (i : ℕ) {r : Rule} → rule_at g i ≡ some r → Starts N (Least (starting g N) S) (right r) → Least (starting g N) S r.left
  start N S i {r} e h =
      let p = starts_place (right r) h in
      let α = sym (ap right_of e) in
      subst (Least (starting g N) S) (ap left_of e)
      (by (occurs i p.place) (subst (λ (l : List ℕ). p.place < length l) α p.within, subst (λ (l : List ℕ). Below N l p.place) α p.run)
      (λ a n. subst (Least (starting g N) S) (sym (n ∙ ap (λ (l : List ℕ). get_or l p.place 0) (sym α))) p.begins))

  pub begins_rules : {X c : ℕ} → Begins g X c → BeginsByRules g X c
  begins_rules {X} {c} b = begins_in g c (λ x. BeginsByRules g x c) (λ t. seed (refl, t)) (λ i r e h. start (Nullable g) (Itself g c) i e h) b

  pub rules_begins : RightProductive g → {X c : ℕ} → BeginsByRules g X c → Begins g X c
  rules_begins rich {X} {c} p = least_every (starting g (Nullable g)) (λ x. Begins g x c) leaf_begins (λ o ok ns. go (rule_of o) (symbol_of o) (rule_at g (rule_of o)) refl ok (ns _ refl)) p
    where
      leaf_begins : (x : ℕ) → Itself g c x → Begins g x c
      leaf_begins x s = record { tree = leaf c; derives = (sym s.0, s.1); remainder = []; begins = refl }

      go : (i k : ℕ) (q : Option Rule) → rule_at g i ≡ q → (k < length (right_of q)) × Below (Nullable g) (right_of q) k → Begins g (get_or (right_of q) k 0) c → Begins g (left_of q) c
      go i k none e ok b = absurd (not-suc-le-zero ok.0)
      go i k (some r) e ok b =
          let F = starts_forest g (right r) c (rich i r e) (place_starts (Nullable g) (λ x. Begins g x c) (right r) k ok.0 ok.1 b) in
          record { tree = node i F.0; derives = (r, e, refl, F.2); remainder = F.1; begins = F.3 }

  pub begins_terminal : {X c : ℕ} → BeginsByRules g X c → IsTerminal g c
  begins_terminal {c = c} h = least_every (starting g (Nullable g)) (λ x. IsTerminal g c) (λ y s. s.1) (λ o ok ns. ns _ refl) h

  pub starts_terminal : (β : List ℕ) (c : ℕ) → Starts (Nullable g) (λ X. BeginsByRules g X c) β → IsTerminal g c
  starts_terminal [] c h = absurd h
  starts_terminal (X ∷ β) c (inl h) = begins_terminal h
  starts_terminal (X ∷ β) c (inr h) = starts_terminal β c h.1

  -- first(β, {d}) by rules is what forests say
  pub first_rules : {β : List ℕ} {d c : ℕ} → First g β d c → FirstByRules g β d c
  first_rules {β} f = go (first_starts g f)
    where
      go : {d c : ℕ} → Starts (Nullable g) (λ X. Begins g X c) β ⊎ (AllIn (Nullable g) β × (c ≡ d)) → FirstByRules g β d c
      go (inl h) = inl (starts_map (λ x n. n) (λ x b. begins_rules b) β h)
      go (inr h) = inr h

  pub rules_first : RightProductive g → {β : List ℕ} {d c : ℕ} → ((a : ℕ) → In a β → Productive g a) → FirstByRules g β d c → First g β d c
  rules_first rich {β} f (inl h) = starts_first g f (inl (starts_map (λ x n. n) (λ x b. rules_begins rich b) β h))
  rules_first rich f (inr h) = starts_first g f (inr h)
