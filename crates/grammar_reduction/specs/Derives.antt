-- Productive symbols by rules: the least set that holds the terminals, and a rule's left side once it holds the whole right side.
use Rattle.std.specs.Prelude.{ℕ, ◌≡◌, refl}
use Rattle.std.proofs.Common.{sym, ap}
use Rattle.std.proofs.Math.Path.{subst}
use mathlib.Core.List.{List, [], ◌∷◌}
use Rattle.std.proofs.Math.Option.{Option, some, none}
use Rattle.language.specs.Grammar.{Grammar, Rule, right, rule_at, IsTerminal}
use Rattle.language.specs.Derivation.{Tree, Forest, leaf, node, nil, cons, IsTree, IsForest}
use Rattle.language.proofs.Forests.{All, tree_ind}
use Rattle.language.specs.Sentence.{In, here, there, Productive}
use Rattle.language.proofs.FirstLaws.{some_forest}
use Rattle.fixpoint.specs.Least.{Clauses, Least, seed, by, least_every}

abbrev pub left_of : Option Rule → ℕ
left_of none = 0
left_of (some r) = r.left

-- a rule by its number: it needs the symbols of its right side and gives its left side
abbrev pub productions : Grammar → Clauses ℕ ℕ
productions g = record {
  ok = λ i. (r : Rule) × (rule_at g i ≡ some r);
  needs = λ i a. (r : Rule) × (rule_at g i ≡ some r) × In a (right r);
  head = λ i. left_of (rule_at g i);
}

module _ (g : Grammar) where
  -- the left side of a rule whose right side is in a set closed under the rules
  pub derive : {S : ℕ → Type 0} (i : ℕ) {r : Rule} → rule_at g i ≡ some r → ((a : ℕ) → In a (right r) → Least (productions g) S a) → Least (productions g) S r.left
  derive {S = S} i {r = r} e f =
      subst (Least (productions g) S) (ap left_of e) (by i (r, e) (λ a n. f a (subst (λ (q : Rule). In a (right q)) (same n.0 n.1) n.2)))
    where
      same : (q : Rule) → rule_at g i ≡ some q → q ≡ r
      same q h = cc

  -- the induction principle in the terms of rules
  pub derive_every : {S : ℕ → Type 0} (D : ℕ → Type 0) → ((y : ℕ) → S y → D y)
      → ((i : ℕ) (r : Rule) → rule_at g i ≡ some r → ((a : ℕ) → In a (right r) → D a) → D r.left) → {x : ℕ} → Least (productions g) S x → D x
  derive_every D seeds step p =
      least_every (productions g) D seeds (λ i ok ns. subst D (sym (ap left_of ok.1)) (step i ok.0 ok.1 (λ a h. ns a (ok.0, ok.1, h)))) p

  abbrev pub ProductiveByRules : ℕ → Type 0
  ProductiveByRules = Least (productions g) (IsTerminal g)

  pub rules_productive : {X : ℕ} → ProductiveByRules X → Productive g X
  rules_productive p =
      derive_every (Productive g) (λ y t. record { tree = leaf y; derives = (refl, t) })
      (λ i r e f. let F = some_forest g (right r) f in record { tree = node i F.0; derives = (r, e, refl, F.1) }) p

  ByRules : Tree → Type 0
  ByRules T = (X : ℕ) → IsTree g T X → ProductiveByRules X

  all_by_rules : (F : Forest) → All ByRules F → (β : List ℕ) → IsForest g F β → (a : ℕ) → In a β → ProductiveByRules a
  unfolding ByRules
  all_by_rules nil h [] f a m = elim m [ ]
  all_by_rules nil h (X ∷ β) f a m = absurd f
  all_by_rules (cons T F) h [] f a m = absurd f
  all_by_rules (cons T F) h (X ∷ β) f a here = h.0 X f.0
  all_by_rules (cons T F) h (X ∷ β) f a (there m) = all_by_rules F h.1 β f.1 a m

  by_rules : (T : Tree) → ByRules T
  unfolding ByRules
  by_rules = tree_ind ByRules (λ a X h. subst ProductiveByRules h.0 (seed h.1))
      (λ i F all X h. subst ProductiveByRules h.2 (derive i h.1 (all_by_rules F all (right h.0) h.3)))

  pub productive_rules : {X : ℕ} → Productive g X → ProductiveByRules X
  unfolding ByRules
  productive_rules {X} p = by_rules p.tree X p.derives
