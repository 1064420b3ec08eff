-- Empty right sides, by rule number and by rows in memory.
use Prim.Native.Nat.{ℕ, zero, suc, ◌≤◌}
use native.Mathlib.Omega.{arith}
use mathlib.Core.Path.{◌≡◌, refl, sym, ap, ◌∙◌}
use mathlib.Core.Bool.{Bool, true, false, ◌||◌}
use mathlib.Core.List.{List, [], ◌∷◌}
use mathlib.Core.Option.{some}
use lib.ListN.{length}
use Rattle.language.specs.Grammar.{Grammar, Rule, at, rule_at, right}
use Rattle.language.proofs.GrammarLaws.{not_there, rule_range, range_rule}
use Rattle.items.specs.Layout.{Holds, length_at}
use Rattle.listing_bound.specs.Bound.{is_empty, has_empty}

not_empty : (α : List ℕ) → (α ≡ [] → ⊥) → is_empty α ≡ false
not_empty [] f = absurd (f refl)
not_empty (X ∷ α) f = refl

no_length : (α : List ℕ) → length α ≡ 0 → α ≡ []
no_length [] e = refl
no_length (X ∷ α) e = absurd (omega (arith, e))

-- one that is there
has_at : (rs : List Rule) (k : ℕ) (r : Rule) → at rs k ≡ some r → right r ≡ [] → has_empty rs ≡ true
unfolding has_empty
has_at [] k r e z = not_there e
has_at (q ∷ rs) zero r e z = let f : q ≡ r = cc in ap (λ (b : Bool). b || has_empty rs) (ap (λ (p : Rule). is_empty (right p)) f ∙ ap is_empty z)
has_at (q ∷ rs) (suc k) r e z = ap (λ (b : Bool). is_empty (right q) || b) (has_at rs k r e z) ∙ either (is_empty (right q))
  where
    either : (b : Bool) → b || true ≡ true
    either true = refl
    either false = refl

-- or none
none_at : (rs : List Rule) → ((k : ℕ) (r : Rule) → at rs k ≡ some r → right r ≡ [] → ⊥) → has_empty rs ≡ false
unfolding has_empty
none_at [] f = refl
none_at (r ∷ rs) f = ap (λ (b : Bool). b || has_empty rs) (not_empty (right r) (f 0 r refl)) ∙ none_at rs (λ k. f (suc k))

module _ (g : Grammar) where
  pub has_empty_lem : (i : ℕ) (r : Rule) → rule_at g i ≡ some r → right r ≡ [] → has_empty g.rules ≡ true
  has_empty_lem zero r e z = not_there e
  has_empty_lem (suc i) r e z = has_at g.rules i r e z

  pub none_empty : ((i : ℕ) (r : Rule) → rule_at g i ≡ some r → right r ≡ [] → ⊥) → has_empty g.rules ≡ false
  none_empty f = none_at g.rules (λ k. f (suc k))

  -- rows 1 to `rules` of m hold them
  module _ (m : List ℕ) (rules : ℕ) (h : Holds m rules g) where
    pub row_empty : (i : ℕ) → 1 ≤ i → i ≤ rules → length_at m i ≡ 0 → has_empty g.rules ≡ true
    row_empty i l u z =
        let r = range_rule g i l (omega (arith, u, h.count)) in
        has_empty_lem i r.0 r.1 (no_length (right r.0) (sym (h.rule_in i r.1).length_is ∙ z))

    pub rows_filled : ((i : ℕ) → 1 ≤ i → i ≤ rules → length_at m i ≡ 0 → ⊥) → has_empty g.rules ≡ false
    rows_filled f =
        none_empty (λ i r e z. let u = rule_range g i e in f i u.0 (omega (arith, u.1, h.count)) ((h.rule_in i e).length_is ∙ ap length z))
