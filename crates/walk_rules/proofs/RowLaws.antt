-- How the rows of the rules are written.
use Prim.Native.Nat.{ℕ, suc, ◌+◌, ◌*◌, ◌-◌, ◌%◌, ◌≤◌, ◌<◌}
use mathlib.Core.Path.{◌≡◌, refl, sym, ap, subst, ◌∙◌}
use mathlib.Core.Logic.{◌⊎◌, inl, inr}
use mathlib.Core.Bool.{Bool, true, false}
use mathlib.Core.List.{List, [], ◌∷◌}
use native.Mathlib.Decide.{ℕ_discrete}
use native.Mathlib.Omega.{arith}
use lib.ListN.{length, get_or, set, replicate, length-replicate}
use lib.Dec.{leb}
use lib.Seq.{sets, length-sets}
use borrow.Author.Tests.{leb-true, leb-false}
use Rattle.items.specs.Layout.{left_at, mark_at, unit_at}
use Rattle.items.proofs.StoreLaws.{read_below, read_above, read_inside, read_zeros}
use Rattle.walk_tables.specs.Memory.{figure_of}
use Rattle.walk_rules.specs.Rows.{GroupCount, GroupsLinked, RowLinked, RuleLinked, RulesLinked}

-- what is not in a run is below or above it
beside : (x a n : ℕ) → (a ≤ x → x < a + n → ⊥) → (x < a) ⊎ (a + n ≤ x)
beside x a n f = go (leb a x) (leb (a + n) x) refl refl
  where
    go : (b d : Bool) → leb a x ≡ b → leb (a + n) x ≡ d → (x < a) ⊎ (a + n ≤ x)
    go false d e h = inl (leb-false a x e)
    go true true e h = inr (leb-true (a + n) x h)
    go true false e h = absurd (f (leb-true a x e) (leb-false (a + n) x h))

-- four stores side by side
four_stores : (l : List ℕ) (a p q u v : ℕ) → set (set (set (set l a p) (a + 1) q) (a + 2) u) (a + 3) v ≡ sets l a (p ∷ q ∷ u ∷ v ∷ [])
four_stores l a p q u v =
    let e1 : a + 1 ≡ suc a = omega arith in
    let e2 : a + 2 ≡ suc (suc a) = omega arith in
    let e3 : a + 3 ≡ suc (suc (suc a)) = omega arith in
    rw (e1, e2, e3) refl

-- rule i's row, with the states of its groups and then its four figures
pub rule_linked : {items entries uses : List ℕ} {i groups p q u : ℕ} {rows₀ rows : List ℕ} → i < 128 → GroupCount uses i groups
    → GroupsLinked entries uses i groups groups rows₀ rows → p ≡ mark_at items i → q ≡ left_at items i % 64 → u ≡ unit_at items i
    → RuleLinked items entries uses i rows₀ (set (set (set (set rows (i * 32) p) (i * 32 + 1) q) (i * 32 + 2) u) (i * 32 + 3) groups)
unfolding figure_of
rule_linked {items} {entries} {uses} {i} {groups} {p} {q} {u} {rows₀} {rows} low C G ep eq eu =
    subst (λ (l : List ℕ). RuleLinked items entries uses i rows₀ l) (sym (four_stores rows (i * 32) p q u groups)) (record {
      long = length-sets rows (i * 32) figures ∙ G.long;
      row = record {
        pops = first 0 (omega arith) ∙ ep;
        left = first 1 (omega arith) ∙ eq;
        unit = first 2 (omega arith) ∙ eu;
        groups = subst (GroupCount uses i) (sym (first 3 (omega arith))) C;
        state = λ j l. behind j (omega (arith, l, first 3 (omega arith)));
      };
      outside = outside_row;
    })
  where
    figures : List ℕ
    figures = p ∷ q ∷ u ∷ groups ∷ []

    after : List ℕ
    after = sets rows (i * 32) figures

    first : (k : ℕ) → k < 4 → get_or after (i * 32 + k) 0 ≡ get_or figures k 0
    first k l = read_inside rows figures (i * 32) k l (omega (arith, G.long, low, l))

    behind : (j : ℕ) → j < groups → get_or after (i * 32 + (3 + get_or after (i * 32 + 3) 0 - j)) 0 ≡ get_or entries (get_or uses (i * 16 + j) 0) 0
    behind j l =
        let e : i * 32 + (3 + get_or after (i * 32 + 3) 0 - j) ≡ i * 32 + 3 + groups - j = omega (arith, first 3 (omega arith), l) in
        ap (λ (x : ℕ). get_or after x 0) e ∙ read_above rows figures (i * 32) (i * 32 + 3 + groups - j) (omega (arith, l)) ∙ G.state j l

    outside_row : (x : ℕ) → (i * 32 ≤ x → x < i * 32 + 32 → ⊥) → get_or after x 0 ≡ get_or rows₀ x 0
    outside_row x f = go (beside x (i * 32) 32 f) ∙ G.outside x (λ a b. f (omega arith) (omega (arith, b, C.few)))
      where
        go : (x < i * 32) ⊎ (i * 32 + 32 ≤ x) → get_or after x 0 ≡ get_or rows x 0
        go (inl l) = read_below rows figures (i * 32) x l
        go (inr l) = read_above rows figures (i * 32) x (omega arith)

-- ---- the rows of all rules
module _ {items entries uses : List ℕ} where
  pub rules_start : {rows : List ℕ} → rows ≡ replicate 8448 0 → RulesLinked items entries uses 1 rows
  rules_start e = record {
    long = ap length e ∙ length-replicate {A = ℕ} 8448 0;
    row = λ j a b. absurd (omega arith);
    rest = λ x l. ap (λ (r : List ℕ). get_or r x 0) e ∙ read_zeros 8448 x;
  }

  kept_row : {rows rows' : List ℕ} (j : ℕ) → ((k : ℕ) → k < 32 → figure_of rows' j k ≡ figure_of rows j k) → RowLinked items entries uses j rows → RowLinked items entries uses j rows'
  kept_row {rows} {rows'} j same R = record {
    pops = same 0 (omega arith) ∙ R.pops;
    left = same 1 (omega arith) ∙ R.left;
    unit = same 2 (omega arith) ∙ R.unit;
    groups = subst (GroupCount uses j) (sym (same 3 (omega arith))) R.groups;
    state = λ k l.
        let e = same 3 (omega arith) in
        ap (λ (n : ℕ). figure_of rows' j (3 + n - k)) e
        ∙ same (3 + figure_of rows j 3 - k) (omega (arith, R.groups.few))
        ∙ R.state k (omega (arith, l, e));
  }

  pub rules_more : {i : ℕ} {rows rows' : List ℕ} → RulesLinked items entries uses i rows → RuleLinked items entries uses i rows rows'
      → RulesLinked items entries uses (i + 1) rows'
  unfolding figure_of
  rules_more {i} {rows} {rows'} S R = record {
    long = R.long;
    row = λ j a b. go j a b (ℕ_discrete j i);
    rest = λ x l. R.outside x (λ a b. omega arith) ∙ S.rest x (omega arith);
  }
    where
      go : (j : ℕ) → 1 ≤ j → j < i + 1 → Dec (j ≡ i) → RowLinked items entries uses j rows'
      go j a b (yes e) = subst (λ (k : ℕ). RowLinked items entries uses k rows') (sym e) R.row
      go j a b (no f) = kept_row j (λ k l. R.outside (j * 32 + k) (λ p q. omega (arith, p, l, f, b))) (S.row j a (omega (arith, b, f)))

  pub rules_all : {i n : ℕ} {rows : List ℕ} → i ≡ n → RulesLinked items entries uses i rows → RulesLinked items entries uses n rows
  rules_all {rows = rows} e S = subst (λ (k : ℕ). RulesLinked items entries uses k rows) e S
