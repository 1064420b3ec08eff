-- The entry lines of a table that meets the construction: the goal's, once, then lines of groups alone.
use Prim.Native.Nat.{ℕ, zero, suc, ◌≤◌}
use mathlib.Core.Path.{◌≡◌, refl, sym, ap, subst, ◌∙◌}
use mathlib.Core.List.{List, [], ◌∷◌}
use mathlib.Core.Bool.{true}
use mathlib.Core.Option.{some}
use native.Mathlib.Omega.{arith}
use borrow.Author.Tests.{lt-ltb}
use Rattle.language.specs.Grammar.{Grammar, Rule, at, rule_at}
use Rattle.language.specs.Sentence.{In, here, there}
use Rattle.language.proofs.Member.{in_left, in_right}
use Rattle.range.proofs.TestLaws.{all_cond}
use Rattle.leftcorner.specs.Table.{EntryLine, E, Table, same_string}
use Rattle.leftcorner.specs.Construction.{Wanted, of_goal, of_group, EntryAt, WellFormed, EntriesMeet, Meets}
use Rattle.leftcorner.proofs.ReadOff.{clash, string_same}
use Rattle.build_states.proofs.Distinct.{in_at}
use Rattle.table_order.specs.Order.{groups_in, use_from, first_use, is_group, group_lines}

-- ---- a group has a first use
use_found : {γ : List ℕ} (k : ℕ) {l : List (List ℕ)} → 1 ≤ k → In γ l → 1 ≤ use_from k l γ
use_found {γ} k h here = rw (string_same γ) h
use_found {γ} k h (there {y = δ} {l = l} m) = all_cond (λ n. 1 ≤ n) (same_string δ γ) (λ e. h) (λ e. use_found (suc k) (omega arith) m)

group_in : (l : List Rule) (i : ℕ) {r : Rule} {γ : List ℕ} → at l i ≡ some r → In γ r.groups → In γ (groups_in l)
group_in [] i e m = clash cc
group_in (q ∷ l) zero {r} {γ} e m = let f : q ≡ r = cc in in_left (groups_in l) (subst (λ (x : Rule). In γ x.groups) (sym f) m)
group_in (q ∷ l) (suc i) e m = in_right q.groups (group_in l i e m)

module _ (g : Grammar) where
  is_group_lem : (i : ℕ) {r : Rule} {γ : List ℕ} → rule_at g i ≡ some r → In γ r.groups → is_group g.rules γ ≡ true
  is_group_lem zero e m = clash cc
  is_group_lem (suc i) {γ = γ} e m = lt-ltb 0 (first_use g.rules γ) (omega (arith, use_found 1 (omega arith) (group_in g.rules i e m)))

  -- "a string that is no group is passed over here": where all are groups, none is
  all_groups : (l : List EntryLine) → ((s : ℕ) (γ : List ℕ) → In (E s γ) l → is_group g.rules γ ≡ true) → group_lines g.rules l ≡ l
  all_groups [] h = refl
  all_groups (E s γ ∷ l) h = simp (h s γ here) (ap (λ (r : List EntryLine). E s γ ∷ r) (all_groups l (λ u δ m. h u δ (there m))))

-- ---- "Entry line 1 is the goal." "then every other distinct group once"
pub record GoalFirst (g : Grammar) (t : Table) : Type 0 where
  pub goal_state : ℕ
  pub others : List EntryLine
  pub entries_are : t.entries ≡ E goal_state (g.goal ∷ []) ∷ others
  pub goal_once : (s : ℕ) → In (E s (g.goal ∷ [])) others → ⊥
  pub only_groups : group_lines g.rules others ≡ others

module _ (g : Grammar) (t : Table) (W : WellFormed g t) (M : EntriesMeet g t) where
  by_first : (l : List EntryLine) → t.entries ≡ l → GoalFirst g t
  by_first [] e = let f : at [] 0 ≡ some _ = sym (ap (λ (l : List EntryLine). at l 0) e) ∙ M.goal_first.1 in clash cc
  by_first (x ∷ l) e =
      let first : x ≡ E M.goal_first.0 (g.goal ∷ []) = is (sym (ap (λ (l : List EntryLine). at l 0) e) ∙ M.goal_first.1) in
      record {
        goal_state = M.goal_first.0;
        others = l;
        entries_are = e ∙ ap (λ (y : EntryLine). y ∷ l) first;
        goal_once = once;
        only_groups = all_groups g l groups;
      }
    where
      is : {y z : EntryLine} → some y ≡ some z → y ≡ z
      is q = cc

      -- a line of l stands at its place in the table
      line_at : (s : ℕ) (γ : List ℕ) → In (E s γ) l → (k : ℕ) × EntryAt g t (suc (suc k)) s γ
      line_at s γ m = let r = in_at m in (r.0, ap (λ (l : List EntryLine). at l (suc r.0)) e ∙ r.1)

      once : (s : ℕ) → In (E s (g.goal ∷ [])) l → ⊥
      once s m = let r = line_at s (g.goal ∷ []) m in omega (arith, W.one_entry 1 (suc (suc r.0)) M.goal_first.0 s (g.goal ∷ []) M.goal_first.1 r.1)

      groups : (s : ℕ) (γ : List ℕ) → In (E s γ) l → is_group g.rules γ ≡ true
      groups s γ m = by (M.only_wanted (suc (suc (line_at s γ m).0)) s γ (line_at s γ m).1)
        where
          by : Wanted g γ → is_group g.rules γ ≡ true
          by (of_goal q) = absurd (once s (subst (λ (δ : List ℕ). In (E s δ) l) q m))
          by (of_group i k n) = is_group_lem g i k n

pub goal_first_lem : {g : Grammar} {t : Table} → Meets g t → GoalFirst g t
goal_first_lem {g} {t} M = by_first g t M.form M.entries t.entries refl
