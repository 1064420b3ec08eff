-- The first use of a string, and the order of entry lines by it.
use Prim.Native.Nat.{ℕ, suc, ◌+◌, ◌<◌}
use native.Mathlib.Omega.{arith}
use mathlib.Core.Path.{◌≡◌, refl, sym, ap, subst, ◌∙◌}
use mathlib.Core.Logic.{◌⊎◌, inl, inr}
use mathlib.Core.List.{List, [], ◌∷◌, ◌++◌, append-nil}
use mathlib.Core.Bool.{Bool, true, false, cond, not, ◌||◌}
use mathlib.Core.Option.{some}
use lib.ListN.{length, drop}
use Rattle.language.specs.Grammar.{Grammar, Rule, at, rule_at}
use Rattle.language.specs.Sentence.{In, here, there}
use Rattle.language.proofs.Member.{in_either}
use Rattle.leftcorner.specs.Table.{EntryLine, E, same_string}
use Rattle.leftcorner.proofs.ReadOff.{same_string_lem, string_same}
use Rattle.table_order.specs.Order.{follows, groups_in, use_from, first_use, is_group, group_lines, use_key, entry_follows}
use Rattle.table_order.proofs.OrderLaws.{Above, RisingBy, rising_more, rising_follows}

-- a string that no group is
pub use_none : (k : ℕ) (δs : List (List ℕ)) (γ : List ℕ) → ((δ : List ℕ) → In δ δs → same_string δ γ ≡ false) → use_from k δs γ ≡ 0
use_none k [] γ f = refl
use_none k (δ ∷ δs) γ f = ap (λ (b : Bool). cond b k (use_from (suc k) δs γ)) (f δ here) ∙ use_none (suc k) δs γ (λ ε m. f ε (there m))

-- a group is one of a rule
group_at : {δ : List ℕ} (rs : List Rule) → In δ (groups_in rs) → (k : ℕ) × (r : Rule) × (at rs k ≡ some r) × In δ r.groups
group_at [] m = elim m [ ]
group_at {δ} (r ∷ rs) m = go (in_either r.groups m) (group_at rs)
  where
    go : In δ r.groups ⊎ In δ (groups_in rs) → (In δ (groups_in rs) → (k : ℕ) × (x : Rule) × (at rs k ≡ some x) × In δ x.groups)
        → (k : ℕ) × (x : Rule) × (at (r ∷ rs) k ≡ some x) × In δ x.groups
    go (inl n) rec = (0, r, refl, n)
    go (inr n) rec = let h = rec n in (suc h.0, h.1, h.2, h.3)

pub group_rule : (g : Grammar) {δ : List ℕ} → In δ (groups_in g.rules) → (i : ℕ) × (r : Rule) × (rule_at g i ≡ some r) × In δ r.groups
group_rule g m = let h = group_at g.rules m in (suc h.0, h.1, h.2, h.3)

-- the first of the groups that is δ
pub use_at : (k : ℕ) (before : List (List ℕ)) (δ : List ℕ) (behind : List (List ℕ)) → (In δ before → ⊥) → use_from k (before ++ δ ∷ behind) δ ≡ k + length before
use_at k [] δ behind f = ap (λ (b : Bool). cond b k (use_from (suc k) behind δ)) (string_same δ) ∙ omega arith
use_at k (ε ∷ before) δ behind f = go (same_string ε δ) refl (use_at (suc k) before δ behind (λ m. f (there m)))
  where
    go : (b : Bool) → same_string ε δ ≡ b → use_from (suc k) (before ++ δ ∷ behind) δ ≡ suc k + length before
        → cond b k (use_from (suc k) (before ++ δ ∷ behind) δ) ≡ k + suc (length before)
    go true e h = absurd (f (subst (λ (γ : List ℕ). In δ (γ ∷ before)) (sym (same_string_lem ε δ e)) here))
    go false e h = omega (arith, h)

pub use_low : {γ : List ℕ} (k : ℕ) {before : List (List ℕ)} (behind : List (List ℕ)) → In γ before → use_from k (before ++ behind) γ < k + length before
use_low {γ} k behind (here {l = before}) = rw (string_same γ) (omega arith)
use_low {γ} k behind (there {y = ε} {l = before} m) = go (same_string ε γ) (use_low (suc k) behind m)
  where
    go : (b : Bool) → use_from (suc k) (before ++ behind) γ < suc k + length before → cond b k (use_from (suc k) (before ++ behind) γ) < k + suc (length before)
    go true h = omega arith
    go false h = omega (arith, h)

-- ---- lines of groups
module _ (rs : List Rule) where
  pub groups_++ : (l m : List EntryLine) → group_lines rs (l ++ m) ≡ group_lines rs l ++ group_lines rs m
  groups_++ [] m = refl
  groups_++ (E p δ ∷ l) m = go (is_group rs δ) (groups_++ l m)
    where
      go : (b : Bool) → group_lines rs (l ++ m) ≡ group_lines rs l ++ group_lines rs m
          → cond b (E p δ ∷ group_lines rs (l ++ m)) (group_lines rs (l ++ m)) ≡ cond b (E p δ ∷ group_lines rs l) (group_lines rs l) ++ group_lines rs m
      go true e = ap (λ (k : List EntryLine). E p δ ∷ k) e
      go false e = e

  -- those of a list that rises do so too
  groups_above : (k : List ℕ) (l : List EntryLine) → Above (use_key rs) k l → Above (use_key rs) k (group_lines rs l)
  groups_above k [] h = tt
  groups_above k (E p δ ∷ l) h = go (is_group rs δ) (groups_above k l h.1)
    where
      go : (b : Bool) → Above (use_key rs) k (group_lines rs l) → Above (use_key rs) k (cond b (E p δ ∷ group_lines rs l) (group_lines rs l))
      go true r = (h.0, r)
      go false r = r

  pub groups_rise : (l : List EntryLine) → RisingBy (use_key rs) l → RisingBy (use_key rs) (group_lines rs l)
  groups_rise [] h = tt
  groups_rise (E p δ ∷ l) h = go (is_group rs δ) (groups_rise l h.1)
    where
      go : (b : Bool) → RisingBy (use_key rs) (group_lines rs l) → RisingBy (use_key rs) (cond b (E p δ ∷ group_lines rs l) (group_lines rs l))
      go true r = (groups_above (use_key rs (E p δ)) l h.0, r)
      go false r = r

  -- ---- "E lines after the goal"
  abbrev pub EntriesFollow : List EntryLine → Type 0
  EntriesFollow l = RisingBy (use_key rs) (group_lines rs (drop 1 l))

  -- a line that follows may join
  pub follow_more : (l : List EntryLine) (s : ℕ) (γ : List ℕ) → EntriesFollow l → entry_follows rs l γ ≡ true → EntriesFollow (l ++ E s γ ∷ [])
  follow_more [] s γ r e = tt
  follow_more (x ∷ l) s γ r e = subst (RisingBy (use_key rs)) (sym (groups_++ l (E s γ ∷ []))) (go (is_group rs γ) e)
    where
      go : (b : Bool) → not b || follows (use_key rs) (group_lines rs l) (first_use rs γ ∷ []) ≡ true → RisingBy (use_key rs) (group_lines rs l ++ cond b (E s γ ∷ []) [])
      go true f = rising_more (use_key rs) (group_lines rs l) (E s γ) r f
      go false f = subst (RisingBy (use_key rs)) (sym (append-nil (group_lines rs l))) r

  -- each line follows those before it
  pub follow_each : (earlier : List EntryLine) (s : ℕ) (γ : List ℕ) (later : List EntryLine) → EntriesFollow (earlier ++ E s γ ∷ later) → entry_follows rs earlier γ ≡ true
  follow_each [] s γ later r = refl
  follow_each (x ∷ l) s γ later r = go (is_group rs γ) (subst (RisingBy (use_key rs)) (groups_++ l (E s γ ∷ later)) r)
    where
      go : (b : Bool) → RisingBy (use_key rs) (group_lines rs l ++ cond b (E s γ ∷ group_lines rs later) (group_lines rs later))
          → not b || follows (use_key rs) (group_lines rs l) (first_use rs γ ∷ []) ≡ true
      go true q = rising_follows (use_key rs) (group_lines rs l) (E s γ) (group_lines rs later) q
      go false q = refl
