-- Tables of one grammar that were read, meet the construction and hold the same records are the same.
use Prim.Native.Nat.{ℕ}
use mathlib.Core.Path.{◌≡◌, sym, ap₂, subst, ◌∙◌}
use mathlib.Core.Logic.{◌⊎◌, inl, inr}
use mathlib.Core.List.{List, [], ◌∷◌}
use lib.ListN.{drop}
use Rattle.language.specs.Grammar.{Grammar}
use Rattle.language.specs.Sentence.{In, here, there}
use Rattle.language.proofs.Member.{in_cons}
use Rattle.leftcorner.specs.Table.{EntryLine, E, Table}
use Rattle.leftcorner.specs.Construction.{Meets}
use Rattle.table_order.specs.Order.{kernel_key, action_key, group_lines, use_key}
use Rattle.table_order.proofs.OrderLaws.{RisingBy, rising_same}
use Rattle.table.specs.Book.{table_with}
use Rattle.table_facts.specs.Sound.{Sound}
use Rattle.canonical.specs.Promise.{SameRecords}
use Rattle.canonical.proofs.Groups.{GoalFirst, goal_first_lem}

-- ---- entry lines: the goal's, then those that follow
module _ (γ : List ℕ) {a b : ℕ} {l m : List EntryLine} (to : (x : EntryLine) → In x (E a γ ∷ l) → In x (E b γ ∷ m)) where
  goal_same : ((s : ℕ) → In (E s γ) m → ⊥) → E a γ ≡ E b γ
  goal_same once = go (in_cons (to (E a γ) here))
    where
      go : (E a γ ≡ E b γ) ⊎ In (E a γ) m → E a γ ≡ E b γ
      go (inl e) = e
      go (inr n) = absurd (once a n)

  others_in : ((s : ℕ) → In (E s γ) l → ⊥) → (x : EntryLine) → In x l → In x m
  others_in once x n = go (in_cons (to x (there n)))
    where
      go : (x ≡ E b γ) ⊎ In x m → In x m
      go (inl e) = absurd (once b (subst (λ (y : EntryLine). In y l) e n))
      go (inr k) = k

others_rise : {g : Grammar} {t : Table} → Sound g t → (f : GoalFirst g t) → RisingBy (use_key g.rules) f.others
others_rise {g} o f =
    subst (RisingBy (use_key g.rules)) f.only_groups
    (subst (λ (l : List EntryLine). RisingBy (use_key g.rules) (group_lines g.rules (drop 1 l))) f.entries_are o.entries_follow)

module _ {g : Grammar} {t u : Table} (o : Sound g t) (p : Sound g u) (h : SameRecords t u) where
  entries_same : GoalFirst g t → GoalFirst g u → t.entries ≡ u.entries
  entries_same a b =
      a.entries_are
      ∙ (ap₂ (λ (x : EntryLine) (l : List EntryLine). x ∷ l) (goal_same (g.goal ∷ []) to b.goal_once)
      (rising_same (use_key g.rules) a.others b.others (others_rise o a) (others_rise p b) (others_in (g.goal ∷ []) to a.goal_once) (others_in (g.goal ∷ []) from b.goal_once))
      ∙ sym b.entries_are)
    where
      to : (x : EntryLine) → In x (E a.goal_state (g.goal ∷ []) ∷ a.others) → In x (E b.goal_state (g.goal ∷ []) ∷ b.others)
      to x n = subst (In x) b.entries_are ((h.entries x).0 (subst (In x) (sym a.entries_are) n))

      from : (x : EntryLine) → In x (E b.goal_state (g.goal ∷ []) ∷ b.others) → In x (E a.goal_state (g.goal ∷ []) ∷ a.others)
      from x n = subst (In x) a.entries_are ((h.entries x).1 (subst (In x) (sym b.entries_are) n))

  pub same_table : Meets g t → Meets g u → t ≡ u
  same_table M N =
      ap₂ (λ (n : ℕ) (es : List EntryLine). table_with n es t.kernels t.actions) h.states (entries_same (goal_first_lem M) (goal_first_lem N))
      ∙ ap₂ (table_with u.states u.entries)
      (rising_same kernel_key t.kernels u.kernels o.kernels_rise p.kernels_rise (λ x. (h.kernels x).0) (λ x. (h.kernels x).1))
      (rising_same action_key t.actions u.actions o.actions_rise p.actions_rise (λ x. (h.actions x).0) (λ x. (h.actions x).1))
