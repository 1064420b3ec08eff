-- The order of entry lines, by the first use of the last line of a group.
use Prim.Native.Nat.{ℕ, suc, ◌*◌, ◌≤◌, ◌<◌}
use mathlib.Core.Path.{◌≡◌, refl, sym, ap, ap₂, subst, ◌∙◌}
use mathlib.Core.Logic.{⊎_elim}
use mathlib.Core.List.{List, [], ◌∷◌, ◌++◌, append-nil}
use mathlib.Core.Bool.{Bool, true, false, cond, not, ◌&&◌, ◌||◌}
use native.Mathlib.Omega.{arith}
use borrow.Author.Tests.{lt-ltb, ltb-true}
use lib.Dec.{ltb, eqb}
use lib.ListN.{length, get_or, drop, length-append}
use Rattle.language.specs.Grammar.{Grammar, Rule, concat}
use Rattle.language.specs.Sentence.{In, here, there}
use Rattle.language.specs.WellFormed.{WellFormed}
use Rattle.language.proofs.GrammarLaws.{rule_range, in_string}
use Rattle.language.proofs.Member.{in_right, in_concat}
use Rattle.leftcorner.specs.Table.{EntryLine, E}
use Rattle.items.specs.Layout.{entry_rows}
use Rattle.table_order.specs.Order.{follows, groups_in, first_use, is_group, group_lines, use_key, entry_follows}
use Rattle.table_order.proofs.UseLaws.{use_none, group_rule, groups_++}
use Rattle.item_groups.proofs.StringLaws.{same_long}
use Rattle.table_entries.specs.Memory.{strings_of, with_entries, RulesIn, use_of_last, last_use, EntryMemory}
use Rattle.table_entries.proofs.CapLaws.{SmallGroups, all_low}
use Rattle.table_entries.proofs.MemoryLaws.{row_kept}

-- ---- the test by two figures
or_neither : (a b : Bool) → a || (b && false) ≡ a
or_neither true b = refl
or_neither false true = refl
or_neither false false = refl

follows_use : (rs : List Rule) (l : List EntryLine) (u : ℕ) → 0 < u → follows (use_key rs) l (u ∷ []) ≡ ltb (use_of_last rs l) u
follows_use rs [] u h = sym (lt-ltb 0 u h)
follows_use rs (E s γ ∷ []) u h = or_neither (ltb (first_use rs γ) u) (eqb (first_use rs γ) u)
follows_use rs (x ∷ y ∷ l) u h = follows_use rs (y ∷ l) u h

not_or : (b : Bool) → true ≡ not b || b
not_or true = refl
not_or false = refl

follows_last_use : (rs : List Rule) (l : List EntryLine) (γ : List ℕ) → entry_follows rs l γ ≡ not (ltb 0 (first_use rs γ)) || ltb (last_use rs l) (first_use rs γ)
follows_last_use rs [] γ = not_or (ltb 0 (first_use rs γ))
follows_last_use rs (x ∷ l) γ = go (ltb 0 (first_use rs γ)) refl
  where
    go : (b : Bool) → ltb 0 (first_use rs γ) ≡ b
        → not b || follows (use_key rs) (group_lines rs l) (first_use rs γ ∷ []) ≡ not b || ltb (use_of_last rs (group_lines rs l)) (first_use rs γ)
    go true e = follows_use rs (group_lines rs l) (first_use rs γ) (ltb-true 0 (first_use rs γ) e)
    go false e = refl

pub in_order_is : (rs : List Rule) (l : List EntryLine) (γ : List ℕ) {u v : ℕ} {b : Bool} → b ≡ not (ltb 0 u) || ltb v u → u ≡ first_use rs γ → v ≡ last_use rs l
    → b ≡ entry_follows rs l γ
in_order_is rs l γ q e f = q ∙ (ap₂ (λ (x y : ℕ). not (ltb 0 x) || ltb y x) e f ∙ sym (follows_last_use rs l γ))

-- ---- one more line
last_more : (rs : List Rule) (l : List EntryLine) (s : ℕ) (γ : List ℕ) → use_of_last rs (l ++ E s γ ∷ []) ≡ first_use rs γ
last_more rs [] s γ = refl
last_more rs (x ∷ []) s γ = refl
last_more rs (x ∷ y ∷ l) s γ = last_more rs (y ∷ l) s γ

module _ (rs : List Rule) (l : List EntryLine) (s : ℕ) (γ : List ℕ) where
  pub binds_none : length l ≡ 0 → last_use rs l ≡ last_use rs (l ++ E s γ ∷ [])
  binds_none e = go l e
    where
      go : (l : List EntryLine) → length l ≡ 0 → last_use rs l ≡ last_use rs (l ++ E s γ ∷ [])
      go [] e = refl
      go (x ∷ l) e = absurd (omega (arith, e))

  behind : (b : Bool) → is_group rs γ ≡ b → (length l ≡ 0 → ⊥) → last_use rs (l ++ E s γ ∷ []) ≡ use_of_last rs (group_lines rs (drop 1 l) ++ cond b (E s γ ∷ []) [])
  behind b q f = go l f
    where
      go : (l : List EntryLine) → (length l ≡ 0 → ⊥) → last_use rs (l ++ E s γ ∷ []) ≡ use_of_last rs (group_lines rs (drop 1 l) ++ cond b (E s γ ∷ []) [])
      go [] f = absurd (f refl)
      go (x ∷ l) f = ap (use_of_last rs) (groups_++ rs l (E s γ ∷ []) ∙ ap (λ (c : Bool). group_lines rs l ++ cond c (E s γ ∷ []) []) q)

  pub binds_still : (length l ≡ 0 → ⊥) → first_use rs γ ≡ 0 → last_use rs l ≡ last_use rs (l ++ E s γ ∷ [])
  binds_still f e = sym (behind false (ap (ltb 0) e) f ∙ ap (use_of_last rs) (append-nil (group_lines rs (drop 1 l))))

  pub binds_next : (length l ≡ 0 → ⊥) → (first_use rs γ ≡ 0 → ⊥) → first_use rs γ ≡ last_use rs (l ++ E s γ ∷ [])
  binds_next f e = sym (behind true (lt-ltb 0 (first_use rs γ) (omega (arith, e))) f ∙ last_more rs (group_lines rs (drop 1 l)) s γ)

-- ---- the groups of a grammar in memory
some_symbol : (δ : List ℕ) → (δ ≡ [] → ⊥) → 1 ≤ length δ
some_symbol [] f = absurd (f refl)
some_symbol (X ∷ δ) f = omega arith

concat_long : {δ : List ℕ} {δs : List (List ℕ)} → In δ δs → length δ ≤ length (concat δs)
concat_long {δ} (here {l = δs}) = omega (arith, length-append δ (concat δs))
concat_long (there {y = ε} {l = δs} m) = omega (arith, length-append ε (concat δs), concat_long m)

module _ {g : Grammar} (formed : WellFormed g) where
  group_formed : {δ : List ℕ} → In δ (groups_in g.rules) → (1 ≤ length δ) × (length δ ≤ 15) × ((X : ℕ) → In X δ → X < 128)
  group_formed {δ} m =
      let h = group_rule g m in
      let f = formed.formed h.0 h.2 in (
        some_symbol δ (f.filled δ h.3),
        omega (arith, f.short, length-append h.1.before (concat h.1.groups), concat_long h.3),
        λ X n.
            ⊎_elim (λ k. omega (arith, k.1, formed.few_terminals)) (λ k. omega (arith, k.1, formed.few_nonterminals))
            (f.declared X (in_right h.1.before (in_concat h.3 n))),
      )

  -- none has fewer or more symbols
  pub no_group : (γ : List ℕ) → (1 ≤ length γ → length γ ≤ 15 → ⊥) → first_use g.rules γ ≡ 0
  no_group γ f = use_none 1 (groups_in g.rules) γ (λ δ m. same_long δ γ (λ e. let h = group_formed m in f (omega (arith, h.0, e)) (omega (arith, h.1, e))))

  pub groups_small : SmallGroups g.rules
  groups_small δ m = all_low δ (λ k l. omega (arith, (group_formed m).2 (get_or δ k 0) (in_string δ k l)))

-- the rules' rows are as they were
rules_kept : {g : Grammar} {m : List ℕ} {rules : ℕ} (l : List EntryLine) → RulesIn g m rules → RulesIn g (with_entries m rules l) rules
unfolding with_entries
rules_kept {g} {m} {rules} l h = record {
  formed = h.formed;
  holds = record {
    count = h.holds.count;
    rule_in = λ i e. row_kept m (concat (entry_rows (strings_of l))) i (suc rules * 64) (omega (arith, (rule_range g i e).1, h.holds.count)) (h.holds.rule_in i e);
  };
}

pub rules_held : {g : Grammar} {m : List ℕ} {rules a b : ℕ} {l : List EntryLine} {items states named : List ℕ} → EntryMemory m rules a b l items states named → RulesIn g m rules
    → RulesIn g items rules
rules_held {g} {rules = rules} {l = l} h r = subst (λ (x : List ℕ). RulesIn g x rules) (sym h.items_are) (rules_kept l r)
