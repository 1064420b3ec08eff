-- The rules' groups join the goal, rule after rule.
use Prim.Native.Nat.{ℕ, suc, ◌+◌, ◌≤◌, ◌<◌, min}
use mathlib.Core.Path.{◌≡◌, refl, sym, ap, subst, ◌∙◌}
use mathlib.Core.List.{List, [], ◌∷◌}
use mathlib.Core.Option.{some}
use native.Mathlib.Decide.{dec_le}
use native.Mathlib.Numerals.{add-one}
use native.Mathlib.Omega.{arith}
use lib.ListN.{length, drop, drop_of_length-le}
use Rattle.language.specs.Grammar.{Grammar, Rule, rule_at}
use Rattle.language.proofs.GrammarLaws.{at_below}
use Rattle.items.specs.Layout.{item_table}
use Rattle.item_groups.proofs.UseLaws.{drop_at}
use Rattle.build_states.specs.Strings.{add_string, add_groups, add_rules, entry_strings}
use Rattle.build_states.proofs.Distinct.{Extends, extends_trans, longer}
use Rattle.build_states.proofs.EntryLaws.{rules_extend, strings_extend}
use Rattle.build_entries.specs.Memory.{Stored, Reached, Listed}

-- the groups of the first `done` rules have joined the goal
pub record Listing (g : Grammar) (size : ℕ) (items : List ℕ) (rules done n : ℕ) : Type 0 where
  pub strings : List (List ℕ)
  pub stored : Stored g strings size items rules n
  pub extends : Extends strings (entry_strings g)
  pub whole : n ≤ 127 → entry_strings g ≡ add_rules strings (drop done g.rules)

pub listing_start : {g : Grammar} {size : ℕ} {items : List ℕ} {rules n goal : ℕ} → g.goal ≡ goal → Stored g (add_string [] (goal ∷ [])) size items rules n
    → Listing g size items rules 0 n
unfolding add_string entry_strings
listing_start {g} {size} {items} {rules} {n} e s = record {
  strings = (g.goal ∷ []) ∷ [];
  stored = subst (λ (X : ℕ). Stored g ((X ∷ []) ∷ []) size items rules n) (sym e) s;
  extends = strings_extend g;
  whole = λ _. refl;
}

module _ {g : Grammar} {size : ℕ} {items : List ℕ} {rules done n : ℕ} (L : Listing g size items rules done n) where
  -- rule i joins
  module _ (few : n ≤ 127) (b : done < rules) {i to : ℕ} (here : i ≡ done + 1) (there : to ≡ done + 1) {items' : List ℕ} {n' : ℕ}
      (add : (l : List (List ℕ)) (r : Rule) → Stored g l size items rules n → rule_at g i ≡ some r → Reached g (add_groups l r.groups) size items' rules n') where
    next : (r : Rule) × (rule_at g (suc done) ≡ some r)
    next = at_below g.rules done (omega (arith, b, L.stored.rule_count))

    reached : Reached g (add_groups L.strings next.0.groups) size items' rules n'
    reached = add L.strings next.0 L.stored (ap (rule_at g) (here ∙ add-one done) ∙ next.1)

    whole_next : entry_strings g ≡ add_rules (add_groups L.strings next.0.groups) (drop (suc done) g.rules)
    unfolding add_rules
    whole_next = L.whole few ∙ ap (add_rules L.strings) (drop_at g.rules done next.1)

    pub listing_more : Listing g size items' rules to n'
    listing_more = record {
      strings = reached.strings;
      stored = reached.stored;
      extends = extends_trans reached.extends
          (subst (Extends (add_groups L.strings next.0.groups)) (sym whole_next) (rules_extend (add_groups L.strings next.0.groups) (drop (suc done) g.rules)));
      whole = λ f. whole_next ∙ (ap (λ (l : List (List ℕ)). add_rules l (drop (suc done) g.rules)) (sym (reached.all f))
          ∙ ap (λ (k : ℕ). add_rules reached.strings (drop k g.rules)) (sym (there ∙ add-one done)));
    }

  -- all rules are done, or the limit is passed
  pub listed : n ≤ 128 → (n ≤ 127 → rules ≤ done) → Listed g size items n
  unfolding add_rules
  listed low end = record { count_is = go (dec_le n 127); items_are = λ f. L.stored.items_are ∙ ap (λ (l : List (List ℕ)). item_table g.rules l size) (sym (all f)) }
    where
      all : n ≤ 127 → entry_strings g ≡ L.strings
      all f = L.whole f ∙ ap (add_rules L.strings) (drop_of_length-le g.rules {i = done} (omega (arith, end f, L.stored.rule_count)))

      go : Dec (n ≤ 127) → n ≡ min (length (entry_strings g)) 128
      go (yes f) = omega (arith, ap length (all f), L.stored.string_count)
      go (no f) = omega (arith, longer L.extends, L.stored.string_count)
