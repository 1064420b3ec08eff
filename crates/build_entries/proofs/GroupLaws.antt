-- The groups of a rule join the strings, one after the other.
use Prim.Native.Nat.{ℕ, ◌-◌, ◌≤◌, ◌<◌}
use mathlib.Core.Path.{◌≡◌, refl, sym, ap, subst, ◌∙◌}
use mathlib.Core.List.{List, [], ◌∷◌, ◌++◌, append_assoc}
use mathlib.Core.Option.{some}
use native.Mathlib.Omega.{arith}
use Rattle.language.specs.Grammar.{Grammar, Rule, rule_at}
use Rattle.language.specs.WellFormed.{RuleFormed}
use Rattle.items.specs.Layout.{length_at, mark_at, RuleIn}
use Rattle.item_groups.specs.Groups.{GroupEnd, PartIs}
use Rattle.item_groups.proofs.GroupLaws.{base_of, base_more, Current, current, current_part, none_left}
use Rattle.build_states.specs.Strings.{add_string, add_groups}
use Rattle.build_states.proofs.Distinct.{Extends}
use Rattle.build_states.proofs.EntryLaws.{groups_extend}
use Rattle.build_entries.specs.Memory.{Stored, Reached}
use Rattle.build_entries.proofs.StoreLaws.{rule_in}

-- the groups `done` of r have joined l; the next one begins at `from`
pub record Joining (g : Grammar) (r : Rule) (l : List (List ℕ)) (size : ℕ) (items : List ℕ) (rules from n : ℕ) : Type 0 where
  pub done : List (List ℕ)
  pub todo : List (List ℕ)
  pub split : r.groups ≡ done ++ todo
  pub place : from ≡ base_of r done
  pub strings : List (List ℕ)
  pub stored : Stored g strings size items rules n
  pub whole : add_groups l r.groups ≡ add_groups strings todo

module _ {g : Grammar} (i : ℕ) {r : Rule} (is_rule : rule_at g i ≡ some r) {l : List (List ℕ)} {size : ℕ} {items : List ℕ} {rules from n : ℕ} where
  pub joining_start : Stored g l size items rules n → n ≤ 128 → from ≡ mark_at items i → Joining g r l size items rules from n
  joining_start s few e = record
      { done = []; todo = r.groups; split = refl; place = let m = (rule_in s few i is_rule).mark_is in omega (arith, e, m); strings = l; stored = s; whole = refl }

  module _ (J : Joining g r l size items rules from n) (few : n ≤ 128) where
    row : RuleIn items i r
    row = rule_in J.stored few i is_rule

    formed : RuleFormed g r
    formed = J.stored.formed.formed i is_rule

    module _ {to : ℕ} (low : from < length_at items i) (h : GroupEnd items i from to) where
      c : Current r J.done J.todo to
      c = current formed row J.done J.todo J.split J.place low h

      pub joining_more : {items' : List ℕ} {n' : ℕ}
          → ((k : List (List ℕ)) (γ : List ℕ) → Stored g k size items rules n → PartIs items i from (to - from) γ → Stored g (add_string k γ) size items' rules n')
          → Joining g r l size items' rules to n'
      unfolding add_groups
      joining_more add = record {
        done = J.done ++ c.group ∷ [];
        todo = c.others;
        split = c.split ∙ sym (append_assoc J.done (c.group ∷ []) c.others);
        place = omega (arith, c.end, base_more r J.done c.group);
        strings = add_string J.strings c.group;
        stored = add J.strings c.group J.stored (current_part formed row J.done J.todo J.split J.place c h);
        whole = J.whole ∙ ap (add_groups J.strings) c.next;
      }

    -- the rule's groups have joined, or the limit is passed
    reached : (n ≤ 127 → J.todo ≡ []) → Reached g (add_groups l r.groups) size items rules n
    unfolding add_groups
    reached none = record {
      strings = J.strings;
      stored = J.stored;
      extends = subst (Extends J.strings) (sym J.whole) (groups_extend J.strings J.todo);
      all = λ b. sym (J.whole ∙ ap (add_groups J.strings) (none b));
    }

    pub joining_ends : length_at items i ≤ from → Reached g (add_groups l r.groups) size items rules n
    joining_ends b = reached (λ _. none_left formed row J.done J.todo J.split J.place b)

    pub joining_stops : 127 < n → Reached g (add_groups l r.groups) size items rules n
    joining_stops b = reached (λ f. absurd (omega arith))
