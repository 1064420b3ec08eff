-- A string sought among the groups, group after group and rule after rule.
use Prim.Native.Nat.{ℕ, zero, suc, ◌+◌, ◌-◌, ◌≤◌, ◌<◌}
use mathlib.Core.Path.{◌≡◌, refl, sym, ap, ◌∙◌}
use mathlib.Core.List.{List, [], ◌∷◌, ◌++◌, append_assoc}
use mathlib.Core.Bool.{Bool, true, false, cond}
use mathlib.Core.Option.{some}
use native.Mathlib.Numerals.{add-one}
use native.Mathlib.Omega.{arith}
use lib.ListN.{drop, drop_of_length-le}
use Rattle.language.specs.Grammar.{Grammar, Rule, at, rule_at}
use Rattle.language.specs.WellFormed.{WellFormed, RuleFormed}
use Rattle.language.proofs.GrammarLaws.{not_there, at_below}
use Rattle.leftcorner.specs.Table.{same_string}
use Rattle.items.specs.Layout.{Holds, RuleIn, length_at, mark_at}
use Rattle.table_order.specs.Order.{groups_in, use_from, first_use}
use Rattle.item_groups.specs.declared.Search.{Search}
use Rattle.item_groups.specs.Groups.{GroupEnd, PartIs}
use Rattle.item_groups.specs.Uses.{use_after, Seeks}
use Rattle.item_groups.proofs.GroupLaws.{base_of, base_more, Current, current, current_part, none_left}

-- the groups `done` of r were looked at in vain; the next one has number k and begins at `from`
pub record Seeking (r : Rule) (first : ℕ) (γ : List ℕ) (from k : ℕ) : Type 0 where
  pub done : List (List ℕ)
  pub todo : List (List ℕ)
  pub split : r.groups ≡ done ++ todo
  pub place : from ≡ base_of r done
  pub use_is : (later : List (List ℕ)) → use_from first (r.groups ++ later) γ ≡ use_from k (todo ++ later) γ

module _ {g : Grammar} {r : Rule} (formed : RuleFormed g r) {items : List ℕ} {i : ℕ} (w : RuleIn items i r) {first : ℕ} {γ : List ℕ} {from : ℕ} where
  pub seeking_start : from ≡ mark_at items i → Seeking r first γ from first
  seeking_start e = record { done = []; todo = r.groups; split = refl; place = omega (arith, e, w.mark_is); use_is = λ later. refl }

  module _ {k : ℕ} (S : Seeking r first γ from k) where
    module _ {to : ℕ} (low : from < length_at items i) (h : GroupEnd items i from to) {b : Bool}
        (compared : (δ : List ℕ) → PartIs items i from (to - from) δ → b ≡ same_string δ γ) where
      c : Current r S.done S.todo to
      c = current formed w S.done S.todo S.split S.place low h

      next_is : (later : List (List ℕ)) → use_from first (r.groups ++ later) γ ≡ cond b k (use_from (suc k) (c.others ++ later) γ)
      next_is later =
          S.use_is later
          ∙ (ap (λ (δs : List (List ℕ)). use_from k (δs ++ later) γ) c.next
          ∙ ap (λ (x : Bool). cond x k (use_from (suc k) (c.others ++ later) γ)) (sym (compared c.group (current_part formed w S.done S.todo S.split S.place c h))))

      pub seeking_found : b ≡ true → Seeks first r.groups γ (Search.Found k)
      seeking_found e = record { use_is = λ later. next_is later ∙ ap (λ (x : Bool). cond x k (use_from (suc k) (c.others ++ later) γ)) e }

      pub seeking_more : b ≡ false → Seeking r first γ to (k + 1)
      seeking_more e = record {
        done = S.done ++ c.group ∷ [];
        todo = c.others;
        split = c.split ∙ sym (append_assoc S.done (c.group ∷ []) c.others);
        place = omega (arith, c.end, base_more r S.done c.group);
        use_is = λ later.
            next_is later
            ∙ (ap (λ (x : Bool). cond x k (use_from (suc k) (c.others ++ later) γ)) e ∙ ap (λ (n : ℕ). use_from n (c.others ++ later) γ) (sym (add-one k)));
      }

    pub seeking_ends : length_at items i ≤ from → Seeks first r.groups γ (Search.Passed k)
    seeking_ends l = record {
      use_is = λ later. S.use_is later
          ∙ ap (λ (δs : List (List ℕ)). use_from k (δs ++ later) γ) (none_left formed w S.done S.todo S.split S.place l);
    }

-- ---- rule after rule
pub drop_at : {A : Type 0} (l : List A) (k : ℕ) {x : A} → at l k ≡ some x → drop k l ≡ x ∷ drop (suc k) l
drop_at [] k e = not_there e
drop_at (y ∷ l) zero {x} e = let q : y ≡ x = cc in ap (λ (z : _). z ∷ l) q
drop_at (y ∷ l) (suc k) e = drop_at l k e

-- the rules before rule i were looked at in vain; the next group has number `next`
abbrev pub Passed : Grammar → List ℕ → ℕ → ℕ → Type 0
Passed g γ i next = (done : ℕ) → i ≡ suc done → first_use g.rules γ ≡ use_from next (groups_in (drop done g.rules)) γ

module _ {g : Grammar} (formed : WellFormed g) {items : List ℕ} {rules : ℕ} (holds : Holds items rules g) (γ : List ℕ) where
  module _ {x : Search} (next : ℕ) where
    use_here : (i : ℕ) → 1 ≤ i → i ≤ rules → Passed g γ i next → ((h : Grammar) (r : Rule) → RuleFormed h r → RuleIn items i r → Seeks next r.groups γ x)
        → first_use g.rules γ ≡ use_after x (groups_in (drop i g.rules)) γ
    use_here zero a b e sought = absurd (omega (arith, a))
    use_here (suc done) a b e sought =
        e done refl
        ∙ (ap (λ (l : List Rule). use_from next (groups_in l) γ) (drop_at g.rules done here.1)
        ∙ (sought g here.0 (formed.formed (suc done) here.1) (holds.rule_in (suc done) here.1)).use_is (groups_in (drop (suc done) g.rules)))
      where
        here : (r : Rule) × (rule_at g (suc done) ≡ some r)
        here = at_below g.rules done (omega (arith, b, holds.count))

    module _ (i : ℕ) (a : 1 ≤ i) (b : i ≤ rules) (e : Passed g γ i next) (sought : (h : Grammar) (r : Rule) → RuleFormed h r → RuleIn items i r → Seeks next r.groups γ x) where
      pub rules_found : {k : ℕ} → x ≡ Search.Found k → k ≡ first_use g.rules γ
      rules_found q = sym (use_here i a b e sought ∙ simp q)

      pub rules_more : {k : ℕ} → x ≡ Search.Passed k → Passed g γ (i + 1) k
      rules_more {k} q done s = use_here i a b e sought ∙ (ap (λ (y : Search). use_after y (groups_in (drop i g.rules)) γ) q ∙ ap (λ (n : ℕ). use_from k (groups_in (drop n g.rules)) γ) (let z : i ≡ done = omega (arith, s) in z))

  pub rules_end : {i next : ℕ} → 1 ≤ i → rules < i → Passed g γ i next → 0 ≡ first_use g.rules γ
  rules_end {i = zero} a l e = absurd (omega (arith, a))
  rules_end {i = suc done} {next} a l e = sym (e done refl ∙ ap (λ (rs : List Rule). use_from next (groups_in rs) γ) (drop_of_length-le g.rules {i = done} (omega (arith, l, holds.count))))
