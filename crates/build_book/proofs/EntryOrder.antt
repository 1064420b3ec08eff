-- The entry lines of the book follow the first use of their group: each group that is new joins where it is met.
use Prim.Native.Nat.{ℕ, suc, ◌+◌}
use native.Mathlib.Omega.{arith}
use mathlib.Core.Path.{◌≡◌, refl, sym, ap, subst, ◌∙◌}
use mathlib.Core.Logic.{◌⊎◌, inl, inr}
use mathlib.Core.List.{List, [], ◌∷◌, ◌++◌, append_assoc, append-nil}
use lib.ListN.{length}
use Rattle.language.specs.Grammar.{Grammar, Rule}
use Rattle.language.specs.Sentence.{In, here}
use Rattle.language.proofs.Member.{in_left, in_right}
use Rattle.table_order.specs.Order.{groups_in, use_from, first_use, use_key}
use Rattle.table_order.proofs.OrderLaws.{Below, Above, RisingBy, rising_on}
use Rattle.table_order.proofs.UseLaws.{use_at, use_low, groups_rise, EntriesFollow}
use Rattle.build_states.specs.Strings.{add_string, add_groups, add_rules, entry_strings, entry_lines}
use Rattle.build_states.proofs.Distinct.{in_end, joined}

-- ---- the groups of all rules as one list
groups_join : (l a b : List (List ℕ)) → add_groups l (a ++ b) ≡ add_groups (add_groups l a) b
unfolding add_groups
groups_join l [] b = refl
groups_join l (γ ∷ a) b = groups_join (add_string l γ) a b

rules_groups : (l : List (List ℕ)) (rs : List Rule) → add_rules l rs ≡ add_groups l (groups_in rs)
unfolding add_rules add_groups
rules_groups l [] = refl
rules_groups l (r ∷ rs) = rules_groups (add_groups l r.groups) rs ∙ sym (groups_join l r.groups (groups_in rs))

-- ---- strings joined in the order of their first use
module _ (all : List (List ℕ)) where
  abbrev use_of : List ℕ → List ℕ
  use_of γ = use_from 1 all γ ∷ []

  -- the groups `done` have joined `first`, of which l came
  record Joined (done : List (List ℕ)) (l : List (List ℕ)) : Type 0 where
    first : List ℕ
    others : List (List ℕ)
    is : l ≡ first ∷ others
    seen : (δ : List ℕ) → In δ done → In δ l
    used : (γ : List ℕ) → In γ others → In γ done
    rise : RisingBy use_of others

  module _ {done : List (List ℕ)} (δ : List ℕ) (todo : List (List ℕ)) (split : all ≡ done ++ δ ∷ todo) {l : List (List ℕ)} (J : Joined done l) where
    seen_more : {m : List (List ℕ)} → ((γ : List ℕ) → In γ l → In γ m) → In δ m → (γ : List ℕ) → In γ (done ++ δ ∷ []) → In γ m
    seen_more {m} f n γ k = go (in_end γ δ done k)
      where
        go : In γ done ⊎ (γ ≡ δ) → In γ m
        go (inl p) = f γ (J.seen γ p)
        go (inr e) = subst (λ (ε : List ℕ). In ε m) (sym e) n

    known : In δ l → Joined (done ++ δ ∷ []) l
    known n = record {
      first = J.first;
      others = J.others;
      is = J.is;
      seen = seen_more (λ γ k. k) n;
      used = λ γ k. in_left (δ ∷ []) (J.used γ k);
      rise = J.rise;
    }

    new : (In δ l → ⊥) → Joined (done ++ δ ∷ []) (l ++ δ ∷ [])
    new f = record {
      first = J.first;
      others = J.others ++ δ ∷ [];
      is = ap (λ (m : List (List ℕ)). m ++ δ ∷ []) J.is;
      seen = seen_more (λ γ k. in_left (δ ∷ []) k) (in_right l here);
      used = used;
      rise = rising_on use_of J.others δ J.rise below;
    }
      where
        used : (γ : List ℕ) → In γ (J.others ++ δ ∷ []) → In γ (done ++ δ ∷ [])
        used γ k = go (in_end γ δ J.others k)
          where
            go : In γ J.others ⊎ (γ ≡ δ) → In γ (done ++ δ ∷ [])
            go (inl p) = in_left (δ ∷ []) (J.used γ p)
            go (inr e) = subst (λ (ε : List ℕ). In ε (done ++ δ ∷ [])) (sym e) (in_right done here)

        below : (γ : List ℕ) → In γ J.others → Below (use_of γ) (use_of δ)
        below γ k =
            let here-is : use_from 1 all δ ≡ 1 + length done = ap (λ (m : List (List ℕ)). use_from 1 m δ) split ∙ use_at 1 done δ todo (λ p. f (J.seen δ p)) in
            let there-is : use_from 1 all γ ≡ use_from 1 (done ++ δ ∷ todo) γ = ap (λ (m : List (List ℕ)). use_from 1 m γ) split in
            inl (omega (arith, here-is, there-is, use_low 1 (δ ∷ todo) (J.used γ k)))

    join : Joined (done ++ δ ∷ []) (add_string l δ)
    join = joined l (Joined (done ++ δ ∷ [])) δ known new

  join_all : (done todo : List (List ℕ)) → all ≡ done ++ todo → (l : List (List ℕ)) → Joined done l → Joined all (add_groups l todo)
  unfolding add_groups
  join_all done [] split l J = subst (λ (m : List (List ℕ)). Joined m l) (sym (split ∙ append-nil done)) J
  join_all done (δ ∷ todo) split l J = join_all (done ++ δ ∷ []) todo (split ∙ sym (append_assoc done (δ ∷ []) todo)) (add_string l δ) (join δ todo split J)

-- ---- the lines
module _ (rs : List Rule) where
  lines_above : (k : List ℕ) (a : ℕ) (l : List (List ℕ)) → Above (λ (γ : List ℕ). first_use rs γ ∷ []) k l → Above (use_key rs) k (entry_lines a l)
  lines_above k a [] h = tt
  lines_above k a (γ ∷ l) h = (h.0, lines_above k (suc a) l h.1)

  lines_rise : (a : ℕ) (l : List (List ℕ)) → RisingBy (λ (γ : List ℕ). first_use rs γ ∷ []) l → RisingBy (use_key rs) (entry_lines a l)
  lines_rise a [] h = tt
  lines_rise a (γ ∷ l) h = (lines_above (first_use rs γ ∷ []) (suc a) l h.0, lines_rise (suc a) l h.1)

module _ (g : Grammar) where
  strings_joined : Joined (groups_in g.rules) (groups_in g.rules) (entry_strings g)
  unfolding entry_strings
  strings_joined =
      subst (Joined (groups_in g.rules) (groups_in g.rules)) (sym (rules_groups ((g.goal ∷ []) ∷ []) g.rules))
      (join_all (groups_in g.rules) [] (groups_in g.rules) refl ((g.goal ∷ []) ∷ [])
      (record { first = g.goal ∷ []; others = []; is = refl; seen = λ δ m. elim m [ ]; used = λ γ m. elim m [ ]; rise = tt }))

  pub entries_follow : EntriesFollow g.rules (entry_lines 1 (entry_strings g))
  entries_follow =
      let j = strings_joined in
      subst (λ (l : List (List ℕ)). EntriesFollow g.rules (entry_lines 1 l)) (sym j.is)
      (groups_rise g.rules (entry_lines 2 j.others) (lines_rise g.rules 2 j.others j.rise))
