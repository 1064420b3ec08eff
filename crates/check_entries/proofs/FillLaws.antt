-- How a rule's row of entries is filled, group by group.
use Prim.Native.Nat.{ℕ, zero, suc, ◌+◌, ◌-◌, ◌*◌, ◌≤◌, ◌<◌}
use mathlib.Core.Path.{◌≡◌, refl, sym, ap, subst, ◌∙◌}
use mathlib.Core.Logic.{◌⊎◌, inl, inr}
use mathlib.Core.List.{List, [], ◌∷◌, ◌++◌, map, map-append, append_assoc, append-nil}
use mathlib.Core.Option.{some}
use native.Mathlib.Decide.{ℕ_discrete}
use native.Mathlib.Omega.{arith}
use lib.ListN.{length, get_or, set, length-append, length-map}
use lib.Seq.{get_or-set_same, get_or-set_other}
use Rattle.language.specs.Grammar.{Grammar, Rule, rule_at}
use Rattle.language.specs.Sentence.{In, here, there}
use Rattle.leftcorner.specs.Table.{Table, entry_from}
use Rattle.leftcorner.specs.Construction.{EntryAt, of_group}
use Rattle.items.specs.Layout.{length_at, mark_at}
use Rattle.fixpoint.specs.Flags.{On}
use Rattle.fixpoint.proofs.CountLaws.{on_set, only_set, keep_set}
use Rattle.item_groups.specs.Groups.{GroupEnd}
use Rattle.item_groups.proofs.GroupLaws.{base_of, base_more, Current, current, none_left}
use Rattle.check_entries.specs.Parts.{FindsEntry}
use Rattle.check_entries.specs.declared.EntryFault.{EntryFault}
use Rattle.check_entries.specs.Uses.{HoldsStrings, WantedEntry, FilledRule}
use Rattle.check_entries.proofs.PartLaws.{found_entry, found_number, found_none}

-- ---- one more at the end of a list
snoc_same : (l : List ℕ) (v : ℕ) → get_or (l ++ v ∷ []) (length l) 0 ≡ v
snoc_same [] v = refl
snoc_same (x ∷ l) v = snoc_same l v

snoc_other : (l : List ℕ) (v n : ℕ) → (n ≡ length l → ⊥) → get_or (l ++ v ∷ []) n 0 ≡ get_or l n 0
snoc_other [] v zero f = absurd (f refl)
snoc_other [] v (suc n) f = refl
snoc_other (x ∷ l) v zero f = refl
snoc_other (x ∷ l) v (suc n) f = snoc_other l v n (λ e. f (ap suc e))

in_more : {A : Type 0} {x y z : A} {l : List A} → In x l ⊎ (x ≡ y) → In x (z ∷ l) ⊎ (x ≡ y)
in_more (inl m) = inl (there m)
in_more (inr e) = inr e

in_snoc : {A : Type 0} {x : A} (l : List A) {y : A} → In x (l ++ y ∷ []) → In x l ⊎ (x ≡ y)
in_snoc [] here = inr refl
in_snoc [] (there m) = elim m [ ]
in_snoc (z ∷ l) here = inl here
in_snoc (z ∷ l) (there m) = in_more (in_snoc l m)

module _ (g : Grammar) (t : Table) where
  abbrev pub number : List ℕ → ℕ
  number γ = entry_from 1 t.entries γ

  -- the groups `done` of rule i are noted and flagged; the next one begins at `from`
  pub record Filling (i : ℕ) (r : Rule) (uses₀ uses wanted₀ wanted : List ℕ) (from j : ℕ) : Type 0 where
    pub done : List (List ℕ)
    pub todo : List (List ℕ)
    pub split : r.groups ≡ done ++ todo
    pub counted : length done ≡ j
    pub place : from ≡ base_of r done
    pub row : (n : ℕ) → n < 16 → get_or uses (i * 16 + n) 0 ≡ get_or (map number done) n 0
    pub outside : (x : ℕ) → (i * 16 ≤ x → x < i * 16 + 16 → ⊥) → get_or uses x 0 ≡ get_or uses₀ x 0
    pub entered : (γ : List ℕ) → In γ done → (k : ℕ) × (s : ℕ) × EntryAt g t k s γ
    pub flagged : (γ : List ℕ) → In γ done → On wanted (number γ)
    pub kept : (k : ℕ) → On wanted₀ k → On wanted k
    pub only : (k : ℕ) → On wanted k → On wanted₀ k ⊎ WantedEntry g t k

  module _ {items : List ℕ} {rules strings : ℕ} (S : HoldsStrings g t items rules strings) (i : ℕ) (r : Rule) (is_rule : rule_at g i ≡ some r) where
    pub filling_start : {uses wanted : List ℕ} {from : ℕ} → from ≡ mark_at items i → ((n : ℕ) → n < 16 → get_or uses (i * 16 + n) 0 ≡ 0)
        → Filling i r uses uses wanted wanted from 0
    filling_start {uses} {wanted} {from} e zeros = record {
      done = [];
      todo = r.groups;
      split = refl;
      counted = refl;
      place = let w = (S.holds_items.rule_row i is_rule).mark_is in omega (arith, e, w);
      row = zeros;
      outside = λ x f. refl;
      entered = λ γ m. elim m [ ];
      flagged = λ γ m. elim m [ ];
      kept = λ k o. o;
      only = λ k o. inl o;
    }

    module _ {uses₀ uses wanted₀ wanted : List ℕ} {from to j x : ℕ} (F : Filling i r uses₀ uses wanted₀ wanted from j) (l : from < length_at items i)
        (G : GroupEnd items i from to) (E : FindsEntry items rules strings i from (to - from) x) where
      c : Current r F.done F.todo to
      c = current (S.formed.formed i is_rule) (S.holds_items.rule_row i is_rule) F.done F.todo F.split F.place l G

      width : to - from ≡ length c.group
      width = omega (arith, c.end, F.place)

      finds : FindsEntry items rules strings i (base_of r F.done) (to - from) x
      finds = subst (λ (f : ℕ). FindsEntry items rules strings i f (to - from) x) F.place E

      pub filling_fails : x ≡ 0 → FilledRule g t i r uses₀ uses wanted₀ wanted (EntryFault.Bare i from to)
      filling_fails z = record {
        fault = record {
          is = record {
            rule = r;
            is_rule = is_rule;
            earlier = F.done;
            group = c.group;
            later = c.others;
            split = c.split;
            begins = F.place;
            ends = omega (arith, c.end, F.place);
            none = λ k s e. found_none g t S i r is_rule F.done c.group c.others c.split width finds z k e;
          };
        };
        outside = F.outside;
        kept = F.kept;
        only = F.only;
      }

      module _ (some_entry : x ≡ 0 → ⊥) (few : j < 16) (low : i ≤ 127) (room : length uses ≡ 2048) (flags : length wanted ≡ 128) (low-entry : x < 128) where
        entry : (s : ℕ) × EntryAt g t x s c.group
        entry = found_entry g t S i r is_rule F.done c.group c.others c.split width finds some_entry

        number_is : number c.group ≡ x
        number_is = found_number g t S i r is_rule F.done c.group c.others c.split width finds some_entry

        new_row : (n : ℕ) → n < 16 → Dec (n ≡ j) → get_or (set uses (i * 16 + j) x) (i * 16 + n) 0 ≡ get_or (map number F.done ++ number c.group ∷ []) n 0
        new_row n b (yes e) =
            ap (λ (m : ℕ). get_or (set uses (i * 16 + j) x) (i * 16 + m) 0) e
            ∙ (get_or-set_same uses (i * 16 + j) x 0 (omega arith)
            ∙ (sym number_is ∙ (sym (snoc_same (map number F.done) (number c.group))
            ∙ ap (λ (m : ℕ). get_or (map number F.done ++ number c.group ∷ []) m 0)
            (let z : length (map number F.done) ≡ n = length-map F.done number ∙ (F.counted ∙ sym e) in z))))
        new_row n b (no f) =
            get_or-set_other uses (i * 16 + j) (i * 16 + n) x 0 (λ e. f (omega (arith, e)))
            ∙ (F.row n b ∙ sym (snoc_other (map number F.done) (number c.group) n (λ e. f (e ∙ (length-map F.done number ∙ F.counted)))))

        new_entered : (γ : List ℕ) → In γ F.done ⊎ (γ ≡ c.group) → (k : ℕ) × (s : ℕ) × EntryAt g t k s γ
        new_entered γ (inl m) = F.entered γ m
        new_entered γ (inr e) = (x, entry.0, subst (EntryAt g t x entry.0) (sym e) entry.1)

        new_flagged : (γ : List ℕ) → In γ F.done ⊎ (γ ≡ c.group) → On (set wanted x 1) (number γ)
        new_flagged γ (inl m) = keep_set wanted x (omega arith) (number γ) (F.flagged γ m)
        new_flagged γ (inr e) = subst (On (set wanted x 1)) (sym (ap number e ∙ number_is)) (on_set wanted x (omega arith))

        more : Filling i r uses₀ (set uses (i * 16 + j) x) wanted₀ (set wanted x 1) to (j + 1)
        more = record {
          done = F.done ++ c.group ∷ [];
          todo = c.others;
          split = c.split ∙ sym (append_assoc F.done (c.group ∷ []) c.others);
          counted = length-append F.done (c.group ∷ []) ∙ ap (λ (m : ℕ). m + 1) F.counted;
          place = omega (arith, c.end, base_more r F.done c.group);
          row = λ n b. new_row n b (ℕ_discrete n j) ∙ ap (λ (m : List ℕ). get_or m n 0) (sym (map-append number F.done (c.group ∷ [])));
          outside = λ y f. get_or-set_other uses (i * 16 + j) y x 0 (λ e. f (omega (arith, e)) (omega (arith, e))) ∙ F.outside y f;
          entered = λ γ m. new_entered γ (in_snoc F.done m);
          flagged = λ γ m. new_flagged γ (in_snoc F.done m);
          kept = λ k o. keep_set wanted x (omega arith) k (F.kept k o);
          only = only_set (λ (k : ℕ). On wanted₀ k ⊎ WantedEntry g t k) wanted x F.only
              (inr (record { state = entry.0; string = c.group; is_entry = entry.1; wanted = of_group i is_rule c.is_group_lem }));
        }

        pub filling_more : {uses' wanted' : List ℕ} → uses' ≡ set uses (i * 16 + j) x → wanted' ≡ set wanted x 1 → Filling i r uses₀ uses' wanted₀ wanted' to (j + 1)
        filling_more {uses'} {wanted'} eu ew =
            subst (λ (m : List ℕ). Filling i r uses₀ uses' wanted₀ m to (j + 1)) (sym ew)
            (subst (λ (m : List ℕ). Filling i r uses₀ m wanted₀ (set wanted x 1) to (j + 1)) (sym eu) more)

    -- nothing is left
    pub filling_ends : {uses₀ uses wanted₀ wanted : List ℕ} {from j : ℕ} → Filling i r uses₀ uses wanted₀ wanted from j → length_at items i ≤ from
        → FilledRule g t i r uses₀ uses wanted₀ wanted EntryFault.Nothing
    filling_ends F l =
        let none = none_left (S.formed.formed i is_rule) (S.holds_items.rule_row i is_rule) F.done F.todo F.split F.place l in
        let all : r.groups ≡ F.done = F.split ∙ (ap (λ (d : List (List ℕ)). F.done ++ d) none ∙ append-nil F.done) in
        record {
          fault = record {
            is = record {
              entered = λ γ m. F.entered γ (subst (In γ) all m);
              row = λ n h. F.row n h ∙ ap (λ (d : List (List ℕ)). get_or (map number d) n 0) (sym all);
              flagged = λ γ m. F.flagged γ (subst (In γ) all m);
            };
          };
          outside = F.outside;
          kept = F.kept;
          only = F.only;
        }
