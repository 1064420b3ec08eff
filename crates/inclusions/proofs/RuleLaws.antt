-- The groups of a rule, in memory and in the grammar, and the entries that they use.
use Prim.Native.Nat.{ℕ, zero, suc, ◌+◌, ◌*◌, ◌≤◌, ◌<◌}
use mathlib.Core.Path.{◌≡◌, refl, sym, ap, subst, ◌∙◌}
use mathlib.Core.Logic.{inl}
use mathlib.Core.Bool.{Bool, true, false, cond}
use mathlib.Core.List.{List, [], ◌∷◌, ◌++◌, map, append-nil, append_assoc}
use mathlib.Core.Option.{some}
use native.Mathlib.Decide.{dec_lt}
use native.Mathlib.Omega.{arith}
use lib.ListN.{length, get_or, drop, length-append}
use lib.Seq.{append_snoc, drop-append_seam}
use Rattle.language.specs.Grammar.{Grammar, Rule, rule_at, right, concat, at}
use Rattle.language.specs.Sentence.{In, here, there}
use Rattle.language.proofs.Member.{in_left, in_right}
use Rattle.language.proofs.Lists.{concat-++}
use Rattle.leftcorner.specs.Table.{EntryLine, E, Table, entry_at, entry_from, same_string}
use Rattle.leftcorner.specs.Construction.{EntryAt}
use Rattle.leftcorner.proofs.ReadOff.{same_string_lem}
use Rattle.leftcorner.proofs.Sources.{symbols_rule}
use Rattle.items.specs.Layout.{length_at, mark_at, RuleIn}
use Rattle.memory.specs.Held.{HoldsTable}
use Rattle.analysis.specs.Rests.{rest_at}
use Rattle.closure.proofs.ItemLaws.{item_held}
use Rattle.check_entries.specs.Uses.{HoldsUses}
use Rattle.item_groups.proofs.GroupLaws.{base_of, right-length}
use Rattle.item_groups.proofs.GroupLaws as groups
use Rattle.inclusions.specs.Groups.{group_end, group_from, group_begin}
use Rattle.inclusions.proofs.GroupLaws.{end_is, group_next, group_order}

-- ---- lists
split_list : {A : Type 0} (l : List A) (j : ℕ) → j < length l → (δs : List A) × (γ : A) × (εs : List A) × (l ≡ δs ++ γ ∷ εs) × (length δs ≡ j)
split_list [] j l = absurd (omega arith)
split_list (x ∷ l) zero h = ([], x, l, refl, refl)
split_list (x ∷ l) (suc j) h = let r = split_list l j (omega arith) in (x ∷ r.0, r.1, r.2, ap (λ (m : List _). x ∷ m) r.3, ap suc r.4)

map_at : {A : Type 0} (f : A → ℕ) (δs : List A) (γ : A) (εs : List A) → get_or (map f (δs ++ γ ∷ εs)) (length δs) 0 ≡ f γ
map_at f [] γ εs = refl
map_at f (δ ∷ δs) γ εs = map_at f δs γ εs

filled_length : (δs : List (List ℕ)) → ((δ : List ℕ) → In δ δs → δ ≡ [] → ⊥) → length δs ≤ length (concat δs)
filled_length [] f = omega arith
filled_length ([] ∷ δs) f = absurd (f [] here refl)
filled_length ((X ∷ δ) ∷ δs) f = omega (arith, filled_length δs (λ γ m. f γ (there m)), length-append δ (concat δs))

-- an entry that is found is one with that string
entry_some : (l : List EntryLine) (γ : List ℕ) (k : ℕ) → (entry_from (suc k) l γ ≡ 0 → ⊥) → (i : ℕ) × (s : ℕ) × (at l i ≡ some (E s γ)) × (entry_from (suc k) l γ ≡ suc (k + i))
entry_some [] γ k f = absurd (f refl)
entry_some (E p δ ∷ l) γ k f = go (same_string δ γ) refl f (λ h. entry_some l γ (suc k) h)
  where
    go : (b : Bool) → same_string δ γ ≡ b → (cond b (suc k) (entry_from (suc (suc k)) l γ) ≡ 0 → ⊥)
        → ((entry_from (suc (suc k)) l γ ≡ 0 → ⊥) → (i : ℕ) × (s : ℕ) × (at l i ≡ some (E s γ)) × (entry_from (suc (suc k)) l γ ≡ suc (suc k + i)))
        → (i : ℕ) × (s : ℕ) × (at (E p δ ∷ l) i ≡ some (E s γ)) × (cond b (suc k) (entry_from (suc (suc k)) l γ) ≡ suc (k + i))
    go true e h rec = (0, p, ap (λ (m : List ℕ). some (E p m)) (same_string_lem δ γ e), omega arith)
    go false e h rec = let r = rec h in (suc r.0, r.1, r.2, omega (arith, r.3))

pub found_entry : (g : Grammar) (t : Table) (γ : List ℕ) {e : ℕ} → e ≡ entry_from 1 t.entries γ → (e ≡ 0 → ⊥) → (s : ℕ) × EntryAt g t e s γ
found_entry g t γ {e} is f =
    let r = entry_some t.entries γ 0 (λ z. f (is ∙ z)) in
    (r.1, subst (λ (n : ℕ). entry_at t n ≡ some (E r.1 γ)) (let z : suc r.0 ≡ e = omega (arith, r.3, is) in z) r.2)

module _ (g : Grammar) (t : Table) {items entries kernels lookaheads kinds values gotos : List ℕ} {rules strings lines : ℕ}
    (H : HoldsTable g t items entries kernels lookaheads kinds values gotos rules strings lines) (i : ℕ) {r : Rule} (is_rule : rule_at g i ≡ some r) where
  row : RuleIn items i r
  row = H.holds_items.rule_row i is_rule

  filled : (γ : List ℕ) → In γ r.groups → 1 ≤ length γ
  filled γ m = go γ ((H.formed.formed i is_rule).filled γ m)
    where
      go : (γ : List ℕ) → (γ ≡ [] → ⊥) → 1 ≤ length γ
      go [] f = absurd (f refl)
      go (X ∷ γ) f = omega arith

  in_groups : (δs εs : List (List ℕ)) {γ : List ℕ} → r.groups ≡ δs ++ γ ∷ εs → In γ r.groups
  in_groups δs εs {γ} e = subst (In γ) (sym e) (in_right δs here)

  module _ (δs : List (List ℕ)) (γ : List ℕ) (εs : List (List ℕ)) (split : r.groups ≡ δs ++ γ ∷ εs) where
    pub base_low : base_of r δs < length_at items i
    base_low = omega (arith, row.length_is, right-length r δs (γ ∷ εs) split, length-append γ (concat εs), filled γ (in_groups δs εs split))

    end_at : group_end items i (base_of r δs) ≡ base_of r δs + length γ
    end_at = groups.end_is r δs γ εs split row (H.formed.formed i is_rule).short
        (λ ε m. (H.formed.formed i is_rule).filled ε (subst (In ε) (sym split) (in_right δs (there m)))) (filled γ (in_groups δs εs split)) refl
        (end_is items i (base_of r δs) base_low)

    base_next : base_of r δs + length γ ≡ base_of r (δs ++ γ ∷ [])
    base_next = omega (arith, ap length (concat-++ δs (γ ∷ [])), length-append (concat δs) (concat (γ ∷ [])), length-append γ [])

  begins : (γs δs εs : List (List ℕ)) → r.groups ≡ δs ++ (γs ++ εs) → group_from items i (base_of r δs) (length γs) ≡ base_of r (δs ++ γs)
  unfolding group_from
  begins [] δs εs e = ap (base_of r) (sym (append-nil δs))
  begins (γ ∷ γs) δs εs e =
      ap (λ (a : ℕ). group_from items i a (length γs)) (end_at δs γ (γs ++ εs) e ∙ base_next δs γ (γs ++ εs) e)
      ∙ (begins γs (δs ++ γ ∷ []) εs (e ∙ sym (append_snoc δs γ (γs ++ εs))) ∙ ap (base_of r) (append_snoc δs γ γs))

  mark_base : mark_at items i ≡ base_of r []
  mark_base = omega (arith, row.mark_is)

  module _ (δs : List (List ℕ)) (γ : List ℕ) (εs : List (List ℕ)) (split : r.groups ≡ δs ++ γ ∷ εs) where
    pub begin_at : group_begin items i (length δs) ≡ base_of r δs
    begin_at = ap (λ (a : ℕ). group_from items i a (length δs)) mark_base ∙ begins δs [] (γ ∷ εs) split

    pub next_at : group_begin items i (suc (length δs)) ≡ base_of r δs + length γ
    next_at = group_next items i (mark_at items i) (length δs) ∙ (ap (group_end items i) begin_at ∙ end_at δs γ εs split)

    -- what stands behind the group
    pub rest_at_lem : rest_at items i (group_begin items i (suc (length δs))) ≡ concat εs
    rest_at_lem =
        sym ((item_held items g t H.holds_items i (inl (r, is_rule)) (omega (arith, row.length_is, (H.formed.formed i is_rule).short))).symbols _)
        ∙ (ap (drop (group_begin items i (suc (length δs)))) (symbols_rule g t i r is_rule ∙ right_is)
        ∙ (ap (λ (n : ℕ). drop n (front ++ concat εs)) (next_at ∙ front_length) ∙ drop-append_seam front (concat εs)))
      where
        front : List ℕ
        front = r.before ++ (concat δs ++ γ)

        right_is : right r ≡ (r.before ++ (concat δs ++ γ)) ++ concat εs
        right_is = ap (λ (l : List (List ℕ)). r.before ++ concat l) split
            ∙ (ap (λ (l : List ℕ). r.before ++ l) (concat-++ δs (γ ∷ εs)) ∙ simp append_assoc)

        front_length : base_of r δs + length γ ≡ length (r.before ++ (concat δs ++ γ))
        front_length = omega (arith, length-append r.before (concat δs ++ γ), length-append (concat δs) γ)

    few_groups : length δs < 16
    few_groups =
        omega (
          arith,
          filled_length δs (λ δ m. (H.formed.formed i is_rule).filled δ (subst (In δ) (sym split) (in_left (γ ∷ εs) m))),
          base_low δs γ εs split,
          row.length_is,
          (H.formed.formed i is_rule).short,
        )

    pub use_at : {uses : List ℕ} → HoldsUses uses g t → get_or uses (i * 16 + length δs) 0 ≡ entry_from 1 t.entries γ
    use_at u = u.row i r is_rule (length δs) few_groups
        ∙ (ap (λ (l : List (List ℕ)). get_or (map (entry_from 1 t.entries) l) (length δs) 0) split ∙ map_at (entry_from 1 t.entries) δs γ εs)

  -- the group that begins somewhere before the end
  pub find_group : (j : ℕ) → group_begin items i j < length_at items i
      → (δs : List (List ℕ)) × (γ : List ℕ) × (εs : List (List ℕ)) × (r.groups ≡ δs ++ γ ∷ εs) × (length δs ≡ j)
  find_group j l = go (dec_lt j (length r.groups))
    where
      all_begin : group_begin items i (length r.groups) ≡ base_of r r.groups
      all_begin = ap (λ (a : ℕ). group_from items i a (length r.groups)) mark_base ∙ begins r.groups [] [] (sym (append-nil r.groups))

      go : Dec (j < length r.groups) → (δs : List (List ℕ)) × (γ : List ℕ) × (εs : List (List ℕ)) × (r.groups ≡ δs ++ γ ∷ εs) × (length δs ≡ j)
      go (yes u) = split_list r.groups j u
      go (no u) = absurd (omega (
        arith,
        l,
        group_order items i (mark_at items i) (length r.groups) j (omega arith),
        all_begin,
        row.length_is,
        length-append r.before (concat r.groups),
      ))
