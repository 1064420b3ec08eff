-- The rows of all rules, and the entry list that they make.
use Prim.Native.Nat.{ℕ, ◌+◌, ◌*◌, ◌≤◌, ◌<◌}
use mathlib.Core.Path.{◌≡◌, sym, ap, subst, ◌∙◌}
use mathlib.Core.Logic.{◌⊎◌, inl, inr}
use mathlib.Core.List.{List, [], ◌∷◌}
use mathlib.Core.Option.{some}
use native.Mathlib.Decide.{ℕ_discrete}
use native.Mathlib.Omega.{arith}
use lib.ListN.{length, get_or, replicate}
use Rattle.language.specs.Grammar.{Grammar, Rule, rule_at}
use Rattle.language.specs.Sentence.{In}
use Rattle.language.proofs.GrammarLaws.{rule_range, range_rule}
use Rattle.leftcorner.specs.Table.{EntryLine, E, Table, entry_at, entry_from}
use Rattle.leftcorner.specs.Construction.{EntryAt, Wanted, of_goal, of_group, EntriesMeet}
use Rattle.leftcorner.proofs.ReadOff.{entry_is}
use Rattle.items.specs.Layout.{length_at, symbol_at}
use Rattle.fixpoint.specs.Flags.{On, Off}
use Rattle.fixpoint.specs.Lowest.{Lowest}
use Rattle.fixpoint.specs.declared.Found.{Found}
use Rattle.fixpoint.proofs.PassLaws.{all_off, none_on}
use Rattle.memory.proofs.RangeLaws.{entry_at_lem, entry_range}
use Rattle.check_entries.specs.declared.EntryFault.{EntryFault}
use Rattle.check_entries.specs.Faults.{UnwantedEntry, EntryFaultIs}
use Rattle.check_entries.specs.Uses.{HoldsStrings, HoldsUses, entries_of, AllEntered, WantedEntry, RowFilled, FilledRule, Filled}
use Rattle.check_entries.proofs.PartLaws.{entry_row}
use Rattle.check_entries.proofs.FaultLaws.{fine, still}

module _ (g : Grammar) (t : Table) {items : List ℕ} {rules strings : ℕ} (S : HoldsStrings g t items rules strings) where
  rule_low : (j : ℕ) {r : Rule} → rule_at g j ≡ some r → j < rules + 1
  rule_low j e = omega (arith, (rule_range g j e).1, S.rule_count)

  pub filled_start : {uses wanted : List ℕ} → ((x : ℕ) → get_or uses x 0 ≡ 0) → Filled g t 1 uses wanted wanted
  filled_start z = record
      { row = λ j r l e. absurd (none j l e); rest = λ x l. z x; entered = λ j r l e. absurd (none j l e); flagged = λ j r l e. absurd (none j l e); only = λ k o. inl o }
    where
      none : (j : ℕ) {r : Rule} → j < 1 → rule_at g j ≡ some r → ⊥
      none j l e = omega (arith, l, (rule_range g j e).0)

  module _ {i : ℕ} {uses uses' wanted₀ wanted wanted' : List ℕ} {x : EntryFault} (low : 1 ≤ i) (high : i ≤ rules) (F : Filled g t i uses wanted₀ wanted)
      (R : (r : Rule) → rule_at g i ≡ some r → ((n : ℕ) → n < 16 → get_or uses (i * 16 + n) 0 ≡ 0) → FilledRule g t i r uses uses' wanted wanted' x) where
    here : (r : Rule) → rule_at g i ≡ some r → FilledRule g t i r uses uses' wanted wanted' x
    here r e = R r e (λ n l. F.rest (i * 16 + n) (omega arith))

    this : (r : Rule) × (rule_at g i ≡ some r)
    this = range_rule g i low (omega (arith, S.rule_count))

    -- a rule below i, or i
    by_rule : (P : ℕ → Type 0) (j : ℕ) → j < i + 1 → (j < i → P j) → P i → P j
    by_rule P j l f p = go (ℕ_discrete j i)
      where
        go : Dec (j ≡ i) → P j
        go (yes e) = subst P (sym e) p
        go (no n) = f (omega arith)

    pub filled_more : x ≡ EntryFault.Nothing → Filled g t (i + 1) uses' wanted₀ wanted'
    filled_more none = record {
      row = λ j r l. by_rule (λ (k : ℕ). rule_at g k ≡ some r → (n : ℕ) → n < 16 → get_or uses' (k * 16 + n) 0 ≡ get_or (entries_of t r) n 0) j l
          (λ below e n h. same (j * 16 + n) (λ a c. omega (arith, below, h, a)) ∙ F.row j r below e n h) (λ e. (new r e).row);
      rest = λ y l. same y (λ a c. omega (arith, l, c)) ∙ F.rest y (omega arith);
      entered = λ j r l. by_rule (λ (k : ℕ). rule_at g k ≡ some r → AllEntered g t r) j l (F.entered j r) (λ e. (new r e).entered);
      flagged = λ j r l. by_rule (λ (k : ℕ). rule_at g k ≡ some r → (γ : List ℕ) → In γ r.groups → On wanted' (entry_from 1 t.entries γ)) j l
          (λ below e γ m. it.kept (entry_from 1 t.entries γ) (F.flagged j r below e γ m)) (λ e. (new r e).flagged);
      only = λ k o. back k (it.only k o);
    }
      where
        it : FilledRule g t i this.0 uses uses' wanted wanted' x
        it = here this.0 this.1

        new : (r : Rule) → rule_at g i ≡ some r → RowFilled g t i r uses' wanted'
        new r e = fine (here r e).fault none

        same : (y : ℕ) → (i * 16 ≤ y → y < i * 16 + 16 → ⊥) → get_or uses' y 0 ≡ get_or uses y 0
        same = it.outside

        back : (k : ℕ) → On wanted k ⊎ WantedEntry g t k → On wanted₀ k ⊎ WantedEntry g t k
        back k (inl o) = F.only k o
        back k (inr w) = inr w

    pub filled_fails : (x ≡ EntryFault.Nothing → ⊥) → {Fine : Type 0} → EntryFaultIs g t Fine x
    filled_fails named = still x named (here this.0 this.1).fault

  pub filled_all : {i : ℕ} {uses wanted₀ wanted : List ℕ} → i ≡ rules + 1 → Filled g t i uses wanted₀ wanted
      → EntryFaultIs g t (Filled g t (rules + 1) uses wanted₀ wanted) EntryFault.Nothing
  filled_all {uses = uses} {wanted₀ = wanted₀} {wanted = wanted} e F = record { is = subst (λ (k : ℕ). Filled g t k uses wanted₀ wanted) e F }

  -- ---- the entry list
  abbrev pub GoalFirst : Type 0
  GoalFirst = (length_at items (rules + 1) ≡ 1) × (symbol_at items (rules + 1) 0 ≡ g.goal)

  one_symbol : (γ : List ℕ) {X : ℕ} → length γ ≡ 1 → get_or γ 0 0 ≡ X → γ ≡ X ∷ []
  one_symbol [] l e = absurd (omega (arith, l))
  one_symbol (Y ∷ []) l e = ap (λ (Z : ℕ). Z ∷ []) e
  one_symbol (Y ∷ Z ∷ γ) l e = absurd (omega (arith, l))

  pub goal_entry : 1 ≤ strings → GoalFirst → (s : ℕ) × EntryAt g t 1 s (g.goal ∷ [])
  goal_entry some_entry h = go (entry_at_lem t S.entry_count 1 (omega arith) (omega arith))
    where
      go : (x : EntryLine) × (entry_at t 1 ≡ some x) → (s : ℕ) × EntryAt g t 1 s (g.goal ∷ [])
      go (E s γ, e) =
          let w = entry_row g t S 1 e in
          (s, e ∙ ap (λ (m : List ℕ). some (E s m)) (one_symbol γ (sym w.length_is ∙ h.0) (sym (w.symbol_is 0 (omega arith)) ∙ h.1)))

  pub entry_goal : {s : ℕ} → EntryAt g t 1 s (g.goal ∷ []) → GoalFirst
  entry_goal e = let w = entry_row g t S 1 e in (w.length_is, w.symbol_is 0 (omega arith))

  same_entry : (k : ℕ) {s u : ℕ} {γ δ : List ℕ} → EntryAt g t k s γ → EntryAt g t k u δ → γ ≡ δ
  same_entry k e f = cc

  -- an entry after the goal's that is not flagged is neither the goal nor a group
  unwanted : {uses wanted₀ wanted : List ℕ} {u x s : ℕ} {γ : List ℕ} → EntryAt g t 1 u (g.goal ∷ []) → Filled g t (rules + 1) uses wanted₀ wanted → 2 ≤ x → Off wanted x
      → EntryAt g t x s γ → Wanted g γ → ⊥
  unwanted {u = u} {x = x} {s = s} {γ = γ} a F two off e (of_goal f) =
      let z : 1 ≡ x = S.fits.form.one_entry 1 x u s γ (subst (EntryAt g t 1 u) (sym f) a) e in
      omega (arith, two, z)
  unwanted {wanted = wanted} {x = x} {s = s} {γ = γ} a F two off e (of_group i {r = r} f n) =
      (F.flagged i r (rule_low i f) f γ n).nonzero (subst (λ (k : ℕ). get_or wanted k 0 ≡ 0) (sym (entry_is g t S.fits.form x s γ e)) off)

  module _ {uses wanted₀ wanted : List ℕ} (none : wanted₀ ≡ replicate 128 0) where
    pub entries_hold : 1 ≤ strings → GoalFirst → Filled g t (rules + 1) uses wanted₀ wanted
        → (high : ℕ) → strings < high → (r : Found) → Lowest (Off wanted) 2 high r → r ≡ Found.Nothing → EntriesMeet g t
    entries_hold some_entry h F high all r found is-r = record {
      goal_first = first;
      only_wanted = λ k s γ e. only_it k e (ℕ_discrete k 1);
      all_wanted = λ γ w. all_it w;
    }
      where
        low : Lowest (Off wanted) 2 high Found.Nothing
        low = subst (Lowest (Off wanted) 2 high) is-r found

        first : (s : ℕ) × EntryAt g t 1 s (g.goal ∷ [])
        first = goal_entry some_entry h

        from_flag : (k : ℕ) {s : ℕ} {γ : List ℕ} → EntryAt g t k s γ → On wanted₀ k ⊎ WantedEntry g t k → Wanted g γ
        from_flag k e (inl o) = all_off 128 none o
        from_flag k e (inr w) = subst (Wanted g) (same_entry k w.is_entry e) w.wanted

        only_it : (k : ℕ) {s : ℕ} {γ : List ℕ} → EntryAt g t k s γ → Dec (k ≡ 1) → Wanted g γ
        only_it k {s} {γ} e (yes f) = of_goal (same_entry 1 (subst (λ (j : ℕ). EntryAt g t j s γ) f e) first.1)
        only_it k e (no f) =
            let b = entry_range t S.entry_count k e in
            from_flag k e (F.only k (record { nonzero = λ z. low k (omega (arith, b.0, f)) (omega (arith, b.1, all)) z }))

        all_it : {γ : List ℕ} → Wanted g γ → (k : ℕ) × (s : ℕ) × EntryAt g t k s γ
        all_it (of_goal e) = (1, first.0, subst (EntryAt g t 1 first.0) (sym e) first.1)
        all_it {γ} (of_group i {r = r} e m) = F.entered i r (rule_low i e) e γ m

    pub entry_unwanted : {u : ℕ} → EntryAt g t 1 u (g.goal ∷ []) → Filled g t (rules + 1) uses wanted₀ wanted
        → (high : ℕ) → high ≤ strings + 1 → (r : Found) → Lowest (Off wanted) 2 high r → {x : ℕ} → r ≡ Found.At x → UnwantedEntry g t x
    entry_unwanted first F high few r found {x} is-r = go (entry_at_lem t S.entry_count x (omega (arith, low.0)) (omega (arith, low.1, few)))
      where
        low : Lowest (Off wanted) 2 high (Found.At x)
        low = subst (Lowest (Off wanted) 2 high) is-r found

        go : (y : EntryLine) × (entry_at t x ≡ some y) → UnwantedEntry g t x
        go (E s γ, e) = record { not_first = low.0; state = s; string = γ; is_entry = e; unwanted = unwanted first F low.0 low.2 e }

  pub uses_hold : {uses wanted₀ wanted : List ℕ} → Filled g t (rules + 1) uses wanted₀ wanted → HoldsUses uses g t
  uses_hold F = record { row = λ i r e. F.row i r (rule_low i e) e }

pub zeros_of : {l : List ℕ} (n : ℕ) → l ≡ replicate n 0 → (x : ℕ) → get_or l x 0 ≡ 0
zeros_of n e x = ap (λ (m : List ℕ). get_or m x 0) e ∙ none_on n x

pub lowest_range : (P : ℕ → Type 0) (low high : ℕ) (r : Found) {x : ℕ} → Lowest P low high r → r ≡ Found.At x → (low ≤ x) × (x < high)
lowest_range P low high r found e = let h = subst (Lowest P low high) e found in (h.0, h.1)
