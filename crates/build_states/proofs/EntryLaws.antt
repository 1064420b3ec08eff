-- The entries: each wanted string once, the goal alone first; entry k's state is k.
use Prim.Native.Nat.{ℕ, zero, suc, ◌+◌, ◌≤◌}
use native.Mathlib.Omega.{arith}
use mathlib.Core.Path.{◌≡◌, refl, sym, ap, subst, ◌∙◌}
use mathlib.Core.Logic.{◌⊎◌, inl, inr}
use mathlib.Core.List.{List, [], ◌∷◌}
use mathlib.Core.Option.{some}
use lib.ListN.{length}
use Rattle.language.specs.Grammar.{Grammar, Rule, at}
use Rattle.language.specs.Sentence.{In, here, there}
use Rattle.language.proofs.Member.{in_cons}
use Rattle.language.proofs.GrammarLaws.{at_range}
use Rattle.leftcorner.specs.Table.{EntryLine, E, Table, entry_from}
use Rattle.leftcorner.specs.Construction.{Wanted, of_goal, of_group, EntryAt, EntriesMeet}
use Rattle.leftcorner.proofs.ReadOff.{clash, entry_found}
use Rattle.build_states.specs.Strings.{add_string, add_groups, add_rules, entry_strings, entry_lines}
use Rattle.build_states.proofs.Distinct.{Distinct, Extends, stays, extends_trans, longer, still_in, at_in, in_at, distinct_at, join_extends, join_distinct, join_in, join_only}

-- ---- the groups of one rule

pub groups_extend : (l γs : List (List ℕ)) → Extends l (add_groups l γs)
unfolding add_groups
groups_extend l [] = stays l
groups_extend l (γ ∷ γs) = extends_trans (join_extends l γ) (groups_extend (add_string l γ) γs)

groups_distinct : (l γs : List (List ℕ)) → Distinct l → Distinct (add_groups l γs)
unfolding add_groups
groups_distinct l [] d = d
groups_distinct l (γ ∷ γs) d = groups_distinct (add_string l γ) γs (join_distinct l γ d)

groups_in : {γ : List ℕ} (l : List (List ℕ)) {γs : List (List ℕ)} → In γ γs → In γ (add_groups l γs)
unfolding add_groups
groups_in {γ = γ} l (here {l = γs}) = still_in (groups_extend (add_string l γ) γs) (join_in l γ)
groups_in l (there {y = δ} m) = groups_in (add_string l δ) m

groups_only : (l γs : List (List ℕ)) (γ : List ℕ) → In γ (add_groups l γs) → In γ l ⊎ In γ γs
unfolding add_groups
groups_only l [] γ m = inl m
groups_only l (δ ∷ γs) γ m = go (groups_only (add_string l δ) γs γ m)
  where
    one : In γ l ⊎ (γ ≡ δ) → In γ l ⊎ In γ (δ ∷ γs)
    one (inl n) = inl n
    one (inr e) = inr (subst (λ (x : List ℕ). In γ (x ∷ γs)) e here)

    go : In γ (add_string l δ) ⊎ In γ γs → In γ l ⊎ In γ (δ ∷ γs)
    go (inl n) = one (join_only l δ γ n)
    go (inr n) = inr (there n)

-- ---- the groups of all rules

pub rules_extend : (l : List (List ℕ)) (rs : List Rule) → Extends l (add_rules l rs)
unfolding add_rules
rules_extend l [] = stays l
rules_extend l (r ∷ rs) = extends_trans (groups_extend l r.groups) (rules_extend (add_groups l r.groups) rs)

rules_distinct : (l : List (List ℕ)) (rs : List Rule) → Distinct l → Distinct (add_rules l rs)
unfolding add_rules
rules_distinct l [] d = d
rules_distinct l (r ∷ rs) d = rules_distinct (add_groups l r.groups) rs (groups_distinct l r.groups d)

rules_in : {r : Rule} (l : List (List ℕ)) {γ : List ℕ} {rs : List Rule} → In r rs → In γ r.groups → In γ (add_rules l rs)
unfolding add_rules
rules_in {r = r} l (here {l = rs}) m = still_in (rules_extend (add_groups l r.groups) rs) (groups_in l m)
rules_in l (there {y = s} n) m = rules_in (add_groups l s.groups) n m

rules_only : (l : List (List ℕ)) (rs : List Rule) (γ : List ℕ) → In γ (add_rules l rs) → In γ l ⊎ ((r : Rule) × In r rs × In γ r.groups)
unfolding add_rules
rules_only l [] γ m = inl m
rules_only l (s ∷ rs) γ m = go (rules_only (add_groups l s.groups) rs γ m)
  where
    one : In γ l ⊎ In γ s.groups → In γ l ⊎ ((r : Rule) × In r (s ∷ rs) × In γ r.groups)
    one (inl n) = inl n
    one (inr n) = inr (s, here, n)

    go : In γ (add_groups l s.groups) ⊎ ((r : Rule) × In r rs × In γ r.groups) → In γ l ⊎ ((r : Rule) × In r (s ∷ rs) × In γ r.groups)
    go (inl n) = one (groups_only l s.groups γ n)
    go (inr h) = inr (h.0, there h.1, h.2)

-- ---- entry lines

pub line_at : (a : ℕ) (l : List (List ℕ)) (j s : ℕ) (γ : List ℕ) → at (entry_lines a l) j ≡ some (E s γ) → (s ≡ a + j) × (at l j ≡ some γ)
line_at a [] j s γ e = clash cc
line_at a (δ ∷ l) zero s γ e = (let f : a ≡ s = cc in omega arith, let f : δ ≡ γ = cc in ap (λ (x : List ℕ). some x) f)
line_at a (δ ∷ l) (suc j) s γ e = let r = line_at (suc a) l j s γ e in (omega (arith, r.0), r.1)

pub at_line : (a : ℕ) (l : List (List ℕ)) (j : ℕ) (γ : List ℕ) → at l j ≡ some γ → at (entry_lines a l) j ≡ some (E (a + j) γ)
at_line a [] j γ e = clash cc
at_line a (δ ∷ l) zero γ e = let f : δ ≡ γ = cc in let z : a ≡ a + 0 = omega arith in ap (λ (n : ℕ). some (E n δ)) z ∙ ap (λ (x : List ℕ). some (E (a + 0) x)) f
at_line a (δ ∷ l) (suc j) γ e = let z : suc a + j ≡ a + suc j = omega arith in at_line (suc a) l j γ e ∙ ap (λ (n : ℕ). some (E n γ)) z

pub lines_length : (a : ℕ) (l : List (List ℕ)) → length (entry_lines a l) ≡ length l
lines_length a [] = refl
lines_length a (γ ∷ l) = ap suc (lines_length (suc a) l)

module _ (g : Grammar) where
  abbrev pub goal_first : List (List ℕ)
  goal_first = (g.goal ∷ []) ∷ []

  pub strings_extend : Extends goal_first (entry_strings g)
  unfolding entry_strings
  strings_extend = rules_extend goal_first g.rules

  -- "the goal alone" first
  pub goal_at : at (entry_strings g) 0 ≡ some (g.goal ∷ [])
  goal_at = ap (λ (l : List (List ℕ)). at l 0) strings_extend.is

  pub some_entry : 1 ≤ length (entry_strings g)
  some_entry = longer strings_extend

  -- "every other distinct group once"
  pub strings_distinct : Distinct (entry_strings g)
  unfolding entry_strings
  strings_distinct = rules_distinct goal_first g.rules (λ m. elim m [ ], tt)

  pub strings_wanted : (γ : List ℕ) → In γ (entry_strings g) → Wanted g γ
  unfolding entry_strings
  strings_wanted γ m = go (rules_only goal_first g.rules γ m)
    where
      one : (γ ≡ g.goal ∷ []) ⊎ In γ [] → Wanted g γ
      one (inl e) = of_goal e
      one (inr n) = elim n [ ]

      go : In γ goal_first ⊎ ((r : Rule) × In r g.rules × In γ r.groups) → Wanted g γ
      go (inl n) = one (in_cons n)
      go (inr h) = let i = in_at h.1 in of_group (suc i.0) i.1 h.2

  pub wanted_string : {γ : List ℕ} → Wanted g γ → In γ (entry_strings g)
  unfolding entry_strings
  wanted_string (of_goal e) = still_in strings_extend (subst (λ (x : List ℕ). In x goal_first) (sym e) here)
  wanted_string (of_group zero e m) = clash cc
  wanted_string (of_group (suc i) {r = r} e m) = rules_in goal_first (at_in g.rules i r e) m

  -- ---- a table with these entries

  module _ (t : Table) (same : t.entries ≡ entry_lines 1 (entry_strings g)) where
    -- entry k's state is k
    pub entry_line : (k : ℕ) {s : ℕ} {γ : List ℕ} → EntryAt g t k s γ → (s ≡ k) × (1 ≤ k) × (k ≤ length (entry_strings g)) × Wanted g γ
    entry_line zero e = clash cc
    entry_line (suc j) {s = s} {γ = γ} e =
        let r = line_at 1 (entry_strings g) j s γ (sym (ap (λ (l : List EntryLine). at l j) same) ∙ e) in
        (omega (arith, r.0), omega arith, at_range (entry_strings g) j r.1, strings_wanted γ (at_in (entry_strings g) j γ r.1))

    pub entry_at_lem : (j : ℕ) {γ : List ℕ} → at (entry_strings g) j ≡ some γ → EntryAt g t (suc j) (suc j) γ
    entry_at_lem j {γ = γ} e =
        let z : 1 + j ≡ suc j = omega arith in
        ap (λ (l : List EntryLine). at l j) same ∙ at_line 1 (entry_strings g) j γ e ∙ ap (λ (n : ℕ). some (E n γ)) z

    pub one_entry : (j k s u : ℕ) (γ : List ℕ) → EntryAt g t j s γ → EntryAt g t k u γ → j ≡ k
    one_entry zero k s u γ e f = clash cc
    one_entry (suc j) zero s u γ e f = clash cc
    one_entry (suc j) (suc k) s u γ e f =
        ap suc (distinct_at (entry_strings g) j k γ strings_distinct (line_at 1 (entry_strings g) j s γ (sym (ap (λ (l : List EntryLine). at l j) same) ∙ e)).1
        (line_at 1 (entry_strings g) k u γ (sym (ap (λ (l : List EntryLine). at l k) same) ∙ f)).1)

    pub wanted_entry : {γ : List ℕ} → Wanted g γ → (k : ℕ) × EntryAt g t k k γ
    wanted_entry w = let r = in_at (wanted_string w) in (suc r.0, entry_at_lem r.0 r.1)

    pub entries_meet : EntriesMeet g t
    entries_meet = record {
      goal_first = (1, entry_at_lem 0 goal_at);
      only_wanted = λ k s γ e. (entry_line k e).3;
      all_wanted = λ γ w. let r = wanted_entry w in (r.0, r.0, r.1);
    }

    -- the entry that is found for a string is the one that has it
    pub entry_number : (k : ℕ) {s : ℕ} {γ : List ℕ} → EntryAt g t k s γ → entry_from 1 t.entries γ ≡ k
    entry_number zero e = clash cc
    entry_number (suc j) {s = s} {γ = γ} e =
        let r = entry_found t.entries γ 0 j s e in
        let z = one_entry (suc r.0) (suc j) r.1 s γ r.2 e in
        omega (arith, r.3, z)

    pub found_entry : {γ : List ℕ} → Wanted g γ → EntryAt g t (entry_from 1 t.entries γ) (entry_from 1 t.entries γ) γ
    found_entry {γ = γ} w = let r = wanted_entry w in subst (λ (n : ℕ). EntryAt g t n n γ) (sym (entry_number r.0 r.1)) r.1
