-- What a grammar that was read and is within the builder's limits says of its items.
use Prim.Native.Nat.{ℕ, suc, ◌+◌, ◌-◌, ◌≤◌, ◌<◌}
use native.Mathlib.Omega.{arith}
use mathlib.Core.Path.{◌≡◌, refl, sym, ap, subst, ◌∙◌}
use mathlib.Core.Logic.{◌⊎◌, inl, inr}
use mathlib.Core.Bool.{Bool, true, false, cond}
use mathlib.Core.List.{List, [], ◌∷◌}
use mathlib.Core.Option.{Option, some, none}
use borrow.Author.Tests.{leb-false}
use lib.Dec.{leb}
use lib.ListN.{length, length-append, length-drop}
use Rattle.language.specs.Grammar.{Grammar, Rule, rule_at, concat, IsTerminal, IsNonterminal}
use Rattle.language.specs.Sentence.{In, here, there, Declared}
use Rattle.language.specs.WellFormed as grammar
use Rattle.language.proofs.Member.{in_drop}
use Rattle.language.proofs.GrammarLaws.{rule_range}
use Rattle.leftcorner.specs.Table.{EntryLine, E, Table, entry_at, string_of, right_of, symbols_of, Goes}
use Rattle.leftcorner.specs.Construction.{Wanted, of_goal, of_group, entry_item, EntryAt}
use Rattle.leftcorner.proofs.ItemStrings.{symbols_declared}
use Rattle.build_states.specs.Strings.{entry_strings, entry_lines}
use Rattle.build_states.proofs.EntryLaws.{entry_line, entries_meet}
use Rattle.build_states.specs.States.{total, states}

-- "The builder gives 2 for entries, states and kernel lines": where it does not
pub record Limits (g : Grammar) : Type 0 where
  pub formed : grammar.WellFormed g
  pub few_entries : length (entry_strings g) ≤ 127
  pub few_states : length (states g) ≤ 255
  pub few_lines : total (states g) ≤ 1023

pub declared : (g : Grammar) → grammar.WellFormed g → Declared g
declared g W = record {
  few_terminals = W.few_terminals;
  goal_kind = W.goal_declared;
  left_kind = λ i r e. (W.formed i e).left_declared;
  right_kind = λ i r X e m. (W.formed i e).declared X m;
}

group_short : (γ : List ℕ) (γs : List (List ℕ)) → In γ γs → length γ ≤ length (concat γs)
group_short γ (δ ∷ γs) here = omega (arith, length-append γ (concat γs))
group_short γ (δ ∷ γs) (there m) = omega (arith, length-append δ (concat γs), group_short γ γs m)
group_short γ [] m = elim m [ ]

module _ (g : Grammar) (W : grammar.WellFormed g) (t : Table) (same : t.entries ≡ entry_lines 1 (entry_strings g)) where
  pub wanted_short : {γ : List ℕ} → Wanted g γ → length γ ≤ 15
  wanted_short (of_goal e) = omega (arith, ap length e)
  wanted_short {γ = γ} (of_group i {r = r} e m) = omega (arith, (W.formed i e).short, length-append r.before (concat r.groups), group_short γ r.groups m)

  pub wanted_filled : {γ : List ℕ} → Wanted g γ → 1 ≤ length γ
  wanted_filled (of_goal e) = omega (arith, ap length e)
  wanted_filled {γ = γ} (of_group i e m) = filled γ ((W.formed i e).filled γ m)
    where
      filled : (γ : List ℕ) → (γ ≡ [] → ⊥) → 1 ≤ length γ
      filled [] f = absurd (f refl)
      filled (x ∷ γ) f = omega arith

  right_short : (i : ℕ) (o : Option Rule) → rule_at g i ≡ o → length (right_of o) ≤ 15
  right_short i none e = omega arith
  right_short i (some r) e = (W.formed i e).short

  string_short : (k : ℕ) (o : Option EntryLine) → entry_at t k ≡ o → length (string_of o) ≤ 15
  string_short k none e = omega arith
  string_short k (some (E s γ)) e = wanted_short (entry_line g t same k e).3

  symbols_short : (i : ℕ) → length (symbols_of g t i) ≤ 15
  symbols_short i = go (leb i (length g.rules))
    where
      go : (b : Bool) → length (cond b (right_of (rule_at g i)) (string_of (entry_at t (i - length g.rules)))) ≤ 15
      go true = right_short i (rule_at g i) refl
      go false = string_short (i - length g.rules) (entry_at t (i - length g.rules)) refl

  -- an item that has a symbol is a rule or an entry
  pub symbols_item : (i : ℕ) → 1 ≤ length (symbols_of g t i) → ((r : Rule) × (rule_at g i ≡ some r)) ⊎ ((j : ℕ) × (s : ℕ) × (γ : List ℕ) × (i ≡ entry_item g t j) × EntryAt g t j s γ)
  symbols_item i = go (leb i (length g.rules)) refl
    where
      Known : Type 0
      Known = ((r : Rule) × (rule_at g i ≡ some r)) ⊎ ((j : ℕ) × (s : ℕ) × (γ : List ℕ) × (i ≡ entry_item g t j) × EntryAt g t j s γ)

      of_rule : (o : Option Rule) → rule_at g i ≡ o → 1 ≤ length (right_of o) → Known
      of_rule none e l = absurd (omega (arith, l))
      of_rule (some r) e l = inl (r, e)

      of_entry : (o : Option EntryLine) → length g.rules < i → entry_at t (i - length g.rules) ≡ o → 1 ≤ length (string_of o) → Known
      of_entry none h e l = absurd (omega (arith, l))
      of_entry (some (E s γ)) h e l = inr (i - length g.rules, s, γ, omega (arith, h), e)

      go : (b : Bool) → leb i (length g.rules) ≡ b → 1 ≤ length (cond b (right_of (rule_at g i)) (string_of (entry_at t (i - length g.rules)))) → Known
      go true e l = of_rule (rule_at g i) refl l
      go false e l = of_entry (entry_at t (i - length g.rules)) (leb-false i (length g.rules) e) refl l

  symbols_low : (i : ℕ) → 1 ≤ length (symbols_of g t i) → i ≤ length g.rules + length (entry_strings g)
  symbols_low i l = go (symbols_item i l)
    where
      go : ((r : Rule) × (rule_at g i ≡ some r)) ⊎ ((j : ℕ) × (s : ℕ) × (γ : List ℕ) × (i ≡ entry_item g t j) × EntryAt g t j s γ) → i ≤ length g.rules + length (entry_strings g)
      go (inl h) = omega (arith, (rule_range g i h.1).1)
      go (inr h) = omega (arith, h.3, (entry_line g t same h.0 h.4).2)

  -- an item whose dot goes over X
  pub record Bounded (i k X : ℕ) : Type 0 where
    pub dot : suc k ≤ 15
    pub within : suc k ≤ length (symbols_of g t i)
    pub item : i ≤ length g.rules + length (entry_strings g)
    pub kind : IsTerminal g X ⊎ IsNonterminal g X

  pub bounded : {i k X : ℕ} {β : List ℕ} → Goes g t i k X β → Bounded i k X
  bounded {i = i} {k = k} {X = X} {β = β} h =
      let l : length (symbols_of g t i) - k ≡ suc (length β) = sym (length-drop k (symbols_of g t i)) ∙ ap length h.before in
      let s = symbols_short i in
      record {
        dot = omega (arith, l, s);
        within = omega (arith, l);
        item = symbols_low i (omega (arith, l));
        kind = symbols_declared g t (declared g W) (entries_meet g t same) i X (in_drop k (symbols_of g t i) (subst (λ (m : List ℕ). In X m) (sym h.before) here));
      }

  -- a symbol's code
  pub code_low : {X : ℕ} → IsTerminal g X ⊎ IsNonterminal g X → (1 ≤ X) × (X < 128)
  code_low (inl h) = (h.0, omega (arith, h.1, W.few_terminals))
  code_low (inr h) = (omega (arith, h.0), omega (arith, h.1, W.few_nonterminals))
