-- What is expanded in a state: the least set that has the nonterminals before which its kernel items stand.
use Prim.Native.Nat.{ℕ, zero, ◌+◌, ◌-◌, ◌≤◌}
use native.Mathlib.Omega.{arith}
use mathlib.Core.Path.{◌≡◌, refl, sym, subst, ◌∙◌}
use mathlib.Core.List.{List}
use mathlib.Core.Option.{some}
use lib.ListN.{length}
use Rattle.language.specs.Grammar.{Grammar, Rule, rule_at}
use Rattle.language.proofs.GrammarLaws.{rule_range, range_rule}
use Rattle.leftcorner.specs.Table.{Table, Goes}
use Rattle.leftcorner.specs.Construction.{KernelAt, Has, in_kernel, in_closure}
use Rattle.items.specs.Layout.{left_at}
use Rattle.fixpoint.specs.Least.{Least, seed, by, Met, least_every}
use Rattle.closure.specs.Expansion.{Expanded}
use Rattle.analysis.specs.Rests.{rest_at}
use Rattle.closure.specs.Kernel.{BeforeNonterminal}
use Rattle.closure.specs.Steps.{Expansion, expansions}
use Rattle.closure.proofs.ItemLaws.{ItemHeld, goes_before, before_goes}

-- the rules of g in memory
pub record RulesIn (m : List ℕ) (rules : ℕ) (g : Grammar) (t : Table) : Type 0 where
  pub holds_rules : (j : ℕ) {r : Rule} → rule_at g j ≡ some r → ItemHeld m g t j
  pub rule_count : length g.rules ≡ rules
  pub left_is : (j : ℕ) {r : Rule} → rule_at g j ≡ some r → left_at m j ≡ r.left
  pub left_kind : (j : ℕ) {r : Rule} → rule_at g j ≡ some r → 64 ≤ r.left

-- S has the nonterminals before which the kernel items of q stand in memory
pub record Seeds (m : List ℕ) (rules : ℕ) (g : Grammar) (t : Table) (q : ℕ) (S : ℕ → Type 0) : Type 0 where
  pub held : (i k : ℕ) (σ : List ℕ) → KernelAt g t q i k σ → ItemHeld m g t i
  pub seeded : (i k b : ℕ) (σ : List ℕ) → KernelAt g t q i k σ → BeforeNonterminal m i k b → S b
  pub seed_of : (b : ℕ) → S b → (i : ℕ) × (k : ℕ) × (σ : List ℕ) × KernelAt g t q i k σ × BeforeNonterminal m i k b

module _ (m : List ℕ) (g : Grammar) (t : Table) where
  stands_at : {i k b : ℕ} {β : List ℕ} → ItemHeld m g t i → Goes g t i k (64 + b) β → BeforeNonterminal m i k b
  stands_at h go = let r = goes_before m g t h go in record { before = r.0; symbol = r.1 }

  pub goes_at : {i k b : ℕ} → ItemHeld m g t i → BeforeNonterminal m i k b → Goes g t i k (64 + b) (rest_at m i (k + 1))
  goes_at {i = i} {k = k} h s = subst (λ (X : ℕ). Goes g t i k X (rest_at m i (k + 1))) s.symbol (before_goes m g t h s.before)

  pub goes_to_lem : {i k X Y : ℕ} {β : List ℕ} → X ≡ Y → Goes g t i k X β → Goes g t i k Y β
  goes_to_lem {i = i} {k = k} {β = β} e go = subst (λ (Z : ℕ). Goes g t i k Z β) e go

module _ {m : List ℕ} {rules : ℕ} (g : Grammar) (t : Table) (R : RulesIn m rules g t) where
  pub rule_in : (j : ℕ) {r : Rule} → rule_at g j ≡ some r → (1 ≤ j) × (j ≤ rules) × (left_at m j ≡ 64 + (r.left - 64))
  rule_in j {r = r} e = let u = rule_range g j e in (u.0, omega (arith, u.1, R.rule_count), omega (arith, R.left_is j e, R.left_kind j e))

  -- a rule of memory
  pub in_rule : (j : ℕ) → 1 ≤ j → j ≤ rules → (r : Rule) × (rule_at g j ≡ some r) × (left_at m j ≡ r.left)
  in_rule j l u = let r = range_rule g j l (omega (arith, R.rule_count)) in (r.0, r.1, R.left_is j r.1)

  module _ {q : ℕ} {S : ℕ → Type 0} (K : Seeds m rules g t q S) where
    pub has_least : {i k : ℕ} → Has g t q i k → (b : ℕ) (β : List ℕ) → Goes g t i k (64 + b) β → Least (expansions m rules) S b
    has_least {i = i} {k = k} (in_kernel {σ = σ} h) b β go = seed (K.seeded i k b σ h (stands_at m g t (K.held i k σ h) go))
    has_least (in_closure {X = X} j {β = α} {r = r} h up e f) b β go =
        let u = rule_in j e in
        let z : X ≡ 64 + (r.left - 64) = omega (arith, R.left_kind j e, f) in
        by (record { rule = j; left = r.left - 64; first = b })
        (record { above = u.0; below = u.1; left = u.2; stands = stands_at m g t (R.holds_rules j e) go })
        (λ x q. subst (Least (expansions m rules) S) (sym q) (has_least h (r.left - 64) α (goes_to_lem m g t z up)))

    pub least_expanded : {b : ℕ} → Least (expansions m rules) S b → Expanded g t q (64 + b)
    least_expanded p = least_every (expansions m rules) (λ (b : ℕ). Expanded g t q (64 + b)) seeds step p
      where
        seeds : (b : ℕ) → S b → Expanded g t q (64 + b)
        seeds b w =
            let s = K.seed_of b w in
            record { item = s.0; dot = s.1; rest = rest_at m s.0 (s.1 + 1); has = in_kernel s.3; goes = goes_at m g t (K.held s.0 s.1 s.2 s.3) s.4 }

        step : (s : Expansion) → Met (expansions m rules) (λ (b : ℕ). Expanded g t q (64 + b)) s
        step s ok ns =
            let r = in_rule s.rule ok.above ok.below in
            let x = ns s.left refl in
            record {
              item = s.rule;
              dot = zero;
              rest = rest_at m s.rule 1;
              has = in_closure s.rule x.has x.goes r.1 (sym r.2 ∙ ok.left);
              goes = goes_at m g t (R.holds_rules s.rule r.1) ok.stands;
            }
