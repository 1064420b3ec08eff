-- Replies 5 and 6, and what they say of the grammar.
use Prim.Native.Nat.{ℕ, suc, ◌*◌, ◌≤◌, ◌<◌}
use mathlib.Core.Path.{◌≡◌, sym, ap, subst}
use mathlib.Core.List.{List}
use native.Mathlib.Omega.{arith}
use lib.ListN.{length}
use Rattle.language.specs.Grammar.{Grammar}
use Rattle.items.specs.Layout.{Holds, Shaped}
use Rattle.items.proofs.LayoutLaws.{layout_holds, layout_shaped}
use Rattle.fixpoint.specs.declared.Found.{Found}
use Rattle.grammar_reduction.specs.Reduced.{lowest_unproductive, lowest_unreachable}
use Rattle.reply.specs.declared.Kind.TheVariants as kind
use Rattle.grammar_header.specs.declared.Heading.{Heading}
use Rattle.grammar.specs.Book.{accepted, rejected_at, reduced_of}
use Rattle.grammar.specs.Memory.{HoldsGrammar}

module _ (g : Grammar) where
  pub reduced_unproductive : {X : ℕ} → lowest_unproductive g ≡ Found.At X → reduced_of g ≡ rejected_at kind.Unproductive X
  unfolding reduced_of
  reduced_unproductive e = simp e

  module _ (e : lowest_unproductive g ≡ Found.Nothing) where
    pub reduced_unreachable : {X : ℕ} → lowest_unreachable g ≡ Found.At X → reduced_of g ≡ rejected_at kind.Unreachable X
    unfolding reduced_of
    reduced_unreachable f = simp (e, f)

    pub reduced_accepted : lowest_unreachable g ≡ Found.Nothing → reduced_of g ≡ accepted g
    unfolding reduced_of
    reduced_accepted f = simp (e, f)

-- ---- what memory that is ready offers
module _ {m : List ℕ} {h : Heading} {g : Grammar} (r : HoldsGrammar m h g) where
  fits : suc (length g.rules) * 64 ≤ length m
  fits = omega (arith, r.room, r.formed.few_rules)

  rules_is : length g.rules ≡ h.rules
  rules_is = sym (ap (λ (k : Heading). k.rules) r.heading)

  pub ready_shaped : Shaped m h.rules
  ready_shaped = subst (Shaped m) rules_is (subst (λ (l : List ℕ). Shaped l (length g.rules)) (sym r.laid) (layout_shaped g r.formed (length m) fits))

  pub ready_holds : Holds m h.rules g
  ready_holds = subst (λ (k : ℕ). Holds m k g) rules_is (subst (λ (l : List ℕ). Holds l (length g.rules) g) (sym r.laid) (layout_holds g r.formed (length m) fits))

  pub few_rules : h.rules ≤ 127
  few_rules = omega (arith, rules_is, r.formed.few_rules)

  pub terminals_is : g.terminals ≡ h.terminals
  terminals_is = sym (ap (λ (k : Heading). k.terminals) r.heading)

  pub nonterminals_is : g.nonterminals ≡ h.nonterminals
  nonterminals_is = sym (ap (λ (k : Heading). k.nonterminals) r.heading)

  pub goal_is : g.goal ≡ h.goal
  goal_is = sym (ap (λ (k : Heading). k.goal) r.heading)

  pub ready_ranges : ((h.terminals ≤ 63) × (h.nonterminals ≤ 64)) × (h.goal < 128)
  ready_ranges = (
    (omega (arith, terminals_is, r.formed.few_terminals), omega (arith, nonterminals_is, r.formed.few_nonterminals)),
    omega (arith, goal_is, r.formed.goal_declared.1, r.formed.few_nonterminals),
  )
