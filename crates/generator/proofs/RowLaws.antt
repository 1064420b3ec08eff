-- The rule that is chosen, in memory and in the grammar; from what the loop wrote to what the contract says.
use Prim.Native.Nat.{ℕ, ◌+◌, ◌-◌, ◌*◌, ◌≤◌, ◌<◌}
use mathlib.Core.Path.{◌≡◌, refl, sym, ap, subst, ◌∙◌}
use mathlib.Core.Logic.{inl, inr}
use mathlib.Core.List.{List, [], ◌∷◌}
use mathlib.Core.Option.{some}
use native.Mathlib.Omega.{arith}
use native.Mathlib.Decide.{ℕ_discrete}
use lib.ListN.{length, get_or, length-append}
use Rattle.language.specs.Grammar.{Grammar, Rule, right, rule_at, concat, IsTerminal, IsNonterminal}
use Rattle.language.specs.Derivation.{yield, yields, node}
use Rattle.language.specs.Listing.{listing}
use Rattle.language.specs.Sentence.{In}
use Rattle.language.specs.WellFormed.{WellFormed}
use Rattle.language.proofs.GrammarLaws.{rule_range, in_string}
use Rattle.items.specs.Layout.{Holds, length_at, mark_at, symbol_at}
use Rattle.generate_loads.specs.Load.{IsSymbol, right_in, right_of, height_of, choice, grow_all, node_over, grown}
use Rattle.generate_loads.proofs.HeightLaws.{height_is}
use Rattle.generate_loads.proofs.GrownLaws.{Chosen, chosen_is, chosen_lower, grown_terminal, grown_node}
use Rattle.generate_choices.specs.Choices.{HoldsChoices, height_at}
use Rattle.generate_steps.specs.declared.Point.{Point}
use Rattle.generate_steps.specs.declared.Step.{Step}
use Rattle.generator.specs.Written.{Writes, fitting, too_long}

pub nonterminal : {g : Grammar} → WellFormed g → (x : ℕ) → 64 ≤ x → IsSymbol g x → IsNonterminal g x
nonterminal w x h (inl a) = absurd (omega (arith, a.1, w.few_terminals))
nonterminal w x h (inr n) = n

pub terminal : (g : Grammar) (x : ℕ) → x < 64 → IsSymbol g x → IsTerminal g x
terminal g x h (inl a) = a
terminal g x h (inr n) = absurd (omega (arith, n.0))

-- ---- the rule chosen for x
pub record Row (items : List ℕ) (rules : ℕ) (g : Grammar) (i : ℕ) : Type 0 where
  pub rule : Rule
  pub is : rule_at g i ≡ some rule
  pub known : i ≤ rules
  pub few : i < 256
  pub length_is : length_at items i ≡ length (right_of g i)
  pub mark_is : mark_at items i ≡ length rule.before
  pub mark_in : mark_at items i ≤ length (right_of g i)
  pub symbol_is : (k : ℕ) → k < length (right_of g i) → symbol_at items i k ≡ get_or (right_of g i) k 0
  pub declared : (k : ℕ) → k < length (right_of g i) → IsSymbol g (get_or (right_of g i) k 0)

module _ {items choices : List ℕ} {rules : ℕ} {g : Grammar} (H : Holds items rules g) (C : HoldsChoices g choices) where
  pub row_of : (d x s : ℕ) {i : ℕ} → IsNonterminal g x → i ≡ (choice g d x s).rule → Row items rules g i
  row_of d x s {i} n e =
      let c = chosen_is g C.formed C.productive d x s n in
      let r = c.rule in
      let is : rule_at g i ≡ some r = ap (rule_at g) e ∙ c.is in
      let row = H.rule_in i is in
      let same : right_of g i ≡ right r = ap right_in is in
      let range = rule_range g i is in
      record {
        rule = r;
        is = is;
        known = omega (arith, range.1, H.count);
        few = omega (arith, range.1, C.formed.few_rules);
        length_is = row.length_is ∙ sym (ap length same);
        mark_is = row.mark_is;
        mark_in = omega (arith, row.mark_is, ap length same, length-append r.before (concat r.groups));
        symbol_is = λ k u. row.symbol_is k (omega (arith, u, ap length same, (C.formed.formed i is).short)) ∙ sym (ap (λ (α : List ℕ). get_or α k 0) same);
        declared = λ k u. (C.formed.formed i is).declared (get_or (right_of g i) k 0) (subst (In (get_or (right_of g i) k 0)) same (in_string (right_of g i) k u));
      }

  -- depth falls, and height where no depth is left
  pub falls_below : (d x s k : ℕ) {i y : ℕ} → IsNonterminal g x → i ≡ (choice g d x s).rule → k < length (right_of g i) → y ≡ get_or (right_of g i) k 0
      → (d - 1) * 256 + height_at choices y < d * 256 + height_at choices x
  falls_below d x s k {i} {y} n e l h = go (ℕ_discrete d 0)
    where
      c : Chosen g C.formed C.productive d x (choice g d x s).rule
      c = chosen_is g C.formed C.productive d x s n

      inside : In y (right_of g (choice g d x s).rule)
      inside = subst (λ (j : ℕ). In y (right_of g j)) e (subst (λ (z : ℕ). In z (right_of g i)) (sym h) (in_string (right_of g i) k l))

      low : height_at choices y ≤ 64
      low = omega (arith, C.height_is y (c.declared y inside), (height_is g C.formed C.productive y (c.declared y inside)).1, C.formed.few_nonterminals)

      go : Dec (d ≡ 0) → (d - 1) * 256 + height_at choices y < d * 256 + height_at choices x
      go (yes z) = omega (arith, z, C.height_is y (c.declared y inside), C.height_is x (inr n), lower z c)
        where
          lower : d ≡ 0 → Chosen g C.formed C.productive d x (choice g d x s).rule → height_of g y < height_of g x
          lower z c = chosen_lower g C.formed C.productive z c y inside
      go (no z) = omega (arith, z, low)

pub from_here : {a b : List ℕ} {s : ℕ} {p : Point} (q : Point) {t₀ l₀ t l : List ℕ} {z : Step} → p.tokens ≡ q.tokens → p.rules ≡ q.rules
    → Writes a b s p t₀ l₀ t l z → Writes a b s q t₀ l₀ t l z
from_here q e f (fitting {q = n} x y h) = fitting {q = n} (rw (← e) x) (rw (← f) y) h
from_here q e f (too_long h) = too_long (rw (← e, ← f) h)

pub leaf_written : {g : Grammar} {choices : List ℕ} (d x : ℕ) {p : Point} {t₀ l₀ t l : List ℕ} {z : Step} → HoldsChoices g choices → IsTerminal g x
    → Writes (x ∷ []) [] p.state p t₀ l₀ t l z
    → Writes (yield (grown g d x p.state).tree) (listing g (grown g d x p.state).tree) (grown g d x p.state).state p t₀ l₀ t l z
leaf_written {g} d x {p = p} C h w = rw (grown_terminal g C.formed C.productive d x p.state h) w

pub node_written : {g : Grammar} {choices : List ℕ} (d below x i : ℕ) (q p : Point) {t₀ l₀ t l : List ℕ} {z : Step} → HoldsChoices g choices → IsNonterminal g x
    → below ≡ d - 1 → (i ≡ (choice g d x p.state).rule) × (q.state ≡ (choice g d x p.state).state) → q.tokens ≡ p.tokens → q.rules ≡ p.rules
    → Writes (yields (grow_all (grown g below) (right_of g i) q.state).forest) (listing g (node i (grow_all (grown g below) (right_of g i) q.state).forest))
    (grow_all (grown g below) (right_of g i) q.state).state q t₀ l₀ t l z
    → Writes (yield (grown g d x p.state).tree) (listing g (grown g d x p.state).tree) (grown g d x p.state).state p t₀ l₀ t l z
node_written {g} d below x i q p C n b c u v w =
    let same : grown g d x p.state ≡ node_over i (grow_all (grown g below) (right_of g i) q.state)
    = grown_node g C.formed C.productive d x p.state n ∙ rw (b, c.0, c.1) refl in
    rw same (from_here p u v w)
