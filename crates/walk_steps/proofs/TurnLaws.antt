-- From a step's outcome in the theory to what it makes of a position in memory.
use mathlib.Core.Path.{◌≡◌, refl, ap, ◌∙◌}
use mathlib.Core.Logic.{◌⊎◌}
use mathlib.Core.Bool.{Bool, true, false}
use mathlib.Core.List.{List, [], ◌∷◌, ◌++◌}
use mathlib.Core.Option.{Option, some, none}
use Prim.Native.Nat.{ℕ, zero, suc, ◌+◌, ◌≤◌, ◌<◌}
use native.Mathlib.Omega.{arith}
use lib.ListN.{length, take}
use Rattle.language.specs.Grammar.{Grammar, Rule, rule_at}
use Rattle.language.specs.Listing.{units_in, is_unit, unit_of}
use Rattle.leftcorner.proofs.Bounded.{fits_no}
use Rattle.leftcorner.specs.Machine.{Automaton, Event, Outcome, on, whole, wrong, rules_of, shift_to, pop_to, Verdict, whole_at, wrong_at, short_at}
use Rattle.leftcorner.specs.Machine as machine
use Rattle.walk_steps.specs.declared.Position.{Position}
use Rattle.walk_steps.specs.Turn.{Ends, proceeds}

pub positive : (x : ℕ) → (x ≡ 0 → ⊥) → 0 < x
positive zero ne = absurd (ne refl)
positive (suc x) ne = omega arith

-- ---- the theory's steps

pub shift_on : (s : ℕ) (S : List ℕ) (c : ℕ) → (c ≡ 0 → ⊥) → shift_to s S c ≡ on (machine.shifted c) (s ∷ S)
shift_on s S zero ne = absurd (ne refl)
shift_on s S (suc a) ne = refl

pub pop_on : (S : List ℕ) (c : ℕ) → 0 < length S → pop_to S c ≡ on machine.closed S
pop_on [] c pos = absurd (omega arith)
pop_on (q ∷ S) c pos = refl

pub pop_whole : (S : List ℕ) (c : ℕ) → length S ≡ 0 → c ≡ 0 → pop_to S c ≡ whole
pop_whole [] zero e z = refl
pop_whole [] (suc a) e z = absurd (omega arith)
pop_whole (q ∷ S) c e z = absurd (omega arith)

pub pop_wrong : (S : List ℕ) (c : ℕ) → length S ≡ 0 → (c ≡ 0 → ⊥) → pop_to S c ≡ wrong
pop_wrong [] zero e ne = absurd (ne refl)
pop_wrong [] (suc a) e ne = refl
pop_wrong (q ∷ S) c e ne = absurd (omega arith)

-- ---- units

pub units_snoc : (g : Grammar) (l : List ℕ) (i : ℕ) → units_in g (l ++ i ∷ []) ≡ units_in g l + is_unit (rule_at g i)
units_snoc g [] i = omega arith
units_snoc g (x ∷ l) i = let e : units_in g (l ++ i ∷ []) ≡ units_in g l + is_unit (rule_at g i) = units_snoc g l i in omega arith

unit_few : (g : Grammar) (i : ℕ) → is_unit (rule_at g i) ≤ 1
unit_few g i = go (rule_at g i)
  where
    of : (b : Bool) → unit_of b ≤ 1
    of true = omega arith
    of false = omega arith

    go : (o : Option Rule) → is_unit o ≤ 1
    go none = omega arith
    go (some r) = of r.unit

pub units_few : (g : Grammar) (l : List ℕ) → units_in g l ≤ length l
units_few g [] = omega arith
units_few g (i ∷ l) = omega (arith, unit_few g i, units_few g l)

-- ---- ends

module _ (g : Grammar) (m : Automaton) (n k : ℕ) (tokens stack listing : List ℕ) (p : Position) where
  ends_by : {o x : Outcome} {v : Verdict} → o ≡ x → Ends g m n k tokens stack listing p x v → Ends g m n k tokens stack listing p o v
  ends_by e h again = ap (λ (y : Outcome). proceeds g m n k tokens stack listing p y again) e ∙ h again

  pub ends_wrong : {o : Outcome} → o ≡ wrong → Ends g m n k tokens stack listing p o (wrong_at p.taken)
  ends_wrong e = ends_by e (λ again. refl)

  pub ends_whole : {o : Outcome} → o ≡ whole → Ends g m n k tokens stack listing p o (whole_at p.taken (take p.listed listing))
  ends_whole e = ends_by e (λ again. refl)

  pub ends_short : {o : Outcome} {e : Event} {U : List ℕ} → o ≡ on e U → (n < length U) ⊎ (k < length (take p.listed listing ++ rules_of e))
      → Ends g m n k tokens stack listing p o (short_at p.taken)
  ends_short {o} {e} {U} h over = ends_by h (λ again. fits_no g m n k p.taken U (take p.listed listing ++ rules_of e) _ over)
