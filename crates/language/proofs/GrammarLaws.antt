-- Rules by number and symbols by place.
use Prim.Native.Nat.{ℕ, zero, suc, ◌≤◌, ◌<◌, zero-le, suc-le-suc}
use mathlib.Core.Path.{◌≡◌, refl}
use mathlib.Core.List.{List, [], ◌∷◌}
use mathlib.Core.Option.{some, none}
use native.Mathlib.Nat.{not-suc-le-zero, le_of_suc-le-suc}
use native.Mathlib.Omega.{arith}
use lib.ListN.{length, get_or}
use Rattle.language.specs.Grammar.{Grammar, Rule, at, rule_at}
use Rattle.language.specs.Sentence.{In, here, there}

-- what stands at a position
pub not_there : {A B : Type 0} {x : A} → none ≡ some x → B
not_there e = let z : ◌≡◌ {A = ℕ} 0 1 = cc in absurd (omega arith)

pub at_below : {A : Type 0} (l : List A) (k : ℕ) → k < length l → (x : A) × (at l k ≡ some x)
at_below [] k h = absurd (not-suc-le-zero h)
at_below (x ∷ l) zero h = (x, refl)
at_below (x ∷ l) (suc k) h = at_below l k (le_of_suc-le-suc h)

pub at_range : {A : Type 0} (l : List A) (k : ℕ) {x : A} → at l k ≡ some x → k < length l
at_range [] k e = not_there e
at_range (y ∷ l) zero e = suc-le-suc zero-le
at_range (y ∷ l) (suc k) e = suc-le-suc (at_range l k e)

pub rule_range : (g : Grammar) (i : ℕ) {r : Rule} → rule_at g i ≡ some r → (1 ≤ i) × (i ≤ length g.rules)
rule_range g zero e = not_there e
rule_range g (suc i) e = (suc-le-suc zero-le, at_range g.rules i e)

pub range_rule : (g : Grammar) (i : ℕ) → 1 ≤ i → i ≤ length g.rules → (r : Rule) × (rule_at g i ≡ some r)
range_rule g zero l m = absurd (not-suc-le-zero l)
range_rule g (suc i) l m = at_below g.rules i m

-- where a symbol stands
pub in_string : (l : List ℕ) (k : ℕ) → k < length l → In (get_or l k 0) l
in_string [] k h = absurd (not-suc-le-zero h)
in_string (x ∷ l) zero h = here
in_string (x ∷ l) (suc k) h = there (in_string l k (le_of_suc-le-suc h))

pub in_index : {a : ℕ} {l : List ℕ} → In a l → (k : ℕ) × (k < length l) × (get_or l k 0 ≡ a)
in_index {l = x ∷ l} here = (0, suc-le-suc zero-le, refl)
in_index (there h) = let i = in_index h in (suc i.0, suc-le-suc i.1, i.2)
