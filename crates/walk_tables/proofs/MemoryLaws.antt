-- What the grammar in memory answers.
use mathlib.Core.Path.{◌≡◌, refl, ap, ◌∙◌}
use mathlib.Core.List.{List}
use mathlib.Core.Option.{some}
use Prim.Native.Nat.{ℕ, zero, suc, ◌+◌, ◌%◌, ◌<◌}
use native.Mathlib.Omega.{arith}
use lib.Dec.{eqb}
use Rattle.language.specs.Grammar.{at, rule_at}
use Rattle.language.specs.Listing.{unit_of, is_unit}
use Rattle.walk_tables.specs.Memory.{figure_of, memory_rule, rules_from, memory_grammar}

rules_at : (rules : List ℕ) (n i j : ℕ) → j < n → at (rules_from rules n i) j ≡ some (memory_rule rules (i + j))
unfolding rules_from
rules_at rules zero i j lt = absurd (omega arith)
rules_at rules (suc n) i zero lt = let e : i ≡ i + 0 = omega arith in ap (λ (r : ℕ). some (memory_rule rules r)) e
rules_at rules (suc n) i (suc j) lt =
    let e : suc i + j ≡ i + suc j = omega arith in
    rules_at rules n (suc i) j (omega arith) ∙ ap (λ (r : ℕ). some (memory_rule rules r)) e

-- a rule's row
pub rule_is : (rules : List ℕ) (r : ℕ) → 0 < r → r < 256 → rule_at (memory_grammar rules) r ≡ some (memory_rule rules r)
unfolding memory_grammar
rule_is rules zero pos lt = absurd (omega arith)
rule_is rules (suc r) pos lt = let e : 1 + r ≡ suc r = omega arith in rules_at rules 255 1 r (omega arith) ∙ ap (λ (i : ℕ). some (memory_rule rules i)) e

odd_unit : (x : ℕ) → unit_of (eqb (x % 2) 1) ≡ x % 2
odd_unit x = go (x % 2) (omega arith)
  where
    go : (y : ℕ) → y < 2 → unit_of (eqb y 1) ≡ y
    go zero lt = refl
    go (suc zero) lt = refl
    go (suc (suc y)) lt = absurd (omega arith)

pub unit_is : (rules : List ℕ) (r : ℕ) → 0 < r → r < 256 → is_unit (rule_at (memory_grammar rules) r) ≡ figure_of rules r 2 % 2
unit_is rules r pos lt = ap is_unit (rule_is rules r pos lt) ∙ odd_unit (figure_of rules r 2)
