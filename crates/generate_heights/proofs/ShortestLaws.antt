-- The first rule in memory with lower symbols is the first rule of least derivation height.
use Prim.Native.Nat.{ℕ, ◌-◌, ◌≤◌}
use mathlib.Core.Path.{◌≡◌, refl, sym, ap, ap₂, ◌∙◌}
use mathlib.Core.Logic.{inr}
use mathlib.Core.Bool.{Bool, true, false, cond}
use mathlib.Core.List.{List, [], ◌∷◌}
use mathlib.Core.Option.{Option}
use native.Mathlib.Omega.{arith}
use native.Mathlib.Decide.{dec_le}
use lib.ListN.{get_or}
use lib.Dec.{ltb}
use borrow.Author.Tests.{lt-ltb, le-ltb}
use Rattle.language.specs.Grammar.{Grammar, Rule, IsNonterminal}
use Rattle.language.specs.Sentence.{In, here, there}
use Rattle.language.specs.Tests.{all}
use Rattle.generate_loads.specs.Load.{rules_of, right_in, right_of, IsSymbol, first, derives_within, height_of, shortest}
use Rattle.generate_loads.proofs.RuleLaws.{clash, rules_in}
use Rattle.generate_loads.proofs.HeightLaws.{within_le, height_is, height_nonterminal}
use Rattle.generate_heights.specs.Heights.{Source, HoldsHeights, is_lower, lower_in}
use Rattle.generate_heights.specs.Rows.{rows_of}
use Rattle.generate_heights.proofs.RowLaws.{rows_are}
use Rattle.generate_heights.proofs.SymbolLaws.{lower_rule}

first_same : (p q : ℕ → Bool) (l : List ℕ) → ((i : ℕ) → In i l → p i ≡ q i) → first p l ≡ first q l
first_same p q [] h = refl
first_same p q (i ∷ l) h = ap₂ (λ (b : Bool) (n : ℕ). cond b i n) (h i here) (first_same p q l (λ j n. h j (there n)))

module _ (items : List ℕ) (rules : ℕ) (heights : List ℕ) (g : Grammar) (e : Source items rules g) (h : HoldsHeights g heights) (X : ℕ) (n : IsNonterminal g X) where
  -- lower in memory is within one less
  lower_within : (a : ℕ) → IsSymbol g a → is_lower heights (get_or heights X 0) a ≡ derives_within g (height_of g X - 1) a
  lower_within a d =
      ap₂ ltb (h.height_is a d) (h.height_is X (inr n)) ∙ go (derives_within g (height_of g X - 1) a) refl
    where
      high : 1 ≤ height_of g X
      high = height_nonterminal g e.formed e.productive X n

      go : (b : Bool) → derives_within g (height_of g X - 1) a ≡ b → ltb (height_of g a) (height_of g X) ≡ b
      go true t = lt-ltb (height_of g a) (height_of g X) (omega (arith, (height_is g e.formed e.productive a d).0.least (height_of g X - 1) t, high))
      go false f = le-ltb (height_of g a) (height_of g X) (above (dec_le (height_of g X) (height_of g a)))
        where
          above : Dec (height_of g X ≤ height_of g a) → height_of g X ≤ height_of g a
          above (yes l) = l
          above (no l) = clash (within_le g (height_of g a) (height_of g X - 1) a (omega (arith, l)) (height_is g e.formed e.productive a d).0.within) f

  lower_same : (i : ℕ) → In i (rules_of g X) → lower_in items heights (get_or heights X 0) i ≡ all (derives_within g (height_of g X - 1)) (right_of g i)
  lower_same i k =
      let r = rules_in g X i k in
      let f = e.formed.formed i r.1 in
      lower_rule items heights (get_or heights X 0) i r.0 (e.holds.rule_in i r.1) f.short (derives_within g (height_of g X - 1)) (λ a u. lower_within a (f.declared a u))
      ∙ ap (λ (o : Option Rule). all (derives_within g (height_of g X - 1)) (right_in o)) (sym r.1)

  pub first-shortest : first (lower_in items heights (get_or heights X 0)) (rows_of items X 1 rules) ≡ shortest g X
  unfolding shortest
  first-shortest =
      ap (first (lower_in items heights (get_or heights X 0))) (sym (rows_are items rules g X e.holds))
      ∙ first_same (lower_in items heights (get_or heights X 0)) (λ i. all (derives_within g (height_of g X - 1)) (right_of g i)) (rules_of g X) lower_same
