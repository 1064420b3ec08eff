-- The symbols of a rule in memory: going along them, and that they are those of the grammar.
use Prim.Native.Nat.{ℕ, zero, suc, ◌+◌, ◌-◌, ◌≤◌, ◌<◌}
use mathlib.Core.Path.{◌≡◌, refl, ap, ap₂, ◌∙◌}
use mathlib.Core.Bool.{Bool, false, ◌&&◌}
use mathlib.Core.List.{List, [], ◌∷◌}
use native.Mathlib.Omega.{arith}
use lib.ListN.{length, get_or}
use lib.Seq.{ext_get_or}
use borrow.Author.Tests.{lt-ltb, le-ltb}
use Rattle.language.specs.Grammar.{Rule, right}
use Rattle.language.specs.Sentence.{In, here, there}
use Rattle.language.specs.Tests.{all}
use Rattle.items.specs.Layout.{length_at, symbol_at, RuleIn}
use Rattle.generate_heights.specs.Heights.{symbols_from, is_lower, lower_in}

-- of n symbols of rule i those from place k on
unfoldable pub symbols_left : List ℕ → ℕ → ℕ → ℕ → List ℕ
symbols_left items i n k = symbols_from items i k (n - k)

pub left_start : (items : List ℕ) (i n : ℕ) → symbols_from items i 0 n ≡ symbols_left items i n 0
unfolding symbols_left
left_start items i n = ap (symbols_from items i 0) (less n)
  where
    less : (n : ℕ) → n ≡ n - 0
    less n = omega arith

pub left_more : (items : List ℕ) (i n k : ℕ) → k < n → symbols_left items i n k ≡ symbol_at items i k ∷ symbols_left items i n (k + 1)
unfolding symbols_left
left_more items i n k h = ap (symbols_from items i k) (back n k h) ∙ ap (λ (l : List ℕ). symbol_at items i k ∷ l) (rw (one k) refl)
  where
    one : (n : ℕ) → n + 1 ≡ suc n
    one n = omega arith

    back : (n k : ℕ) → k < n → n - k ≡ suc (n - suc k)
    back n k h = omega arith

pub left_none : (items : List ℕ) (i n k : ℕ) → n ≤ k → symbols_left items i n k ≡ []
unfolding symbols_left
left_none items i n k h = ap (symbols_from items i k) (none n k h)
  where
    none : (n k : ℕ) → n ≤ k → n - k ≡ 0
    none n k h = omega arith

pub not_lower : (heights : List ℕ) (high a : ℕ) (l : List ℕ) → high ≤ get_or heights a 0 → all (is_lower heights high) (a ∷ l) ≡ false
not_lower heights high a l h = simp (le-ltb (get_or heights a 0) high h)

pub one_lower : (heights : List ℕ) (high a : ℕ) (l : List ℕ) → get_or heights a 0 < high → all (is_lower heights high) (a ∷ l) ≡ all (is_lower heights high) l
one_lower heights high a l h = simp (lt-ltb (get_or heights a 0) high h)

-- ---- against the grammar
symbols_length : (items : List ℕ) (i k n : ℕ) → length (symbols_from items i k n) ≡ n
symbols_length items i k zero = refl
symbols_length items i k (suc n) = ap suc (symbols_length items i (suc k) n)

symbols_get : (items : List ℕ) (i k n j : ℕ) → j < n → get_or (symbols_from items i k n) j 0 ≡ symbol_at items i (k + j)
symbols_get items i k zero j h = absurd (omega arith)
symbols_get items i k (suc n) zero h = ap (symbol_at items i) (zero_more k)
  where
    zero_more : (n : ℕ) → n ≡ n + 0
    zero_more n = omega arith
symbols_get items i k (suc n) (suc j) h = symbols_get items i (suc k) n j (omega arith) ∙ ap (symbol_at items i) (one_more k j)
  where
    one_more : (n k : ℕ) → suc n + k ≡ n + suc k
    one_more n k = omega arith

symbols_are : (items : List ℕ) (i : ℕ) (r : Rule) → RuleIn items i r → length (right r) ≤ 15 → symbols_from items i 0 (length_at items i) ≡ right r
symbols_are items i r h l =
    ext_get_or 0 (symbols_from items i 0 (length_at items i)) (right r) (symbols_length items i 0 (length_at items i) ∙ h.length_is)
    (λ k u.
    let lt : k < length_at items i = omega (arith, u, symbols_length items i 0 (length_at items i)) in
    symbols_get items i 0 (length_at items i) k lt ∙ (ap (symbol_at items i) (zero_and k) ∙ h.symbol_is k (omega (arith, lt, h.length_is, l))))
  where
    zero_and : (n : ℕ) → 0 + n ≡ n
    zero_and n = omega arith

all_same : (p q : ℕ → Bool) (l : List ℕ) → ((a : ℕ) → In a l → p a ≡ q a) → all p l ≡ all q l
all_same p q [] h = refl
all_same p q (a ∷ l) h = ap₂ (λ (b c : Bool). b && c) (h a here) (all_same p q l (λ j n. h j (there n)))

-- a test that says of each symbol whether it is lower says so of the rule
pub lower_rule : (items heights : List ℕ) (high i : ℕ) (r : Rule) → RuleIn items i r → length (right r) ≤ 15 → (q : ℕ → Bool)
    → ((a : ℕ) → In a (right r) → is_lower heights high a ≡ q a) → lower_in items heights high i ≡ all q (right r)
unfolding lower_in
lower_rule items heights high i r h l q same = ap (all (is_lower heights high)) (symbols_are items i r h l) ∙ all_same (is_lower heights high) q (right r) same
