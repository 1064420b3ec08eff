-- Numbers compared digit by digit: what the code goes by.
use Rattle.std.specs.Prelude.{ℕ, ◌-◌, ◌≤◌, List, [], ◌∷◌, Bool, true, false, cond, ◌||◌, ltb, drop}
use Rattle.text.specs.Field.{class_of, on_digit}
use Rattle.digits.specs.declared.Order.{Order}
use Rattle.digits.specs.declared.Order.TheVariants as order
use Rattle.digits.specs.Exact.{exact_at}

-- the digit at a position, 10 where there is none
abbrev pub digit_of : List ℕ → ℕ
digit_of [] = 10
digit_of (b ∷ l) = on_digit (class_of b) (b - 48) 10

unfoldable pub digit_at : List ℕ → ℕ → ℕ
digit_at s i = digit_of (drop i s)

-- the number at `at` has no leading zero
abbrev pub Leads : List ℕ → ℕ → Type 0
Leads s at = 1 ≤ exact_at s at → 1 ≤ digit_at s at

-- with one digit more of each number
abbrev pub order_with : Order → ℕ → ℕ → Order
order_with order.Less x y = order.Less
order_with order.Equal x y = cond (ltb x y) order.Less (cond (ltb y x) order.Greater order.Equal)
order_with order.Greater x y = order.Greater

abbrev pub is_less : Order → Bool
is_less order.Less = true
is_less order.Equal = false
is_less order.Greater = false

-- the first number has ended, and the second goes on with y or, where y is no digit, has ended too
unfoldable pub ends_below : Order → ℕ → Bool
ends_below o y = ltb y 10 || is_less o
