-- Two numbers compared as far as they are read.
use Prim.Native.Nat.{ℕ, ◌+◌, ◌*◌, ◌≤◌, ◌<◌}
use mathlib.Core.Path.{◌≡◌, refl, sym, ap, subst, ◌∙◌}
use mathlib.Core.List.{List}
use mathlib.Core.Bool.{Bool, true, false, cond, ◌||◌}
use native.Mathlib.Omega.{arith}
use borrow.Author.Tests.{le-ltb, lt-ltb, ltb-true, ltb-false}
use lib.Dec.{ltb}
use lib.ListN.{drop}
use Rattle.digits.specs.declared.Order.{Order}
use Rattle.digits.specs.declared.Order.TheVariants as order
use Rattle.digits.specs.Exact.{exact_from, exact_at}
use Rattle.digits.specs.Compare.{digit_at, order_with, is_less, ends_below}
use Rattle.digits.proofs.ExactLaws.{exact_grows, exact_more, exact_ended}

-- ---- u stands to w as o says
abbrev pub Compares : Order → ℕ → ℕ → Type 0
Compares order.Less u w = u < w
Compares order.Equal u w = u ≡ w
Compares order.Greater u w = w < u

compares_more : (o : Order) (u w x y : ℕ) → x < 10 → y < 10 → Compares o u w → Compares (order_with o x y) (u * 10 + x) (w * 10 + y)
compares_more order.Less u w x y a b c = omega arith
compares_more order.Greater u w x y a b c = omega arith
compares_more order.Equal u w x y a b c = go (ltb x y) (ltb y x) refl refl
  where
    go : (p q : Bool) → ltb x y ≡ p → ltb y x ≡ q → Compares (cond p order.Less (cond q order.Greater order.Equal)) (u * 10 + x) (w * 10 + y)
    go true q f g = omega (arith, c, ltb-true x y f)
    go false true f g = omega (arith, c, ltb-true y x g)
    go false false f g = omega (arith, c, ltb-false x y f, ltb-false y x g)

less_is : (o : Order) (u w : ℕ) → Compares o u w → is_less o ≡ ltb u w
less_is order.Less u w c = sym (lt-ltb u w c)
less_is order.Equal u w c = sym (le-ltb u w (omega (arith, c)))
less_is order.Greater u w c = sym (le-ltb u w (omega (arith, c)))

-- ---- the numbers at a and b: u and w are read of them, up to i and j. Both have as many digits, the first no 0: so they are
-- below `top`, and a further digit takes either to `top` at least.
pub record Met (s : List ℕ) (a b i j : ℕ) (o : Order) : Type 0 where
  pub u : ℕ
  pub w : ℕ
  pub top : ℕ
  pub left_is : exact_at s a ≡ exact_from u (drop i s)
  pub right_is : exact_at s b ≡ exact_from w (drop j s)
  pub compares : Compares o u w
  pub u_low : u < top
  pub w_low : w < top
  pub u_more : top ≤ u * 10 + digit_at s i
  pub w_more : top ≤ w * 10 + digit_at s j

pub met_start : {s : List ℕ} {a b : ℕ} → 1 ≤ digit_at s a → 1 ≤ digit_at s b → Met s a b a b order.Equal
unfolding exact_at
met_start l r = record {
  u = 0;
  w = 0;
  top = 1;
  left_is = refl;
  right_is = refl;
  compares = refl;
  u_low = omega arith;
  w_low = omega arith;
  u_more = omega (arith, l);
  w_more = omega (arith, r);
}

module _ {s : List ℕ} {a b i j : ℕ} {o : Order} (m : Met s a b i j o) {x y : ℕ} (p : x ≡ digit_at s i) (q : y ≡ digit_at s j) where
  -- one digit more of both
  pub met_more : x ≤ 9 → y ≤ 9 → Met s a b (i + 1) (j + 1) (order_with o x y)
  met_more h k = record {
    u = m.u * 10 + x;
    w = m.w * 10 + y;
    top = m.top * 10;
    left_is = m.left_is ∙ exact_more s i m.u (omega arith) ∙ ap (λ (d : ℕ). exact_from (m.u * 10 + d) (drop (i + 1) s)) (sym p);
    right_is = m.right_is ∙ exact_more s j m.w (omega arith) ∙ ap (λ (d : ℕ). exact_from (m.w * 10 + d) (drop (j + 1) s)) (sym q);
    compares = compares_more o m.u m.w x y (omega arith) (omega arith) m.compares;
    u_low = omega (arith, m.u_low);
    w_low = omega (arith, m.w_low);
    u_more = omega (arith, m.u_more, p);
    w_more = omega (arith, m.w_more, q);
  }

  -- the second has ended, and the first goes on
  pub met_longer : x ≤ 9 → 9 < y → false ≡ ltb (exact_at s a) (exact_at s b)
  met_longer h k =
      sym (le-ltb (exact_at s a) (exact_at s b)
      (omega (arith, m.left_is ∙ exact_more s i m.u (omega arith), exact_grows (drop (i + 1) s) (m.u * 10 + digit_at s i), m.u_more, m.right_is ∙ exact_ended s j m.w (omega arith), m.w_low)))

  -- the first has ended
  pub met_ended : 9 < x → ends_below o y ≡ ltb (exact_at s a) (exact_at s b)
  unfolding ends_below
  met_ended h = go (ltb y 10) refl
    where
      left : exact_at s a ≡ m.u
      left = m.left_is ∙ exact_ended s i m.u (omega arith)

      go : (t : Bool) → ltb y 10 ≡ t → t || is_less o ≡ ltb (exact_at s a) (exact_at s b)
      go true e =
          let k : digit_at s j < 10 = omega (arith, q, ltb-true y 10 e) in
          sym (lt-ltb (exact_at s a) (exact_at s b)
          (omega (arith, left, m.right_is ∙ exact_more s j m.w k, exact_grows (drop (j + 1) s) (m.w * 10 + digit_at s j), m.w_more, m.u_low)))
      go false e =
          let k : 10 ≤ digit_at s j = omega (arith, q, ltb-false y 10 e) in
          less_is o (exact_at s a) (exact_at s b) (subst (λ (n : ℕ). Compares o n (exact_at s b)) (sym left)
          (subst (λ (n : ℕ). Compares o m.u n) (sym (m.right_is ∙ exact_ended s j m.w k)) m.compares))
