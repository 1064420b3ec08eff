-- The moves of a kernel set: exactly the moved items, rising.
use Prim.Native.Nat.{ℕ, ◌+◌, ◌*◌, ◌≤◌, ◌<◌}
use native.Mathlib.Omega.{arith}
use mathlib.Core.Path.{◌≡◌, refl, sym, subst}
use mathlib.Core.List.{List, [], ◌∷◌}
use lib.ListN.{length}
use Rattle.language.specs.Grammar.{Grammar}
use Rattle.language.specs.Sentence.{In, here}
use Rattle.language.specs.WellFormed as grammar
use Rattle.language.proofs.Member.{in_map}
use Rattle.language.specs.Rising.{RisingFrom}
use Rattle.language.proofs.Rising.{rising_same}
use Rattle.leftcorner.specs.Construction.{KernelAt, Has, in_kernel, in_closure, MovedBy, moved}
use Rattle.check_verdict.proofs.ItemsDecided.{moved?}
use Rattle.check_verdict.proofs.Closure.{image_in}
use Rattle.build_states.specs.Strings.{entry_strings}
use Rattle.build_states.specs.States.{Kernel, item_of, dot_of, range, kernel_line, alone, move}
use Rattle.build_states.proofs.Lists.{in_range, keep_only, keep_every, keep_rising}
use Rattle.build_states.proofs.Limits.{bounded, code_low}

-- an item with its dot as a number, and back
pub item_of_lem : (i n : ℕ) → n < 16 → item_of (i * 16 + n) ≡ i
item_of_lem i n l = omega (arith, l)

pub dot_of_lem : (i n : ℕ) → n < 16 → dot_of (i * 16 + n) ≡ n
dot_of_lem i n l = omega (arith, l)

none_in : (l : List ℕ) → ((x : ℕ) → In x l → ⊥) → l ≡ []
none_in [] f = refl
none_in (x ∷ l) f = absurd (f x here)

module _ (g : Grammar) where
  -- the kernel items of `alone` are those of the set
  pub alone_line : {k : Kernel} {i n : ℕ} {σ : List ℕ} → KernelAt g (alone g k) 1 i n σ → (x : ℕ) × In x k × (i ≡ item_of x) × (n ≡ dot_of x)
  alone_line {k = k} {i = i} {n = n} {σ = σ} m =
      let r = in_map (kernel_line g) k m in
      let e = r.2 in
      (r.0, r.1, let a : i ≡ item_of r.0 = cc in a, let b : n ≡ dot_of r.0 = cc in b)

  pub line_alone : {k : Kernel} {x : ℕ} → In x k → KernelAt g (alone g k) 1 (item_of x) (dot_of x) []
  line_alone {k = k} {x = x} m = image_in (kernel_line g) x k m

  pub move_only : (k : Kernel) (X x : ℕ) → In x (move g k X) → MovedBy g (alone g k) 1 X (item_of x) (dot_of x)
  unfolding move
  move_only k X x m = (keep_only (λ x. MovedBy g (alone g k) 1 X (item_of x) (dot_of x)) (λ x. moved? g (alone g k) 1 X (item_of x) (dot_of x)) (range 0 4096) x m).0

  pub move_rising : (k : Kernel) (X : ℕ) → RisingFrom 0 (move g k X)
  unfolding move
  move_rising k X = keep_rising (λ x. MovedBy g (alone g k) 1 X (item_of x) (dot_of x)) (λ x. moved? g (alone g k) 1 X (item_of x) (dot_of x)) 0 4096

  -- nothing moves from no items
  pub move_nothing : (X : ℕ) → move g [] X ≡ []
  move_nothing X = none_in (move g [] X) (λ x m. nowhere (move_only [] X x m))
    where
      nothing : {i n : ℕ} → Has g (alone g []) 1 i n → ⊥
      nothing (in_kernel m) = elim (alone_line {k = []} m).1 [ ]
      nothing (in_closure j h go e l) = nothing h

      nowhere : {i n : ℕ} → MovedBy g (alone g []) 1 X i n → ⊥
      nowhere (moved h go) = nothing h

  -- where the grammar was read and its entries are within the limit
  module _ (W : grammar.WellFormed g) (few : length (entry_strings g) ≤ 127) where
    record Small (X i n : ℕ) : Type 0 where
      dot : n < 16
      number : i * 16 + n < 4096
      low : 1 ≤ X
      high : X < 128

    small : (k : Kernel) {X i n : ℕ} → MovedBy g (alone g k) 1 X i n → Small X i n
    small k {i = i} (moved {k = d} h go) =
        let b = bounded g W (alone g k) refl go in
        let c = code_low g W (alone g k) refl b.kind in
        record { dot = omega (arith, b.dot); number = omega (arith, b.dot, b.item, few, W.few_rules); low = c.0; high = c.1 }

    pub in_move : (k : Kernel) {X i n : ℕ} → MovedBy g (alone g k) 1 X i n → In (i * 16 + n) (move g k X)
    unfolding move
    in_move k {X = X} {i = i} {n = n} m =
        let s = small k m in
        let x = i * 16 + n in
        keep_every (λ x. MovedBy g (alone g k) 1 X (item_of x) (dot_of x)) (λ x. moved? g (alone g k) 1 X (item_of x) (dot_of x))
        (in_range 0 4096 x (omega arith) (omega (arith, s.number)))
        (subst (λ (z : ℕ). MovedBy g (alone g k) 1 X z (dot_of x)) (sym (item_of_lem i n s.dot)) (subst (λ (z : ℕ). MovedBy g (alone g k) 1 X i z) (sym (dot_of_lem i n s.dot)) m))

    -- the dot is below 16
    pub moved_dot : (k : Kernel) {X i n : ℕ} → MovedBy g (alone g k) 1 X i n → n < 16
    moved_dot k m = (small k m).dot

    -- the symbol is one that states are left by
    pub moved_symbol : (k : Kernel) {X i n : ℕ} → MovedBy g (alone g k) 1 X i n → In X (range 1 127)
    moved_symbol k {X = X} m = let s = small k m in in_range 1 127 X s.low (omega (arith, s.high))

    -- and no other
    pub move_outside : (k : Kernel) (X : ℕ) → (In X (range 1 127) → ⊥) → move g k X ≡ []
    move_outside k X f = none_in (move g k X) (λ x m. f (moved_symbol k (move_only k X x m)))

    -- the rising list of the moved items is the move's
    pub move_is : (k m : Kernel) (X : ℕ) → RisingFrom 0 m → ((x : ℕ) → In x m → MovedBy g (alone g k) 1 X (item_of x) (dot_of x))
        → ((i n : ℕ) → MovedBy g (alone g k) 1 X i n → In (i * 16 + n) m) → move g k X ≡ m
    move_is k m X r only every = rising_same 0 0 (move g k X) m (move_rising k X) r (λ x h. there_in x (move_only k X x h)) (λ x h. here_in x (only x h))
      where
        whole : (x : ℕ) → item_of x * 16 + dot_of x ≡ x
        whole x = omega arith

        there_in : (x : ℕ) → MovedBy g (alone g k) 1 X (item_of x) (dot_of x) → In x m
        there_in x h = subst (λ (z : ℕ). In z m) (whole x) (every (item_of x) (dot_of x) h)

        here_in : (x : ℕ) → MovedBy g (alone g k) 1 X (item_of x) (dot_of x) → In x (move g k X)
        here_in x h = subst (λ (z : ℕ). In z (move g k X)) (whole x) (in_move k h)
