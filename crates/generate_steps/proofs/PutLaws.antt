-- Writing behind what is written, one piece after the other.
use Prim.Native.Nat.{ℕ, ◌+◌, ◌≤◌, ◌<◌}
use mathlib.Core.Path.{◌≡◌, refl, sym, ap, ◌∙◌}
use mathlib.Core.List.{List, [], ◌∷◌, ◌++◌}
use native.Mathlib.Omega.{arith}
use lib.ListN.{length, set, length-append}
use lib.Seq.{sets, length-sets}
use Rattle.items.proofs.StoreLaws.{sets_join}
use Rattle.generate_steps.specs.Put.{Put}

pub put_none : (l : List ℕ) (i : ℕ) → i ≤ length l → Put l i [] l i
put_none l i h = record { slice_is = refl; next_is = omega arith; room = h }

pub put_one : (l : List ℕ) (i x : ℕ) → i < length l → Put l i (x ∷ []) (set l i x) (i + 1)
put_one l i x h = record { slice_is = refl; next_is = omega arith; room = omega arith }

pub put_then : {l a m b n : List ℕ} {i j k : ℕ} → Put l i a m j → Put m j b n k → Put l i (a ++ b) n k
put_then {l} {a} {m} {b} {n} {i} {j} {k} p q =
    record {
      slice_is = q.slice_is ∙ along q.next_is ∙ sym (sets_join l a b i);
      next_is = omega (arith, p.next_is, q.next_is, length-append a b);
      room = omega (arith, q.room, ap length p.slice_is, length-sets l i a);
    }
  where
    along : k ≡ j + length b → sets m j b ≡ sets (sets l i a) (i + length a) b
    along e = ap (λ (x : List ℕ). sets x j b) p.slice_is ∙ ap (λ (y : ℕ). sets (sets l i a) y b) p.next_is
