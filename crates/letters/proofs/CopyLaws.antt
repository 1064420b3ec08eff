-- A list copied to the start of another, element by element.
use Prim.Native.Nat.{ℕ, suc, ◌+◌, ◌<◌}
use mathlib.Core.Path.{◌≡◌, sym, ap, ◌∙◌}
use mathlib.Core.List.{List}
use native.Mathlib.Omega.{arith}
use lib.ListN.{length, get_or, set, take}
use lib.Seq.{sets, take-suc, length-take-le}
use Rattle.items.proofs.StoreLaws.{sets_snoc}

pub copy_more : (l a : List ℕ) (i : ℕ) → i < length a → set (sets l 0 (take i a)) i (get_or a i 0) ≡ sets l 0 (take (i + 1) a)
copy_more l a i h =
    let n : 0 + length (take i a) ≡ i = omega (arith, length-take-le i a (omega arith)) in
    ap (λ (k : ℕ). set (sets l 0 (take i a)) k (get_or a i 0)) (sym n)
    ∙ (sets_snoc l (take i a) 0 (get_or a i 0)
    ∙ ap (sets l 0) (sym (take-suc a i 0 h) ∙ ap (λ (k : ℕ). take k a) (let e : suc i ≡ i + 1 = omega arith in e)))
