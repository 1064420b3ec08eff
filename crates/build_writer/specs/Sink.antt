-- A slice that bytes are written to, one after the other. "book or scan file | 0 | 65,536 bytes": positions stop at 65,537, which
-- says that a book is too long, and nothing is stored from there on.
use Rattle.std.specs.Prelude.{ℕ, ◌+◌, ◌-◌, ◌≤◌, min, ◌≡◌, List, ◌++◌, length, take, replicate}
use Rattle.std.proofs.Common.{ap, ap₂, arith, take_all}
use Rattle.std.proofs.lemmas.List.Edits.{sets}

-- from slice l and position i the bytes a lead to slice m and position j
pub record Wrote (l : List ℕ) (i : ℕ) (a : List ℕ) (m : List ℕ) (j : ℕ) : Type 0 where
  pub bytes : m ≡ sets l i (take (65537 - i) a)
  pub next : j ≡ min (i + length a) 65537

-- a slice of this length with the bytes a, as far as they fit, then zeros
unfoldable pub in_room : ℕ → List ℕ → List ℕ
in_room room a = take (min room 65537) a ++ replicate (room - min (length a) 65537) 0

pub fits_room : (room : ℕ) (a : List ℕ) → length a ≤ room → length a ≤ 65536 → in_room room a ≡ a ++ replicate (room - length a) 0
unfolding in_room
fits_room room a h k =
    let e : room - min (length a) 65537 ≡ room - length a = omega arith in
    ap₂ (λ (x y : List ℕ). x ++ y) (take_all (min room 65537) a (omega arith)) (ap (λ (n : ℕ). replicate n 0) e)
