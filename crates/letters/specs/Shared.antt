-- Letters that share a code, by a test. Document 02, S-8: "14 shared letter (a letter's code, not 0, is also another's, or is 4; place the
-- lowest such letter's index, A being 0)".
use Rattle.std.specs.Prelude.{ℕ, ◌<◌, ◌≡◌, ◌⊎◌, List, get_or}
use Rattle.std.proofs.Math.Decide.{ℕ_discrete}
use Rattle.std.proofs.Common.{arith}
use Rattle.fixpoint.specs.declared.Found.{Found}
use Rattle.fixpoint.specs.Lowest.{Lowest, lowest, lowest_is}
use Rattle.fixpoint.proofs.Tests.{map?, both?, either?, not?}

-- of the 26 codes l, that of another letter than i is the code of i
abbrev pub Anothers : List ℕ → ℕ → ℕ → Type 0
Anothers l i j = (j ≡ i → ⊥) × (get_or l j 0 ≡ get_or l i 0)

-- "a letter's code, not 0, is also another's, or is 4"; a letter goes by its index, "A being 0"
pub record Shared (l : List ℕ) (i : ℕ) : Type 0 where
  pub used : get_or l i 0 ≡ 0 → ⊥
  pub shared : ((j : ℕ) × (j < 26) × Anothers l i j) ⊎ (get_or l i 0 ≡ 4)

-- the test
unfoldable pub some? : {P : ℕ → Type 0} (n : ℕ) (r : Found) → Lowest P 0 n r → Dec ((j : ℕ) × (j < n) × P j)
some? n (Found.At j) h = yes (j, h.1, h.2)
some? n Found.Nothing h = no (λ k. h k.0 (omega arith) k.1 k.2)

unfoldable pub another? : (l : List ℕ) (i j : ℕ) → Dec (Anothers l i j)
another? l i j = both? (not? (ℕ_discrete j i)) (ℕ_discrete (get_or l j 0) (get_or l i 0))

unfoldable pub shared? : (l : List ℕ) (i : ℕ) → Dec (Shared l i)
shared? l i =
    map? (λ h. record { used = h.0; shared = h.1 }) (λ s. (s.used, s.shared))
    (both? (not? (ℕ_discrete (get_or l i 0) 0))
    (either? (some? 26 (lowest (another? l i) 0 26) (lowest_is (another? l i) 0 26)) (ℕ_discrete (get_or l i 0) 4)))

-- "the lowest such letter's index"
unfoldable pub lowest_shared : List ℕ → Found
lowest_shared l = lowest (shared? l) 0 26

pub lowest_shared_lem : (l : List ℕ) → Lowest (Shared l) 0 26 (lowest_shared l)
unfolding lowest_shared
lowest_shared_lem l = lowest_is (shared? l) 0 26
