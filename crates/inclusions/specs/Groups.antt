-- Where the groups of a rule begin, in memory.
use Rattle.std.specs.Prelude.{ℕ, zero, suc, ◌-◌, cond, List, eqb}
use Rattle.items.specs.Layout.{length_at, mark_at, start_at}

-- the first of n symbols from k on that begins a group, or the end
unfoldable pub begin_from : List ℕ → ℕ → ℕ → ℕ → ℕ
begin_from items i k zero = k
begin_from items i k (suc n) = cond (eqb (start_at items i k) 0) (begin_from items i (suc k) n) k

-- where the group ends that begins with symbol k of item i
unfoldable pub group_end : List ℕ → ℕ → ℕ → ℕ
group_end items i k = begin_from items i (suc k) (length_at items i - suc k)

-- where the j-th group after the one begins that begins at k
unfoldable pub group_from : List ℕ → ℕ → ℕ → ℕ → ℕ
group_from items i k zero = k
group_from items i k (suc j) = group_from items i (group_end items i k) j

-- where group j begins, counted from 0
abbrev pub group_begin : List ℕ → ℕ → ℕ → ℕ
group_begin items i j = group_from items i (mark_at items i) j
