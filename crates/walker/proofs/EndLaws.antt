-- What the walk hands back, from what its loop left in the slices.
use mathlib.Core.Path.{◌≡◌, refl, ap, ◌∙◌}
use mathlib.Core.List.{List, [], ◌++◌, append-nil}
use Prim.Native.Nat.{ℕ, ◌-◌}
use native.Mathlib.Omega.{arith}
use lib.ListN.{length, take, drop, replicate, length-drop, drop_of_length-le}
use lib.Seq.{take_all}
use borrow.Rule.Slice.PartMut.{put_mid}
use Rattle.reply.specs.Reply.{padded}
use Rattle.language.specs.Grammar.{Grammar}
use Rattle.leftcorner.specs.Machine.{Verdict, whole_at, wrong_at, short_at}
use Rattle.walker.specs.Walked.{Walked, answer, listed, rule_count, Ended}

-- ---- a lent tail of a slice

part_tail : (l : List ℕ) (a : ℕ) → take (length l - a) (drop a l) ≡ drop a l
part_tail l a = take_all (length l - a) (drop a l) (omega (arith, length-drop a l))

none_after : (l : List ℕ) (a : ℕ) → drop (length l - a) (drop a l) ≡ []
none_after l a = drop_of_length-le (drop a l) {i = length l - a} (omega (arith, length-drop a l))

put_tail : (l ys : List ℕ) (a : ℕ) → put_mid a (length l - a) l ys ≡ take a l ++ ys
put_tail l ys a = ap (λ (m : List ℕ). take a l ++ (ys ++ m)) (none_after l a) ∙ ap (λ (m : List ℕ). take a l ++ m) (append-nil ys)

-- ---- the end

count_is : (g : Grammar) (v : Verdict) → rule_count (answer g v) ≡ length (listed v)
count_is g (whole_at p l) = refl
count_is g (wrong_at p) = refl
count_is g (short_at p) = refl

count_within : {g : Grammar} {v : Verdict} {w : Walked} {slice : List ℕ} {n : ℕ} → Ended g v w slice → n ≡ rule_count w → n ≡ length (listed v)
count_within {g} {v} h e = e ∙ ap rule_count h.answered ∙ count_is g v

-- the listing, then zeros
pub end_listing : {g : Grammar} {v : Verdict} {w : Walked} (slice ys : List ℕ) (n k : ℕ) → Ended g v w slice → n ≡ rule_count w → length slice ≡ k
    → ys ≡ replicate (length (take (length slice - n) (drop n slice))) 0 → put_mid n (length slice - n) slice ys ≡ padded k (listed v)
unfolding padded
end_listing {g} {v} {w} slice ys n k h e long z =
    let c : n ≡ length (listed v) = count_within h e in
    let t : take n slice ≡ listed v = ap (λ (i : ℕ). take i slice) c ∙ h.front in
    let l : length (take (length slice - n) (drop n slice)) ≡ k - length (listed v) = ap length (part_tail slice n) ∙ length-drop n slice ∙ omega (arith, long, c) in
    put_tail slice ys n ∙ rw (t, z, l)
