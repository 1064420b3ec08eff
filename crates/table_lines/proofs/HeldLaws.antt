-- What a line that was read leaves in memory.
use Prim.Native.Nat.{ℕ, ◌+◌, ◌≤◌, ◌<◌}
use mathlib.Core.Path.{◌≡◌, refl, sym, ap, ◌∙◌}
use mathlib.Core.List.{List, []}
use mathlib.Core.Bool.{true}
use native.Mathlib.Omega.{arith}
use lib.Dec.{leb}
use lib.ListN.{length, get_or, drop, take, length-take}
use lib.Seq.{sets, ext_get_or, get_or-take}
use Rattle.items.proofs.StoreLaws.{read_inside}
use Rattle.table_lines.specs.declared.Tally.{Tally}
use Rattle.table_lines.specs.declared.Line.TheVariants as line
use Rattle.table_lines.specs.Line.{TextLine, whole, broken, all_at_most, rising, caps, capped, Stores}
use Rattle.table_lines.specs.Tally.{tally, line_of}
use Rattle.table_lines.specs.Block.{Numbers, Summarizes}
use Rattle.table_lines.proofs.CapLaws.{caps-length, caps_same, caps_most}
use Rattle.table_lines.proofs.TallyLaws.{count_is, largest_is, last_is}

abbrev pub numbers_of : TextLine → List ℕ
numbers_of (whole letter ns next) = ns
numbers_of broken = []

-- the line x, with its numbers as memory keeps them
pub record Whole (x : TextLine) (letter : ℕ) (p : Tally) (next : ℕ) (m : List ℕ) : Type 0 where
  pub numbers : List ℕ
  pub line_is : capped x ≡ whole letter numbers next
  pub held : Summarizes numbers p m
  pub rises : p.rising ≡ rising (drop 3 (numbers_of x))

numbers_held : (ns m₀ m : List ℕ) (p : Tally) → m ≡ sets m₀ 0 (caps ns) → p ≡ tally ns → length m ≡ length m₀ → Summarizes (caps ns) p m
unfolding tally
numbers_held ns m₀ m p e q l = record {
  largest_is = ap (λ (t : Tally). t.largest) q;
  last_is = ap (λ (t : Tally). t.last) q;
  rises = λ a. ap (λ (t : Tally). t.rising) q ∙ ap (λ (s : List ℕ). rising (drop 3 s)) (sym (caps_same ns (sym (caps_most ns) ∙ a)));
  numbers = record {
    count_is = ap (λ (t : Tally). t.count) q ∙ (count_is ns ∙ sym (caps-length ns));
    number_is = λ k h b. ap (λ (s : List ℕ). get_or s k 0) e ∙ read k h (omega (arith, b, l));
  };
}
  where
    read : (k : ℕ) → k < length (caps ns) → k < length m₀ → get_or (sets m₀ 0 (caps ns)) k 0 ≡ get_or (caps ns) k 0
    read k h b = ap (λ (n : ℕ). get_or (sets m₀ 0 (caps ns)) n 0) (zero_plus k) ∙ read_inside m₀ (caps ns) 0 k h (omega arith)
      where
        zero_plus : (n : ℕ) → n ≡ 0 + n
        zero_plus n = omega arith

pub whole_read : (x : TextLine) {letter : ℕ} {p : Tally} {next : ℕ} (m₀ m : List ℕ) → line.Whole letter p next ≡ line_of x → Stores x m₀ m
    → length m ≡ length m₀ → Whole x letter p next m
unfolding tally
whole_read (whole l ns n) {letter} {p} {next} m₀ m e s len =
    let a : l ≡ letter = cc in
    let b : n ≡ next = cc in
    let c : p ≡ tally ns = cc in
    record { numbers = caps ns; line_is = ap₂' a b; held = numbers_held ns m₀ m p s c len; rises = ap (λ (t : Tally). t.rising) c }
  where
    ap₂' : {a b c d : ℕ} → a ≡ b → c ≡ d → whole a (caps ns) c ≡ whole b (caps ns) d
    ap₂' p q = cc
whole_read broken {letter} {p} {next} m₀ m e s len = let z : ◌≡◌ {A = ℕ} 0 1 = cc in absurd (omega arith)

pub broken_read : (x : TextLine) → line.Broken ≡ line_of x → x ≡ broken
broken_read (whole l ns n) e = let z : ◌≡◌ {A = ℕ} 0 1 = cc in absurd (omega arith)
broken_read broken e = refl

module _ {ns : List ℕ} {p : Tally} {m : List ℕ} (h : Summarizes ns p m) where
  pub held_count : p.count ≡ length ns
  held_count = h.numbers.count_is

  pub held_at : (k : ℕ) → k < length ns → k < length m → get_or ns k 0 ≡ get_or m k 0
  held_at k a b = sym (h.numbers.number_is k a b)

  pub held_largest : (n : ℕ) → leb p.largest n ≡ all_at_most n ns
  held_largest n = ap (λ (v : ℕ). leb v n) h.largest_is ∙ largest_is ns n

  -- where all numbers are at most 65535, that they rise is told of those in memory, and the last of them is the largest
  pub held_last : 4 ≤ length ns → p.rising ≡ true → all_at_most 65535 ns ≡ true → (n : ℕ) → leb p.last n ≡ all_at_most n (drop 3 ns)
  held_last l e s n = ap (λ (v : ℕ). leb v n) h.last_is ∙ last_is ns l (sym (h.rises s) ∙ e) n

-- where there is room for all the numbers, memory begins with them
pub numbers_take : {ns : List ℕ} {count : ℕ} {m : List ℕ} → Numbers ns count m → count ≤ length m → take count m ≡ ns
numbers_take {ns} {count} {m} h l =
    ext_get_or 0 (take count m) ns (length-take count m ∙ omega (arith, h.count_is)) same
  where
    same : (i : ℕ) → i < length (take count m) → get_or (take count m) i 0 ≡ get_or ns i 0
    same i b = let c : i < count = omega (arith, b, length-take count m) in get_or-take count m i 0 c ∙ h.number_is i (omega (arith, h.count_is)) (omega arith)
