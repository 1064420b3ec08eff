-- How what is written adds up: one text after another, a text for each of some numbers.
use Prim.Native.Nat.{ℕ, zero, suc, ◌+◌, ◌-◌, ◌≤◌}
use mathlib.Core.Path.{◌≡◌, sym, ap, ap₂, subst, ◌∙◌}
use mathlib.Core.List.{List, [], ◌++◌, map, append_assoc, append-nil}
use native.Mathlib.Decide.{dec_le}
use native.Mathlib.Omega.{arith}
use lib.ListN.{length, take, length-append}
use lib.Seq.{sets, take_all, take-nil, take-append-le, take-append-add}
use Rattle.language.specs.Grammar.{concat}
use Rattle.items.proofs.StoreLaws.{sets_join}
use Rattle.build_states.specs.States.{range}
use Rattle.build_writer.specs.Sink.{Wrote}

-- no bytes are left below the limit
none_left : (l : List ℕ) (i n : ℕ) (a : List ℕ) → n ≡ 0 → l ≡ sets l i (take n a)
none_left l i n a e = ap (λ (k : ℕ). sets l i (take k a)) (sym e)

-- ---- one text after another

pub wrote_none : (l : List ℕ) (i : ℕ) → i ≤ 65537 → Wrote l i [] l i
wrote_none l i h = record { bytes = ap (sets l i) (sym (take-nil (65537 - i))); next = omega arith }

-- the same text in other words
pub in_words : {l a b m : List ℕ} {i j : ℕ} → a ≡ b → Wrote l i a m j → Wrote l i b m j
in_words {l} {a} {b} {m} {i} {j} e w = subst (λ (x : List ℕ). Wrote l i x m j) e w

pub then : {l a m b n : List ℕ} {i j k : ℕ} → Wrote l i a m j → Wrote m j b n k → Wrote l i (a ++ b) n k
then {l} {a} {m} {b} {n} {i} {j} {k} v w = record { bytes = go (dec_le (i + length a) 65537); next = omega (arith, v.next, w.next, length-append a b) }
  where
    go : Dec (i + length a ≤ 65537) → n ≡ sets l i (take (65537 - i) (a ++ b))
    go (yes h) =
        let all : take (65537 - i) a ≡ a = take_all (65537 - i) a (omega arith) in
        let at : j ≡ i + length a = omega (arith, v.next) in
        let e : 65537 - i ≡ length a + (65537 - j) = omega (arith, at) in
        let m-is : m ≡ sets l i a = v.bytes ∙ ap (sets l i) all in
        w.bytes
        ∙ (ap₂ (λ (x : List ℕ) (y : ℕ). sets x y (take (65537 - j) b)) m-is at
        ∙ (sym (sets_join l a (take (65537 - j) b) i) ∙ ap (sets l i) (sym (ap (λ (x : ℕ). take x (a ++ b)) e ∙ take-append-add a b (65537 - j)))))
    go (no f) =
        let z : 65537 - j ≡ 0 = omega (arith, v.next) in
        w.bytes ∙ (sym (none_left m j (65537 - j) b z) ∙ (v.bytes ∙ ap (sets l i) (sym (take-append-le (65537 - i) a b (omega arith)))))

-- ---- a text for each of some numbers

abbrev pub texts : (ℕ → List ℕ) → List ℕ → List ℕ
texts f l = concat (map f l)

texts_snoc : (f : ℕ → List ℕ) (a n : ℕ) → texts f (range a n) ++ f (a + n) ≡ texts f (range a (suc n))
texts_snoc f a zero = ap f (omega arith) ∙ sym (append-nil (f a))
texts_snoc f a (suc n) =
    let e : a + suc n ≡ suc a + n = omega arith in
    append_assoc (f a) (texts f (range (suc a) n)) (f (a + suc n))
    ∙ ap (λ (x : List ℕ). f a ++ x) (ap (λ (k : ℕ). texts f (range (suc a) n) ++ f k) e ∙ texts_snoc f (suc a) n)

-- those of the numbers from a to below k are written
pub record Through (f : ℕ → List ℕ) (a k : ℕ) (l : List ℕ) (i : ℕ) (m : List ℕ) (j : ℕ) : Type 0 where
  pub begun : a ≤ k
  pub wrote : Wrote l i (texts f (range a (k - a))) m j

pub through_none : (f : ℕ → List ℕ) (a : ℕ) (l : List ℕ) (i : ℕ) → i ≤ 65537 → Through f a a l i l i
through_none f a l i h =
    let e : 0 ≡ a - a = omega arith in
    record { begun = omega arith; wrote = in_words (ap (λ (n : ℕ). texts f (range a n)) e) (wrote_none l i h) }

pub through_more : {f : ℕ → List ℕ} {a k : ℕ} {l m n : List ℕ} {i j h : ℕ} → Through f a k l i m j → Wrote m j (f k) n h → Through f a (k + 1) l i n h
through_more {f} {a} {k} t w =
    let b : a ≤ k = t.begun in
    let e : k ≡ a + (k - a) = omega arith in
    let s : suc (k - a) ≡ k + 1 - a = omega arith in
    record {
      begun = omega arith;
      wrote = in_words (ap (λ (x : ℕ). texts f (range a (k - a)) ++ f x) e ∙ (texts_snoc f a (k - a) ∙ ap (λ (x : ℕ). texts f (range a x)) s)) (then t.wrote w);
    }

pub through_all : {f : ℕ → List ℕ} {a k : ℕ} {l m b : List ℕ} {i j : ℕ} → Through f a k l i m j → (n : ℕ) → k ≡ a + n → texts f (range a n) ≡ b → Wrote l i b m j
through_all {f} {a} {k} t n e s =
    let z : k - a ≡ n = omega arith in
    in_words (ap (λ (x : ℕ). texts f (range a x)) z ∙ s) t.wrote
