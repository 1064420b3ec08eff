-- A letters book and the line that it is.
use Prim.Native.Nat.{ℕ, suc, ◌+◌, ◌*◌, ◌%◌, ◌≤◌, ◌<◌}
use mathlib.Core.Path.{◌≡◌, refl, sym, ap, subst, ◌∙◌}
use mathlib.Core.List.{List, [], ◌∷◌, ◌++◌, append-nil}
use mathlib.Core.Bool.{Bool, true, false, cond}
use native.Mathlib.Omega.{arith}
use borrow.Author.Tests.{le-leb, eq-eqb, lt-ltb, le-ltb}
use lib.Dec.{ltb}
use lib.ListN.{length, get_or, drop, length-append, drop_of_length-le}
use Rattle.fixpoint.specs.declared.Found.{Found}
use Rattle.fixpoint.specs.Lowest.{Lowest, lowest_one}
use Rattle.range.proofs.RangeLaws.{true-within}
use Rattle.range.proofs.TestLaws.{all_cond}
use Rattle.reply.specs.declared.Kind.TheVariants as kind
use Rattle.text.specs.Digits.{lead, digits}
use Rattle.table_lines.specs.Line.{line_at, all_at_most}
use Rattle.table_lines.specs.Line as line
use Rattle.table_lines.proofs.CapLaws.{at_most}
use Rattle.build_book.specs.Text.{fields}
use Rattle.build_read_back.proofs.Line.{rest_all, rest_none, rest_past, line_read, no_line}
use Rattle.canonical.proofs.Line.{line_written}
use Rattle.letters.specs.Shared.{Shared, lowest_shared, lowest_shared_lem}
use Rattle.letters.specs.Letters.{codes, refused_at, unless_shared, by_line, letters_of}
use Rattle.letters.proofs.GoodLaws.{letters_good}
use Rattle.letters_promise.specs.Promise.{book_of, Codes, Unshared, Book}

-- ---- bounds of codes, by a test and by index
all_below : (m : ℕ) (l : List ℕ) → ((i : ℕ) → i < length l → get_or l i 0 ≤ m) → all_at_most m l ≡ true
all_below m [] f = refl
all_below m (v ∷ l) f = simp (le-leb v m (f 0 (omega arith))) (all_below m l (λ i h. f (suc i) (omega (arith, h))))

some_above : (m : ℕ) (l : List ℕ) (i : ℕ) → i < length l → m < get_or l i 0 → all_at_most m l ≡ false
some_above m l i h f = go (all_at_most m l) refl
  where
    go : (b : Bool) → all_at_most m l ≡ b → all_at_most m l ≡ false
    go true e = absurd (omega (arith, at_most m l e i, f))
    go false e = e

codes_below : {m : ℕ} {l : List ℕ} → Codes m l → all_at_most m l ≡ true
codes_below {m} {l} C = all_below m l (λ i h. C.at_most i (omega (arith, h, C.long)))

-- ---- its length
lead_short : (p v : ℕ) → length (lead p v) ≤ 1
unfolding lead
lead_short p v = all_cond (λ (l : List ℕ). length l ≤ 1) (ltb v p) (λ e. omega arith) (λ e. omega arith)

digits_short : (v : ℕ) → length (digits v) ≤ 5
unfolding digits
digits_short v =
    omega (
      arith,
      lead_short 10000 v,
      lead_short 1000 v,
      lead_short 100 v,
      lead_short 10 v,
      length-append (lead 10000 v) (lead 1000 v ++ (lead 100 v ++ (lead 10 v ++ ((48 + v % 10) ∷ [])))),
      length-append (lead 1000 v) (lead 100 v ++ (lead 10 v ++ ((48 + v % 10) ∷ []))),
      length-append (lead 100 v) (lead 10 v ++ ((48 + v % 10) ∷ [])),
      length-append (lead 10 v) ((48 + v % 10) ∷ []),
    )

fields_short : (l : List ℕ) → length (fields l) ≤ 6 * length l
fields_short [] = omega arith
fields_short (v ∷ l) = omega (arith, digits_short v, fields_short l, length-append (digits v) (fields l))

pub book_short : (l : List ℕ) → length l ≡ 26 → length (book_of l) ≤ 65536
book_short l e = omega (arith, fields_short l, e, length-append (fields l) (10 ∷ []))

-- ---- its line
module _ (t : ℕ) (some : 1 ≤ t) (most : t ≤ 63) where
  module _ (l rest : List ℕ) (C : Codes 65535 l) (short : length (book_of l ++ rest) ≤ 65536) where
    line_is : line_at (book_of l ++ rest) 0 ≡ line.whole 76 l (length (book_of l))
    line_is =
        let R = rest_all (book_of l ++ rest) in
        let e : 0 + length (book_of l) ≡ length (book_of l) = omega arith in
        line_read (book_of l ++ rest) 76 l rest (omega arith) (omega arith) (codes_below C) R (rest_past (book_of l ++ rest) (book_of l) R)
        ∙ ap (line.whole 76 l) e

    by_line_lem : letters_of t (book_of l ++ rest) ≡ by_line t (length (book_of l ++ rest)) (line.whole 76 l (length (book_of l)))
    unfolding letters_of
    by_line_lem = simp (true-within 1 t 63 some most, le-leb (length (book_of l ++ rest)) 65536 short, line_is)

    stray : (i : ℕ) → i < 26 → t < get_or l i 0 → letters_of t (book_of l ++ rest) ≡ refused_at kind.Undeclared 0
    unfolding by_line
    stray i h f =
        by_line_lem ∙ simp (eq-eqb (length l) 26 C.long, codes_below C, some_above t l i (omega (arith, h, C.long)) f)

    -- past the codes
    by_end : all_at_most t l ≡ true → letters_of t (book_of l ++ rest)
        ≡ cond (ltb (length (book_of l)) (length (book_of l ++ rest))) (refused_at kind.Malformed (length (book_of l))) (unless_shared (lowest_shared l) l)
    unfolding by_line
    by_end d = by_line_lem ∙ simp (eq-eqb (length l) 26 C.long, codes_below C, d)

  wide : {l : List ℕ} → Codes t l → Codes 65535 l
  wide C = record { long = C.long; at_most = λ i h. omega (arith, C.at_most i h, most) }

  second : (l rest : List ℕ) (b : ℕ) → Codes t l → length (book_of l ++ b ∷ rest) ≤ 65536 → letters_of t (book_of l ++ b ∷ rest) ≡ refused_at kind.Malformed (length (book_of l))
  second l rest b C short =
      by_end l (b ∷ rest) (wide C) short (codes_below C)
      ∙ simp (lt-ltb (length (book_of l)) (length (book_of l ++ b ∷ rest)) (omega (arith, length-append (book_of l) (b ∷ rest))))

  alone : (l : List ℕ) → Codes t l → letters_of t (book_of l) ≡ unless_shared (lowest_shared l) l
  alone l C =
      let n = append-nil (book_of l) in
      let short : length (book_of l ++ []) ≤ 65536 = omega (arith, book_short l C.long, ap length n) in
      ap (letters_of t) (sym n) ∙ by_end l [] (wide C) short (codes_below C)
      ∙ simp (le-ltb (length (book_of l)) (length (book_of l ++ [])) (omega (arith, ap length n)))

  good : (l : List ℕ) → Codes t l → Unshared l → letters_of t (book_of l) ≡ codes l
  good l C U =
      alone l C ∙ ap (λ (f : Found). unless_shared f l)
      (lowest_one (Shared l) 0 26 (lowest_shared l) Found.Nothing (lowest_shared_lem l) (λ k a b s. U k b s))

  shared : (l : List ℕ) (i : ℕ) → Codes t l → i < 26 → Shared l i → ((j : ℕ) → j < i → Shared l j → ⊥) → letters_of t (book_of l) ≡ refused_at kind.AmbiguousLetter i
  shared l i C h S lower =
      alone l C ∙ ap (λ (f : Found). unless_shared f l)
      (lowest_one (Shared l) 0 26 (lowest_shared l) (Found.At i) (lowest_shared_lem l) (omega arith, h, S, λ k a b s. lower k b s))

  -- what is known of one that is good
  read : (s l : List ℕ) → letters_of t s ≡ codes l → Codes t l × Unshared l × (s ≡ book_of l)
  read s l e =
      let G = letters_good t s e in
      let none = subst (Lowest (Shared l) 0 26) G.unshared (lowest_shared_lem l) in
      let past : drop G.end s ≡ [] = drop_of_length-le s G.one_line in (
        record { long = G.long; at_most = λ i h. at_most t l G.declared i },
        λ i h S. none i (omega arith) h S,
        line_written s 0 G.line_is G.small ∙ (ap (λ (r : List ℕ). book_of l ++ r) past ∙ append-nil (book_of l)),
      )

  empty : letters_of t [] ≡ refused_at kind.Malformed 0
  unfolding letters_of by_line
  empty =
      let e : line_at [] 0 ≡ line.broken = no_line [] 0 (rest_none []) in
      simp (true-within 1 t 63 some most, e)

  pub promise : Book t
  promise = record {
    read = read;
    good = good;
    empty = empty;
    stray = λ l rest i C h f short. stray l rest C short i h f;
    second = second;
    shared = shared;
  }
