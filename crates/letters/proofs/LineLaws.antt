-- What comes of the line of a letters book, by what the code holds of it.
use Prim.Native.Nat.{ℕ, ◌≤◌, ◌<◌}
use mathlib.Core.Path.{◌≡◌, refl, sym, ap, subst, ◌∙◌}
use mathlib.Core.List.{List}
use mathlib.Core.Bool.{Bool, true, false, cond}
use native.Mathlib.Omega.{arith}
use borrow.Author.Tests.{eq-eqb, ne_eqb, le-leb, lt-leb, lt-ltb, le-ltb}
use lib.Dec.{ltb}
use lib.ListN.{length, get_or}
use lib.Seq.{take_all}
use Rattle.fixpoint.specs.declared.Found.{Found}
use Rattle.fixpoint.specs.Lowest.{Lowest, lowest_one}
use Rattle.reply.specs.declared.Kind.TheVariants as kind
use Rattle.reply.specs.declared.Refusal.{Refusal}
use Rattle.reply.specs.declared.Reply.{Reply}
use Rattle.reply.specs.declared.Reply.TheVariants as reply
use Rattle.table_lines.specs.declared.Tally.{Tally}
use Rattle.table_lines.specs.Line.{TextLine, all_at_most, caps, capped}
use Rattle.table_lines.specs.Line as line
use Rattle.table_lines.proofs.CapLaws.{caps-length, caps_same, caps_most, line_caps, at_most}
use Rattle.table_lines.proofs.HeldLaws.{Whole, held_count, held_largest, numbers_take}
use Rattle.letters.specs.Shared.{Shared, lowest_shared, lowest_shared_lem}
use Rattle.letters.specs.Letters.{Letters, codes, refused, refused_at, unless_shared, by_line, reply_of}
use Rattle.letters.specs.Stored.{Stored}

pub told : {y : Letters} {why : Refusal} {r : Reply} {m : List ℕ} → y ≡ refused why → r ≡ reply.Refused why → Stored y r m
told e h = record { replied = h ∙ ap reply_of (sym e); stored = λ l f. let z : ◌≡◌ {A = ℕ} 0 1 = cc in absurd (omega arith) }

pub told_codes : {y : Letters} {r : Reply} {m : List ℕ} → y ≡ codes m → r ≡ reply.Accepted 0 → ((i : ℕ) → get_or m i 0 ≤ 63) → Stored y r m
told_codes {m = m} e h small = record { replied = h ∙ ap reply_of (sym e); stored = λ l f. go l (let q : m ≡ l = cc in q) }
  where
    go : (l : List ℕ) → m ≡ l → (m ≡ l) × ((i : ℕ) → get_or l i 0 ≤ 63)
    go l q = (q, λ i. subst (λ (k : List ℕ). get_or k i 0 ≤ 63) q (small i))

module _ (t size : ℕ) where
  -- it comes to the same by its numbers as memory keeps them
  as_kept : (x : TextLine) → by_line t size x ≡ by_line t size (capped x)
  unfolding by_line
  as_kept x = line_caps (λ letter l next. by_line t size (line.whole letter l next)) (refused_at kind.Malformed 0) (λ letter l next. same letter l next (all_at_most 65535 l) refl) x
    where
      same : (letter : ℕ) (l : List ℕ) (next : ℕ) (b : Bool) → all_at_most 65535 l ≡ b
          → by_line t size (line.whole letter (caps l) next) ≡ by_line t size (line.whole letter l next)
      same letter l next true e = ap (λ (k : List ℕ). by_line t size (line.whole letter k next)) (caps_same l e)
      same letter l next false e = simp (caps-length l, caps_most l, e)

  pub broken-line : {x : TextLine} → x ≡ line.broken → by_line t size x ≡ refused_at kind.Malformed 0
  unfolding by_line
  broken-line e = simp e

  module _ {x : TextLine} {letter next : ℕ} {p : Tally} {m : List ℕ} (w : Whole x letter p next m) where
    kept : by_line t size x ≡ by_line t size (line.whole letter w.numbers next)
    kept = as_kept x ∙ ap (by_line t size) w.line_is

    pub other_letter : (letter ≡ 76 → ⊥) → by_line t size x ≡ refused_at kind.Malformed 0
    unfolding by_line
    other_letter f = kept ∙ simp (ne_eqb letter 76 f)

    module _ (is-l : letter ≡ 76) where
      pub other_count : (p.count ≡ 26 → ⊥) → by_line t size x ≡ refused_at kind.Malformed 0
      unfolding by_line
      other_count f = kept ∙ simp (eq-eqb letter 76 is-l, ne_eqb (length w.numbers) 26 (λ e. f (held_count w.held ∙ e)))

      module _ (is-26 : p.count ≡ 26) where
        long : length w.numbers ≡ 26
        long = sym (held_count w.held) ∙ is-26

        pub too_large : 65535 < p.largest → by_line t size x ≡ refused_at kind.LimitExceeded 0
        unfolding by_line
        too_large f =
            kept ∙ simp (eq-eqb letter 76 is-l, eq-eqb (length w.numbers) 26 long, sym (held_largest w.held 65535) ∙ lt-leb p.largest 65535 f)

        module _ (small : p.largest ≤ 65535) where
          pub above_t : t < p.largest → by_line t size x ≡ refused_at kind.Undeclared 0
          unfolding by_line
          above_t f =
              kept
              ∙ simp (
                eq-eqb letter 76 is-l,
                eq-eqb (length w.numbers) 26 long,
                sym (held_largest w.held 65535) ∙ le-leb p.largest 65535 small,
                sym (held_largest w.held t) ∙ lt-leb p.largest t f,
              )

          module _ (declared : p.largest ≤ t) where
            all_declared_lem : all_at_most t w.numbers ≡ true
            all_declared_lem = sym (held_largest w.held t) ∙ le-leb p.largest t declared

            by_end : by_line t size x ≡ cond (ltb next size) (refused_at kind.Malformed next) (unless_shared (lowest_shared w.numbers) w.numbers)
            unfolding by_line
            by_end =
                kept
                ∙ simp (
                  eq-eqb letter 76 is-l,
                  eq-eqb (length w.numbers) 26 long,
                  sym (held_largest w.held 65535) ∙ le-leb p.largest 65535 small,
                  all_declared_lem,
                )

            pub second_line : next < size → by_line t size x ≡ refused_at kind.Malformed next
            second_line f = by_end ∙ simp (lt-ltb next size f)

            module _ (one_line : size ≤ next) (all : length m ≡ 26) where
              numbers_are : w.numbers ≡ m
              numbers_are = sym (numbers_take w.held.numbers (omega (arith, is-26, all))) ∙ take_all p.count m (omega (arith, is-26, all))

              pub by_found : (found : Found) → Lowest (Shared m) 0 26 found → by_line t size x ≡ unless_shared found m
              by_found found lowest =
                  let e : by_line t size x ≡ unless_shared (lowest_shared w.numbers) w.numbers = by_end ∙ simp (le-ltb next size one_line) in
                  let f = lowest_one (Shared m) 0 26 (lowest_shared m) found (lowest_shared_lem m) lowest in
                  e ∙ (ap (λ (l : List ℕ). unless_shared (lowest_shared l) l) numbers_are ∙ ap (λ (y : Found). unless_shared y m) f)

              pub each_fits : t ≤ 63 → (i : ℕ) → get_or m i 0 ≤ 63
              each_fits few i = subst (λ (l : List ℕ). get_or l i 0 ≤ 63) numbers_are (omega (arith, at_most t w.numbers all_declared_lem i))
