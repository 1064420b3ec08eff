-- The judgement of an entry line, test by test.
use Prim.Native.Nat.{ℕ, ◌≤◌, ◌<◌}
use mathlib.Core.Path.{◌≡◌}
use mathlib.Core.List.{List}
use mathlib.Core.Bool.{true, false}
use borrow.Author.Tests.{le-leb, lt-leb, eq-eqb, ne_eqb}
use lib.ListN.{length, get_or, drop}
use Rattle.range.specs.Range.{within}
use Rattle.reply.specs.declared.Kind.TheVariants as kind
use Rattle.language.specs.Grammar.{Rule}
use Rattle.leftcorner.specs.Table.{EntryLine, entry_from}
use Rattle.table_order.specs.Order.{entry_follows}
use Rattle.table_lines.specs.declared.Judgement.TheVariants.{Fine, Faulty}
use Rattle.table_lines.specs.Line.{all_at_most}
use Rattle.table_entries.specs.Entries.{all_declared, judge_entry}

module _ (t n : ℕ) (rs : List Rule) (states : ℕ) (l : List EntryLine) (letter : ℕ) (ns : List ℕ) where
  pub other_letter : (letter ≡ 69 → ⊥) → Faulty kind.Malformed ≡ judge_entry t n rs states l letter ns
  unfolding judge_entry
  other_letter f = simp (ne_eqb letter 69 f)

  module _ (e : letter ≡ 69) where
    pub too_few : length ns < 2 → Faulty kind.Malformed ≡ judge_entry t n rs states l letter ns
    unfolding judge_entry
    too_few h = simp (eq-eqb letter 69 e, lt-leb 2 (length ns) h)

    module _ (h : 2 ≤ length ns) where
      pub second : (entry_from 1 l (drop 1 ns) ≡ 0 → ⊥) → Faulty kind.Malformed ≡ judge_entry t n rs states l letter ns
      unfolding judge_entry
      second f = simp (eq-eqb letter 69 e, le-leb 2 (length ns) h, ne_eqb (entry_from 1 l (drop 1 ns)) 0 f)

      module _ (f : entry_from 1 l (drop 1 ns) ≡ 0) where
        pub out_of_order : entry_follows rs l (drop 1 ns) ≡ false → Faulty kind.Malformed ≡ judge_entry t n rs states l letter ns
        unfolding judge_entry
        out_of_order o = simp (eq-eqb letter 69 e, le-leb 2 (length ns) h, eq-eqb (entry_from 1 l (drop 1 ns)) 0 f, o)

        module _ (o : entry_follows rs l (drop 1 ns) ≡ true) where
          pub too_large : all_at_most 65535 ns ≡ false → Faulty kind.LimitExceeded ≡ judge_entry t n rs states l letter ns
          unfolding judge_entry
          too_large a = simp (eq-eqb letter 69 e, le-leb 2 (length ns) h, eq-eqb (entry_from 1 l (drop 1 ns)) 0 f, o, a)

          module _ (a : all_at_most 65535 ns ≡ true) where
            pub too_many : 16 < length ns → Faulty kind.LimitExceeded ≡ judge_entry t n rs states l letter ns
            unfolding judge_entry
            too_many b = simp (eq-eqb letter 69 e, le-leb 2 (length ns) h, eq-eqb (entry_from 1 l (drop 1 ns)) 0 f, o, a, lt-leb (length ns) 16 b)

            module _ (b : length ns ≤ 16) where
              pub no_state : within 1 (get_or ns 0 0) states ≡ false → Faulty kind.Undeclared ≡ judge_entry t n rs states l letter ns
              unfolding judge_entry
              no_state w = simp (eq-eqb letter 69 e, le-leb 2 (length ns) h, eq-eqb (entry_from 1 l (drop 1 ns)) 0 f, o, a, le-leb (length ns) 16 b, w)

              module _ (w : within 1 (get_or ns 0 0) states ≡ true) where
                pub no_symbol : all_declared t n (drop 1 ns) ≡ false → Faulty kind.Undeclared ≡ judge_entry t n rs states l letter ns
                unfolding judge_entry
                no_symbol d = simp (eq-eqb letter 69 e, le-leb 2 (length ns) h, eq-eqb (entry_from 1 l (drop 1 ns)) 0 f, o, a, le-leb (length ns) 16 b, w, d)

                pub fine : all_declared t n (drop 1 ns) ≡ true → Fine ≡ judge_entry t n rs states l letter ns
                unfolding judge_entry
                fine d = simp (eq-eqb letter 69 e, le-leb 2 (length ns) h, eq-eqb (entry_from 1 l (drop 1 ns)) 0 f, o, a, le-leb (length ns) 16 b, w, d)
