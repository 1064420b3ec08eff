-- A kernel line judged test by test, by its numbers as memory keeps them.
use Prim.Native.Nat.{ℕ, zero, suc, ◌≤◌, ◌<◌}
use mathlib.Core.Path.{◌≡◌, refl, sym, ◌∙◌}
use mathlib.Core.List.{List, [], ◌∷◌}
use mathlib.Core.Bool.{true, false, ◌&&◌}
use native.Mathlib.Omega.{arith}
use borrow.Author.Tests.{le-leb, lt-leb, le-ltb, lt-ltb}
use lib.Dec.{leb, ltb}
use lib.ListN.{length, get_or, drop}
use Rattle.reply.specs.declared.Kind.TheVariants as kind
use Rattle.range.specs.Range.{within}
use Rattle.leftcorner.specs.Table.{KernelLine}
use Rattle.table_order.specs.Order.{follows, kernel_key}
use Rattle.table_order.specs.Last.{LastIs, is_after}
use Rattle.table_order.proofs.LastLaws.{follows_by}
use Rattle.table_lines.specs.declared.Tally.{Tally}
use Rattle.table_lines.specs.declared.Judgement.{Judgement}
use Rattle.table_lines.specs.declared.Judgement.TheVariants.{Fine, Faulty}
use Rattle.table_lines.specs.Line.{all_at_most}
use Rattle.table_lines.specs.Block.{judge, Summarizes}
use Rattle.table_lines.proofs.HeldLaws.{held_count, held_largest, held_at, held_last}
use Rattle.table_kernels.specs.Kernels.{judge_with}

-- its first numbers are its key
key_at : (v : List ℕ) (j : ℕ) → j < 3 → get_or (get_or v 0 0 ∷ get_or v 1 0 ∷ get_or v 2 0 ∷ []) j 0 ≡ get_or v j 0
key_at v zero h = refl
key_at v (suc zero) h = refl
key_at v (suc (suc zero)) h = refl
key_at v (suc (suc (suc j))) h = absurd (omega (arith, h))

module _ (t states items : ℕ) (f : ℕ → ℕ) {l : List KernelLine} {ns v last : List ℕ} {p : Tally} {lines : ℕ}
    (q : length l ≡ lines) (m : LastIs kernel_key last l) (h : Summarizes ns p v) (room : length v ≡ 67) (size : length last ≡ 3) where
  abbrev judged : Judgement
  judged = judge_with p.rising t states items f l ns

  pub too_short : p.count < 4 → Faulty kind.Malformed ≡ judged
  too_short b = simp (lt-leb 4 (length ns) (omega (arith, held_count h, b)))

  module _ (enough : 4 ≤ p.count) where
    long : 4 ≤ length ns
    long = omega (arith, held_count h, enough)

    pub falling : p.rising ≡ false → Faulty kind.Malformed ≡ judged
    falling e = simp (le-leb 4 (length ns) long, e)

    module _ (up : p.rising ≡ true) where
      -- whether it follows the lines before it
      tested : follows kernel_key l (get_or v 0 0 ∷ get_or v 1 0 ∷ get_or v 2 0 ∷ []) ≡ is_after lines last v
      tested = follows_by m q (get_or v 0 0 ∷ get_or v 1 0 ∷ get_or v 2 0 ∷ []) v (omega (arith, size)) (omega (arith, size, room)) (λ j o. key_at v j (omega (arith, o, size)))

      pub out_of_order : is_after lines last v ≡ false → Faulty kind.Malformed ≡ judged
      out_of_order e = simp (tested ∙ e, held_at h 0 (omega (arith, long)) (omega (arith, room)), held_at h 1 (omega (arith, long)) (omega (arith, room)), held_at h 2 (omega (arith, long)) (omega (arith, room)), le-leb 4 (length ns) long, up)

      module _ (after : is_after lines last v ≡ true) where
        -- the line's form is right: what is left to judge
        formed : judged ≡ judge true (all_at_most 65535 ns && ltb (length l) 1023)
            (within 1 (get_or v 0 0) states && (within 1 (get_or v 1 0) items && (leb (get_or v 2 0) (f (get_or v 1 0)) && all_at_most t (drop 3 ns))))
        formed = simp (tested ∙ after, held_at h 0 (omega (arith, long)) (omega (arith, room)), held_at h 1 (omega (arith, long)) (omega (arith, room)), held_at h 2 (omega (arith, long)) (omega (arith, room)), le-leb 4 (length ns) long, up)

        pub too_large : 65535 < p.largest → Faulty kind.LimitExceeded ≡ judged
        too_large b = sym (formed ∙ simp (sym (held_largest h 65535) ∙ lt-leb _ _ b))

        module _ (low : p.largest ≤ 65535) where
          small : all_at_most 65535 ns ≡ true
          small = sym (held_largest h 65535) ∙ le-leb _ _ low

          pub too_many : 1023 ≤ lines → Faulty kind.LimitExceeded ≡ judged
          too_many b = sym (formed ∙ simp (small, le-ltb (length l) 1023 (omega (arith, q, b))))

          module _ (few : lines < 1023) where
            -- its figures are within the limits
            limited : judged ≡ judge true true
                (within 1 (get_or v 0 0) states && (within 1 (get_or v 1 0) items && (leb (get_or v 2 0) (f (get_or v 1 0)) && all_at_most t (drop 3 ns))))
            limited = formed ∙ simp (small, lt-ltb (length l) 1023 (omega (arith, q, few)))

            pub no_state : within 1 (get_or v 0 0) states ≡ false → Faulty kind.Undeclared ≡ judged
            no_state e = sym (limited ∙ simp e)

            module _ (state : within 1 (get_or v 0 0) states ≡ true) where
              pub no_item : within 1 (get_or v 1 0) items ≡ false → Faulty kind.Undeclared ≡ judged
              no_item e = sym (limited ∙ simp (state, e))

              module _ (item : within 1 (get_or v 1 0) items ≡ true) where
                pub no_dot : f (get_or v 1 0) < get_or v 2 0 → Faulty kind.Undeclared ≡ judged
                no_dot b = sym (limited ∙ simp (state, item, lt-leb _ _ b))

                module _ (dot : get_or v 2 0 ≤ f (get_or v 1 0)) where
                  codes_are : all_at_most t (drop 3 ns) ≡ leb p.last t
                  codes_are = sym (held_last h long up small t)

                  pub no_codes : leb p.last t ≡ false → Faulty kind.Undeclared ≡ judged
                  no_codes e = sym (limited ∙ simp (state, item, le-leb _ _ dot, codes_are ∙ e))

                  pub fine : leb p.last t ≡ true → Fine ≡ judged
                  fine e = sym (limited ∙ simp (state, item, le-leb _ _ dot, codes_are ∙ e))
