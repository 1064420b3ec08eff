-- An action line judged test by test, by its numbers as memory keeps them.
use Prim.Native.Nat.{ℕ, zero, suc, ◌≤◌, ◌<◌}
use mathlib.Core.Path.{◌≡◌, refl, sym, ◌∙◌}
use mathlib.Core.List.{List, [], ◌∷◌}
use mathlib.Core.Bool.{true, false, ◌&&◌}
use native.Mathlib.Omega.{arith}
use borrow.Author.Tests.{le-leb, lt-leb, eq-eqb, ne_eqb}
use lib.ListN.{length, get_or}
use Rattle.reply.specs.declared.Kind.TheVariants as kind
use Rattle.range.specs.Range.{within}
use Rattle.leftcorner.specs.Table.{ActionLine}
use Rattle.table_order.specs.Order.{follows, action_key}
use Rattle.table_order.specs.Last.{LastIs, is_after}
use Rattle.table_order.proofs.LastLaws.{follows_by}
use Rattle.table_lines.specs.declared.Tally.{Tally}
use Rattle.table_lines.specs.declared.Judgement.{Judgement}
use Rattle.table_lines.specs.declared.Judgement.TheVariants.{Fine, Faulty}
use Rattle.table_lines.specs.Line.{all_at_most}
use Rattle.table_lines.specs.Block.{judge, Summarizes}
use Rattle.table_lines.proofs.HeldLaws.{held_count, held_largest, held_at}
use Rattle.table_actions.specs.Actions.{is_action, action_declared, judge_action}

-- its first numbers are its key
key_at : (v : List ℕ) (j : ℕ) → j < 2 → get_or (get_or v 0 0 ∷ get_or v 1 0 ∷ []) j 0 ≡ get_or v j 0
key_at v zero h = refl
key_at v (suc zero) h = refl
key_at v (suc (suc j)) h = absurd (omega (arith, h))

module _ (t n rules states letter : ℕ) {l : List ActionLine} {ns v last : List ℕ} {p : Tally} {lines : ℕ}
    (q : length l ≡ lines) (m : LastIs action_key last l) (h : Summarizes ns p v) (room : length v ≡ 67) (size : length last ≡ 2) where
  abbrev judged : Judgement
  judged = judge_action t n rules states l letter ns

  pub no_action : is_action letter ≡ false → Faulty kind.Malformed ≡ judged
  unfolding judge_action
  no_action e = simp e

  module _ (action : is_action letter ≡ true) where
    pub not_three : (p.count ≡ 3 → ⊥) → Faulty kind.Malformed ≡ judged
    unfolding judge_action
    not_three f = simp (action, ne_eqb (length ns) 3 (λ e. f (held_count h ∙ e)))

    module _ (count : p.count ≡ 3) where
      three : length ns ≡ 3
      three = sym (held_count h) ∙ count

      -- whether it follows the lines before it
      tested : follows action_key l (get_or v 0 0 ∷ get_or v 1 0 ∷ []) ≡ is_after lines last v
      tested = follows_by m q (get_or v 0 0 ∷ get_or v 1 0 ∷ []) v (omega (arith, size)) (omega (arith, size, room)) (λ j o. key_at v j (omega (arith, o, size)))

      pub out_of_order : is_after lines last v ≡ false → Faulty kind.Malformed ≡ judged
      unfolding judge_action
      out_of_order e = simp (held_at h 0 (omega (arith, three)) (omega (arith, room)), held_at h 1 (omega (arith, three)) (omega (arith, room)), held_at h 2 (omega (arith, three)) (omega (arith, room)), tested ∙ e, action, eq-eqb (length ns) 3 three)

      module _ (after : is_after lines last v ≡ true) where
        -- the line's form is right: what is left to judge
        formed : judged ≡ judge true (all_at_most 65535 ns) (within 1 (get_or v 0 0) states && action_declared t n rules states letter (get_or v 1 0) (get_or v 2 0))
        unfolding judge_action
        formed = simp (held_at h 0 (omega (arith, three)) (omega (arith, room)), held_at h 1 (omega (arith, three)) (omega (arith, room)), held_at h 2 (omega (arith, three)) (omega (arith, room)), tested ∙ after, action, eq-eqb (length ns) 3 three)

        pub too_large : 65535 < p.largest → Faulty kind.LimitExceeded ≡ judged
        too_large b = sym (formed ∙ simp (sym (held_largest h 65535) ∙ lt-leb _ _ b))

        module _ (low : p.largest ≤ 65535) where
          -- its figures are within the limits
          limited : judged ≡ judge true true (within 1 (get_or v 0 0) states && action_declared t n rules states letter (get_or v 1 0) (get_or v 2 0))
          limited = formed ∙ simp (sym (held_largest h 65535) ∙ le-leb _ _ low)

          pub no_state : within 1 (get_or v 0 0) states ≡ false → Faulty kind.Undeclared ≡ judged
          no_state e = sym (limited ∙ simp e)

          module _ (state : within 1 (get_or v 0 0) states ≡ true) where
            pub undeclared : action_declared t n rules states letter (get_or v 1 0) (get_or v 2 0) ≡ false → Faulty kind.Undeclared ≡ judged
            undeclared e = sym (limited ∙ simp (state, e))

            pub fine : action_declared t n rules states letter (get_or v 1 0) (get_or v 2 0) ≡ true → Fine ≡ judged
            fine e = sym (limited ∙ simp (state, e))
