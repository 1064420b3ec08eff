-- What reading a letters book into a slice gives, from what its line gave.
use Prim.Native.Nat.{ℕ, ◌≤◌, ◌<◌}
use mathlib.Core.Path.{◌≡◌, refl, sym, ap, ◌∙◌}
use mathlib.Core.List.{List}
use mathlib.Core.Bool.{true, false}
use native.Mathlib.Omega.{arith}
use borrow.Author.Tests.{le-leb, lt-leb}
use lib.ListN.{length, get_or, replicate}
use lib.Seq.{sets}
use Rattle.range.specs.Range.{within}
use Rattle.reply.specs.declared.Kind.TheVariants as kind
use Rattle.reply.specs.declared.Refusal.{Refusal}
use Rattle.reply.specs.declared.Reply.{Reply}
use Rattle.reply.specs.declared.Reply.TheVariants as reply
use Rattle.reply.proofs.PaddedLaws.{put_zeros}
use Rattle.table_lines.specs.Line.{line_at}
use Rattle.letters.specs.Letters.{Letters, codes, refused, by_line, letters_of, reply_of, outcome_of}
use Rattle.letters.specs.Stored.{Stored}

-- r and `held` are the reply and the slice that reading s into a slice of `room` codes gives
abbrev pub Answers : ℕ → List ℕ → ℕ → Reply → List ℕ → Type 0
Answers t s room r held = (r ≡ (outcome_of (letters_of t s) room).reply) × (held ≡ (outcome_of (letters_of t s) room).codes)

module _ (t : ℕ) (s : List ℕ) (room : ℕ) where
  refused_answer : {x : Refusal} → letters_of t s ≡ refused x → {r : Reply} {zeros : List ℕ} → r ≡ reply.Refused x → zeros ≡ replicate room 0 → Answers t s room r zeros
  unfolding outcome_of
  refused_answer e p q = (p ∙ simp e, q ∙ simp e)

  pub no_terminals : within 1 t 63 ≡ false → {r : Reply} {zeros : List ℕ} → r ≡ reply.Refused (record { kind = kind.LimitExceeded; place = 0 })
      → zeros ≡ replicate room 0 → Answers t s room r zeros
  unfolding letters_of
  no_terminals h p q = refused_answer (simp h) p q

  module _ (few : within 1 t 63 ≡ true) where
    pub too_long_lem : 65536 < length s → {r : Reply} {zeros : List ℕ} → r ≡ reply.Refused (record { kind = kind.LimitExceeded; place = 0 })
        → zeros ≡ replicate room 0 → Answers t s room r zeros
    unfolding letters_of
    too_long_lem h p q = refused_answer (simp (few, lt-leb (length s) 65536 h)) p q

    module _ (h : length s ≤ 65536) {r : Reply} {m : List ℕ} (d : Stored (by_line t (length s) (line_at s 0)) r m) where
      by_line_lem : letters_of t s ≡ by_line t (length s) (line_at s 0)
      unfolding letters_of
      by_line_lem = simp (few, le-leb (length s) 65536 h)

      pub refused_line : {x : Refusal} → r ≡ reply.Refused x → {a : Reply} {zeros : List ℕ} → a ≡ reply.Refused x → zeros ≡ replicate room 0 → Answers t s room a zeros
      refused_line {x} e p q = refused_answer (by_line_lem ∙ go (by_line t (length s) (line_at s 0)) (sym e ∙ d.replied)) p q
        where
          go : (y : Letters) → reply.Refused x ≡ reply_of y → y ≡ refused x
          go (codes l) p = let z : ◌≡◌ {A = ℕ} 0 1 = cc in absurd (omega arith)
          go (refused w) p = let f : w ≡ x = cc in ap refused f

      module _ {n : ℕ} (e : r ≡ reply.Accepted n) where
        good : by_line t (length s) (line_at s 0) ≡ codes m
        good = go (by_line t (length s) (line_at s 0)) refl (sym e ∙ d.replied)
          where
            go : (y : Letters) → by_line t (length s) (line_at s 0) ≡ y → reply.Accepted n ≡ reply_of y → by_line t (length s) (line_at s 0) ≡ codes m
            go (codes l) q p = q ∙ ap codes (sym (d.stored l q).0)
            go (refused w) q p = let z : ◌≡◌ {A = ℕ} 0 1 = cc in absurd (omega arith)

        pub each_small : (i : ℕ) → get_or m i 0 ≤ 63
        each_small = (d.stored m good).1

        pub enough_room : length m ≡ 26 → 26 ≤ room → {lent held : List ℕ} → lent ≡ replicate room 0 → held ≡ sets lent 0 m → Answers t s room (reply.Accepted 0) held
        unfolding outcome_of
        enough_room long f {lent} {held} z q = (
          simp (by_line_lem, good, le-leb 26 room f),
          q ∙ (ap (λ (l : List ℕ). sets l 0 m) z ∙ (put_zeros m room (omega (arith, long)) ∙ simp (by_line_lem, good, le-leb 26 room f))),
        )

        pub no_room : room < 26 → {a : Reply} {zeros : List ℕ} → a ≡ reply.Refused (record { kind = kind.BufferTooSmall; place = 0 })
            → zeros ≡ replicate room 0 → Answers t s room a zeros
        unfolding outcome_of
        no_room f p q = (p ∙ simp (by_line_lem, good, lt-leb 26 room f), q ∙ simp (by_line_lem, good, lt-leb 26 room f))
