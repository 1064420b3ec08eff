-- What reading a file into a slice gives, from what reading its lines gave.
use Prim.Native.Nat.{ℕ, ◌<◌, ◌≤◌}
use mathlib.Core.Path.{◌≡◌, refl, sym, ap, ◌∙◌}
use mathlib.Core.List.{List}
use native.Mathlib.Omega.{arith}
use borrow.Author.Tests.{le-leb, lt-leb}
use lib.ListN.{length, replicate}
use lib.Seq.{sets}
use Rattle.reply.specs.declared.Kind.TheVariants as kind
use Rattle.reply.specs.declared.Refusal.{Refusal}
use Rattle.reply.specs.declared.Reply.{Reply}
use Rattle.reply.specs.declared.Reply.TheVariants as reply
use Rattle.reply.specs.Reply.{padded}
use Rattle.reply.proofs.PaddedLaws.{put_zeros}
use Rattle.scans.specs.File.{Scanned, tokens, refused, refused_at, all_lines, scanned, reply_of, outcome_of}
use Rattle.scans.specs.Read.{Stored}

-- r and `held` are the reply and the slice that reading s into a slice of `room` tokens gives
abbrev pub Answers : List ℕ → List ℕ → ℕ → Reply → List ℕ → Type 0
Answers letters s room r held = (r ≡ (outcome_of (scanned letters s) room).reply) × (held ≡ (outcome_of (scanned letters s) room).tokens)

module _ (letters s : List ℕ) (room : ℕ) where
  refused_answer : {x : Refusal} → scanned letters s ≡ refused x → {r : Reply} {zeros : List ℕ}
      → r ≡ reply.Refused x → zeros ≡ replicate room 0 → Answers letters s room r zeros
  unfolding outcome_of
  refused_answer e p q = (p ∙ simp e, q ∙ simp e)

  pub too_long_lem : 65536 < length s → {r : Reply} {zeros : List ℕ} → r ≡ reply.Refused (record { kind = kind.LimitExceeded; place = 0 })
      → zeros ≡ replicate room 0 → Answers letters s room r zeros
  unfolding scanned
  too_long_lem h p q = refused_answer e p q
    where
      e : scanned letters s ≡ refused_at kind.LimitExceeded 0
      e = simp (lt-leb (length s) 65536 h)

  module _ (h : length s ≤ 65536) {r : Reply} {lent held : List ℕ} (d : Stored (all_lines letters 0 s) r lent held) where
    by_lines : scanned letters s ≡ all_lines letters 0 s
    unfolding scanned
    by_lines = simp (le-leb (length s) 65536 h)

    pub refused_lines : {x : Refusal} → r ≡ reply.Refused x → {a : Reply} {zeros : List ℕ}
        → a ≡ reply.Refused x → zeros ≡ replicate room 0 → Answers letters s room a zeros
    refused_lines {x} e p q = refused_answer (by_lines ∙ go (all_lines letters 0 s) (sym e ∙ d.replied)) p q
      where
        go : (y : Scanned) → reply.Refused x ≡ reply_of y → y ≡ refused x
        go (tokens l) p = let z : ◌≡◌ {A = ℕ} 0 1 = cc in absurd (omega arith)
        go (refused w) p = let f : w ≡ x = cc in ap refused f

    module _ {n : ℕ} (e : r ≡ reply.Accepted n) where
      listed : (l : List ℕ) × (all_lines letters 0 s ≡ tokens l) × (length l ≡ n)
      listed = go (all_lines letters 0 s) refl (sym e ∙ d.replied)
        where
          go : (y : Scanned) → all_lines letters 0 s ≡ y → reply.Accepted n ≡ reply_of y → (l : List ℕ) × (all_lines letters 0 s ≡ tokens l) × (length l ≡ n)
          go (tokens l) q p = (l, q, let f : length l ≡ n = cc in f)
          go (refused w) q p = let z : ◌≡◌ {A = ℕ} 0 1 = cc in absurd (omega arith)

      pub enough_room : lent ≡ replicate room 0 → n ≤ room → Answers letters s room (reply.Accepted n) held
      unfolding outcome_of padded
      enough_room z f =
          let l = listed.0 in
          let k : length l ≤ room = omega (arith, listed.2) in (
            ap reply.Accepted (sym listed.2) ∙ simp (by_lines, listed.1, le-leb (length l) room k),
            d.stored l listed.1 ∙ ap (λ (m : List ℕ). sets m 0 l) z ∙ put_zeros l room k ∙ simp (by_lines, listed.1, le-leb (length l) room k),
          )

      pub no_room : room < n → {a : Reply} {zeros : List ℕ} → a ≡ reply.Refused (record { kind = kind.BufferTooSmall; place = 0 })
          → zeros ≡ replicate room 0 → Answers letters s room a zeros
      unfolding outcome_of
      no_room f p q =
          let l = listed.0 in
          let k : room < length l = omega (arith, listed.2) in
          (p ∙ simp (by_lines, listed.1, lt-leb (length l) room k), q ∙ simp (by_lines, listed.1, lt-leb (length l) room k))
