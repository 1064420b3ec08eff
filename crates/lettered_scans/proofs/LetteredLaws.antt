-- What reading a letters book and then a scan file came to.
use Prim.Native.Nat.{ℕ, ◌-◌, ◌≤◌, ◌<◌}
use mathlib.Core.Path.{◌≡◌, refl, sym, ap, ◌∙◌}
use mathlib.Core.List.{List, ◌++◌, append-nil}
use mathlib.Core.Bool.{Bool, true, false, cond}
use native.Mathlib.Omega.{arith}
use borrow.Author.Tests.{le-leb, lt-leb, leb-true}
use lib.Dec.{leb}
use lib.ListN.{length, replicate}
use Rattle.reply.specs.declared.Kind.TheVariants.{LimitExceeded}
use Rattle.reply.specs.declared.Refusal.{Refusal}
use Rattle.reply.specs.declared.Reply.{Reply}
use Rattle.reply.specs.declared.Reply.TheVariants as reply
use Rattle.reply.specs.Reply.{padded}
use Rattle.letters.specs.Letters.{Letters, codes, letters_of}
use Rattle.letters.specs.Letters as letters
use Rattle.letters.proofs.GoodLaws.{letters_good}
use Rattle.scans.specs.File.{Scanned, tokens, refused, refused_at, scanned, outcome_of}
use Rattle.scans.proofs.Promise.{tokens_few}
use Rattle.lettered_scans.specs.Lettered.{by_letters, lettered}

module _ (t : ℕ) (book file : List ℕ) (room : ℕ) where
  -- r and `held` are the reply and the slice that reading gives
  abbrev pub Answers : Reply → List ℕ → Type 0
  Answers r held = (r ≡ (outcome_of (lettered t book file) room).reply) × (held ≡ (outcome_of (lettered t book file) room).tokens)

  refused_answer : {x : Refusal} → lettered t book file ≡ refused x → {r : Reply} {zeros : List ℕ} → r ≡ reply.Refused x → zeros ≡ replicate room 0 → Answers r zeros
  unfolding outcome_of
  refused_answer e p q = (p ∙ simp e, q ∙ simp e)

  pub too_long_lem : 65536 < length file → {r : Reply} {zeros : List ℕ} → r ≡ reply.Refused (record { kind = LimitExceeded; place = 0 }) → zeros ≡ replicate room 0 → Answers r zeros
  unfolding lettered
  too_long_lem h p q = refused_answer (simp (lt-leb (length file) 65536 h)) p q

  module _ (h : length file ≤ 65536) {r : Reply} (read : r ≡ (letters.outcome_of (letters_of t book) 26).reply) where
    by_letters_lem : {y : Letters} → letters_of t book ≡ y → lettered t book file ≡ by_letters y file
    unfolding lettered
    by_letters_lem {y} e = let f : lettered t book file ≡ by_letters (letters_of t book) file = simp (le-leb (length file) 65536 h) in f ∙ ap (λ (x : Letters). by_letters x file) e

    pub letters_refused : {x : Refusal} → r ≡ reply.Refused x → {a : Reply} {zeros : List ℕ} → a ≡ reply.Refused x → zeros ≡ replicate room 0 → Answers a zeros
    unfolding letters.outcome_of
    letters_refused {x} e {a} {zeros} p q = go (letters_of t book) refl (sym e ∙ read)
      where
        go : (y : Letters) → letters_of t book ≡ y → reply.Refused x ≡ (letters.outcome_of y 26).reply → Answers a zeros
        go (codes l) g f = let z : ◌≡◌ {A = ℕ} 0 1 = cc in absurd (omega arith)
        go (letters.refused w) g f = let k : w ≡ x = cc in refused_answer (by_letters_lem g ∙ ap refused k) p q

    pub letters_read : {n : ℕ} → r ≡ reply.Accepted n → {held : List ℕ} → held ≡ (letters.outcome_of (letters_of t book) 26).codes → {a : Reply} {out : List ℕ}
        → a ≡ (outcome_of (scanned held file) room).reply → out ≡ (outcome_of (scanned held file) room).tokens → Answers a out
    unfolding letters.outcome_of padded
    letters_read {n} e {held} k {a} {out} p q = go (letters_of t book) refl (sym e ∙ read) k
      where
        go : (y : Letters) → letters_of t book ≡ y → reply.Accepted n ≡ (letters.outcome_of y 26).reply → held ≡ (letters.outcome_of y 26).codes → Answers a out
        go (codes l) g f k =
            let long = (letters_good t book g).long in
            let none : 26 - length l ≡ 0 = omega (arith, long) in
            let same : held ≡ l = k ∙ (ap (λ (m : ℕ). l ++ replicate m 0) none ∙ append-nil l) in
            let x : scanned held file ≡ lettered t book file = ap (λ (m : List ℕ). scanned m file) same ∙ sym (by_letters_lem g) in
            (p ∙ ap (λ (y : Scanned). (outcome_of y room).reply) x, q ∙ ap (λ (y : Scanned). (outcome_of y room).tokens) x)
        go (letters.refused w) g f k = let z : ◌≡◌ {A = ℕ} 0 1 = cc in absurd (omega arith)

-- a slice of 10,922 tokens has room for every file
pub lettered_few : (t : ℕ) (book file l : List ℕ) → lettered t book file ≡ tokens l → length l ≤ 10922
unfolding lettered
lettered_few t book file l e = go (leb (length file) 65536) refl e
  where
    by : (y : Letters) → length file ≤ 65536 → by_letters y file ≡ tokens l → length l ≤ 10922
    by (codes m) h f = omega (arith, tokens_few m file l f, h)
    by (letters.refused w) h f = let z : ◌≡◌ {A = ℕ} 0 1 = cc in absurd (omega arith)

    go : (b : Bool) → leb (length file) 65536 ≡ b → cond b (by_letters (letters_of t book) file) (refused_at LimitExceeded 0) ≡ tokens l → length l ≤ 10922
    go true p f = by (letters_of t book) (leb-true _ _ p) f
    go false p f = let z : ◌≡◌ {A = ℕ} 0 1 = cc in absurd (omega arith)
