-- Where a walk that is whole or wrong ends, and that the tokens before the place begin a sentence.
use Prim.Native.Nat.{ℕ, ◌≤◌, ◌<◌}
use native.Mathlib.Omega.{arith}
use native.Mathlib.Decide.{dec_le}
use mathlib.Core.Logic.{◌⊎◌, inl, inr}
use mathlib.Core.Path.{◌≡◌, refl, sym, subst}
use mathlib.Core.List.{List}
use lib.ListN.{length, take}
use lib.Seq.{take_all}
use Rattle.language.specs.Grammar.{Grammar}
use Rattle.language.specs.Sentence.{Sentence, BeginsSentence}
use Rattle.language.proofs.Prefix.{sentence_begins}
use Rattle.leftcorner.specs.Machine.{Automaton, Ending, accepted, failed, Verdict, whole_at, wrong_at, short_at, walk}
use Rattle.leftcorner.specs.Claim.{WrongAt, at_token, at_end, Claim, comes_back}
use Rattle.walker.specs.Walked.{answer}
use Rattle.expected.specs.Expected.{EndsAt}

module _ (g : Grammar) (m : Automaton) (w : List ℕ) (C : Claim g m w) where
  abbrev Ends : Verdict → Type 0
  Ends (whole_at q l) = (q ≡ length w) × Sentence g w
  Ends (wrong_at q) = WrongAt g w q
  Ends (short_at q) = Unit {0}

  ends : (n k : ℕ) → Ends (walk g m n k w)
  ends n k = go (dec_le C.stack_need n) (dec_le (length C.listed) k)
    where
      of_ending : (o : Ending) → C.ending ≡ o → Ends (comes_back o (length w) C.listed)
      of_ending accepted e = (refl, C.whole_exactly.0 e)
      of_ending (failed q) e = (C.wrong_exactly q).0 e

      lacks : (n < C.stack_need) ⊎ (k < length C.listed) → Ends (walk g m n k w)
      lacks h = subst Ends (sym (C.short n k h).1) tt

      go : Dec (C.stack_need ≤ n) → Dec (length C.listed ≤ k) → Ends (walk g m n k w)
      go (yes a) (yes b) = subst Ends (sym (C.enough n k a b)) (of_ending C.ending refl)
      go (yes a) (no b) = lacks (inr (omega (arith, b)))
      go (no a) d = lacks (inl (omega (arith, a)))

  -- the tokens before the place begin a sentence
  abbrev Begun : ℕ → Type 0
  Begun p = (p ≤ length w) × BeginsSentence g (take p w)

  wrong_begun : (q : ℕ) → WrongAt g w q → Begun q
  wrong_begun q (at_token lt b f) = (omega (arith, lt), b)
  wrong_begun q (at_end e b f) = (omega (arith, e), subst (BeginsSentence g) (sym (take_all q w (omega (arith, e)))) b)

  verdict_begun : (x : Verdict) → Ends x → (p : ℕ) → EndsAt (answer g x) p → Begun p
  verdict_begun (whole_at q l) (e, s) p (h, z) =
      (omega (arith, e, z), subst (BeginsSentence g) (sym (take_all p w (omega (arith, e, z)))) (sentence_begins w s))
  verdict_begun (wrong_at q) h p (_, z) = subst Begun z (wrong_begun q h)
  verdict_begun (short_at q) h p (inl n, z) = absurd (omega (arith, n))
  verdict_begun (short_at q) h p (inr n, z) = absurd (omega (arith, n))

  pub begun : (n k p : ℕ) → EndsAt (answer g (walk g m n k w)) p → Begun p
  begun n k p h = verdict_begun (walk g m n k w) (ends n k) p h

  -- where a walk that has enough ends
  abbrev pub end_of : Ending → ℕ
  end_of accepted = length w
  end_of (failed q) = q

  pub enough_ends : (n k : ℕ) → C.stack_need ≤ n → length C.listed ≤ k → EndsAt (answer g (walk g m n k w)) (end_of C.ending)
  enough_ends n k a b = subst (λ (x : Verdict). EndsAt (answer g x) (end_of C.ending)) (sym (C.enough n k a b)) (of C.ending)
    where
      of : (o : Ending) → EndsAt (answer g (comes_back o (length w) C.listed)) (end_of o)
      of accepted = (inl refl, refl)
      of (failed q) = (inr refl, refl)
