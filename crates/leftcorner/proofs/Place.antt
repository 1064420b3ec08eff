-- The place where tokens go wrong is one at most, and there is none in a sentence.
use Prim.Native.Nat.{ℕ, suc, ◌≤◌, ◌<◌}
use native.Mathlib.Omega.{arith}
use native.Mathlib.Decide.{dec_lt}
use mathlib.Core.Path.{◌≡◌, sym, subst}
use mathlib.Core.List.{List}
use lib.ListN.{take, drop, take-append-drop}
use lib.Seq.{take-take}
use Rattle.language.specs.Grammar.{Grammar}
use Rattle.language.specs.Sentence.{Sentence, BeginsSentence}
use Rattle.language.proofs.Prefix.{sentence_begins, begins_front}
use Rattle.leftcorner.specs.Claim.{WrongAt, at_token, at_end}

module _ {g : Grammar} where
  pub begins_take : (n : ℕ) (w : List ℕ) → BeginsSentence g w → BeginsSentence g (take n w)
  begins_take n w b = begins_front (take n w) (drop n w) (subst (BeginsSentence g) (sym (take-append-drop n w)) b)

  begins_less : (n k : ℕ) (w : List ℕ) → n ≤ k → BeginsSentence g (take k w) → BeginsSentence g (take n w)
  begins_less n k w le b = subst (BeginsSentence g) (take-take n k w le) (begins_take n (take k w) b)

  pub not_sentence : {w : List ℕ} {p : ℕ} → WrongAt g w p → Sentence g w → ⊥
  not_sentence {w} {p} (at_token lt b n) s = n (begins_take (suc p) w (sentence_begins w s))
  not_sentence (at_end e b n) s = n s

  not_before : {w : List ℕ} {p q : ℕ} → WrongAt g w p → WrongAt g w q → p < q → ⊥
  not_before {w} {p} {q} (at_token lt b n) (at_token lt' b' n') less = n (begins_less (suc p) q w less b')
  not_before {w} {p} (at_token lt b n) (at_end e b' n') less = n (begins_take (suc p) w b')
  not_before (at_end e b n) (at_token lt' b' n') less = omega (arith, e, lt', less)
  not_before (at_end e b n) (at_end e' b' n') less = omega (arith, e, e', less)

  pub one_place : {w : List ℕ} {p q : ℕ} → WrongAt g w p → WrongAt g w q → p ≡ q
  one_place {w} {p} {q} x y = go (dec_lt p q) (dec_lt q p)
    where
      go : Dec (p < q) → Dec (q < p) → p ≡ q
      go (yes l) k = absurd (not_before x y l)
      go (no l) (yes k) = absurd (not_before y x k)
      go (no l) (no k) = omega (arith, l, k)
