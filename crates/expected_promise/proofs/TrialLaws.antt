-- What a trial tells of a code, read off how the walk over the tokens and the code ends: for every machine of which demand 3 holds.
use Prim.Native.Nat.{ℕ, zero, suc, ◌≤◌, ◌<◌}
use native.Mathlib.Omega.{arith}
use native.Mathlib.Decide.{dec_le, dec_lt}
use mathlib.Core.Logic.{◌⊎◌, inl, inr}
use mathlib.Core.Path.{◌≡◌, refl, sym, ap, subst, ◌∙◌}
use mathlib.Core.Bool.{Bool, true, false, cond}
use mathlib.Core.List.{List, [], ◌∷◌, ◌++◌, append-nil}
use borrow.Author.Tests.{lt-ltb, le-ltb}
use lib.Dec.{ltb}
use lib.ListN.{length, length-append}
use lib.Seq.{take_all}
use Rattle.language.specs.Grammar.{Grammar}
use Rattle.language.specs.Sentence.{Sentence, BeginsSentence}
use Rattle.language.proofs.Prefix.{sentence_at, sentence_begins}
use Rattle.leftcorner.specs.Machine.{Automaton, Ending, accepted, failed, Verdict, wrong_at, short_at, walk}
use Rattle.leftcorner.specs.Claim.{WrongAt, at_token, at_end, Outgrows, at_start, at_step, Claim, comes_back}
use Rattle.leftcorner.proofs.Place.{begins_take, not_sentence}
use Rattle.leftcorner.proofs.Progress.{PopsSome}
use Rattle.leftcorner.proofs.ReadOff.{clash}
use Rattle.leftcorner.proofs.Resume.{outgrows_within}
use Rattle.expected_trial.specs.declared.Trial.{Trial}
use Rattle.expected_trial.specs.declared.Trial.TheVariants.{Fits, Misfit, Outgrown}
use Rattle.expected_trial.specs.Trial.{as_tokens, trial_of}
use Rattle.expected_promise.specs.Promise.{CouldCome}

-- a trial says that A holds, that it does not, or that the walk outgrows what is lent with at most p tokens taken
pub data Says (g : Grammar) (m : Automaton) (n k p : ℕ) (v : List ℕ) (A : Type 0) : Trial → Type 0 where
  could : A → Says g m n k p v A Fits
  could_not : (A → ⊥) → Says g m n k p v A Misfit
  outgrows : (q : ℕ) → q ≤ p → Outgrows g m n k v q → Says g m n k p v A Outgrown

module _ {g : Grammar} {m : Automaton} {n k p : ℕ} {v : List ℕ} {A : Type 0} where
  pub says_fits : {x : Trial} → Says g m n k p v A x → x ≡ Fits → A
  says_fits (could a) e = a
  says_fits (could_not f) e = clash cc
  says_fits (outgrows q l o) e = clash cc

  pub says_misfit : {x : Trial} → Says g m n k p v A x → x ≡ Misfit → A → ⊥
  says_misfit (could a) e = clash cc
  says_misfit (could_not f) e = f
  says_misfit (outgrows q l o) e = clash cc

  pub says_outgrown : {x : Trial} → Says g m n k p v A x → x ≡ Outgrown → (q : ℕ) × (q ≤ p) × Outgrows g m n k v q
  says_outgrown (could a) e = clash cc
  says_outgrown (could_not f) e = clash cc
  says_outgrown (outgrows q l o) e = (q, l, o)

  says_as : {B : Type 0} {x : Trial} → (A → B) → (B → A) → Says g m n k p v A x → Says g m n k p v B x
  says_as to from (could a) = could (to a)
  says_as to from (could_not f) = could_not (λ b. f (from b))
  says_as to from (outgrows q l o) = outgrows q l o

-- ---- a trial's verdict, by what demand 3 says of the walk over v
module _ (g : Grammar) (m : Automaton) (v : List ℕ) (C : Claim g m v) (n k p : ℕ) (A : Type 0) where
  says_any : (Sentence g v → A)
      → ((q : ℕ) → WrongAt g v q → Says g m n k p v A (trial_of p (wrong_at q)))
      → ((q : ℕ) → Outgrows g m n k v q → Says g m n k p v A (trial_of p (short_at q)))
      → Says g m n k p v A (trial_of p (walk g m n k v))
  says_any whole of-wrong of-short = go (dec_le C.stack_need n) (dec_le (length C.listed) k)
    where
      verdict : {x : Verdict} → walk g m n k v ≡ x → Says g m n k p v A (trial_of p x) → Says g m n k p v A (trial_of p (walk g m n k v))
      verdict e s = subst (λ (x : Verdict). Says g m n k p v A (trial_of p x)) (sym e) s

      lacks : (n < C.stack_need) ⊎ (k < length C.listed) → Says g m n k p v A (trial_of p (walk g m n k v))
      lacks h = let s = C.short n k h in verdict s.1 (of-short s.0 s.2)

      of_ending : (o : Ending) → C.ending ≡ o → Says g m n k p v A (trial_of p (comes_back o (length v) C.listed))
      of_ending accepted e = could (whole (C.whole_exactly.0 e))
      of_ending (failed q) e = of-wrong q ((C.wrong_exactly q).0 e)

      go : Dec (C.stack_need ≤ n) → Dec (length C.listed ≤ k) → Says g m n k p v A (trial_of p (walk g m n k v))
      go (yes a) (yes b) = verdict (C.enough n k a b) (of_ending C.ending refl)
      go (yes a) (no b) = lacks (inr (omega (arith, b)))
      go (no a) d = lacks (inl (omega (arith, a)))

  -- lent enough, no trial outgrows it
  pub never_outgrown : C.stack_need ≤ n → length C.listed ≤ k → trial_of p (walk g m n k v) ≡ Outgrown → ⊥
  never_outgrown a b e = go C.ending (ap (trial_of p) (sym (C.enough n k a b)) ∙ e)
    where
      by : (t : Bool) → cond t Fits Misfit ≡ Outgrown → ⊥
      by true h = clash cc
      by false h = clash cc

      go : (o : Ending) → trial_of p (comes_back o (length v) C.listed) ≡ Outgrown → ⊥
      go accepted h = clash cc
      go (failed q) h = by (ltb p q) h

-- ---- a terminal: v is one token longer than p
module _ (g : Grammar) (m : Automaton) (v : List ℕ) (C : Claim g m v) (n k p : ℕ) (long : length v ≡ suc p) where
  abbrev TerminalSays : Trial → Type 0
  TerminalSays = Says g m n k p v (BeginsSentence g v)

  wrong_says : (q : ℕ) → WrongAt g v q → Dec (p < q) → TerminalSays (trial_of p (wrong_at q))
  wrong_says q (at_token lt b f) (yes l) = absurd (omega (arith, lt, l, long))
  wrong_says q (at_end e b f) (yes l) = simp (lt-ltb p q l) (could b)
  wrong_says q (at_token lt b f) (no l) = simp (le-ltb p q (omega (arith, l))) (could_not (λ z. f (begins_take (suc q) v z)))
  wrong_says q (at_end e b f) (no l) = absurd (omega (arith, e, l, long))

  past : (q : ℕ) → p < q → Outgrows g m n k v q → BeginsSentence g v
  past q l (at_start h) = absurd (omega (arith, l))
  past q l (at_step {S = S} {v = y} {l = r} x e h) = subst (BeginsSentence g) (take_all q v (omega (arith, l, long))) (C.viable n k q S y r x)

  short_says : (q : ℕ) → Outgrows g m n k v q → Dec (p < q) → TerminalSays (trial_of p (short_at q))
  short_says q o (yes l) = simp (lt-ltb p q l) (could (past q l o))
  short_says q o (no l) = simp (le-ltb p q (omega (arith, l))) (outgrows q (omega (arith, l)) o)

  terminal_says : TerminalSays (trial_of p (walk g m n k v))
  terminal_says =
      says_any g m v C n k p (BeginsSentence g v) (sentence_begins v)
      (λ q h. wrong_says q h (dec_lt p q)) (λ q o. short_says q o (dec_lt p q))

-- ---- the end: v is the tokens alone
module _ (g : Grammar) (m : Automaton) (least : PopsSome m) (v : List ℕ) (C : Claim g m v) (n k p : ℕ) (long : length v ≡ p) where
  wrong_within : (q : ℕ) → WrongAt g v q → q ≤ p
  wrong_within q (at_token lt b f) = omega (arith, lt, long)
  wrong_within q (at_end e b f) = omega (arith, e, long)

  end_says : Says g m n k p v (Sentence g v) (trial_of p (walk g m n k v))
  end_says =
      says_any g m v C n k p (Sentence g v) (λ s. s)
      (λ q h. simp (le-ltb p q (wrong_within q h)) (could_not (λ s. not_sentence h s)))
      (λ q o. let l : q ≤ p = omega (arith, outgrows_within g m n k least o, long) in simp (le-ltb p q l) (outgrows q l o))

-- reading a trial off the walk's verdict is exact, for 0 and for every terminal
pub trial_says : (g : Grammar) (m : Automaton) → PopsSome m → (n k p : ℕ) (u : List ℕ) → length u ≡ p → (c : ℕ) → Claim g m (u ++ as_tokens c)
    → Says g m n k p (u ++ as_tokens c) (CouldCome g u c) (trial_of p (walk g m n k (u ++ as_tokens c)))
trial_says g m least n k p u long zero C =
    says_as (sentence_at (append-nil u)) (sentence_at (sym (append-nil u)))
    (end_says g m least (u ++ []) C n k p (ap length (append-nil u) ∙ long))
trial_says g m least n k p u long (suc a) C = terminal_says g m (u ++ suc a ∷ []) C n k p (omega (arith, length-append u (suc a ∷ []), long))
