-- The walk settles every list of tokens: it is a sentence and the walk ends whole, or its front begins a sentence, with the next
-- token or the end it does not, and the walk is wrong there.
use Prim.Native.Nat.{ℕ, ◌≤◌}
use mathlib.Core.Logic.{◌⊎◌, inl, inr}
use mathlib.Core.Path.{◌≡◌, refl, sym, subst}
use mathlib.Core.List.{List, [], ◌∷◌, ◌++◌, append_assoc, append-nil}
use Rattle.language.specs.Grammar.{Grammar}
use Rattle.language.specs.Derivation.{yield}
use Rattle.language.proofs.Forests.{one_tree}
use Rattle.language.specs.First.{next}
use Rattle.language.specs.Sentence.{In, here, there, Sentence, BeginsSentence}
use Rattle.language.proofs.Prefix.{sentence_at}
use Rattle.leftcorner.specs.Machine.{Automaton, Event, whole, wrong, step, start}
use Rattle.leftcorner.proofs.Adequate.{Source, Complete, Exact}
use Rattle.leftcorner.proofs.Run.{Run, stop, run_++, one_end}
use Rattle.leftcorner.proofs.Whole.{sentence_walked, final-whole}
use Rattle.leftcorner.proofs.Stack.{Stack, base}
use Rattle.leftcorner.proofs.Token.{Taken, Refused, token, Ended, ending}

-- with the first of the tokens to come, or the end, what was read is no beginning
abbrev pub NoneWith : Grammar → List ℕ → List ℕ → Type 0
NoneWith g u [] = Sentence g u → ⊥
NoneWith g u (a ∷ y) = BeginsSentence g (u ++ a ∷ []) → ⊥

module _ {g : Grammar} {string : ℕ → List ℕ} {Kernel : ℕ → Source → ℕ → ℕ → Type 0} {m : Automaton}
    (C : Complete g string Kernel m) (E : Exact g string Kernel m) where
  pub data Settled (w : List ℕ) : Type 0 where
    is_whole : (τ : List Event) (U : List ℕ) → Run g m (start g m) w τ U [] → step g m U 0 ≡ whole → Sentence g w → Settled w
    is_wrong : (u x : List ℕ) (τ : List Event) (U : List ℕ) → u ++ x ≡ w → Run g m (start g m) w τ U x → step g m U (next x 0) ≡ wrong
        → BeginsSentence g u → NoneWith g u x → Settled w

  -- by these events the walk takes u, whatever follows
  pub record Reach (u S : List ℕ) : Type 0 where
    pub events : List Event
    pub runs : (x : List ℕ) → Run g m (start g m) (u ++ x) events S x

  not_both : (w : List ℕ) {τ : List Event} {U x : List ℕ} → Run g m (start g m) w τ U x → step g m U (next x 0) ≡ wrong → Sentence g w → ⊥
  not_both w r h s = one_end g m (rw s.yields_it at (sentence_walked C E s.tree s.derives)) r (final-whole C E) h

  from : (x u S : List ℕ) → ((a : ℕ) → In a x → 1 ≤ a) → Stack C E S u → BeginsSentence g u → Reach u S → Settled (u ++ x)
  from [] u S t s b R = go e.ends
    where
      e : Ended C E S u
      e = ending C E S u s

      full : Run g m (start g m) (u ++ []) (R.events ++ e.events) e.last []
      full = run_++ g m (R.runs []) e.runs

      go : ((step g m e.last 0 ≡ whole) × Sentence g u) ⊎ (step g m e.last 0 ≡ wrong) → Settled (u ++ [])
      go (inl h) = is_whole (R.events ++ e.events) e.last full h.0 (sentence_at (sym (append-nil u)) h.1)
      go (inr h) = is_wrong u [] (R.events ++ e.events) e.last refl full h b (λ z. not_both (u ++ []) full h (sentence_at (sym (append-nil u)) z))
  from (a ∷ x) u S t s b R =
      go (token C E a (t a here) S u s) (λ S' s' b' R'. from x (u ++ a ∷ []) S' (λ c i. t c (there i)) s' b' R')
    where
      go : Taken C E a S (u ++ a ∷ []) ⊎ Refused C E a S
          → ((S' : List ℕ) → Stack C E S' (u ++ a ∷ []) → BeginsSentence g (u ++ a ∷ []) → Reach (u ++ a ∷ []) S' → Settled ((u ++ a ∷ []) ++ x))
          → Settled (u ++ a ∷ x)
      go (inl z) rec =
          subst Settled (append_assoc u (a ∷ []) x)
          (rec z.after z.stack z.begins
          (record {
            events = R.events ++ z.events;
            runs = λ y. subst (λ (l : List ℕ). Run g m (start g m) l (R.events ++ z.events) z.after y) (sym (append_assoc u (a ∷ []) y))
                (run_++ g m (R.runs (a ∷ y)) (z.runs y));
          }))
      go (inr z) rec =
          is_wrong u (a ∷ x) (R.events ++ z.events) z.last refl (run_++ g m (R.runs (a ∷ x)) (z.runs x)) z.is_wrong b
          (λ v. not_both (u ++ a ∷ v.remainder) (run_++ g m (R.runs (a ∷ v.remainder)) (z.runs v.remainder)) z.is_wrong
          (sentence_at (append_assoc u (a ∷ []) v.remainder) v.sentence))

  begins_nothing : BeginsSentence g []
  begins_nothing =
      let o = one_tree g E.rich_goal.0 g.goal E.rich_goal.1 in
      record { remainder = yield o.tree; sentence = record { tree = o.tree; derives = o.is; yields_it = refl } }

  pub settle : (w : List ℕ) → ((a : ℕ) → In a w → 1 ≤ a) → Settled w
  settle w t = from w [] (start g m) t base begins_nothing (record { events = []; runs = λ x. stop })
