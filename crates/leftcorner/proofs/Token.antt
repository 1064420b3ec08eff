-- One token above a stack is taken, or refused, whatever follows; and where the tokens end, the walk ends.
use Prim.Native.Nat.{ℕ, ◌≤◌}
use native.Mathlib.Nat.{not-suc-le-zero}
use mathlib.Core.Logic.{◌⊎◌, inl, inr}
use mathlib.Core.Path.{◌≡◌, refl, ap, ◌∙◌, subst}
use mathlib.Core.List.{List, [], ◌∷◌, ◌++◌}
use Rattle.language.specs.Grammar.{Grammar}
use Rattle.language.specs.First.{next}
use Rattle.language.specs.Sentence.{Sentence, BeginsSentence}
use Rattle.leftcorner.specs.Machine.{Automaton, Event, shifted, announced, closed, on, whole, wrong, step}
use Rattle.leftcorner.proofs.Adequate.{Source, Complete, Exact}
use Rattle.leftcorner.proofs.Run.{Run, stop, more}
use Rattle.leftcorner.proofs.Stack.{Stack}
use Rattle.leftcorner.proofs.Step.{reads, Does, takes, finishes, done, step_keeps}
use Rattle.leftcorner.proofs.Finish.{Quiet, Rests, at_whole, at_wrong, at_shift, quietly}
use Rattle.leftcorner.proofs.Rest.{rests}

quiet_reads : (e : Event) (u : List ℕ) → Quiet e → reads e u ≡ u
quiet_reads (shifted a) u q = absurd q
quiet_reads (announced i) u q = refl
quiet_reads closed u q = refl

-- a quiet step on a code begins a run on whatever tokens begin with it
quiet_run : (g : Grammar) (m : Automaton) {S U Z v : List ℕ} {τ : List Event} (e : Event) (c : ℕ) (w : List ℕ)
    → Quiet e → step g m S c ≡ on e U → next w 0 ≡ c → Run g m U w τ Z v → Run g m S w (e ∷ τ) Z v
quiet_run g m (shifted a) c w q h n r = absurd q
quiet_run g m {S = S} (announced i) c w q h n r = more (ap (step g m S) n ∙ h) r
quiet_run g m {S = S} closed c w q h n r = more (ap (step g m S) n ∙ h) r

module _ {g : Grammar} {string : ℕ → List ℕ} {Kernel : ℕ → Source → ℕ → ℕ → Type 0} {m : Automaton}
    (C : Complete g string Kernel m) (E : Exact g string Kernel m) where
  -- token a above stack S is taken, and x is then read
  pub record Taken (a : ℕ) (S x : List ℕ) : Type 0 where
    pub after : List ℕ
    pub stack : Stack C E after x
    pub begins : BeginsSentence g x
    pub events : List Event
    pub runs : (y : List ℕ) → Run g m S (a ∷ y) events after y

  pub record Refused (a : ℕ) (S : List ℕ) : Type 0 where
    pub last : List ℕ
    pub events : List Event
    pub runs : (y : List ℕ) → Run g m S (a ∷ y) events last (a ∷ y)
    pub is_wrong : step g m last a ≡ wrong

  -- where the tokens end, u read
  pub record Ended (S u : List ℕ) : Type 0 where
    pub last : List ℕ
    pub events : List Event
    pub runs : Run g m S [] events last []
    pub ends : ((step g m last 0 ≡ whole) × Sentence g u) ⊎ (step g m last 0 ≡ wrong)

  still : (S U u : List ℕ) (c : ℕ) (e : Event) → Quiet e → Stack C E S u → step g m S c ≡ on e U → Stack C E U u
  still S U u c e q s h = subst (λ (l : List ℕ). Stack C E U l) (quiet_reads e u q) (step_keeps C E S u U c e s h)

  shift_taken : {S u U : List ℕ} {a b : ℕ} → Does C E S u a (on (shifted b) U) → step g m S a ≡ on (shifted b) U → Taken a S (u ++ a ∷ [])
  shift_taken {S} {u} {U} {a} (takes s le st bg) h = record { after = s ∷ S; stack = st; begins = bg; events = shifted a ∷ []; runs = λ y. more h stop }

  at_end : {S u : List ℕ} {c : ℕ} → Does C E S u c whole → (c ≡ 0) × Sentence g u
  at_end (finishes z s) = (z, s)

  no_shift : {S u U : List ℕ} {b : ℕ} → Does C E S u 0 (on (shifted b) U) → ⊥
  no_shift d = past d refl
    where
      past : {S u U : List ℕ} {b c : ℕ} → Does C E S u c (on (shifted b) U) → c ≡ 0 → ⊥
      past (takes s le st bg) z = not-suc-le-zero (subst (λ (n : ℕ). 1 ≤ n) z le)

  go_token : (a : ℕ) → 1 ≤ a → (S : List ℕ) → Rests g m a S → (u : List ℕ) → Stack C E S u → Taken a S (u ++ a ∷ []) ⊎ Refused a S
  go_token a le S (at_whole h) u s = absurd (not-suc-le-zero (subst (λ (n : ℕ). 1 ≤ n) (at_end (done C E S u s a h)).0 le))
  go_token a le S (at_wrong h) u s = inr (record { last = S; events = []; runs = λ y. stop; is_wrong = h })
  go_token a le S (at_shift h) u s = inl (shift_taken (done C E S u s a h) h)
  go_token a le S (quietly {U = U} {e = e} q h r) u s = onto (go_token a le U r u (still S U u a e q s h))
    where
      onto : Taken a U (u ++ a ∷ []) ⊎ Refused a U → Taken a S (u ++ a ∷ []) ⊎ Refused a S
      onto (inl x) =
          inl (record {
            after = x.after;
            stack = x.stack;
            begins = x.begins;
            events = e ∷ x.events;
            runs = λ y. quiet_run g m e a (a ∷ y) q h refl (x.runs y);
          })
      onto (inr x) = inr (record { last = x.last; events = e ∷ x.events; runs = λ y. quiet_run g m e a (a ∷ y) q h refl (x.runs y); is_wrong = x.is_wrong })

  -- this token above this stack is taken, or refused, whatever follows
  pub token : (a : ℕ) → 1 ≤ a → (S u : List ℕ) → Stack C E S u → Taken a S (u ++ a ∷ []) ⊎ Refused a S
  token a le S u s = go_token a le S (rests C E a S u s) u s

  go_end : (S : List ℕ) → Rests g m 0 S → (u : List ℕ) → Stack C E S u → Ended S u
  go_end S (at_whole h) u s = record { last = S; events = []; runs = stop; ends = inl (h, (at_end (done C E S u s 0 h)).1) }
  go_end S (at_wrong h) u s = record { last = S; events = []; runs = stop; ends = inr h }
  go_end S (at_shift h) u s = absurd (no_shift (done C E S u s 0 h))
  go_end S (quietly {U = U} {e = e} q h r) u s =
      let x = go_end U r u (still S U u 0 e q s h) in
      record { last = x.last; events = e ∷ x.events; runs = quiet_run g m e 0 [] q h refl x.runs; ends = x.ends }

  pub ending : (S u : List ℕ) → Stack C E S u → Ended S u
  ending S u s = go_end S (rests C E 0 S u s) u s
