-- One step above a stack that the machine comes to: it leads to another such stack, or ends. What is shifted begins a sentence
-- with what was read, whatever foreign lookaheads hold.
use Prim.Native.Nat.{ℕ, zero, suc, ◌≤◌}
use mathlib.Core.Logic.{inl, inr}
use mathlib.Core.Path.{◌≡◌, refl, sym, ap, ◌∙◌, subst}
use mathlib.Core.List.{List, [], ◌∷◌, ◌++◌, map, append_assoc, append-nil}
use mathlib.Core.Option.{Option, some}
use Rattle.language.specs.Grammar.{Grammar, Rule, rule_at}
use Rattle.language.specs.Derivation.{leaf, nil, cons, yields}
use Rattle.language.proofs.Forests.{but_first}
use Rattle.language.specs.Sentence.{Sentence, BeginsSentence}
use Rattle.language.proofs.Prefix.{sentence_at}
use Rattle.leftcorner.specs.Machine.{Cell, shift, announce, pop, empty, Automaton, Event, shifted, announced, closed, Outcome, on, whole, wrong, pop_to, land, tell, act, step}
use Rattle.leftcorner.specs.Claim.{Safe}
use Rattle.leftcorner.proofs.Adequate.{Source, behind, Complete, Shifted, Exact}
use Rattle.leftcorner.proofs.Path.{shift_on}
use Rattle.leftcorner.proofs.Stack.{ahead_at, Stack, push, no_empty, live}
use Rattle.leftcorner.proofs.Back.{stack_at, Announcing, announcing, waiting, Leaves, Popping, popping}

-- the tokens read after an event
abbrev pub reads : Event → List ℕ → List ℕ
reads (shifted a) u = u ++ a ∷ []
reads (announced i) u = u
reads closed u = u

module _ {g : Grammar} {string : ℕ → List ℕ} {Kernel : ℕ → Source → ℕ → ℕ → Type 0} {m : Automaton}
    (C : Complete g string Kernel m) (E : Exact g string Kernel m) where
  -- what a step on code c does above stack S, for which u was read
  pub data Does (S u : List ℕ) (c : ℕ) : Outcome → Type 0 where
    takes : (s : ℕ) → 1 ≤ c → Stack C E (s ∷ S) (u ++ c ∷ []) → BeginsSentence g (u ++ c ∷ []) → Does S u c (on (shifted c) (s ∷ S))
    tells : (i : ℕ) (U : List ℕ) → Stack C E U u → Does S u c (on (announced i) U)
    closes : (U : List ℕ) → Stack C E U u → Does S u c (on closed U)
    finishes : c ≡ 0 → Sentence g u → Does S u c whole
    refuses : Does S u c wrong

  -- a shift is asked by an item before the token, which can be finished
  shift_viable : (q : ℕ) (S u : List ℕ) (a s : ℕ) → Stack C E (q ∷ S) u → Shifted g string Kernel m q a s → BeginsSentence g (u ++ a ∷ [])
  shift_viable q S u a s st x =
      let F = live C E q S u st x.source x.dot x.code x.holds in
      let here = ahead_at C E x.source x.dot a x.rest x.there in
      let R = but_first g F.rest a (x.rest ++ behind g string x.source) (rw here at F.rest_is) in
      record {
        remainder = yields R.0 ++ F.tail;
        sentence = sentence_at (sym (append_assoc u (a ∷ []) (yields R.0 ++ F.tail))) (F.fits (cons (leaf a) R.0) (rw here ((refl, x.terminal), R.1)));
      }

  pub does : (q : ℕ) (S u : List ℕ) → Stack C E (q ∷ S) u → (c : ℕ) → Does (q ∷ S) u c (step g m (q ∷ S) c)
  does q S u st c = go (m.cell q c) refl
    where
      by_shift : (s : ℕ) → Shifted g string Kernel m q c s → Does (q ∷ S) u c (act g m (shift s) (q ∷ S) c)
      by_shift s x =
          rw (shift_on s (q ∷ S) c x.terminal.0)
          (takes s x.terminal.0
          (stack_at C E (ap (λ (y : ℕ). y ∷ q ∷ S) (sym x.is)) refl
          (push st (record { source = x.source; dot = x.dot; code = x.code; rest = x.rest; holds = x.holds; there = x.there }) (leaf c) (refl, x.terminal)))
          (shift_viable q S u c s st x))

      by_announce : (i : ℕ) (es : List ℕ) → Announcing C E i es (q ∷ S) u → Does (q ∷ S) u c (act g m (announce i es) (q ∷ S) c)
      by_announce i es x =
          let o = x.opened in
          let er : rule_at g i ≡ some o.rule_of_lem = ap (rule_at g) (sym x.number_is) ∙ o.is in
          subst (λ (y : Outcome). Does (q ∷ S) u c y) (sym (ap (λ (y : Option Rule). tell g m y i es (q ∷ S)) er ∙ ap (land g m i o.rule_of_lem es) x.dropped))
          (tells i (map m.enter es ++ m.goto x.bottom o.rule_of_lem.left ∷ x.bottom ∷ x.under)
          (stack_at C E refl (ap (λ (l : List ℕ). x.read ++ l) (append-nil (yields o.trees)) ∙ sym x.read_is)
          (waiting C E es [] x.bottom x.under x.read o nil x.stack x.entries_are tt)))

      bottom : (d : ℕ) → Sentence g u → Does (q ∷ S) u d (pop_to [] d)
      bottom zero x = finishes refl x
      bottom (suc a) x = refuses

      by_pop : (n : ℕ) → (x : Popping C E n (q ∷ S) u)
          → Leaves C E x.under (Sentence g u) u → Does (q ∷ S) u c (act g m (pop n) (q ∷ S) c)
      by_pop n x (inl y) = subst (λ (l : List ℕ). Does (q ∷ S) u c (pop_to l c)) (sym (x.dropped ∙ y.0)) (bottom c y.1)
      by_pop n x (inr y) = subst (λ (o : Outcome). Does (q ∷ S) u c o) (sym (ap (λ (l : List ℕ). pop_to l c) x.dropped ∙ y.0 c)) (closes x.under y.1)

      by : (x : Cell) → m.cell q c ≡ x → Does (q ∷ S) u c (act g m x (q ∷ S) c)
      by (shift s) k = by_shift s (E.shifted q c s k)
      by (announce i es) k = by_announce i es (announcing C E q S u st c i es k)
      by (pop n) k = let p = popping C E q S u st c n k in by_pop n p p.leaves
      by empty k = refuses

      go : (x : Cell) → m.cell q c ≡ x → Does (q ∷ S) u c (step g m (q ∷ S) c)
      go x k = subst (λ (y : Cell). Does (q ∷ S) u c (act g m y (q ∷ S) c)) (sym k) (by x k)

  -- a step that is done, as it was seen
  pub done : (S u : List ℕ) → Stack C E S u → (c : ℕ) {o : Outcome} → step g m S c ≡ o → Does S u c o
  done [] u st c h = absurd (no_empty C E u st)
  done (q ∷ S) u st c h = subst (λ (o : Outcome). Does (q ∷ S) u c o) h (does q S u st c)

  keeps : {S u U : List ℕ} {c : ℕ} {e : Event} → Does S u c (on e U) → Stack C E U (reads e u)
  keeps (takes s h st b) = st
  keeps (tells i U st) = st
  keeps (closes U st) = st

  pub step_keeps : (S u U : List ℕ) (c : ℕ) (e : Event) → Stack C E S u → step g m S c ≡ on e U → Stack C E U (reads e u)
  step_keeps S u U c e st h = keeps (done S u st c h)

  -- no announce or pop goes below the bottom of the stack, and no goto is missing
  pub safe_step : (S u : List ℕ) → Stack C E S u → (c : ℕ) → Safe g m S c
  safe_step [] u st c = absurd (no_empty C E u st)
  safe_step (q ∷ S) u st c =
      record {
        announces = λ i es h.
            let x = announcing C E q S u st c i es h in
            let p = x.opened.parent in
            (x.opened.rule_of_lem, x.bottom, x.under, ap (rule_at g) (sym x.number_is) ∙ x.opened.is, x.dropped, E.state_number (C.moves p.holds p.there));
        pops = λ n h. (popping C E q S u st c n h).fits;
      }
