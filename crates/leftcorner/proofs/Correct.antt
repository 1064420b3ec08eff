-- Demand 3 for one list of tokens, but for lent lengths: how the walk ends, what it lists, and that it is safe.
use Prim.Native.Nat.{ℕ, zero, suc, ◌+◌, ◌≤◌, max}
use native.Mathlib.Omega.{arith}
use native.Mathlib.Nat.{not-suc-le-zero}
use mathlib.Core.Path.{◌≡◌, refl, sym, ap, ◌∙◌, subst}
use mathlib.Core.List.{List, [], ◌∷◌, ◌++◌, append_assoc, append-nil}
use lib.ListN.{length, take, length-append}
use lib.Seq.{take-append_seam}
use Rattle.language.specs.Grammar.{Grammar, IsTerminal}
use Rattle.language.specs.Derivation.{Tree, yield, IsTree}
use Rattle.language.specs.Listing.{listing, units, units_in}
use Rattle.language.proofs.Announced.{listed, listed-trace, units_listed}
use Rattle.language.specs.Trace.{trace}
use Rattle.language.specs.Sentence.{In, Sentence, BeginsSentence}
use Rattle.language.specs.First.{next}
use Rattle.leftcorner.specs.Machine.{pop, Automaton, Event, on, whole, to_come, taken, step, start, Ending, accepted, failed, Walk, ends_whole, ends_wrong, goes_on}
use Rattle.std.specs.Prelude.{◌↔◌}
use Rattle.leftcorner.specs.Claim.{WrongAt, at_token, at_end, Within, begins, steps, Safe}
use Rattle.leftcorner.proofs.Adequate.{Source, Complete, Exact}
use Rattle.leftcorner.proofs.Run.{Run, stop, more, run_unique}
use Rattle.leftcorner.proofs.Whole.{sentence_walked, final-whole, one_derivation}
use Rattle.leftcorner.proofs.Stack.{Stack, base, stack_begins}
use Rattle.leftcorner.proofs.Step.{reads, Does, takes, tells, closes, done, step_keeps, safe_step}
use Rattle.leftcorner.proofs.Settle.{NoneWith, Settled, is_whole, is_wrong, settle}
use Rattle.leftcorner.proofs.Place.{not_sentence, one_place}

-- the claim without lent lengths
pub record Correct (g : Grammar) (m : Automaton) (w : List ℕ) : Type 0 where
  pub ending : Ending
  pub stack_need : ℕ
  pub listed : List ℕ
  pub ends : Walk g m (start g m) w zero ending stack_need listed
  pub whole_exactly : (ending ≡ accepted) ↔ Sentence g w
  pub one_derivation : (T U : Tree) → IsTree g T g.goal → IsTree g U g.goal → yield T ≡ w → yield U ≡ w → T ≡ U
  pub its_listing : (T : Tree) → IsTree g T g.goal → yield T ≡ w → (listed ≡ listing g T) × (units_in g listed ≡ units g T)
  pub wrong_exactly : (p : ℕ) → (ending ≡ failed p) ↔ WrongAt g w p
  pub safe : (n k p : ℕ) (S v l : List ℕ) → Within g m n k w S v p l → Safe g m S (next v 0)
  pub viable : (n k p : ℕ) (S v l : List ℕ) → Within g m n k w S v p l → BeginsSentence g (take p w)

failed-accepted : {A : Type 0} {p : ℕ} → failed p ≡ accepted → A
failed-accepted h = let f : ◌≡◌ {A = ℕ} 0 1 = cc in absurd (omega (arith, f))

same_place : {p q : ℕ} → failed p ≡ failed q → p ≡ q
same_place h = cc

-- the tokens taken by events
abbrev taken_by : List Event → ℕ → ℕ
taken_by [] p = p
taken_by (e ∷ τ) p = taken_by τ (taken e p)

module _ (g : Grammar) (m : Automaton) where
  -- a run, and the walk where it leads, are a walk
  walk_from : {S U w v : List ℕ} {τ : List Event} → Run g m S w τ U v → (p : ℕ) {o : Ending} {h : ℕ} → Walk g m U v (taken_by τ p) o h []
      → (n : ℕ) × Walk g m S w p o n (listed τ)
  walk_from stop p {h = h} x = (h, x)
  walk_from (more {S = S} {e = e} k r) p x = let y = walk_from r (taken e p) x in (max (length S) y.0, goes_on k y.1)

-- the place that a settled list goes wrong at
wrong_place : (g : Grammar) (u x w : List ℕ) → u ++ x ≡ w → BeginsSentence g u → NoneWith g u x → WrongAt g w (length u)
wrong_place g u [] w e b n =
    let f : u ≡ w = sym (append-nil u) ∙ e in
    at_end (ap length f) (subst (BeginsSentence g) f b) (λ s. n (subst (Sentence g) (sym f) s))
wrong_place g u (a ∷ x) w e b n =
    at_token
    (omega (arith, ap length e, length-append u (a ∷ x)))
    (subst (BeginsSentence g) (sym (take-append_seam u (a ∷ x)) ∙ ap (take (length u)) e) b)
    (λ z. n (subst (BeginsSentence g) upto z))
  where
    upto : take (suc (length u)) w ≡ u ++ a ∷ []
    upto =
        ap (take (suc (length u))) (sym e ∙ sym (append_assoc u (a ∷ []) x))
        ∙ ap (λ (k : ℕ). take k ((u ++ a ∷ []) ++ x)) long
        ∙ take-append_seam (u ++ a ∷ []) x
      where
        long : suc (length u) ≡ length (u ++ a ∷ [])
        long = omega (arith, length-append u (a ∷ []))

module _ {g : Grammar} {string : ℕ → List ℕ} {Kernel : ℕ → Source → ℕ → ℕ → Type 0} {m : Automaton}
    (C : Complete g string Kernel m) (E : Exact g string Kernel m) where
  -- a step takes as many tokens as it leaves fewer to come
  counts : {S u U : List ℕ} {c : ℕ} {e : Event} → Does C E S u c (on e U) → (w : List ℕ) → next w 0 ≡ c → (p : ℕ) → taken e p + length (to_come e w) ≡ p + length w
  counts (takes s le st b) [] n p = absurd (not-suc-le-zero (subst (λ (k : ℕ). 1 ≤ k) (sym n) le))
  counts (takes s le st b) (a ∷ w) n p = omega arith
  counts (tells i U st) w n p = refl
  counts (closes U st) w n p = refl

  run_counts : {S U w v : List ℕ} {τ : List Event} → Run g m S w τ U v → (u : List ℕ) → Stack C E S u → (p : ℕ) → taken_by τ p + length v ≡ p + length w
  run_counts stop u s p = refl
  run_counts (more {S = S} {U = U} {w = w} {e = e} h r) u s p =
      run_counts r (reads e u) (step_keeps C E S u U (next w 0) e s h) (taken e p) ∙ counts (done C E S u s (next w 0) h) w refl p

  -- a walk's stack is that of the tokens it has taken
  abbrev Reads : List ℕ → List ℕ → List ℕ → ℕ → Type 0
  Reads w S v p = (u : List ℕ) × Stack C E S u × (u ++ v ≡ w) × (length u ≡ p)

  read_on : {S u U w : List ℕ} {c p : ℕ} {e : Event} → Does C E S u c (on e U) → (v : List ℕ) → next v 0 ≡ c → u ++ v ≡ w → length u ≡ p
      → Reads w U (to_come e v) (taken e p)
  read_on (takes s le st b) [] n f z = absurd (not-suc-le-zero (subst (λ (k : ℕ). 1 ≤ k) (sym n) le))
  read_on {u = u} {c = c} (takes s le st b) (a ∷ v) n f z =
      (u ++ c ∷ [], st, append_assoc u (c ∷ []) v ∙ ap (λ (x : ℕ). u ++ x ∷ v) (sym n) ∙ f, omega (arith, length-append u (c ∷ []), z))
  read_on {u = u} (tells i U st) v n f z = (u, st, f, z)
  read_on {u = u} (closes U st) v n f z = (u, st, f, z)

  within_reads : {n k : ℕ} {w : List ℕ} {p : ℕ} {S v l : List ℕ} → Within g m n k w S v p l → Reads w S v p
  within_reads (begins le) = ([], base, refl, refl)
  within_reads (steps {S = S} {v = v} x h le le') =
      let y = within_reads x in read_on (done C E S y.0 y.1 (next v 0) h) v refl y.2 y.3

  viable_within : (w : List ℕ) (n k p : ℕ) (S v l : List ℕ) → Within g m n k w S v p l → BeginsSentence g (take p w)
  viable_within w n k p S v l x =
      let y = within_reads x in
      subst (BeginsSentence g) (sym (take-append_seam y.0 v) ∙ ap (λ (i : ℕ). take i (y.0 ++ v)) y.3 ∙ ap (take p) y.2) (stack_begins C E S y.0 y.1)

  safe_within : (w : List ℕ) (n k p : ℕ) (S v l : List ℕ) → Within g m n k w S v p l → Safe g m S (next v 0)
  safe_within w n k p S v l x = let y = within_reads x in safe_step C E S y.0 y.1 (next v 0)

  one : (w : List ℕ) (T U : Tree) → IsTree g T g.goal → IsTree g U g.goal → yield T ≡ w → yield U ≡ w → T ≡ U
  one w T U h k e f = one_derivation C E T U h k (e ∙ sym f)

  -- a run that ends whole announces the listing of the derivation, with its units
  lists : (w : List ℕ) {τ : List Event} {U : List ℕ} → Run g m (start g m) w τ U [] → step g m U 0 ≡ whole
      → (T : Tree) → IsTree g T g.goal → yield T ≡ w → (listed τ ≡ listing g T) × (units_in g (listed τ) ≡ units g T)
  lists w {τ} r h T t e =
      let same : τ ≡ trace g T = run_unique g m r (rw e at (sentence_walked C E T t)) h (final-whole C E) in
      let l : listed τ ≡ listing g T = ap listed same ∙ listed-trace g T g.goal t in
      (l, ap (units_in g) l ∙ units_listed g T g.goal t)

  settled : (w : List ℕ) → Settled C E w → Correct g m w
  settled w (is_whole τ U r h s) =
      let x = walk_from g m r zero (ends_whole h) in
      record {
        ending = accepted;
        stack_need = x.0;
        listed = listed τ;
        ends = x.1;
        whole_exactly = (λ e. s, λ z. refl);
        one_derivation = one w;
        its_listing = lists w r h;
        wrong_exactly = λ p. (λ e. failed-accepted (sym e), λ z. absurd (not_sentence z s));
        safe = safe_within w;
        viable = viable_within w;
      }
  settled w (is_wrong u y τ U parts r h b none) =
      let x = walk_from g m r zero (ends_wrong h) in
      let place : taken_by τ zero ≡ length u = omega (arith, run_counts r [] base zero, ap length parts, length-append u y) in
      let at_place : WrongAt g w (taken_by τ zero) = rw place (wrong_place g u y w parts b none) in
      record {
        ending = failed (taken_by τ zero);
        stack_need = x.0;
        listed = listed τ;
        ends = x.1;
        whole_exactly = (λ e. failed-accepted e, λ s. absurd (not_sentence at_place s));
        one_derivation = one w;
        its_listing = λ T t e. absurd (not_sentence at_place (record { tree = T; derives = t; yields_it = e }));
        wrong_exactly = λ p. (λ e. subst (WrongAt g w) (same_place e) at_place, λ z. ap failed (one_place at_place z));
        safe = safe_within w;
        viable = viable_within w;
      }

  pub correct : (w : List ℕ) → ((a : ℕ) → In a w → IsTerminal g a) → Correct g m w
  correct w t = settled w (settle C E w (λ a i. (t a i).0))

  -- a pop cell pops something
  pub pops_some : (q c n : ℕ) → m.cell q c ≡ pop n → 1 ≤ n
  pops_some q c n h = let p = E.popped q c n h in omega (arith, p.is)
