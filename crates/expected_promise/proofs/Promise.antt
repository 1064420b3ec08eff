-- The promise (specs/Promise.antt), proved: trials are exact (TrialLaws), and what they come to is sorted (TriedLaws).
use Prim.Native.Nat.{ℕ, zero, suc, ◌+◌, ◌≤◌, ◌<◌, max}
use native.Mathlib.Omega.{arith}
use native.Mathlib.Decide.{dec_le, ℕ_discrete}
use mathlib.Core.Logic.{◌⊎◌, inl, inr}
use mathlib.Core.Path.{◌≡◌, refl, sym, ap, subst, ◌∙◌}
use mathlib.Core.Bool.{Bool, cond}
use mathlib.Core.List.{List, [], ◌∷◌, ◌++◌, append-nil, append_assoc}
use borrow.Author.Tests.{le-leb, lt-leb, le-ltb}
use lib.ListN.{length, take, drop, take-append-drop}
use lib.Seq.{length-take-le}
use Rattle.language.specs.Grammar.{Grammar, IsTerminal}
use Rattle.language.specs.Sentence.{In, here, there, Sentence, BeginsSentence}
use Rattle.language.specs.WellFormed.{declared_of}
use Rattle.language.proofs.Member.{in_left, in_right, in_either, in_cons}
use Rattle.language.proofs.Prefix.{sentence_at}
use Rattle.language.proofs.Rising.{rising_same}
use Rattle.language.proofs.Terminals.{sentence_terminals}
use Rattle.leftcorner.specs.Machine.{Automaton, walk}
use Rattle.leftcorner.specs.Table.{Table, automaton}
use Rattle.leftcorner.specs.Claim.{Claim, Outgrows}
use Rattle.leftcorner.proofs.Demand3 as machine
use Rattle.leftcorner.proofs.Progress.{PopsSome}
use Rattle.leftcorner.proofs.ReadOff.{clash}
use Rattle.leftcorner.proofs.Resume.{outgrows_short}
use Rattle.table.specs.Book.{Reading, whole}
use Rattle.checker.specs.Checked.{checked_of}
use Rattle.checker.proofs.Exactly.{accepts, accepted_sound, exactly}
use Rattle.walker.specs.Walked.{answer}
use Rattle.session.specs.Session.{Session, session}
use Rattle.session.proofs.SessionLaws.{session_walks}
use Rattle.expected_trial.specs.declared.Trial.{Trial}
use Rattle.expected_trial.specs.declared.Trial.TheVariants.{Fits, Misfit, Outgrown}
use Rattle.expected_trial.specs.Trial.{as_tokens, trial_of}
use Rattle.expected_trials.specs.Trials.{Expected, Tried, lacking, fitting, tried, short_at, listed_at, answered_at}
use Rattle.expected.specs.Expected.{EndsAt, on_reply, list_for, expected}
use Rattle.expected.proofs.PlaceLaws.{on_ends, on_others}
use Rattle.expected_promise.specs.Promise.{CouldCome, ListOf, Lists, Promised, HandsOn, Promise}
use Rattle.expected_promise.proofs.TrialLaws.{Says, says_fits, says_misfit, says_outgrown, trial_says, never_outgrown}
use Rattle.expected_promise.proofs.TriedLaws.{Fitting, Sorted, sorted}
use Rattle.expected_promise.proofs.EndLaws.{begun, end_of, enough_ends}

hands_on : HandsOn
unfolding expected
hands_on gs s w n k room why e other = ap (λ r. on_reply room r (list_for room n k (checked_of gs s) w)) e ∙ on_others room (list_for room n k (checked_of gs s) w) why other

-- a list is no short slip
not_short : (room p : ℕ) (l : List ℕ) → listed_at room p l ≡ short_at room p → ⊥
not_short room p l e = let r = ap (λ (x : Expected). x.reply) e in clash cc

some_in : {x : ℕ} {l : List ℕ} → In x l → 1 ≤ length l
some_in here = omega arith
some_in (there m) = omega arith

module _ (room p : ℕ) (l : List ℕ) where
  listed : length l ≤ room → answered_at room p (fitting l) ≡ listed_at room p l
  listed h = ap (λ (b : Bool). cond b (listed_at room p l) (short_at room p)) (le-leb (length l) room h)

  outgrown : room < length l → answered_at room p (fitting l) ≡ short_at room p
  outgrown h = ap (λ (b : Bool). cond b (listed_at room p l) (short_at room p)) (lt-leb (length l) room h)

-- ---- tokens u that begin a sentence, and the codes 0 to t tried after them
module _ (g : Grammar) (m : Automaton) (least : PopsSome m) (claim : (v : List ℕ) → ((a : ℕ) → In a v → IsTerminal g a) → Claim g m v)
    (u : List ℕ) (tokens : (a : ℕ) → In a u → IsTerminal g a) (begins : BeginsSentence g u) (p : ℕ) (long : length u ≡ p) where
  with_code : (c : ℕ) → c ≤ g.terminals → (a : ℕ) → In a (u ++ as_tokens c) → IsTerminal g a
  with_code c le a i = go c le (in_either u i)
    where
      go : (c : ℕ) → c ≤ g.terminals → In a u ⊎ In a (as_tokens c) → IsTerminal g a
      go c l (inl j) = tokens a j
      go zero l (inr j) = elim j [ ]
      go (suc b) l (inr j) = one (in_cons j)
        where
          one : (a ≡ suc b) ⊎ In a [] → IsTerminal g a
          one (inl e) = subst (IsTerminal g) (sym e) (omega arith, l)
          one (inr k) = elim k [ ]

  code_claim : (c : ℕ) → c ≤ g.terminals → Claim g m (u ++ as_tokens c)
  code_claim c le = claim (u ++ as_tokens c) (with_code c le)

  -- what could come is 0 or a terminal
  code_known : (c : ℕ) → CouldCome g u c → c ≤ g.terminals
  code_known zero h = omega arith
  code_known (suc a) h = (sentence_terminals g (suc a) h.sentence (in_left h.remainder (in_right u here))).1

  -- something could come
  some_code : (c : ℕ) × CouldCome g u c
  some_code = go begins.remainder begins.sentence
    where
      go : (r : List ℕ) → Sentence g (u ++ r) → (c : ℕ) × CouldCome g u c
      go [] s = (0, sentence_at (append-nil u) s)
      go (zero ∷ r) s = let z = (sentence_terminals g zero s (in_right u here)).0 in absurd (omega (arith, z))
      go (suc a ∷ r) s = (suc a, record { remainder = r; sentence = sentence_at (sym (append_assoc u (suc a ∷ []) r)) s })

  module _ (n k : ℕ) where
    abbrev f : ℕ → Trial
    f c = trial_of p (walk g m n k (u ++ as_tokens c))

    says : (c : ℕ) → c ≤ g.terminals → Says g m n k p (u ++ as_tokens c) (CouldCome g u c) (f c)
    says c le = trial_says g m least n k p u long c (code_claim c le)

    fits_known : (c : ℕ) → c ≤ g.terminals → CouldCome g u c → (f c ≡ Outgrown → ⊥) → f c ≡ Fits
    fits_known c le h fine = go (f c) refl
      where
        go : (x : Trial) → f c ≡ x → f c ≡ Fits
        go Fits e = e
        go Misfit e = absurd (says_misfit (says c le) e h)
        go Outgrown e = absurd (fine e)

    -- the codes that fit are those that could come
    list_of : {l : List ℕ} → Fitting f (suc g.terminals) 0 l → ListOf g u l
    list_of {l} F = record {
      exact = λ c. (λ i. let o = F.only c i in says_fits (says c (omega (arith, o.0))) o.1, listed_code c);
      rising = F.rising;
      some = some_in (listed_code some_code.0 some_code.1);
    }
      where
        listed_code : (c : ℕ) → CouldCome g u c → In c l
        listed_code c h =
            let le = code_known c h in
            let lt : c < 0 + suc g.terminals = omega (arith, le) in
            F.every c (omega arith) lt (fits_known c le h (F.fine c (omega arith) lt))

    list_same : {l r : List ℕ} → ListOf g u l → ListOf g u r → l ≡ r
    list_same {l} {r} a b = rising_same 0 0 l r a.rising b.rising (λ c i. (b.exact c).1 ((a.exact c).0 i)) (λ c i. (a.exact c).1 ((b.exact c).0 i))

    abbrev Slips : ℕ → Type 0
    Slips room = ((c : ℕ) × (c ≤ g.terminals) × (q : ℕ) × (q ≤ p) × Outgrows g m n k (u ++ as_tokens c) q) ⊎ ((l : List ℕ) × ListOf g u l × (room < length l))

    trial_outgrown : (c q : ℕ) → q ≤ p → Outgrows g m n k (u ++ as_tokens c) q → f c ≡ Outgrown
    trial_outgrown c q le o = ap (trial_of p) (outgrows_short g m n k least o) ∙ ap (λ (b : Bool). cond b Fits Outgrown) (le-ltb p q le)

    abbrev Answers : ℕ → Expected → Type 0
    Answers room x = ((l : List ℕ) × ListOf g u l × (x ≡ listed_at room p l)) ⊎ (x ≡ short_at room p)

    module _ (room : ℕ) where
      answers : (T : Tried) → Sorted f (suc g.terminals) 0 T → Answers room (answered_at room p T)
      answers lacking s = inr refl
      answers (fitting l) F = go (dec_le (length l) room)
        where
          go : Dec (length l ≤ room) → Answers room (answered_at room p (fitting l))
          go (yes h) = inl (l, list_of F, listed room p l h)
          go (no h) = inr (outgrown room p l (omega (arith, h)))

      slips_to : (T : Tried) → Sorted f (suc g.terminals) 0 T → answered_at room p T ≡ short_at room p → Slips room
      slips_to lacking (c, a, b, e) h =
          let le : c ≤ g.terminals = omega (arith, b) in
          let o = says_outgrown (says c le) e in
          inl (c, le, o.0, o.1, o.2)
      slips_to (fitting l) F h = go (dec_le (length l) room)
        where
          go : Dec (length l ≤ room) → Slips room
          go (yes le) = absurd (not_short room p l (sym (listed room p l le) ∙ h))
          go (no lt) = inr (l, list_of F, omega (arith, lt))

      slips_from : (T : Tried) → Sorted f (suc g.terminals) 0 T → Slips room → answered_at room p T ≡ short_at room p
      slips_from lacking s h = refl
      slips_from (fitting l) F (inl (c, a, q, b, o)) = absurd (F.fine c (omega arith) (omega (arith, a)) (trial_outgrown c q b o))
      slips_from (fitting l) F (inr (r, L, lt)) = outgrown room p l (omega (arith, lt, ap length (list_same (list_of F) L)))

      comes : (T : Tried) → Sorted f (suc g.terminals) 0 T → ((c : ℕ) → c ≤ g.terminals → f c ≡ Outgrown → ⊥) → suc g.terminals ≤ room
          → (l : List ℕ) × ListOf g u l × (answered_at room p T ≡ listed_at room p l)
      comes lacking (c, a, b, e) fine h = absurd (fine c (omega (arith, b)) e)
      comes (fitting l) F fine h = (l, list_of F, listed room p l (omega (arith, F.few, h)))

  -- lengths with which no trial of a code below b outgrows what is lent
  suffice : (b : ℕ) → b ≤ suc g.terminals → (n₀ : ℕ) × (k₀ : ℕ) × ((n k : ℕ) → n₀ ≤ n → k₀ ≤ k → (c : ℕ) → c < b → f n k c ≡ Outgrown → ⊥)
  suffice zero le = (0, 0, λ n k i j c l e. omega (arith, l))
  suffice (suc b) le =
      let r = suffice b (omega (arith, le)) in
      let C = code_claim b (omega (arith, le)) in (
        max r.0 C.stack_need,
        max r.1 (length C.listed),
        λ n k i j c l e. last C n k (omega (arith, i)) (omega (arith, j)) (r.2 n k (omega (arith, i)) (omega (arith, j))) c l e (ℕ_discrete c b),
      )
    where
      last : (C : Claim g m (u ++ as_tokens b)) (n k : ℕ) → C.stack_need ≤ n → length C.listed ≤ k
          → ((c : ℕ) → c < b → f n k c ≡ Outgrown → ⊥) → (c : ℕ) → c < suc b → f n k c ≡ Outgrown → Dec (c ≡ b) → ⊥
      last C n k i j earlier c l e (yes z) = never_outgrown g m (u ++ as_tokens b) C n k p (CouldCome g u b) i j (ap (f n k) (sym z) ∙ e)
      last C n k i j earlier c l e (no z) = earlier c (omega (arith, l, z)) e

-- ---- the call
module _ (gs s : List ℕ) (g : Grammar) (t : Table) (books : checked_of gs s ≡ whole g t) (few : g.terminals ≤ 63) (least : PopsSome (automaton g t))
    (claim : (v : List ℕ) → ((a : ℕ) → In a v → IsTerminal g a) → Claim g (automaton g t) v)
    (w : List ℕ) (short : length w ≤ 65535) (tokens : (a : ℕ) → In a w → IsTerminal g a) where
  front : (p a : ℕ) → In a (take p w) → IsTerminal g a
  front p a i = tokens a (subst (In a) (take-append-drop p w) (in_left (drop p w) i))

  abbrev trial_at : ℕ → ℕ → ℕ → ℕ → Trial
  trial_at n k p c = trial_of p (walk g (automaton g t) n k (take p w ++ as_tokens c))

  reply_is : (n k : ℕ) → (session gs s w n k).reply ≡ answer g (walk g (automaton g t) n k w)
  reply_is n k = ap (λ (x : Session). x.reply) (session_walks gs s books w short tokens n k)

  answer_is : (n k room p : ℕ) → EndsAt (session gs s w n k).reply p
      → expected gs s w n k room ≡ answered_at room p (tried (trial_at n k p) (suc g.terminals) 0)
  unfolding expected list_for
  answer_is n k room p h =
      on_ends room (list_for room n k (checked_of gs s) w) (session gs s w n k).reply p h
      ∙ ap (λ (x : Reading). list_for room n k x w p) books

  module _ (n k p : ℕ) (ends : EndsAt (session gs s w n k).reply p) where
    started : (p ≤ length w) × BeginsSentence g (take p w)
    started = begun g (automaton g t) w (claim w tokens) n k p (subst (λ r. EndsAt r p) (reply_is n k) ends)

    -- the theorems over u, here
    long : length (take p w) ≡ p
    long = length-take-le p w started.0

  promised : Promised gs s g t w
  promised = record {
    listed_or_short = λ n k room p h.
        subst (Answers g (automaton g t) least claim (take p w) (front p) (started n k p h).1 p (long n k p h) n k room) (sym (answer_is n k room p h))
        (answers g (automaton g t) least claim (take p w) (front p) (started n k p h).1 p (long n k p h) n k room (tried (trial_at n k p) (suc g.terminals) 0) (sorted (trial_at n k p) (suc g.terminals) 0));
    short_exactly = λ n k room p h. (
      λ e. slips_to g (automaton g t) least claim (take p w) (front p) (started n k p h).1 p (long n k p h) n k room (tried (trial_at n k p) (suc g.terminals) 0) (sorted (trial_at n k p) (suc g.terminals) 0)
          (sym (answer_is n k room p h) ∙ e),
      λ z. answer_is n k room p h
          ∙ slips_from g (automaton g t) least claim (take p w) (front p) (started n k p h).1 p (long n k p h) n k room (tried (trial_at n k p) (suc g.terminals) 0) (sorted (trial_at n k p) (suc g.terminals) 0) z,
    );
    enough = needs;
  }
    where
      p₀ : ℕ
      p₀ = end_of g (automaton g t) w (claim w tokens) (claim w tokens).ending

      reached : (n k : ℕ) → (claim w tokens).stack_need ≤ n → length (claim w tokens).listed ≤ k → EndsAt (session gs s w n k).reply p₀
      reached n k a b = subst (λ r. EndsAt r p₀) (sym (reply_is n k)) (enough_ends g (automaton g t) w (claim w tokens) n k a b)

      needs : (n₀ : ℕ) × (k₀ : ℕ) × ((n k room : ℕ) → n₀ ≤ n → k₀ ≤ k → 64 ≤ room → (p : ℕ) × EndsAt (session gs s w n k).reply p × Lists gs s g t w n k room p)
      needs =
          let C = claim w tokens in
          let at-need = reached C.stack_need (length C.listed) (omega arith) (omega arith) in
          let begins = (started C.stack_need (length C.listed) p₀ at-need).1 in
          let so-long = long C.stack_need (length C.listed) p₀ at-need in
          let lent = suffice g (automaton g t) least claim (take p₀ w) (front p₀) begins p₀ so-long (suc g.terminals) (omega arith) in (
            max C.stack_need lent.0,
            max (length C.listed) lent.1,
            λ n k room a b c.
                let ends = reached n k (omega (arith, a)) (omega (arith, b)) in
                let x = comes g (automaton g t) least claim (take p₀ w) (front p₀) begins p₀ so-long n k room (tried (trial_at n k p₀) (suc g.terminals) 0) (sorted (trial_at n k p₀) (suc g.terminals) 0)
                (λ i le. lent.2 n k (omega (arith, a)) (omega (arith, b)) i (omega (arith, le))) (omega (arith, few, c)) in
                (p₀, ends, (x.0, x.1, answer_is n k room p₀ ends ∙ x.2)),
          )

pub promise : Promise
promise = (
  hands_on,
  λ gs s e.
      let h = (exactly gs s).0 e in
      let g = h.0 in
      let t = h.1 in
      let A = h.2 in
      let books = accepts gs s A in
      let D = declared_of (accepted_sound gs s books).formed in
      (g, t, A, promised gs s g t books D.few_terminals (machine.table_pops g t D A.productive A.meets) (machine.demand3 g t D A.productive A.meets)),
)
