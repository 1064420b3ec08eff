-- From the session's reply to the answer: a machine in memory against the table whose steps it makes, then the books and the lengths.
use Prim.Native.Nat.{ℕ, zero, suc, ◌+◌, ◌≤◌, ◌<◌}
use native.Mathlib.Omega.{arith}
use mathlib.Core.Logic.{◌⊎◌, inl, inr}
use mathlib.Core.Path.{◌≡◌, refl, sym, ap, subst, ◌∙◌}
use mathlib.Core.Bool.{Bool, true, false, cond}
use mathlib.Core.List.{List, [], ◌∷◌, ◌++◌}
use borrow.Author.Tests.{lt-ltb, le-ltb}
use lib.Dec.{eqb}
use lib.ListN.{length, get_or, take, drop, set, replicate, take-append-drop}
use lib.Seq.{take-suc, take-suc-set}
use Rattle.std.specs.Prelude.{Result, Ok, Err}
use Rattle.language.specs.Grammar.{Grammar}
use Rattle.language.specs.Sentence.{In}
use Rattle.language.proofs.Member.{in_left, in_either, in_cons}
use Rattle.leftcorner.specs.Machine.{Verdict, whole_at, wrong_at, short_at, walk}
use Rattle.leftcorner.specs.Table.{Table, automaton}
use Rattle.leftcorner.proofs.ReadOff.{clash}
use Rattle.leftcorner.proofs.Resume.{end_place}
use Rattle.fixpoint.specs.declared.Found.{Found}
use Rattle.grammar.specs.Book.{on_found}
use Rattle.reply.specs.Reply.{kind_number, place_of}
use Rattle.reply.specs.declared.Kind.TheVariants.{LimitExceeded, Undeclared}
use Rattle.reply.specs.declared.Refusal.{Refusal}
use Rattle.reply.specs.declared.Reply.{Reply}
use Rattle.table.specs.Book.{Reading, whole, rejected}
use Rattle.checker.specs.Checked.{checked_of}
use Rattle.stray_tokens.specs.Stray.{stray_from}
use Rattle.walker.specs.declared.Tally.{Tally}
use Rattle.walker.specs.Walked.{Walked, memory_walk, answer, as_reply}
use Rattle.walker.proofs.RunLaws.{memory_place}
use Rattle.walk_tables.specs.declared.Machine.{Machine}
use Rattle.machine.specs.Machine.{Drives, MachineIs}
use Rattle.machine.proofs.DriveLaws.{walk_is}
use Rattle.session.specs.Session.{Session, refused_at, ended_by, table_session, after_books, session}
use Rattle.session.specs.Session as session
use Rattle.session.proofs.SessionLaws.{ended_wrong, ended_short}
use Rattle.session.proofs.TableLaws.{all_terminals, walk_alike}
use Rattle.expected_trial.specs.declared.Trial.{Trial}
use Rattle.expected_trial.specs.Trial.{as_tokens, trial_of}
use Rattle.expected_trials.specs.Trials.{ExpectedReply, Expected, noted, tried, refused_by, answered_at, ListTold}
use Rattle.expected_trials.proofs.CodeLaws.{trials}
use Rattle.expected.specs.Expected.{EndsAt, on_reply, list_for, expected, Driven, Tells}
use Rattle.expected.specs.Read.{over_table, after_read}
use Rattle.expected.proofs.PlaceLaws.{on_ends, on_others}

-- one token more is copied
pub copied_more : (l out : List ℕ) (i : ℕ) → i < length l → i < length out → take i out ≡ take i l → take (i + 1) (set out i (get_or l i 0)) ≡ take (i + 1) l
copied_more l out i h k e =
    let z : i + 1 ≡ suc i = omega arith in
    ap (λ (j : ℕ). take j (set out i (get_or l i 0))) z ∙ take-suc-set out i (get_or l i 0) k ∙ ap (λ (m : List ℕ). m ++ get_or l i 0 ∷ []) e
    ∙ sym (take-suc l i 0 h) ∙ ap (λ (j : ℕ). take j l) (sym z)

-- ---- replies 0 and 12
pub ends_whole : {r : Walked} {tally : Tally} → r ≡ Ok tally → EndsAt r tally.tokens
ends_whole {tally = tally} e = subst (λ (r : Walked). EndsAt r tally.tokens) (sym e) (inl refl, refl)

pub ends_wrong : {r : Walked} {why : Refusal} → r ≡ Err why → kind_number why.kind ≡ 12 → EndsAt r why.place
ends_wrong {why = why} e h = subst (λ (r : Walked). EndsAt r why.place) (sym e) (inr h, refl)

answer_place : (g : Grammar) (v : Verdict) → place_of (as_reply (answer g v)) ≡ end_place v
answer_place g (whole_at p l) = refl
answer_place g (wrong_at p) = refl
answer_place g (short_at p) = refl

-- two rows of trials that tell the same
tried_alike : (f h : ℕ → Trial) (left c : ℕ) → ((x : ℕ) → x < c + left → f x ≡ h x) → tried f left c ≡ tried h left c
unfolding tried
tried_alike f h zero c same = refl
tried_alike f h (suc left) c same =
    ap (λ (x : Trial). noted x c (tried f left (suc c))) (same c (omega arith))
    ∙ ap (noted (h c) c) (tried_alike f h left (suc c) (λ x l. same x (omega (arith, l))))

module _ (g : Grammar) (t : Table) (n k : ℕ) (w : List ℕ) where
  -- a session over accepted books is the walk's answer, or refuses a stray token
  data Kept : Type 0 where
    walks : table_session n k g t w ≡ ended_by n k g (walk g (automaton g t) n k w) → stray_from g.terminals 0 w ≡ Found.Nothing → Kept
    strays : (p : ℕ) → table_session n k g t w ≡ refused_at n k Undeclared p → Kept

  kept : Kept
  unfolding table_session
  kept = go (stray_from g.terminals 0 w) refl
    where
      by : Found → Session
      by f = on_found f (refused_at n k Undeclared) (ended_by n k g (walk g (automaton g t) n k w))

      go : (f : Found) → stray_from g.terminals 0 w ≡ f → Kept
      go Found.Nothing e = walks (ap by e) e
      go (Found.At p) e = strays p (ap by e)

  -- a refusal leaves zeros
  pub refused_is : {r : Walked} {why : Refusal} → r ≡ (table_session n k g t w).reply → r ≡ Err why → table_session n k g t w ≡ session.refused_by n k why
  refused_is {r} {why} s e = go kept
    where
      from_answer : (v : Verdict) → answer g v ≡ Err why → ended_by n k g v ≡ session.refused_by n k why
      from_answer (whole_at p l) h = clash cc
      from_answer (wrong_at p) h = ended_wrong n k p g ∙ ap (session.refused_by n k) cc
      from_answer (short_at p) h = ended_short n k p g ∙ ap (session.refused_by n k) cc

      reply_is : (table_session n k g t w).reply ≡ Err why
      reply_is = sym s ∙ e

      go : Kept → table_session n k g t w ≡ session.refused_by n k why
      go (walks h none) = h ∙ from_answer (walk g (automaton g t) n k w) (sym (ap (λ (x : Session). x.reply) h) ∙ reply_is)
      go (strays p h) = let z = sym (ap (λ (x : Session). x.reply) h) ∙ reply_is in h ∙ ap (session.refused_by n k) cc

  module _ {mem : Machine} (D : Drives g t mem) {r : Walked} (told : r ≡ (table_session n k g t w).reply)
      (p : ℕ) (ends : EndsAt r p) where
    -- it is the walk that ended so
    walked_so : (stray_from g.terminals 0 w ≡ Found.Nothing) × (r ≡ answer g (walk g (automaton g t) n k w))
    walked_so = go kept
      where
        go : Kept → (stray_from g.terminals 0 w ≡ Found.Nothing) × (r ≡ answer g (walk g (automaton g t) n k w))
        go (walks h none) = (none, told ∙ ap (λ (x : Session). x.reply) h)
        go (strays q h) = stray (subst (λ (x : Walked). EndsAt x p) (told ∙ ap (λ (x : Session). x.reply) h) ends).0
          where
            stray : (◌≡◌ {A = ℕ} 3 0) ⊎ (◌≡◌ {A = ℕ} 3 12) → (stray_from g.terminals 0 w ≡ Found.Nothing) × (r ≡ answer g (walk g (automaton g t) n k w))
            stray (inl z) = absurd (omega (arith, z))
            stray (inr z) = absurd (omega (arith, z))

    pub ends_within : p ≤ length w
    ends_within =
        let v = walk g (automaton g t) n k w in
        let at : p ≡ end_place v = sym (subst (λ (x : Walked). EndsAt x p) walked_so.1 ends).1 ∙ answer_place g v in
        let low = memory_place mem n k w in
        let same : end_place v ≡ end_place (memory_walk mem n k w) = ap end_place (walk_alike g t D n k w walked_so.0) in
        omega (arith, at, low, same)

    -- every token of a trial fits the machine
    trial_low : (c : ℕ) → c ≤ g.terminals → (a : ℕ) → In a (take p w ++ as_tokens c) → a < 64
    trial_low c le a i = go c le (in_either (take p w) i)
      where
        go : (c : ℕ) → c ≤ g.terminals → In a (take p w) ⊎ In a (as_tokens c) → a < 64
        go c l (inl j) =
            let h = all_terminals g.terminals 0 w walked_so.0 a (subst (In a) (take-append-drop p w) (in_left (drop p w) j)) in
            omega (arith, h.1, D.few_terminals)
        go zero l (inr j) = elim j [ ]
        go (suc b) l (inr j) = one (in_cons j)
          where
            one : (a ≡ suc b) ⊎ In a [] → a < 64
            one (inl e) = omega (arith, e, l, D.few_terminals)
            one (inr z) = elim z [ ]

    -- the trials of the machine are those of the table
    pub list_is : (room : ℕ) → on_reply room (table_session n k g t w).reply (list_for room n k (whole g t) w)
        ≡ answered_at room p (tried (trials mem n k p (take p w)) (suc mem.terminals) 0)
    unfolding list_for
    list_is room =
        on_ends room (list_for room n k (whole g t) w) (table_session n k g t w).reply p (subst (λ (x : Walked). EndsAt x p) told ends)
        ∙ ap (answered_at room p) (tried_alike (λ c. trial_of p (walk g (automaton g t) n k (take p w ++ as_tokens c))) (trials mem n k p (take p w)) (suc g.terminals) 0
        (λ x l. ap (trial_of p) (walk_is D n k (take p w ++ as_tokens x) (trial_low x (omega (arith, l))))))
        ∙ ap (λ (i : ℕ). answered_at room p (tried (trials mem n k p (take p w)) (suc i) 0)) (sym D.terminals_is)

-- ---- answers told of equal answers
pub tells_as : {n k i j : ℕ} {x y : Expected} {r : ExpectedReply} {stack listing codes : List ℕ} → i ≡ n → j ≡ k → y ≡ x → Tells i j x r stack listing codes
    → Tells n k y r stack listing codes
tells_as {r = r} {codes = codes} ns ks e T = record {
  told = subst (λ z. ListTold z r codes) (sym e) T.told;
  stack_is = T.stack_is ∙ ap (λ (l : ℕ). replicate l 0) ns;
  listing_is = T.listing_is ∙ ap (λ (l : ℕ). replicate l 0) ks;
}

-- the list, told with the lengths that the slices have kept
pub listed_told : (mem : Machine) {n k i j : ℕ} (p room : ℕ) (u : List ℕ) {y : Expected} {r : ExpectedReply} {stack listing codes : List ℕ}
    → i ≡ n → j ≡ k → y ≡ answered_at room p (tried (trials mem n k p u) (suc mem.terminals) 0)
    → Tells i j (answered_at room p (tried (trials mem i j p u) (suc mem.terminals) 0)) r stack listing codes → Tells n k y r stack listing codes
listed_told mem {n} {k} {i} {j} p room u ns ks e T =
    tells_as ns ks
    (e ∙ sym (ap (λ (l : ℕ). answered_at room p (tried (trials mem l j p u) (suc mem.terminals) 0)) ns
    ∙ ap (λ (l : ℕ). answered_at room p (tried (trials mem n l p u) (suc mem.terminals) 0)) ks)) T

-- another reply, handed on
pub others_told : (n k room : ℕ) {x : Session} {why : Refusal} {stack listing codes : List ℕ} (list : ℕ → Expected) {r : Walked} → session.Tells x r stack listing
    → x ≡ session.refused_by n k why → (kind_number why.kind ≡ 12 → ⊥) → codes ≡ replicate room 0 → Tells n k (on_reply room x.reply list) (Err why) stack listing codes
others_told n k room {x} {why} list T e other zeros =
    tells_as refl refl (ap (λ (y : Session). on_reply room y.reply list) e ∙ on_others room list why other) (record {
      told = record { reply_is = refl; codes_is = zeros };
      stack_is = T.stack_is ∙ ap (λ (y : Session). y.stack) e;
      listing_is = T.listing_is ∙ ap (λ (y : Session). y.listing) e;
    })

-- ---- tokens that are refused, or read
module _ (g : Grammar) (t : Table) (n k room : ℕ) {v : Reply} (w : List ℕ) {a : ExpectedReply} {stack listing codes : List ℕ} where
  pub read_refused : {why : Refusal} → v ≡ Reply.Refused why → Tells n k (refused_by room why) a stack listing codes → Tells n k (over_table n k room g t v w) a stack listing codes
  read_refused e T = tells_as refl refl (ap (λ (x : Reply). over_table n k room g t x w) e) T

  -- with the list slice of the length that it has kept
  pub read_listed : {m i : ℕ} → v ≡ Reply.Accepted m → i ≡ room
      → Tells n k (on_reply i (table_session n k g t (take m w)).reply (list_for i n k (whole g t) (take m w))) a stack listing codes → Tells n k (over_table n k room g t v w) a stack listing codes
  read_listed {m} e rs T =
      tells_as refl refl
      (ap (λ (x : Reply). over_table n k room g t x w) e ∙ ap (λ (l : ℕ). on_reply l (table_session n k g t (take m w)).reply (list_for l n k (whole g t) (take m w))) (sym rs)) T

-- ---- the books
cond_both : {A : Type 0} (b : Bool) (x : A) → cond b x x ≡ x
cond_both true x = refl
cond_both false x = refl

module _ (mem : Machine) {r : Result (Unit {0}) Refusal} where
  pub driven : (x : Reading) {u : Unit {0}} → MachineIs x r mem → r ≡ Ok u → Driven mem
  driven (whole g t) i e = (g, t, i.1)
  driven (rejected y) i e = clash cc

  module _ (n k room : ℕ) (v : Reply) (w : List ℕ) {a : ExpectedReply} {stack listing codes : List ℕ} where
    pub books_refused : (x : Reading) {why : Refusal} → MachineIs x r mem → r ≡ Err why → Tells n k (refused_by room why) a stack listing codes
        → Tells n k (after_read n k room x v w) a stack listing codes
    books_refused (whole g t) i e T = let f = i.0 in clash cc
    books_refused (rejected y) {why} i e T = tells_as refl refl (let q : why ≡ y = cc in ap (refused_by room) (sym q)) T

    pub books_listed : (x : Reading) {u : Unit {0}} → MachineIs x r mem → r ≡ Ok u
        → ((g : Grammar) (t : Table) → Drives g t mem → Tells n k (over_table n k room g t v w) a stack listing codes)
        → Tells n k (after_read n k room x v w) a stack listing codes
    books_listed (whole g t) i e T = T g t i.1
    books_listed (rejected y) i e T = clash cc

-- the first tokens of a slice
pub books_read : (n k room : ℕ) (x : Reading) (m : ℕ) (w : List ℕ) {l : List ℕ} {a : ExpectedReply} {stack listing codes : List ℕ} → take m w ≡ l
    → Tells n k (after_read n k room x (Reply.Accepted m) w) a stack listing codes → Tells n k (on_reply room (after_books n k x l).reply (list_for room n k x l)) a stack listing codes
unfolding list_for
books_read n k room (whole g t) m w e T = tells_as refl refl (ap (λ (v : List ℕ). on_reply room (table_session n k g t v).reply (list_for room n k (whole g t) v)) (sym e)) T
books_read n k room (rejected why) m w e T = tells_as refl refl (cond_both (eqb (kind_number why.kind) 12) (refused_by room why)) T

-- ---- the number of tokens comes first
module _ (gs s w : List ℕ) (n k room : ℕ) where
  abbrev by : Bool → Expected
  by b = on_reply room (cond b (refused_at n k LimitExceeded 0) (after_books n k (checked_of gs s) w)).reply (list_for room n k (checked_of gs s) w)

  pub too_many : {a : ExpectedReply} {stack listing codes : List ℕ} → 65535 < length w → Tells n k (refused_by room (record { kind = LimitExceeded; place = 0 })) a stack listing codes → Tells n k (expected gs s w n k room) a stack listing codes
  unfolding expected session
  too_many h T = tells_as refl refl (ap by (lt-ltb 65535 (length w) h)) T

  pub not_many : {a : ExpectedReply} {stack listing codes : List ℕ} → length w ≤ 65535 → Tells n k (on_reply room (after_books n k (checked_of gs s) w).reply (list_for room n k (checked_of gs s) w)) a stack listing codes
      → Tells n k (expected gs s w n k room) a stack listing codes
  unfolding expected session
  not_many h T = tells_as refl refl (ap by (le-ltb 65535 (length w) h)) T
