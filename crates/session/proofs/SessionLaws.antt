-- A session over books that are accepted, with declared tokens, is the walk.
use Prim.Native.Nat.{ℕ, suc, ◌-◌, ◌≤◌}
use native.Mathlib.Omega.{arith}
use mathlib.Core.Path.{◌≡◌, refl, sym, ap, subst, ◌∙◌}
use mathlib.Core.Logic.{◌⊎◌, inl, inr}
use mathlib.Core.Bool.{Bool, true, false, cond}
use mathlib.Core.List.{List, [], ◌∷◌}
use lib.ListN.{length, replicate}
use lib.Dec.{ltb}
use borrow.Author.Tests.{le-ltb, ltb-false}
use Rattle.std.specs.Prelude.{Err}
use Rattle.language.specs.Grammar.{Grammar, IsTerminal}
use Rattle.language.specs.Sentence.{In, here, there}
use Rattle.language.proofs.Member.{in_cons}
use Rattle.leftcorner.specs.Claim.{comes_back}
use Rattle.leftcorner.specs.Machine.{Ending, accepted, failed, walk, whole_at, wrong_at, short_at}
use Rattle.leftcorner.specs.Table.{Table, automaton}
use Rattle.fixpoint.specs.declared.Found.{Found}
use Rattle.range.specs.Range.{within}
use Rattle.range.proofs.RangeLaws.{within-true, true-within}
use Rattle.reply.specs.Reply.{number_of, place_of}
use Rattle.reply.specs.declared.Kind.TheVariants.{LimitExceeded, Undeclared, BufferTooSmall, SyntaxError}
use Rattle.reply.specs.Reply.{padded}
use Rattle.grammar.specs.Book.{on_found}
use Rattle.table.specs.Book.{Reading, whole}
use Rattle.checker.specs.Checked.{checked_of}
use Rattle.walker.specs.Walked.{as_reply}
use Rattle.stray_tokens.specs.Stray.{stray_from}
use Rattle.session.specs.Session.{Session, refused_at, ended_by, table_session, after_books, session}

-- a token "1 to t" is no stray
no_stray : (t at : ℕ) (w : List ℕ) → ((a : ℕ) → In a w → (1 ≤ a) × (a ≤ t)) → stray_from t at w ≡ Found.Nothing
unfolding stray_from
no_stray t at [] h = refl
no_stray t at (a ∷ w) h =
    let l = h a here in
    ap (λ (b : Bool). cond b (stray_from t (suc at) w) (Found.At at)) (true-within 1 a t l.0 l.1) ∙ no_stray t (suc at) w (λ b m. h b (there m))

module _ (gs s : List ℕ) {g : Grammar} {t : Table} (books : checked_of gs s ≡ whole g t) (w : List ℕ) (few : length w ≤ 65535)
    (tokens : (a : ℕ) → In a w → IsTerminal g a) where
  pub session_walks : (n k : ℕ) → session gs s w n k ≡ ended_by n k g (walk g (automaton g t) n k w)
  unfolding session table_session
  session_walks n k =
      ap (λ (b : Bool). cond b (refused_at n k LimitExceeded 0) (after_books n k (checked_of gs s) w)) (le-ltb 65535 (length w) few)
      ∙ ap (λ (x : Reading). after_books n k x w) books
      ∙ ap (λ (f : Found). on_found f (refused_at n k Undeclared) (ended_by n k g (walk g (automaton g t) n k w))) (no_stray g.terminals 0 w tokens)

-- a token is a terminal where none is stray
none_stray : (t at : ℕ) (w : List ℕ) → stray_from t at w ≡ Found.Nothing → (a : ℕ) → In a w → (1 ≤ a) × (a ≤ t)
unfolding stray_from
none_stray t at [] e a m = elim m [ ]
none_stray t at (b ∷ w) e a m = go (within 1 b t) refl e (in_cons m) (λ f n. none_stray t (suc at) w f a n)
  where
    go : (c : Bool) → within 1 b t ≡ c → cond c (stray_from t (suc at) w) (Found.At at) ≡ Found.Nothing → (a ≡ b) ⊎ In a w
        → (stray_from t (suc at) w ≡ Found.Nothing → In a w → (1 ≤ a) × (a ≤ t)) → (1 ≤ a) × (a ≤ t)
    go true i f (inl z) rest = subst (λ (c : ℕ). (1 ≤ c) × (c ≤ t)) (sym z) (within-true 1 b t i)
    go true i f (inr n) rest = rest f n
    go false i f n rest = let z : ◌≡◌ {A = ℕ} 0 1 = cc in absurd (omega arith)

-- a session that is whole is over few tokens, all of them terminals
module _ (gs s : List ℕ) {g : Grammar} {t : Table} (books : checked_of gs s ≡ whole g t) (w : List ℕ) (n k : ℕ) where
  abbrev Number : Session → ℕ
  Number x = number_of (as_reply x.reply)

  pub whole_tokens : number_of (as_reply (session gs s w n k).reply) ≡ 0 → (length w ≤ 65535) × ((a : ℕ) → In a w → IsTerminal g a)
  unfolding session table_session
  whole_tokens e = by_length (ltb 65535 (length w)) refl e
    where
      by_stray : (f : Found) → stray_from g.terminals 0 w ≡ f → Number (on_found f (refused_at n k Undeclared) (ended_by n k g (walk g (automaton g t) n k w))) ≡ 0
          → (a : ℕ) → In a w → IsTerminal g a
      by_stray (Found.At p) i e = absurd (omega (arith, e))
      by_stray Found.Nothing i e = none_stray g.terminals 0 w i

      by_length : (b : Bool) → ltb 65535 (length w) ≡ b → Number (cond b (refused_at n k LimitExceeded 0) (after_books n k (checked_of gs s) w)) ≡ 0
          → (length w ≤ 65535) × ((a : ℕ) → In a w → IsTerminal g a)
      by_length true i e = absurd (omega (arith, e))
      by_length false i e =
          (ltb-false 65535 (length w) i, by_stray (stray_from g.terminals 0 w) refl (sym (ap (λ (x : Reading). Number (after_books n k x w)) books) ∙ e))

-- only zeros tell of a walk that is wrong or short
zeros : (k : ℕ) → padded k [] ≡ replicate k 0
unfolding padded
zeros k = let e : k - 0 ≡ k = omega arith in ap (λ (m : ℕ). replicate m 0) e

pub ended_wrong : (n k p : ℕ) (g : Grammar) → ended_by n k g (wrong_at p) ≡ refused_at n k SyntaxError p
ended_wrong n k p g = ap (λ (l : List ℕ). record { reply = Err (record { kind = SyntaxError; place = p }); listing = l; stack = replicate n 0 }) (zeros k)

pub ended_short : (n k p : ℕ) (g : Grammar) → ended_by n k g (short_at p) ≡ refused_at n k BufferTooSmall p
ended_short n k p g = ap (λ (l : List ℕ). record { reply = Err (record { kind = BufferTooSmall; place = p }); listing = l; stack = replicate n 0 }) (zeros k)

-- a session that ended as a walk with enough lent comes back
module _ (n k : ℕ) (g : Grammar) (count : ℕ) (l : List ℕ) (x : Session) (o : Ending) (ended : x ≡ ended_by n k g (comes_back o count l)) where
  by_ending : (e : Ending) → o ≡ e → x ≡ ended_by n k g (comes_back e count l)
  by_ending e q = ended ∙ ap (λ (y : Ending). ended_by n k g (comes_back y count l)) q

  pub whole_is : o ≡ accepted → x ≡ ended_by n k g (whole_at count l)
  whole_is q = by_ending accepted q

  pub wrong_is : (p : ℕ) → o ≡ failed p → x ≡ refused_at n k SyntaxError p
  wrong_is p q = by_ending (failed p) q ∙ ended_wrong n k p g

  pub whole_number : o ≡ accepted → number_of (as_reply x.reply) ≡ 0
  whole_number q = ap (λ (y : Session). number_of (as_reply y.reply)) (whole_is q)

module _ (n k p : ℕ) {x : Session} (wrong : x ≡ refused_at n k SyntaxError p) where
  pub wrong_number : number_of (as_reply x.reply) ≡ 12
  wrong_number = ap (λ (y : Session). number_of (as_reply y.reply)) wrong

  pub wrong_place : place_of (as_reply x.reply) ≡ p
  wrong_place = ap (λ (y : Session). place_of (as_reply y.reply)) wrong
