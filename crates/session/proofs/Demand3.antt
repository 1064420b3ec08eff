-- Demand 3 of the call, proved: the claim about the walk, told of a session.
use Prim.Native.Nat.{ℕ, ◌-◌, ◌≤◌}
use native.Mathlib.Omega.{arith}
use mathlib.Core.Path.{◌≡◌, refl, sym, ap, ap₂, ◌∙◌}
use mathlib.Core.Logic.{inl, inr}
use mathlib.Core.List.{List, ◌++◌}
use lib.ListN.{length, replicate}
use Rattle.std.specs.Prelude.{Ok}
use Rattle.language.specs.Grammar.{Grammar, IsTerminal}
use Rattle.language.specs.Derivation.{Tree, yield, IsTree}
use Rattle.language.specs.Listing.{listing}
use Rattle.language.specs.Sentence.{In}
use Rattle.language.specs.WellFormed.{declared_of}
use Rattle.leftcorner.specs.Machine.{Ending, accepted, failed, walk}
use Rattle.leftcorner.specs.Table.{Table, automaton}
use Rattle.leftcorner.specs.Claim.{WrongAt, Claim, comes_back}
use Rattle.leftcorner.proofs.Demand3 as machine
use Rattle.reply.specs.Reply.{number_of}
use Rattle.reply.specs.declared.Kind.TheVariants.{SyntaxError}
use Rattle.reply.specs.Reply.{padded}
use Rattle.checker.specs.Checked.{Accepts}
use Rattle.checker.proofs.Exactly.{accepts, accepted_sound, exactly}
use Rattle.walker.specs.Walked.{as_reply}
use Rattle.session.specs.Session.{Session, refused_at, ended_by, session}
use Rattle.session.proofs.SessionLaws.{session_walks, ended_short, whole_is, wrong_is, whole_number, wrong_number, wrong_place}
use Rattle.session.specs.Demand3.{whole_with, Answered, Demanded, Demand3}

-- ---- the claim about the walk, told of a session x that ended as the walk comes back
module _ (g : Grammar) (t : Table) (w : List ℕ) (C : Claim g (automaton g t) w) (n k : ℕ) (x : Session)
    (ended : x ≡ ended_by n k g (comes_back C.ending (length w) C.listed)) where
  number_is : C.ending ≡ accepted → number_of (as_reply x.reply) ≡ 0
  number_is e = whole_number n k g (length w) C.listed x C.ending ended e

  refusal_is : (p : ℕ) → C.ending ≡ failed p → x ≡ refused_at n k SyntaxError p
  refusal_is p e = wrong_is n k g (length w) C.listed x C.ending ended p e

  derivation_is : (T : Tree) → IsTree g T g.goal → yield T ≡ w → x ≡ whole_with g w n k T
  unfolding padded
  derivation_is T d y =
      let l = C.its_listing T d y in
      whole_is n k g (length w) C.listed x C.ending ended (C.whole_exactly.1 (record { tree = T; derives = d; yields_it = y }))
      ∙ ap₂ (λ (m : List ℕ) (u : ℕ). record {
        reply = Ok (record { tokens = length w; rules = length m; units = u });
        listing = m ++ replicate (k - length m) 0;
        stack = replicate n 0;
      }) l.0 l.1

  answered : Answered g w n k x
  answered = go C.ending refl
    where
      wrong_from : (p : ℕ) → WrongAt g w p → x ≡ refused_at n k SyntaxError p
      wrong_from p h = refusal_is p ((C.wrong_exactly p).1 h)

      go : (o : Ending) → C.ending ≡ o → Answered g w n k x
      go accepted e = record {
        whole_or_wrong = inl (number_is e);
        whole_exactly = (λ h. C.whole_exactly.0 e, λ h. number_is e);
        its_derivation = derivation_is;
        wrong_exactly = λ p. (λ h. absurd (omega (arith, number_is e, wrong_number n k p h)), wrong_from p);
      }
      go (failed p) e =
          let f = refusal_is p e in
          record {
            whole_or_wrong = inr (p, f);
            whole_exactly = (λ h. absurd (omega (arith, h, wrong_number n k p f)), λ h. number_is (C.whole_exactly.1 h));
            its_derivation = derivation_is;
            wrong_exactly = λ q. (λ h. (C.wrong_exactly q).0 (e ∙ ap failed (sym (wrong_place n k p f) ∙ wrong_place n k q h)), wrong_from q);
          }

demanded : (gs s : List ℕ) (g : Grammar) (t : Table) (w : List ℕ) → Claim g (automaton g t) w
    → ((n k : ℕ) → session gs s w n k ≡ ended_by n k g (walk g (automaton g t) n k w)) → Demanded gs s g t w
demanded gs s g t w C walks = record {
  stack_need = C.stack_need;
  listing_need = length C.listed;
  needs = record { ending = C.ending; listed = C.listed; ends = C.ends; counted = refl };
  enough = λ n k a b. answered g t w C n k (session gs s w n k) (walks n k ∙ ap (ended_by n k g) (C.enough n k a b));
  one_derivation = C.one_derivation;
  short = λ n k h. let f = C.short n k h in (f.0, walks n k ∙ (ap (ended_by n k g) f.1 ∙ ended_short n k f.0 g), f.2);
}

-- ---- books that are accepted as those of g and t
module _ (gs s : List ℕ) {g : Grammar} {t : Table} (A : Accepts gs s g t) where
  -- the claim, of lists of any length
  pub claimed : (w : List ℕ) → ((a : ℕ) → In a w → IsTerminal g a) → Claim g (automaton g t) w
  claimed = machine.demand3 g t (declared_of (accepted_sound gs s (accepts gs s A)).formed) A.productive A.meets

  module _ (w : List ℕ) (few : length w ≤ 65535) (tokens : (a : ℕ) → In a w → IsTerminal g a) where
    pub demands : Demanded gs s g t w
    demands = demanded gs s g t w (claimed w tokens) (session_walks gs s (accepts gs s A) w few tokens)

    -- a sentence needs as much listing as its derivation lists
    pub need_listed : (T : Tree) → IsTree g T g.goal → yield T ≡ w → demands.listing_need ≡ length (listing g T)
    unfolding demands demanded
    need_listed T h y = ap length ((claimed w tokens).its_listing T h y).0

pub demand3 : Demand3
demand3 gs s e = let h = (exactly gs s).0 e in (h.0, h.1, h.2, demands gs s h.2)
