-- A session over a machine in memory is that of the table whose steps it makes.
use Prim.Native.Nat.{ℕ, suc, ◌≤◌}
use native.Mathlib.Omega.{arith}
use mathlib.Core.Path.{◌≡◌, refl, sym, ap, subst, ◌∙◌}
use mathlib.Core.Logic.{◌⊎◌, inl, inr}
use mathlib.Core.Bool.{Bool, true, false, cond}
use mathlib.Core.List.{List, [], ◌∷◌}
use lib.ListN.{length, replicate}
use Rattle.std.specs.Prelude.{Ok}
use Rattle.language.specs.Grammar.{Grammar}
use Rattle.language.specs.Listing.{units_in}
use Rattle.language.specs.Sentence.{In}
use Rattle.language.proofs.Member.{in_cons}
use Rattle.leftcorner.specs.Machine.{Verdict, whole_at, wrong_at, short_at, walk}
use Rattle.leftcorner.specs.Table.{Table, automaton}
use Rattle.leftcorner.proofs.ReadOff.{clash}
use Rattle.fixpoint.specs.declared.Found.{Found}
use Rattle.range.specs.Range.{within}
use Rattle.range.proofs.RangeLaws.{within-true}
use Rattle.reply.specs.declared.Kind.TheVariants.{Undeclared}
use Rattle.reply.specs.Reply.{padded}
use Rattle.walker.specs.Walked.{Walked, memory_walk, answer, listed}
use Rattle.walk_tables.specs.Memory.{memory_grammar}
use Rattle.walk_tables.specs.declared.Machine.{Machine}
use Rattle.machine.specs.Machine.{Drives}
use Rattle.machine.proofs.DriveLaws.{walk_is}
use Rattle.grammar.specs.Book.{on_found}
use Rattle.stray_tokens.specs.Stray.{stray_from}
use Rattle.session.specs.Session.{refused_at, ended_by, table_session, Tells}

-- where no token is a stray, each is "1 to t"
pub all_terminals : (t at : ℕ) (w : List ℕ) → stray_from t at w ≡ Found.Nothing → (a : ℕ) → In a w → (1 ≤ a) × (a ≤ t)
unfolding stray_from
all_terminals t at [] e a m = elim m [ ]
all_terminals t at (b ∷ w) e a m = go (within 1 b t) refl e (λ f. all_terminals t (suc at) w f a) (in_cons m)
  where
    go : (c : Bool) → within 1 b t ≡ c → cond c (stray_from t (suc at) w) (Found.At at) ≡ Found.Nothing
        → (stray_from t (suc at) w ≡ Found.Nothing → In a w → (1 ≤ a) × (a ≤ t)) → (a ≡ b) ⊎ In a w → (1 ≤ a) × (a ≤ t)
    go true q f later (inl h) = subst (λ (x : ℕ). (1 ≤ x) × (x ≤ t)) (sym h) (within-true 1 b t q)
    go true q f later (inr n) = later f n
    go false q f later h = clash cc

-- units are counted alike, so the walk's answer is the same
answer_same : (g h : Grammar) → ((l : List ℕ) → units_in g l ≡ units_in h l) → (v : Verdict) → answer g v ≡ answer h v
answer_same g h same (whole_at p l) = ap (λ (u : ℕ). Ok (record { tokens = p; rules = length l; units = u })) (same l)
answer_same g h same (wrong_at p) = refl
answer_same g h same (short_at p) = refl

module _ (g : Grammar) (t : Table) where
  -- a token that is no terminal
  pub stray_session : (n k p : ℕ) (w : List ℕ) {stack listing : List ℕ} {r : Walked} → stray_from g.terminals 0 w ≡ Found.At p
      → Tells (refused_at n k Undeclared p) r stack listing → Tells (table_session n k g t w) r stack listing
  unfolding table_session
  stray_session n k p w {stack} {listing} {r} e T =
      subst (λ (f : Found). Tells (on_found f (refused_at n k Undeclared) (ended_by n k g (walk g (automaton g t) n k w))) r stack listing) (sym e) T

  -- tokens that are all terminals
  module _ {mem : Machine} (D : Drives g t mem) (n k : ℕ) (w : List ℕ)
      (none : stray_from g.terminals 0 w ≡ Found.Nothing) where
    pub walk_alike : walk g (automaton g t) n k w ≡ memory_walk mem n k w
    walk_alike = walk_is D n k w (λ a i. omega (arith, (all_terminals g.terminals 0 w none a i).1, D.few_terminals))

    pub table_session_lem : {stack listing : List ℕ} {r : Walked} → r ≡ answer (memory_grammar mem.rules) (memory_walk mem n k w)
        → listing ≡ padded k (listed (memory_walk mem n k w)) → stack ≡ replicate n 0
        → Tells (table_session n k g t w) r stack listing
    unfolding table_session
    table_session_lem {stack} {listing} {r} er el es =
        subst (λ (f : Found). Tells (on_found f (refused_at n k Undeclared) (ended_by n k g (walk g (automaton g t) n k w))) r stack listing) (sym none) (record {
          reply_is = er ∙ answer_same (memory_grammar mem.rules) g D.units_is (memory_walk mem n k w) ∙ ap (answer g) (sym walk_alike);
          listing_is = el ∙ ap (λ (v : Verdict). padded k (listed v)) (sym walk_alike);
          stack_is = es;
        })
