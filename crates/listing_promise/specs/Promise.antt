-- S-7 of document 02, "How long a listing can be", for the call `bound_listing`, which answers what `bound_of` says
-- (listing_bound/specs/Bound.antt), for all bytes and numbers, and for `run_session`, which answers what `session` says.
use Rattle.std.specs.Prelude.{ℕ, ◌-◌, ◌*◌, ◌≤◌, ◌<◌, ◌≡◌, List, [], length}
use Rattle.std.proofs.Math.Option.{some}
use Rattle.language.specs.Grammar.{Grammar, Rule, rule_at, right}
use Rattle.language.specs.Derivation.{Tree, yield, IsTree}
use Rattle.language.specs.Listing.{listing}
use Rattle.language.specs.Sentence.{Sentence}
use Rattle.leftcorner.specs.Table.{Table}
use Rattle.reply.specs.Reply.{number_of}
use Rattle.reply.specs.declared.Kind.TheVariants.{LimitExceeded, BufferTooSmall}
use Rattle.reply.specs.declared.Refusal.{Refusal}
use Rattle.reply.specs.declared.Reply.TheVariants.{Accepted}
use Rattle.grammar.specs.Book.{accepted, rejected, grammar_of}
use Rattle.checker.specs.Checked.{verdict_of, Accepts}
use Rattle.walker.specs.Walked.{as_reply, rule_count}
use Rattle.session.specs.Session.{refused_at, session}
use Rattle.session.specs.Demand3.{Needs, whole_with}
use Rattle.listing_bound.specs.declared.ListingBound.TheVariants.{Rules, Unbounded, Refused}
use Rattle.listing_bound.specs.Bound.{bound_of}

-- "a grammar with no empty right side": it is ε-free
abbrev pub EpsilonFree : Grammar → Type 0
EpsilonFree g = (i : ℕ) (r : Rule) → rule_at g i ≡ some r → right r ≡ [] → ⊥

-- "n times (2 times k minus 1)", of the n nonterminals of g and k scans
abbrev pub most : Grammar → ℕ → ℕ
most g k = g.nonterminals * (2 * k - 1)

-- a sentence of g
pub record Listed (g : Grammar) (w : List ℕ) : Type 0 where
  -- "and k is never 0"
  pub some_scan : 1 ≤ length w
  -- it "lists at most n times (2 times k minus 1) rules"
  pub at_most : (T : Tree) → IsTree g T g.goal → yield T ≡ w → length (listing g T) ≤ most g (length w)

-- the session over a sentence, which demand 3 gives its two needs
pub record Suffices (gs s : List ℕ) (g : Grammar) (t : Table) (w : List ℕ) : Type 0 where
  pub stack_need : ℕ
  pub listing_need : ℕ
  pub needs : Needs g t w stack_need listing_need
  -- "Station setup wants to lend a listing that always suffices": the call hands out this bound
  pub handed_out : bound_of gs (length w) ≡ Rules (most g (length w))
  -- "A listing slice of that length never makes a sentence a short slip.": it is whole wherever the stack lent is at least its need
  pub whole : (n k : ℕ) → stack_need ≤ n → most g (length w) ≤ k → (T : Tree) → IsTree g T g.goal → yield T ≡ w → session gs s w n k ≡ whole_with g w n k T
  -- so a short slip can only be the stack's
  pub stack_short : (n k p : ℕ) → most g (length w) ≤ k → session gs s w n k ≡ refused_at n k BufferTooSmall p → n < stack_need

-- "For accepted tables of a grammar with no empty right side and n nonterminals"
pub record Bounded (gs s : List ℕ) (g : Grammar) (t : Table) : Type 0 where
  -- "a whole session of k scans lists at most n times (2 times k minus 1) rules; and k is never 0", whatever was lent
  pub sessions : (w : List ℕ) (n k : ℕ) → number_of (as_reply (session gs s w n k).reply) ≡ 0
      → (1 ≤ length w) × (rule_count (session gs s w n k).reply ≤ most g (length w))
  pub sentences : (w : List ℕ) → Sentence g w → Listed g w
  pub suffices : (w : List ℕ) → Sentence g w → length w ≤ 65535 → Suffices gs s g t w

pub record ListingPromise : Type 0 where
  -- any two books to which the checker replies 0, whoever built the tables
  pub accepted_tables : (gs s : List ℕ) → verdict_of gs s ≡ Accepted 0
      → (g : Grammar) × (t : Table) × Accepts gs s g t × (EpsilonFree g → Bounded gs s g t)
  -- what the call answers to a grammar book and k scans: the bound, that there is none, or the refusal
  pub bounded : (gs : List ℕ) (g : Grammar) (k : ℕ) → grammar_of gs ≡ accepted g → k ≤ 65535 → EpsilonFree g → bound_of gs k ≡ Rules (most g k)
  pub unbounded : (gs : List ℕ) (g : Grammar) (k : ℕ) → grammar_of gs ≡ accepted g → k ≤ 65535
      → (i : ℕ) (r : Rule) → rule_at g i ≡ some r → right r ≡ [] → bound_of gs k ≡ Unbounded
  pub refused : (gs : List ℕ) (why : Refusal) (k : ℕ) → grammar_of gs ≡ rejected why → k ≤ 65535 → bound_of gs k ≡ Refused why
  pub too_many : (gs : List ℕ) (k : ℕ) → 65535 < k → bound_of gs k ≡ Refused (record { kind = LimitExceeded; place = 0 })
