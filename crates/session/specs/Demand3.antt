-- Demand 3 for the call that hospitals rely on. What `run_session` answers, reply, counts and both slices, is `session`
-- (Session.antt), for all bytes and lengths; here is what the demand says of `session`, for any two books to which the checker
-- replies 0, whoever built the tables, and any list of 0 to 65,535 tokens, each 1 to t.
use Rattle.std.specs.Prelude.{ℕ, zero, ◌-◌, ◌≤◌, ◌<◌, ◌≡◌, ◌⊎◌, List, ◌++◌, length, replicate, Ok, ◌↔◌}
use Rattle.language.specs.Grammar.{Grammar, IsTerminal}
use Rattle.language.specs.Derivation.{Tree, yield, IsTree}
use Rattle.language.specs.Listing.{listing, units}
use Rattle.language.specs.Sentence.{In, Sentence}
use Rattle.leftcorner.specs.Machine.{Ending, Walk, start}
use Rattle.leftcorner.specs.Table.{Table, automaton}
use Rattle.leftcorner.specs.Claim.{WrongAt, Outgrows}
use Rattle.reply.specs.Reply.{number_of}
use Rattle.reply.specs.declared.Kind.TheVariants.{BufferTooSmall, SyntaxError}
use Rattle.reply.specs.declared.Reply.TheVariants as reply
use Rattle.checker.specs.Checked.{verdict_of, Accepts}
use Rattle.walker.specs.Walked.{as_reply}
use Rattle.session.specs.Session.{Session, refused_at, session}

-- "The walk's two needs are the most states its stack holds [..] and the number of rules it announces until it ends"
pub record Needs (g : Grammar) (t : Table) (w : List ℕ) (stack rules : ℕ) : Type 0 where
  pub ending : Ending
  pub listed : List ℕ
  pub ends : Walk g (automaton g t) (start g (automaton g t)) w zero ending stack listed
  pub counted : length listed ≡ rules

module _ (g : Grammar) (w : List ℕ) (n k : ℕ) where
  -- "Whole is reply 0 at the token count, with the derivation's number of rules, units and listing, then zeros"
  abbrev pub whole_with : Tree → Session
  whole_with T = record {
    reply = Ok (record { tokens = length w; rules = length (listing g T); units = units g T });
    listing = listing g T ++ replicate (k - length (listing g T)) 0;
    stack = replicate n 0;
  }

  -- what is demanded of session x with enough lent
  pub record Answered (x : Session) : Type 0 where
    -- "the session comes back whole or wrong"
    pub whole_or_wrong : (number_of (as_reply x.reply) ≡ 0) ⊎ ((p : ℕ) × (x ≡ refused_at n k SyntaxError p))
    -- "it comes back whole exactly when the scans are a sentence of the grammar"
    pub whole_exactly : (number_of (as_reply x.reply) ≡ 0) ↔ Sentence g w
    -- "the listing and unit count handed over are that derivation's"
    pub its_derivation : (T : Tree) → IsTree g T g.goal → yield T ≡ w → x ≡ whole_with T
    -- "It comes back wrong at a place exactly when [..]": 12 at that place
    pub wrong_exactly : (p : ℕ) → (x ≡ refused_at n k SyntaxError p) ↔ WrongAt g w p

-- demand 3 for one list of tokens, over books of g and t
pub record Demanded (gs s : List ℕ) (g : Grammar) (t : Table) (w : List ℕ) : Type 0 where
  -- "Every session, sentence or not, has lengths, as whole numbers, that are just enough"
  pub stack_need : ℕ
  pub listing_need : ℕ
  pub needs : Needs g t w stack_need listing_need
  -- "lent enough listing and stack"
  pub enough : (n k : ℕ) → stack_need ≤ n → listing_need ≤ k → Answered g w n k (session gs s w n k)
  -- "the sentence then has one derivation only"
  pub one_derivation : (T U : Tree) → IsTree g T g.goal → IsTree g U g.goal → yield T ≡ w → yield U ≡ w → T ≡ U
  -- "lent less in either, it is a short slip": 11 at the tokens taken at the first step that outgrows
  pub short : (n k : ℕ) → (n < stack_need) ⊎ (k < listing_need) → (p : ℕ) × (session gs s w n k ≡ refused_at n k BufferTooSmall p) × Outgrows g (automaton g t) n k w p

-- for any two books to which the checker replies 0: they are those of a grammar and a table, and demand 3 holds of every list of
-- 0 to 65,535 of the grammar's tokens
abbrev pub Demand3 : Type 0
Demand3 = (gs s : List ℕ) → verdict_of gs s ≡ reply.Accepted 0
    → (g : Grammar) × (t : Table) × Accepts gs s g t
    × ((w : List ℕ) → length w ≤ 65535 → ((a : ℕ) → In a w → IsTerminal g a) → Demanded gs s g t w)
