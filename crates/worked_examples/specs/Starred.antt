-- Document 01, 'Sessions and books to try': "Starred ones are proved". One table, and one theorem about the definitions: each table book is the one
-- that the builder writes for its grammar, the checker accepts it, and each session over these books answers what is told.
use Rattle.std.specs.Prelude.{ℕ, ◌-◌, ◌≡◌, List, [], ◌∷◌, ◌++◌, length, replicate, Ok, Err}
use Rattle.reply.specs.declared.Kind.TheVariants.{SyntaxError}
use Rattle.fixpoint.specs.Each.{Each}
use Rattle.session.specs.Session.{Session, session}
use Rattle.worked_examples.specs.Books.{book, Books, g1, g1_cut, d}
use Rattle.worked_examples.specs.Built.{Built}

-- what is told of some tokens: whole, with a listing and a unit count; or wrong at a place
pub data Told : Type 0 where
  lists : List ℕ → List ℕ → ℕ → Told
  wrong : List ℕ → ℕ → Told

-- "★ abbc: 3,1,5. ★ abbbcc: 3,2,1,5,4. [..] ★ abc: wrong at 2. ★ abb: at 3. ★ no token: at 0."
abbrev pub told_g1 : List Told
told_g1 =
    lists (1 ∷ 2 ∷ 2 ∷ 3 ∷ []) (3 ∷ 1 ∷ 5 ∷ []) 0 ∷
    lists (1 ∷ 2 ∷ 2 ∷ 2 ∷ 3 ∷ 3 ∷ []) (3 ∷ 2 ∷ 1 ∷ 5 ∷ 4 ∷ []) 0 ∷
    wrong (1 ∷ 2 ∷ 3 ∷ []) 2 ∷
    wrong (1 ∷ 2 ∷ 2 ∷ []) 3 ∷
    wrong [] 0 ∷
    []

-- "With rule 1 as `^ a / B b / C` it has 13, and ★ abbc lists 1,3,5."
abbrev pub told_g1_cut : List Told
told_g1_cut = lists (1 ∷ 2 ∷ 2 ∷ 3 ∷ []) (1 ∷ 3 ∷ 5 ∷ []) 0 ∷ []

-- "★ 1423: 1,2,3,4,5, one unit. ★ 123123: 1,2,3,4,2,3,4, two units. ★ no token: 1, no unit. ★ 1123: wrong at 1."
abbrev pub told_d : List Told
told_d =
    lists (1 ∷ 4 ∷ 2 ∷ 3 ∷ []) (1 ∷ 2 ∷ 3 ∷ 4 ∷ 5 ∷ []) 1 ∷
    lists (1 ∷ 2 ∷ 3 ∷ 1 ∷ 2 ∷ 3 ∷ []) (1 ∷ 2 ∷ 3 ∷ 4 ∷ 2 ∷ 3 ∷ 4 ∷ []) 2 ∷
    lists [] (1 ∷ []) 0 ∷
    wrong (1 ∷ 1 ∷ 2 ∷ 3 ∷ []) 1 ∷
    []

-- the sessions over a grammar and its tables
pub data Sessions : Type 0 where
  over : Books → List Told → Sessions

abbrev pub sessions : List Sessions
sessions = over g1 told_g1 ∷ over g1_cut told_g1_cut ∷ over d told_d ∷ []

abbrev pub tokens_of : Told → List ℕ
tokens_of (lists w l units) = w
tokens_of (wrong w place) = w

-- lent 20 places of stack and of listing
abbrev pub answer_of : Told → Session
answer_of (lists w l units) = record {
  reply = Ok (record { tokens = length w; rules = length l; units = units });
  listing = l ++ replicate (20 - length l) 0;
  stack = replicate 20 0;
}
answer_of (wrong w place) = record {
  reply = Err (record { kind = SyntaxError; place = place });
  listing = replicate 20 0;
  stack = replicate 20 0;
}

-- `session` (session/specs/Session.antt) is what `run_session` answers to two books and tokens
pub record Answered (b : Books) (x : Told) : Type 0 where
  pub answer : session (book b.grammar) (book b.tables) (tokens_of x) 20 20 ≡ answer_of x

abbrev pub Proved : Sessions → Type 0
Proved (over b l) = Built b × Each (Answered b) l

abbrev pub Starred : Type 0
Starred = Each Proved sessions
