-- S-1 of document 02, "What could have come", for the call `list_expected`, which answers what `expected` says (expected/specs/Expected.antt),
-- for all bytes and lengths: for any two books to which the checker replies 0, any list of 0 to 65,535 tokens, each 1 to t, and any slices.
use Rattle.std.specs.Prelude.{ℕ, zero, suc, ◌≤◌, ◌<◌, ◌≡◌, ◌⊎◌, List, [], ◌∷◌, ◌++◌, length, take, Err, ◌↔◌}
use Rattle.language.specs.Grammar.{Grammar, IsTerminal}
use Rattle.language.specs.Rising.{RisingFrom}
use Rattle.language.specs.Sentence.{In, Sentence, BeginsSentence}
use Rattle.leftcorner.specs.Table.{Table, automaton}
use Rattle.leftcorner.specs.Claim.{Outgrows}
use Rattle.reply.specs.Reply.{kind_number}
use Rattle.reply.specs.declared.Refusal.{Refusal}
use Rattle.reply.specs.declared.Reply.TheVariants as reply
use Rattle.checker.specs.Checked.{verdict_of, Accepts}
use Rattle.session.specs.Session.{session}
use Rattle.expected_trial.specs.Trial.{as_tokens}
use Rattle.expected_trials.specs.Trials.{refused_by, short_at, listed_at}
use Rattle.expected.specs.Expected.{EndsAt, expected}

module _ (g : Grammar) where
  -- "every terminal which, put after the first p tokens, begins a sentence, and 0 [..] if those tokens are a sentence already"
  abbrev pub CouldCome : List ℕ → ℕ → Type 0
  CouldCome u zero = Sentence g u
  CouldCome u (suc a) = BeginsSentence g (u ++ suc a ∷ [])

  -- "list in rising order every [..]. Nothing else is listed. The list is never empty."
  pub record ListOf (u l : List ℕ) : Type 0 where
    pub exact : (c : ℕ) → In c l ↔ CouldCome u c
    pub rising : RisingFrom 0 l
    pub some : 1 ≤ length l

-- what is promised of one list of tokens, over books of g and t
module _ (gs s : List ℕ) (g : Grammar) (t : Table) (w : List ℕ) where
  -- "With a list the call's own reply is 0, its place p", the place of the session's reply 0 or 12
  abbrev pub Lists : ℕ → ℕ → ℕ → ℕ → Type 0
  Lists n k room p = (l : List ℕ) × ListOf g (take p w) l × (expected gs s w n k room ≡ listed_at room p l)

  -- "a trial, outgrows the stack or listing lent", before the code is taken: with at most p tokens taken
  abbrev pub TrialOutgrows : ℕ → ℕ → ℕ → Type 0
  TrialOutgrows n k p = (c : ℕ) × (c ≤ g.terminals) × (q : ℕ) × (q ≤ p) × Outgrows g (automaton g t) n k (take p w ++ as_tokens c) q

  -- "the list outgrows its slice"
  abbrev pub ListOutgrows : ℕ → ℕ → Type 0
  ListOutgrows room p = (l : List ℕ) × ListOf g (take p w) l × (room < length l)

  pub record Promised : Type 0 where
    pub listed_or_short : (n k room p : ℕ) → EndsAt (session gs s w n k).reply p → Lists n k room p ⊎ (expected gs s w n k room ≡ short_at room p)
    pub short_exactly : (n k room p : ℕ) → EndsAt (session gs s w n k).reply p
        → (expected gs s w n k room ≡ short_at room p) ↔ (TrialOutgrows n k p ⊎ ListOutgrows room p)
    -- lengths exist with which a list always comes
    pub enough : (n₀ : ℕ) × (k₀ : ℕ) × ((n k room : ℕ) → n₀ ≤ n → k₀ ≤ k → 64 ≤ room → (p : ℕ) × EndsAt (session gs s w n k).reply p × Lists n k room p)

-- "other replies are handed on", whatever the books and tokens
abbrev pub HandsOn : Type 0
HandsOn = (gs s w : List ℕ) (n k room : ℕ) (why : Refusal) → (session gs s w n k).reply ≡ Err why → (kind_number why.kind ≡ 12 → ⊥)
    → expected gs s w n k room ≡ refused_by room why

-- "So for all accepted tables."
abbrev pub Promise : Type 0
Promise = HandsOn × ((gs s : List ℕ) → verdict_of gs s ≡ reply.Accepted 0
    → (g : Grammar) × (t : Table) × Accepts gs s g t
    × ((w : List ℕ) → length w ≤ 65535 → ((a : ℕ) → In a w → IsTerminal g a) → Promised gs s g t w))
