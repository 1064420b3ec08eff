-- S-8 of document 02, "A bank's own letters", for the calls `read_letters`, which answers what `letters_of` says, and `run_lettered`, which
-- answers what `lettered_session` says, for all bytes and lengths. A letter goes by its index, "A being 0".
use Rattle.std.specs.Prelude.{ℕ, ◌≤◌, ◌<◌, ◌≡◌, ◌⊎◌, List, [], ◌∷◌, ◌++◌, length, get_or}
use Rattle.fixpoint.specs.Each.{Each}
use Rattle.language.specs.Grammar.{Grammar}
use Rattle.language.specs.Sentence.{In}
use Rattle.leftcorner.specs.Table.{Table}
use Rattle.reply.specs.declared.Kind.TheVariants as kind
use Rattle.reply.specs.declared.Refusal.{Refusal}
use Rattle.reply.specs.declared.Reply.TheVariants.{Accepted}
use Rattle.build_book.specs.Text.{line}
use Rattle.letters.specs.Shared.{Shared}
use Rattle.letters.specs.Letters.{codes, letters_of}
use Rattle.letters.specs.Letters as letters
use Rattle.scan_lines.specs.Tokens.{Scan}
use Rattle.scans.specs.File.{tokens, refused, house, scanned}
use Rattle.scans.specs.Promise.{InForm, written}
use Rattle.scans.specs.Renamed.{renamed_all, Renames}
use Rattle.table.specs.Book.{rejected}
use Rattle.checker.specs.Checked.{checked_of, verdict_of, Accepts}
use Rattle.session.specs.Session.{refused_by, refused_at, session}
use Rattle.session.specs.Demand3.{Demanded}
use Rattle.scan_session.specs.ScanSession.{scan_session, lettered_session}

-- "one line, `L` and 26 codes for A to Z": how codes are written; `L` is 76
abbrev pub book_of : List ℕ → List ℕ
book_of l = line 76 l

-- 26 codes, none above `most`
pub record Codes (most : ℕ) (l : List ℕ) : Type 0 where
  pub long : length l ≡ 26
  pub at_most : (i : ℕ) → i < 26 → get_or l i 0 ≤ most

-- "14 shared letter (a letter's code, not 0, is also another's, or is 4 ..)": `Shared l i`, of the letter i; here of none
abbrev pub Unshared : List ℕ → Type 0
Unshared l = (i : ℕ) → i < 26 → Shared l i → ⊥

-- a letters book for t terminals
pub record Book (t : ℕ) : Type 0 where
  -- one that is good is the line of its codes, none of them above t or shared,
  pub read : (s l : List ℕ) → letters_of t s ≡ codes l → Codes t l × Unshared l × (s ≡ book_of l)
  -- and every such line is good; 0 is never shared and never above t, so letters may be "unused"
  pub good : (l : List ℕ) → Codes t l → Unshared l → letters_of t (book_of l) ≡ codes l
  -- "an empty one is torn"
  pub empty : letters_of t [] ≡ letters.refused_at kind.Malformed 0
  -- "A code above t is stray", whatever comes after the line
  pub stray : (l rest : List ℕ) (i : ℕ) → Codes 65535 l → i < 26 → t < get_or l i 0 → length (book_of l ++ rest) ≤ 65536
      → letters_of t (book_of l ++ rest) ≡ letters.refused_at kind.Undeclared 0
  -- "one line": a second one is torn, at its first byte
  pub second : (l rest : List ℕ) (b : ℕ) → Codes t l → length (book_of l ++ b ∷ rest) ≤ 65536
      → letters_of t (book_of l ++ b ∷ rest) ≡ letters.refused_at kind.Malformed (length (book_of l))
  -- "place the lowest such letter's index, A being 0), after stray"
  pub shared : (l : List ℕ) (i : ℕ) → Codes t l → i < 26 → Shared l i → ((j : ℕ) → j < i → Shared l j → ⊥)
      → letters_of t (book_of l) ≡ letters.refused_at kind.AmbiguousLetter i

-- sessions over accepted books, of g and t, and a letters book and a file that are not too long
pub record Sessions (gs s : List ℕ) (g : Grammar) (t : Table) : Type 0 where
  -- "It replaces the house letters for a session, and is tested after both books, before the scans."
  pub letters_first : (book file : List ℕ) (n k : ℕ) (why : Refusal) → length book ≤ 65536 → length file ≤ 65536
      → letters_of g.terminals book ≡ letters.refused why → lettered_session gs s book file n k ≡ refused_by n k why
  -- "Tokens, and so all replies, are then read through the bank's line."
  pub scans_refused : (book l file : List ℕ) (n k : ℕ) (why : Refusal) → length file ≤ 65536
      → letters_of g.terminals book ≡ codes l → scanned l file ≡ refused why → lettered_session gs s book file n k ≡ refused_by n k why
  pub tokens_walked : (book l file w : List ℕ) (n k : ℕ)
      → letters_of g.terminals book ≡ codes l → scanned l file ≡ tokens w → lettered_session gs s book file n k ≡ session gs s w n k
  -- and all of demand 3 holds of these tokens; a repeat, 4, is to be a terminal, or there is none
  pub demand3 : (book l file w : List ℕ) → letters_of g.terminals book ≡ codes l → scanned l file ≡ tokens w
      → (4 ≤ g.terminals) ⊎ (In 4 w → ⊥) → Demanded gs s g t w
  -- "With no letters book, as in the calls until now, the house letters hold": as if they were the bank's, where their codes are terminals
  pub house_letters : (file : List ℕ) (n k : ℕ) → 7 ≤ g.terminals → lettered_session gs s (book_of house) file n k ≡ scan_session gs s file n k
  -- a bank that renames its letters, in its book and in its scans, gets the same replies
  pub renamed_letters : (ρ : ℕ → ℕ) (l m : List ℕ) (lines : List Scan) (n k : ℕ) → Renames ρ l m → Each InForm lines
      → letters_of g.terminals (book_of l) ≡ codes l → letters_of g.terminals (book_of m) ≡ codes m
      → lettered_session gs s (book_of m) (written (renamed_all ρ lines)) n k ≡ lettered_session gs s (book_of l) (written lines) n k

pub record LettersPromise : Type 0 where
  pub books : (t : ℕ) → 1 ≤ t → t ≤ 63 → Book t
  -- lengths come first, then the refusals of both books,
  pub too_long : (gs s book file : List ℕ) (n k : ℕ) → (65536 < length book) ⊎ (65536 < length file)
      → lettered_session gs s book file n k ≡ refused_at n k kind.LimitExceeded 0
  pub books_refused : (gs s book file : List ℕ) (n k : ℕ) (why : Refusal) → length book ≤ 65536 → length file ≤ 65536
      → checked_of gs s ≡ rejected why → lettered_session gs s book file n k ≡ refused_by n k why
  -- then letters, scans and tokens, for any two books to which the checker replies 0, whoever built the tables
  pub accepted : (gs s : List ℕ) → verdict_of gs s ≡ Accepted 0 → (g : Grammar) × (t : Table) × Accepts gs s g t × Sessions gs s g t
