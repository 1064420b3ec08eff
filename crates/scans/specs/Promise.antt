-- What reading a scan file promises. Document 02, S-3: "A bag split in two carries two equal labels, and the second was taken for a resend.
-- The new scanners number each reading, so a scan line becomes `sequence,letter,text`, the sequence a number written as in books. A line is a
-- repeat, token 4, if and only if its sequence equals the line before's. The first line is never a repeat. Walks over tokens are as they were;
-- a file's tokens come from this rule alone. Errors: 13 crossed (equal sequence, other letter or text; the line's first byte), after torn and
-- oversize, before stray."
use Rattle.std.specs.Prelude.{ℕ, ◌+◌, ◌*◌, ◌≤◌, ◌≡◌, List, [], ◌∷◌, ◌++◌, true, cond, length}
use Rattle.std.proofs.Math.Option.{Option, some, none}
use Rattle.fixpoint.specs.Each.{Each}
use Rattle.reply.specs.declared.Kind.TheVariants as kind
use Rattle.text.specs.Digits.{digits}
use Rattle.scan_lines.specs.Line.{text_byte}
use Rattle.scan_lines.specs.Tokens.{Scan, tokens, refused_at, code_of, repeats}
use Rattle.scans.specs.File.{house, all_lines}

-- "`sequence,letter,text`": how a line is written; a comma is 44, the LF 10
abbrev pub line_text : Scan → List ℕ
line_text x = digits x.sequence ++ 44 ∷ x.letter ∷ 44 ∷ (x.text ++ 10 ∷ [])

abbrev pub written : List Scan → List ℕ
written [] = []
written (x ∷ l) = line_text x ++ written l

-- "a number | 0 | 65,535", "one of A to Z, then 1 to 30 bytes from 33 to 126 without comma"
pub record InForm (x : Scan) : Type 0 where
  pub numbered : x.sequence ≤ 65535
  pub lettered : (65 ≤ x.letter) × (x.letter ≤ 90)
  pub long : (1 ≤ length x.text) × (length x.text ≤ 30)
  pub bytes : Each (λ b. text_byte b ≡ true) x.text

-- the rule: the tokens of lines, of which the first comes after the line `before`
abbrev pub ruled : List ℕ → Option Scan → List Scan → List ℕ
ruled letters before [] = []
ruled letters before (x ∷ l) = cond (repeats before x) 4 (code_of letters x.letter) ∷ ruled letters (some x) l

abbrev pub SameLabel : Scan → Scan → Type 0
SameLabel before x = (before.letter ≡ x.letter) × (before.text ≡ x.text)

-- not crossed
abbrev pub Agrees : Option Scan → Scan → Type 0
Agrees none x = Unit {0}
Agrees (some before) x = before.sequence ≡ x.sequence → SameLabel before x

-- no line is crossed or stray
abbrev pub Sound : List ℕ → Option Scan → List Scan → Type 0
Sound letters before [] = Unit {0}
Sound letters before (x ∷ l) = (Agrees before x × (code_of letters x.letter ≡ 0 → ⊥)) × Sound letters (some x) l

-- the last of some lines, or else the one before them
abbrev pub last_of : Option Scan → List Scan → Option Scan
last_of before [] = before
last_of before (x ∷ l) = last_of (some x) l

-- whatever the codes of the letters, and wherever the first byte stands
pub record Promise (letters : List ℕ) (first : ℕ) : Type 0 where
  -- a file that gives tokens is written so, in sound lines, and the tokens are those of the rule
  pub read : (s l : List ℕ) → all_lines letters first s ≡ tokens l
      → (lines : List Scan) × Each InForm lines × Sound letters none lines × (s ≡ written lines) × (l ≡ ruled letters none lines)
  -- and every file that is written so gives them
  pub whole : (lines : List Scan) → Each InForm lines → Sound letters none lines → all_lines letters first (written lines) ≡ tokens (ruled letters none lines)
  -- a line has 6 bytes at least: a file of 65,536 bytes has at most 10,922 tokens
  pub few : (s l : List ℕ) → all_lines letters first s ≡ tokens l → length l * 6 ≤ length s
  -- after sound lines, whatever comes after it: "13 crossed (equal sequence, other letter or text; the line's first byte)", whatever its letter,
  pub conflicting : (lines : List Scan) (before x : Scan) (rest : List ℕ) → Each InForm lines → InForm x → Sound letters none lines
      → last_of none lines ≡ some before → before.sequence ≡ x.sequence → (SameLabel before x → ⊥)
      → all_lines letters first (written lines ++ (line_text x ++ rest)) ≡ refused_at kind.ConflictingRepeat (first + length (written lines))
  -- and then stray
  pub undeclared : (lines : List Scan) (x : Scan) (rest : List ℕ) → Each InForm lines → InForm x → Sound letters none lines
      → Agrees (last_of none lines) x → code_of letters x.letter ≡ 0
      → all_lines letters first (written lines ++ (line_text x ++ rest)) ≡ refused_at kind.Undeclared (first + length (written lines))

-- and with the house letters a token is 4 for a repeat alone
abbrev pub ScansPromise : Type 0
ScansPromise = ((letters : List ℕ) (first : ℕ) → Promise letters first) × ((b : ℕ) → code_of house b ≡ 4 → ⊥)
