-- The tokens of a list of lines, by document 02, S-3, alone: "A bag split in two carries two equal labels, and the second was taken for
-- a resend. The new scanners number each reading, so a scan line becomes `sequence,letter,text`". For any codes of the letters, and
-- wherever the lines stand.
use Rattle.std.specs.Prelude.{ℕ, ◌-◌, List, [], ◌∷◌, ◌++◌, Bool, true, false, cond, not, ◌&&◌, get_or, leb, ltb, eqb}
use Rattle.std.proofs.Math.Option.{Option, some, none}
use Rattle.reply.specs.declared.Kind.{Kind}
use Rattle.reply.specs.declared.Kind.TheVariants as kind
use Rattle.reply.specs.declared.Refusal.{Refusal}
use Rattle.scan_lines.specs.declared.Judged.{Judged}
use Rattle.scan_lines.specs.declared.Judged.TheVariants as judged

-- what a line says
pub record Scan : Type 0 where
  pub sequence : ℕ
  pub letter : ℕ
  pub text : List ℕ

-- a line of a file, with the place of its first byte: what it says, or that it breaks its form ("torn")
pub data Row : Type 0 where
  scan : ℕ → Scan → Row
  broken : ℕ → Row

-- what a file's lines give: the token list, or the refusal
pub data Scanned : Type 0 where
  tokens : List ℕ → Scanned
  refused : Refusal → Scanned

abbrev pub refused_at : Kind → ℕ → Scanned
refused_at k place = refused (record { kind = k; place = place })

abbrev pub join : List ℕ → Scanned → Scanned
join out (tokens l) = tokens (out ++ l)
join out (refused x) = refused x

-- the code of a letter, from the codes of A to Z, 65 to 90; 0 where it has none
unfoldable pub code_of : List ℕ → ℕ → ℕ
code_of letters b = cond (leb 65 b && leb b 90) (get_or letters (b - 65) 0) 0

unfoldable pub same_bytes : List ℕ → List ℕ → Bool
same_bytes [] [] = true
same_bytes [] (y ∷ b) = false
same_bytes (x ∷ a) [] = false
same_bytes (x ∷ a) (y ∷ b) = eqb x y && same_bytes a b

-- "A line is a repeat, token 4, if and only if its sequence equals the line before's. The first line is never a repeat."
abbrev pub repeats : Option Scan → Scan → Bool
repeats none x = false
repeats (some before) x = eqb before.sequence x.sequence

-- "other letter or text"
abbrev pub differs : Option Scan → Scan → Bool
differs none x = false
differs (some before) x = not (eqb before.letter x.letter && same_bytes before.text x.text)

-- "Errors: 13 crossed (equal sequence, other letter or text ..), after torn and oversize, before stray": what a line gives. A sequence above
-- 65,535 is oversize; a letter without a code is stray.
unfoldable pub judge : List ℕ → Option Scan → Scan → Judged
judge letters before x =
    cond (ltb 65535 x.sequence) (judged.Refused kind.LimitExceeded)
    (cond (repeats before x && differs before x) (judged.Refused kind.ConflictingRepeat)
    (cond (eqb (code_of letters x.letter) 0) (judged.Refused kind.Undeclared)
    (judged.Token (cond (repeats before x) 4 (code_of letters x.letter)))))

abbrev pub on_judged : Judged → (ℕ → Scanned) → (Kind → Scanned) → Scanned
on_judged (judged.Token t) f g = f t
on_judged (judged.Refused k) f g = g k

-- lines in order, the first that is refused refuses the file; of each refusal the place is "the line's first byte"
unfoldable pub tokens_of : List ℕ → Option Scan → List Row → Scanned
tokens_of letters before [] = tokens []
tokens_of letters before (broken place ∷ l) = refused_at kind.Malformed place
tokens_of letters before (scan place x ∷ l) =
    on_judged (judge letters before x) (λ t. join (t ∷ []) (tokens_of letters (some x) l)) (λ k. refused_at k place)
