-- The lines of a scan file. Document 02, S-3: "a scan line becomes `sequence,letter,text`, the sequence a number written as in books."
-- Document 01, 'Scan files', of letter and text: "one of A to Z, then 1 to 30 bytes from 33 to 126 without comma." Each is ended by an LF.
use Rattle.std.specs.Prelude.{ℕ, ◌+◌, ◌-◌, List, [], ◌∷◌, Bool, false, cond, not, ◌&&◌, take, drop, leb, eqb}
use Rattle.text.specs.declared.Cursor.{Cursor}
use Rattle.text.specs.Field.{field_at, on_number, on_letter}
use Rattle.scan_lines.specs.declared.Line.{Line}
use Rattle.scan_lines.specs.declared.Text.{Text}
use Rattle.scan_lines.specs.declared.Text.TheVariants as text
use Rattle.scan_lines.specs.declared.Parsed.{Parsed}
use Rattle.scan_lines.specs.declared.Parsed.TheVariants as parsed
use Rattle.scan_lines.specs.Tokens.{Scan}

-- "bytes from 33 to 126 without comma", which is 44
unfoldable pub text_byte : ℕ → Bool
text_byte b = leb 33 b && (leb b 126 && not (eqb b 44))

-- "1 to 30 bytes": a text of n bytes that ends before the LF at `at`
unfoldable pub text_end : ℕ → ℕ → Text
text_end at n = cond (leb 1 n && leb n 30) (text.Until at) text.Broken

-- a text of which n bytes are read, from the bytes at `at` on, up to its LF, 10
unfoldable pub text_from : List ℕ → ℕ → ℕ → Text
text_from [] at n = text.Broken
text_from (b ∷ l) at n = cond (eqb b 10) (text_end at n) (cond (text_byte b) (text_from l (at + 1) (n + 1)) text.Broken)

abbrev pub on_text : Text → (ℕ → Parsed) → Parsed
on_text (text.Until end) f = f end
on_text text.Broken f = parsed.Broken

-- a line whose sequence and letter are read, and the cursor past the letter's comma or LF
unfoldable pub line_after : List ℕ → ℕ → ℕ → Cursor → Parsed
line_after s sequence letter c =
    cond c.ended parsed.Broken
    (on_text (text_from (drop c.at s) c.at 0)
    (λ end. parsed.Line (record { sequence = sequence; letter = letter; text = c.at; end = end })))

-- the line that begins at `at`: a number, a letter, a text
unfoldable pub line_at : List ℕ → ℕ → Parsed
line_at s at =
    on_number (field_at s (record { at = at; ended = false }))
    (λ sequence c. on_letter (field_at s c) (λ letter d. line_after s sequence letter d) parsed.Broken)
    parsed.Broken

abbrev pub on_line : {A : Type 0} → Parsed → (Line → A) → A → A
on_line (parsed.Line line) f y = f line
on_line parsed.Broken f y = y

-- what a line of s says
abbrev pub scan_of : List ℕ → Line → Scan
scan_of s line = record {
  sequence = line.sequence;
  letter = line.letter;
  text = take (line.end - line.text) (drop line.text s);
}
