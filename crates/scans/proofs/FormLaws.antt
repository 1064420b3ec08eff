-- A line that is read is written as `line_text` says, and a line that is written so is read.
use Prim.Native.Nat.{ℕ, ◌+◌, ◌-◌, ◌%◌, ◌≤◌}
use mathlib.Core.Path.{◌≡◌, refl, sym, ap, ap₂, subst, ◌∙◌}
use mathlib.Core.List.{List, [], ◌∷◌, ◌++◌, append_assoc}
use mathlib.Core.Bool.{Bool, true, false, cond, not, ◌&&◌}
use native.Mathlib.Omega.{arith}
use native.Mathlib.Nat.{zero-add}
use borrow.Author.Tests.{le-leb, leb-true, eqb-true, ne_eqb}
use lib.Dec.{leb, eqb}
use lib.ListN.{length, take, drop, length-append}
use lib.Seq.{take_at}
use Rattle.fixpoint.specs.Each.{Each}
use Rattle.text.specs.declared.Cursor.{Cursor}
use Rattle.text.specs.declared.Field.TheVariants as field
use Rattle.text.specs.Digits.{lead, digits}
use Rattle.text.specs.Field.{field_at}
use Rattle.text.specs.Promise.{ending}
use Rattle.text.proofs.ElseLaws.{all_number, all_letter}
use Rattle.text.proofs.Promise.{number_written, written_number, letter_written, written_letter}
use Rattle.text.proofs.SpellLaws.{drop_past, spelled}
use Rattle.scan_lines.specs.declared.Line.{Line}
use Rattle.scan_lines.specs.declared.Text.{Text}
use Rattle.scan_lines.specs.declared.Text.TheVariants as text
use Rattle.scan_lines.specs.declared.Parsed.{Parsed}
use Rattle.scan_lines.specs.declared.Parsed.TheVariants as parsed
use Rattle.scan_lines.specs.Line.{text_byte, text_end, text_from, on_text, line_after, line_at, scan_of}
use Rattle.scan_lines.specs.Tokens.{Scan}
use Rattle.scans.specs.Promise.{line_text, InForm}

-- ---- a text
abbrev Textual : ℕ → Type 0
Textual b = text_byte b ≡ true

-- no LF is one of its bytes
not_end : (b : ℕ) → text_byte b ≡ true → b ≡ 10 → ⊥
unfolding text_byte
not_end b e q = go (leb 33 b) refl e
  where
    go : (t : Bool) → leb 33 b ≡ t → t && (leb b 126 && not (eqb b 44)) ≡ true → ⊥
    go true p e = omega (arith, leb-true 33 b p, q)
    go false p e = let z : ◌≡◌ {A = ℕ} 0 1 = cc in omega arith

written_text : (w r : List ℕ) (at n : ℕ) → Each Textual w → text_from (w ++ 10 ∷ r) at n ≡ text_end (at + length w) (n + length w)
unfolding text_from
written_text [] r at n h = ap₂ text_end (omega arith) (omega arith)
written_text (b ∷ w) r at n h =
    simp (ne_eqb b 10 (not_end b h.0), h.0) (written_text w r (at + 1) (n + 1) h.1 ∙ ap₂ text_end (omega arith) (omega arith))

whole_text : (w r : List ℕ) (at : ℕ) → Each Textual w → 1 ≤ length w → length w ≤ 30 → text_from (w ++ 10 ∷ r) at 0 ≡ text.Until (at + length w)
unfolding text_end
whole_text w r at h low high = written_text w r at 0 h ∙ simp (zero-add, le-leb _ _ low, le-leb _ _ high)

record TextRead (l : List ℕ) (at n end : ℕ) : Type 0 where
  w : List ℕ
  r : List ℕ
  bytes : l ≡ w ++ 10 ∷ r
  textual : Each Textual w
  place : end ≡ at + length w
  long : (1 ≤ n + length w) × (n + length w ≤ 30)

end_read : (at n : ℕ) {end : ℕ} → text_end at n ≡ text.Until end → (end ≡ at) × (1 ≤ n) × (n ≤ 30)
unfolding text_end
end_read at n {end} e = go (leb 1 n) refl (leb n 30) refl e
  where
    go : (t : Bool) → leb 1 n ≡ t → (u : Bool) → leb n 30 ≡ u → cond (t && u) (text.Until at) text.Broken ≡ text.Until end → (end ≡ at) × (1 ≤ n) × (n ≤ 30)
    go true p true q e = let f : at ≡ end = cc in (sym f, leb-true 1 n p, leb-true n 30 q)
    go true p false q e = let z : ◌≡◌ {A = ℕ} 0 1 = cc in absurd (omega arith)
    go false p u q e = let z : ◌≡◌ {A = ℕ} 0 1 = cc in absurd (omega arith)

text_read : (l : List ℕ) (at n : ℕ) {end : ℕ} → text_from l at n ≡ text.Until end → TextRead l at n end
unfolding text_from
text_read [] at n e = let z : ◌≡◌ {A = ℕ} 0 1 = cc in absurd (omega arith)
text_read (b ∷ l) at n {end} e = go (eqb b 10) refl (text_byte b) refl e (λ q. text_read l (at + 1) (n + 1) q)
  where
    go : (t : Bool) → eqb b 10 ≡ t → (u : Bool) → text_byte b ≡ u → cond t (text_end at n) (cond u (text_from l (at + 1) (n + 1)) text.Broken) ≡ text.Until end
        → (text_from l (at + 1) (n + 1) ≡ text.Until end → TextRead l (at + 1) (n + 1) end) → TextRead (b ∷ l) at n end
    go true p u q e f =
        let x = end_read at n e in
        record {
          w = [];
          r = l;
          bytes = ap (λ (c : ℕ). c ∷ l) (eqb-true b 10 p);
          textual = tt;
          place = omega (arith, x.0);
          long = (omega (arith, x.1), omega (arith, x.2));
        }
    go false p true q e f =
        let x = f e in
        record {
          w = b ∷ x.w;
          r = x.r;
          bytes = ap (λ (m : List ℕ). b ∷ m) x.bytes;
          textual = (q, x.textual);
          place = omega (arith, x.place);
          long = (omega (arith, x.long.0), omega (arith, x.long.1));
        }
    go false p false q e f = let z : ◌≡◌ {A = ℕ} 0 1 = cc in absurd (omega arith)

-- ---- a line, and what comes after it
line_joined : (v : List ℕ) (c : ℕ) (w r : List ℕ) → (v ++ 44 ∷ c ∷ 44 ∷ (w ++ 10 ∷ [])) ++ r ≡ v ++ 44 ∷ c ∷ 44 ∷ (w ++ 10 ∷ r)
line_joined v c w r = simp append_assoc

pub line_long : (x : Scan) → length (line_text x) ≡ length (digits x.sequence) + 3 + length x.text + 1
line_long x =
    omega (
      arith,
      length-append (digits x.sequence) (44 ∷ x.letter ∷ 44 ∷ (x.text ++ 10 ∷ [])),
      length-append x.text (10 ∷ []),
    )

some_digit : (v : ℕ) → 1 ≤ length (digits v)
unfolding digits
some_digit v =
    omega (
      arith,
      length-append (lead 10000 v) (lead 1000 v ++ (lead 100 v ++ (lead 10 v ++ ((48 + v % 10) ∷ [])))),
      length-append (lead 1000 v) (lead 100 v ++ (lead 10 v ++ ((48 + v % 10) ∷ []))),
      length-append (lead 100 v) (lead 10 v ++ ((48 + v % 10) ∷ [])),
      length-append (lead 10 v) ((48 + v % 10) ∷ []),
    )

pub six_bytes : (x : Scan) → InForm x → 6 ≤ length (line_text x)
six_bytes x F = omega (arith, line_long x, some_digit x.sequence, F.long.0)

module _ (s : List ℕ) (at : ℕ) where
  abbrev start : Cursor
  start = record { at = at; ended = false }

  -- a line that was read is in form, and stands there
  abbrev Written : Line → Type 0
  Written line = line.sequence ≤ 65535 → InForm (scan_of s line) × (drop at s ≡ line_text (scan_of s line) ++ drop (line.end + 1) s)

  abbrev OfLine : Parsed → Type 0
  OfLine (parsed.Line line) = Written line
  OfLine parsed.Broken = Unit {0}

  module _ (sequence letter : ℕ) (c d : Cursor) (p : field_at s start ≡ field.Number sequence c) (q : field_at s c ≡ field.Letter letter d) where
    read_line : (end : ℕ) → d.ended ≡ false → text_from (drop d.at s) d.at 0 ≡ text.Until end
        → Written (record { sequence = sequence; letter = letter; text = d.at; end = end })
    read_line end going e low =
        let N = number_written s start sequence c low p in
        let L = letter_written s c letter d q in
        let T = text_read (drop d.at s) d.at 0 e in
        let f : take (end - d.at) (drop d.at s) ≡ T.w = ap (take (end - d.at)) T.bytes ∙ take_at T.w (10 ∷ T.r) (end - d.at) (omega (arith, T.place)) in
        let z : drop (end + 1) s ≡ T.r = drop_past s T.w T.r d.at (end + 1) 10 T.bytes (omega (arith, T.place)) in (
          record {
            numbered = low;
            lettered = L.0;
            long = (omega (arith, T.long.0, ap length f), omega (arith, T.long.1, ap length f));
            bytes = subst (Each Textual) (sym f) T.textual;
          },
          N.bytes
              ∙ (ap (λ (m : List ℕ). digits sequence ++ m)
              (ap₂ (λ (t : Bool) (m : List ℕ). ending t ∷ m) L.1.going (L.1.bytes ∙ ap₂ (λ (t : Bool) (m : List ℕ). letter ∷ ending t ∷ m) going T.bytes))
              ∙ (sym (line_joined (digits sequence) letter T.w T.r)
              ∙ ap₂ (λ (w r : List ℕ). (digits sequence ++ 44 ∷ letter ∷ 44 ∷ (w ++ 10 ∷ [])) ++ r) (sym f) (sym z))),
        )

    read_after : OfLine (line_after s sequence letter d)
    unfolding line_after
    read_after = go d.ended refl (text_from (drop d.at s) d.at 0) refl
      where
        go : (t : Bool) → d.ended ≡ t → (x : Text) → text_from (drop d.at s) d.at 0 ≡ x
            → OfLine (cond t parsed.Broken (on_text x (λ end. parsed.Line (record { sequence = sequence; letter = letter; text = d.at; end = end }))))
        go true g x e = tt
        go false g (text.Until end) e = read_line end g e
        go false g text.Broken e = tt

  pub line_written : {line : Line} → line_at s at ≡ parsed.Line line → Written line
  unfolding line_at
  line_written e =
      subst OfLine e
      (all_number OfLine (field_at s start) (λ sequence c p. all_letter OfLine (field_at s c) (λ letter d q. read_after sequence letter c d p q) tt) tt)

  -- a line that is written there is read
  pub record Read (x : Scan) : Type 0 where
    pub line : Line
    pub read : line_at s at ≡ parsed.Line line
    pub says : scan_of s line ≡ x
    pub next : line.end + 1 ≡ at + length (line_text x)

  pub written_line : (x : Scan) (r : List ℕ) → InForm x → drop at s ≡ line_text x ++ r → Read x
  unfolding line_at line_after
  written_line x r F e =
      record {
        line = record { sequence = x.sequence; letter = x.letter; text = d.at; end = d.at + length x.text };
        read =
            simp (
              number,
              letter,
              ap (λ (l : List ℕ). text_from l d.at 0) text_at ∙ whole_text x.text r d.at F.bytes F.long.0 F.long.1,
            );
        says =
            ap (λ (w : List ℕ). record { sequence = x.sequence; letter = x.letter; text = w })
            (ap (take (d.at + length x.text - d.at)) text_at ∙ take_at x.text (10 ∷ r) (d.at + length x.text - d.at) (omega arith));
        next = omega (arith, line_long x);
      }
    where
      joined : drop at s ≡ digits x.sequence ++ 44 ∷ x.letter ∷ 44 ∷ (x.text ++ 10 ∷ r)
      joined = e ∙ line_joined (digits x.sequence) x.letter x.text r

      c : Cursor
      c = record { at = at + length (digits x.sequence) + 1; ended = false }

      d : Cursor
      d = record { at = c.at + 1 + 1; ended = false }

      letter_at : drop c.at s ≡ x.letter ∷ 44 ∷ (x.text ++ 10 ∷ r)
      letter_at = drop_past s (digits x.sequence) _ at c.at 44 joined refl

      text_at : drop d.at s ≡ x.text ++ 10 ∷ r
      text_at = drop_past s (x.letter ∷ []) _ c.at d.at 44 letter_at (omega arith)

      number : field_at s start ≡ field.Number x.sequence c
      number = written_number s start x.sequence c F.numbered (spelled s start refl (record { rest = _; bytes = joined; place = refl }))

      letter : field_at s c ≡ field.Letter x.letter d
      letter = written_letter s c x.letter d F.lettered.0 F.lettered.1 (spelled s c refl (record { rest = _; bytes = letter_at; place = omega arith }))
