-- A file whose letters are renamed gives, with the codes renamed, what it gave: the same tokens, or the same refusal.
use Prim.Native.Nat.{ℕ, ◌+◌, ◌≤◌}
use mathlib.Core.Path.{◌≡◌, refl, sym, ap, ap₂, ◌∙◌}
use mathlib.Core.List.{List, [], ◌∷◌}
use mathlib.Core.Option.{Option, some, none}
use mathlib.Core.Bool.{Bool, true, false, cond, not, ◌&&◌}
use native.Mathlib.Omega.{arith}
use borrow.Author.Tests.{eq-eqb, eqb-true, ne_eqb, eqb-false}
use lib.Dec.{leb, eqb}
use lib.ListN.{length, drop, length-append, length-drop}
use lib.Seq.{drop-drop, drop-append_seam}
use Rattle.fixpoint.specs.Each.{Each}
use Rattle.reply.specs.declared.Kind.TheVariants as kind
use Rattle.scan_lines.specs.declared.Judged.{Judged}
use Rattle.scan_lines.specs.Tokens.{Scan, Row, scan, Scanned, refused_at, join, same_bytes, repeats, differs, judge, on_judged, tokens_of}
use Rattle.scans.specs.File.{rows_from, rows_of, scanned}
use Rattle.scans.specs.Promise.{line_text, written, InForm}
use Rattle.scans.specs.Renamed.{renamed, renamed_all, IsLetter, Renames}
use Rattle.scans.proofs.FormLaws.{line_long}
use Rattle.scans.proofs.Promise.{next}
use Rattle.scans.proofs.RowLaws.{rows_end}

-- ---- the rows of lines that are written in a file
abbrev rows_at : ℕ → List Scan → List Row
rows_at p [] = []
rows_at p (x ∷ l) = scan p x ∷ rows_at (p + length (line_text x)) l

module _ (first : ℕ) (s : List ℕ) where
  rows_are : (lines : List Scan) (at k : ℕ) → Each InForm lines → drop at s ≡ written lines → length s ≤ at + k
      → rows_from first s k at ≡ rows_at (first + at) lines
  rows_are [] at k F e h = rows_end first s at (omega (arith, ap length e, length-drop at s)) k
  rows_are (x ∷ l) at k F e h =
      let n = length (line_text x) in
      let N = next [] first s at k x (written l) F.0 e h in
      let d : drop (at + n) s ≡ written l = sym (drop-drop n at s) ∙ ap (drop n) e ∙ drop-append_seam (line_text x) (written l) in
      let p : first + (at + n) ≡ first + at + n = omega arith in
      let rest = rows_are l (at + n) N.fuel F.1 d N.enough ∙ ap (λ (q : ℕ). rows_at q l) p in
      N.rows ∙ ap (λ (rows : List Row). scan (first + at) x ∷ rows) rest

written_rows : (lines : List Scan) → Each InForm lines → rows_of 0 (written lines) ≡ rows_at 0 lines
written_rows lines F = rows_are 0 (written lines) lines 0 (length (written lines)) F refl (omega arith)

-- ---- renamed lines
abbrev renamed_maybe : (ℕ → ℕ) → Option Scan → Option Scan
renamed_maybe ρ none = none
renamed_maybe ρ (some x) = some (renamed ρ x)

abbrev Lettered : Option Scan → Type 0
Lettered none = Unit {0}
Lettered (some x) = IsLetter x.letter

long_renamed : (ρ : ℕ → ℕ) (x : Scan) → length (line_text (renamed ρ x)) ≡ length (line_text x)
long_renamed ρ x = omega (arith, line_long (renamed ρ x), line_long x)

pub written_renamed : (ρ : ℕ → ℕ) (lines : List Scan) → length (written (renamed_all ρ lines)) ≡ length (written lines)
written_renamed ρ [] = refl
written_renamed ρ (x ∷ l) =
    omega (
      arith,
      length-append (line_text (renamed ρ x)) (written (renamed_all ρ l)),
      length-append (line_text x) (written l),
      long_renamed ρ x,
      written_renamed ρ l,
    )

module _ (ρ : ℕ → ℕ) (l m : List ℕ) (R : Renames ρ l m) where
  forms_renamed : (lines : List Scan) → Each InForm lines → Each InForm (renamed_all ρ lines)
  forms_renamed [] F = tt
  forms_renamed (x ∷ lines) F = (
    record { numbered = F.0.numbered; lettered = R.letters x.letter F.0.lettered; long = F.0.long; bytes = F.0.bytes },
    forms_renamed lines F.1,
  )

  eqb_renamed : (b c : ℕ) → IsLetter b → IsLetter c → eqb (ρ b) (ρ c) ≡ eqb b c
  eqb_renamed b c B C = go (eqb b c) refl
    where
      go : (t : Bool) → eqb b c ≡ t → eqb (ρ b) (ρ c) ≡ eqb b c
      go true p = eq-eqb (ρ b) (ρ c) (ap ρ (eqb-true b c p)) ∙ sym p
      go false p = ne_eqb (ρ b) (ρ c) (λ e. eqb-false b c p (R.apart b c B C e)) ∙ sym p

  repeats-renamed : (before : Option Scan) (x : Scan) → repeats (renamed_maybe ρ before) (renamed ρ x) ≡ repeats before x
  repeats-renamed none x = refl
  repeats-renamed (some a) x = refl

  differs-renamed : (before : Option Scan) (x : Scan) → Lettered before → IsLetter x.letter
      → differs (renamed_maybe ρ before) (renamed ρ x) ≡ differs before x
  differs-renamed none x B X = refl
  differs-renamed (some a) x B X = ap (λ (t : Bool). not (t && same_bytes a.text x.text)) (eqb_renamed a.letter x.letter B X)

  judge-renamed : (before : Option Scan) (x : Scan) → Lettered before → IsLetter x.letter
      → judge m (renamed_maybe ρ before) (renamed ρ x) ≡ judge l before x
  unfolding judge
  judge-renamed before x B X = simp (repeats-renamed before x, differs-renamed before x B X, R.coded x.letter X)

  tokens_renamed : (lines : List Scan) (before : Option Scan) (p : ℕ) → Lettered before → Each InForm lines
      → tokens_of m (renamed_maybe ρ before) (rows_at p (renamed_all ρ lines)) ≡ tokens_of l before (rows_at p lines)
  unfolding tokens_of
  tokens_renamed [] before p B F = refl
  tokens_renamed (x ∷ lines) before p B F =
      let rest = ap (λ (n : ℕ). tokens_of m (some (renamed ρ x)) (rows_at (p + n) (renamed_all ρ lines))) (long_renamed ρ x)
      ∙ tokens_renamed lines (some x) (p + length (line_text x)) F.0.lettered F.1 in
      ap₂ (λ (j : Judged) (y : Scanned). on_judged j (λ t. join (t ∷ []) y) (λ k. refused_at k p)) (judge-renamed before x B F.0.lettered) rest

-- ---- renamed files
pub scanned_renamed : (ρ : ℕ → ℕ) (l m : List ℕ) → Renames ρ l m → (lines : List Scan) → Each InForm lines
    → scanned m (written (renamed_all ρ lines)) ≡ scanned l (written lines)
unfolding scanned
scanned_renamed ρ l m R lines F =
    let same = ap (tokens_of m none) (written_rows (renamed_all ρ lines) (forms_renamed ρ l m R lines F))
    ∙ tokens_renamed ρ l m R lines none 0 tt F
    ∙ ap (tokens_of l none) (sym (written_rows lines F)) in
    ap₂ (λ (n : ℕ) (y : Scanned). cond (leb n 65536) y (refused_at kind.LimitExceeded 0)) (written_renamed ρ lines) same
