-- The lines of a file one by one, and what they give.
use Prim.Native.Nat.{ℕ, zero, suc, ◌+◌, ◌<◌, ◌≤◌}
use mathlib.Core.Path.{◌≡◌, refl, ap}
use mathlib.Core.List.{List, [], ◌∷◌, ◌++◌, append_assoc}
use mathlib.Core.Option.{Option, some}
use borrow.Author.Tests.{lt-ltb, le-ltb}
use lib.ListN.{length}
use Rattle.reply.specs.declared.Kind.{Kind}
use Rattle.scan_lines.specs.declared.Judged.TheVariants as judged
use Rattle.scan_lines.specs.declared.Line.{Line}
use Rattle.scan_lines.specs.declared.Parsed.TheVariants as parsed
use Rattle.scan_lines.specs.Line.{line_at, scan_of}
use Rattle.scan_lines.specs.Tokens.{Scan, Row, scan, broken, Scanned, tokens, refused, refused_at, join, judge, tokens_of}
use Rattle.scans.specs.File.{rows_from}

pub join_none : (x : Scanned) → join [] x ≡ x
join_none (tokens l) = refl
join_none (refused x) = refl

pub join-join : (a b : List ℕ) (x : Scanned) → join a (join b x) ≡ join (a ++ b) x
join-join a b (tokens l) = ap tokens (simp append_assoc)
join-join a b (refused x) = refl

module _ (first : ℕ) (s : List ℕ) (at : ℕ) where
  pub rows_end : length s ≤ at → (k : ℕ) → rows_from first s k at ≡ []
  unfolding rows_from
  rows_end h zero = refl
  rows_end h (suc k) = simp (le-ltb at (length s) h)

  module _ (h : at < length s) (k : ℕ) where
    pub rows_broken : line_at s at ≡ parsed.Broken → rows_from first s (suc k) at ≡ broken (first + at) ∷ []
    unfolding rows_from
    rows_broken q = simp (lt-ltb at (length s) h, q)

    pub rows_line : {line : Line} → line_at s at ≡ parsed.Line line
        → rows_from first s (suc k) at ≡ scan (first + at) (scan_of s line) ∷ rows_from first s k (line.end + 1)
    unfolding rows_from
    rows_line q = simp (lt-ltb at (length s) h, q)

module _ (letters : List ℕ) (before : Option Scan) (place : ℕ) (x : Scan) (rows : List Row) where
  pub line_refused : {k : Kind} → judge letters before x ≡ judged.Refused k → tokens_of letters before (scan place x ∷ rows) ≡ refused_at k place
  unfolding tokens_of
  line_refused j = simp j

  pub line_taken : {t : ℕ} → judge letters before x ≡ judged.Token t → tokens_of letters before (scan place x ∷ rows) ≡ join (t ∷ []) (tokens_of letters (some x) rows)
  unfolding tokens_of
  line_taken j = simp j
