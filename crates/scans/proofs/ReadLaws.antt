-- How reading the lines goes on, and how it ends.
use Prim.Native.Nat.{ℕ, zero, suc, ◌+◌, ◌<◌, ◌≤◌}
use mathlib.Core.Path.{◌≡◌, refl, sym, ap, ◌∙◌}
use mathlib.Core.List.{List, [], ◌∷◌, ◌++◌, append-nil}
use mathlib.Core.Option.{some}
use native.Mathlib.Omega.{arith}
use native.Mathlib.Nat.{zero-add}
use lib.ListN.{length, set, length-append, length-set}
use lib.Seq.{sets}
use Rattle.reply.specs.declared.Kind.{Kind}
use Rattle.reply.specs.declared.Kind.TheVariants as kind
use Rattle.reply.specs.declared.Reply.{Reply}
use Rattle.reply.specs.declared.Reply.TheVariants as reply
use Rattle.scan_lines.specs.declared.Judged.TheVariants as judged
use Rattle.scan_lines.specs.declared.Line.{Line}
use Rattle.scan_lines.specs.declared.Parsed.TheVariants as parsed
use Rattle.scan_lines.specs.declared.Previous.{Previous}
use Rattle.scan_lines.specs.declared.Previous.TheVariants as previous
use Rattle.scan_lines.specs.Line.{line_at, scan_of}
use Rattle.scan_lines.specs.Tokens.{Row, Scanned, tokens, refused_at, join, judge, tokens_of}
use Rattle.scan_lines.specs.Within.{before_of, Within, WithinFile}
use Rattle.scan_lines.proofs.LineLaws.{line_in}
use Rattle.scans.specs.File.{rows_from, all_lines, reply_of}
use Rattle.scans.specs.Read.{Stored}
use Rattle.scans.proofs.RowLaws.{join_none, join-join, rows_end, rows_broken, rows_line}
use Rattle.scans.proofs.RowLaws as rows

-- one store more at the end of a run of stores
sets_more : (out l : List ℕ) (i t : ℕ) → sets l i (out ++ t ∷ []) ≡ set (sets l i out) (i + length out) t
sets_more [] l i t = ap (λ (n : ℕ). set l n t) (omega arith)
sets_more (x ∷ out) l i t =
    sets_more out (set l i x) (suc i) t ∙ ap (λ (n : ℕ). set (sets (set l i x) (suc i) out) n t) (omega arith)

-- what the loop over the lines keeps: `out` has the tokens so far, and what was to be read is they and what is read from here on
pub record Going (letters s : List ℕ) (all : Scanned) (lent held : List ℕ) (before : Previous) (at count : ℕ) : Type 0 where
  pub out : List ℕ
  pub fuel : ℕ
  pub enough : length s ≤ at + fuel
  pub within : WithinFile s before
  pub counted : length out ≡ count
  pub few : count ≤ at
  pub stored : held ≡ sets lent 0 out
  pub long : length held ≡ length lent
  pub same : all ≡ join out (tokens_of letters (before_of s before) (rows_from 0 s fuel at))

pub going_start : (letters s lent : List ℕ) → Going letters s (all_lines letters 0 s) lent lent previous.Nothing 0 0
going_start letters s lent =
    record {
      out = [];
      fuel = length s;
      enough = omega arith;
      within = tt;
      counted = refl;
      few = omega arith;
      stored = refl;
      long = refl;
      same = sym (join_none _);
    }

module _ {letters s : List ℕ} {all : Scanned} {lent held : List ℕ} {before : Previous} {at count : ℕ} (g : Going letters s all lent held before at count) where
  -- there is fuel for the line at `at`
  fuel_left : at < length s → (k : ℕ) × (g.fuel ≡ suc k)
  fuel_left h = go g.fuel g.enough
    where
      go : (n : ℕ) → length s ≤ at + n → (k : ℕ) × (n ≡ suc k)
      go zero e = absurd (omega arith)
      go (suc k) e = (k, refl)

  abbrev gives : List Row → Scanned
  gives rows = join g.out (tokens_of letters (before_of s before) rows)

  pub all_read : length s ≤ at → Stored all (reply.Accepted count) lent held
  unfolding tokens_of
  all_read h = record { replied = simp (e, g.counted); stored = λ l q. g.stored ∙ ap (sets lent 0) (same_list l q) }
    where
      e : all ≡ tokens g.out
      e = g.same ∙ ap gives (rows_end 0 s at h g.fuel) ∙ ap tokens (simp append-nil)

      same_list : (l : List ℕ) → all ≡ tokens l → g.out ≡ l
      same_list l q = let p = e in cc

  -- the line at `at` is refused, and so the file
  refused_line : (k : Kind) → at < length s → ((n : ℕ) → tokens_of letters (before_of s before) (rows_from 0 s (suc n) at) ≡ refused_at k (0 + at))
      → {r : Reply} → r ≡ reply.Refused (record { kind = k; place = at }) → Stored all r lent held
  refused_line k h f {r} p = record { replied = p ∙ sym (ap reply_of e); stored = λ l q. let z : ◌≡◌ {A = ℕ} 0 1 = clash l q in absurd (omega arith) }
    where
      e : all ≡ refused_at k at
      e =
          g.same
          ∙ ap (λ (n : ℕ). gives (rows_from 0 s n at)) (fuel_left h).1
          ∙ ap (join g.out) (f (fuel_left h).0 ∙ ap (refused_at k) (omega arith))

      clash : (l : List ℕ) → all ≡ tokens l → ◌≡◌ {A = ℕ} 0 1
      clash l q = let p = e in cc

  module _ (h : at < length s) where
    pub line_broken : line_at s at ≡ parsed.Broken → {r : Reply} → r ≡ reply.Refused (record { kind = kind.Malformed; place = at }) → Stored all r lent held
    unfolding tokens_of
    line_broken q = refused_line kind.Malformed h (λ n. ap (tokens_of letters (before_of s before)) (rows_broken 0 s at h n q))

    module _ {line : Line} (q : line_at s at ≡ parsed.Line line) where
      pub line_refused : {w : Kind} → judge letters (before_of s before) (scan_of s line) ≡ judged.Refused w → {r : Reply}
          → r ≡ reply.Refused (record { kind = w; place = at }) → Stored all r lent held
      line_refused {w} j =
          refused_line w h
          (λ n. ap (tokens_of letters (before_of s before)) (rows_line 0 s at h n q) ∙ rows.line_refused letters (before_of s before) (0 + at) (scan_of s line) _ j)

      pub line_read : {token : ℕ} → judge letters (before_of s before) (scan_of s line) ≡ judged.Token token → {held' : List ℕ} → held' ≡ set held count token
          → Going letters s all lent held' (previous.Line line) (line.end + 1) (count + 1)
      line_read {token} j {held'} e =
          record {
            out = g.out ++ token ∷ [];
            fuel = k.0;
            enough = omega (arith, g.enough, k.1, w.0, w.1.some_text);
            within = w.1;
            counted = length-append g.out (token ∷ []) ∙ ap (λ (n : ℕ). n + 1) g.counted;
            few = omega (arith, w.0, w.1.some_text, g.few);
            stored = e ∙ simp (g.stored, sets_more g.out lent 0 token, zero-add, g.counted);
            long = ap length e ∙ length-set held count token ∙ g.long;
            same =
                g.same
                ∙ ap (λ (n : ℕ). gives (rows_from 0 s n at)) k.1
                ∙ ap gives (rows_line 0 s at h k.0 q)
                ∙ ap (join g.out) (rows.line_taken letters (before_of s before) (0 + at) (scan_of s line) _ j)
                ∙ join-join g.out (token ∷ []) (tokens_of letters (some (scan_of s line)) (rows_from 0 s k.0 (line.end + 1)));
          }
        where
          k : (k : ℕ) × (g.fuel ≡ suc k)
          k = fuel_left h

          w : (at < line.text) × Within s line
          w = line_in s at q
