-- Files and the lines that they are written in.
use Prim.Native.Nat.{ℕ, zero, suc, ◌+◌, ◌*◌, ◌<◌, ◌≤◌}
use mathlib.Core.Path.{◌≡◌, refl, sym, ap, ap₂, ◌∙◌}
use mathlib.Core.List.{List, [], ◌∷◌, ◌++◌, append_assoc, append-nil}
use mathlib.Core.Option.{Option, some, none}
use mathlib.Core.Bool.{Bool, true, false, cond, not, ◌&&◌}
use native.Mathlib.Omega.{arith}
use borrow.Author.Tests.{ltb-false, eq-eqb, eqb-true}
use lib.Dec.{ltb, eqb}
use lib.ListN.{length, drop, length-append, length-drop, drop_of_length-le}
use lib.Seq.{drop-drop, drop-append_seam, drop_at}
use Rattle.fixpoint.specs.Each.{Each}
use Rattle.reply.specs.declared.Kind.{Kind}
use Rattle.reply.specs.declared.Kind.TheVariants as kind
use Rattle.scan_lines.specs.declared.Judged.{Judged}
use Rattle.scan_lines.specs.declared.Judged.TheVariants as judged
use Rattle.scan_lines.specs.declared.Line.{Line}
use Rattle.scan_lines.specs.declared.Parsed.{Parsed}
use Rattle.scan_lines.specs.declared.Parsed.TheVariants as parsed
use Rattle.scan_lines.specs.Line.{line_at, on_line, scan_of}
use Rattle.scan_lines.specs.Tokens.{Scan, Row, scan, broken, Scanned, tokens, refused, refused_at, join, code_of, same_bytes, repeats, differs, judge, on_judged, tokens_of}
use Rattle.scan_lines.proofs.RepeatLaws.{same_equal, equal_same}
use Rattle.scan_lines.proofs.LineLaws.{line_in}
use Rattle.scan_lines.proofs.JudgeLaws.{Taken}
use Rattle.scan_lines.proofs.JudgeLaws as laws
use Rattle.scans.specs.File.{rows_from, all_lines, scanned}
use Rattle.scans.specs.Promise.{line_text, written, InForm, ruled, SameLabel, Agrees, Sound, last_of, Promise, ScansPromise}
use Rattle.scans.proofs.FormLaws.{line_long, six_bytes, line_written, Read, written_line}
use Rattle.scans.proofs.RowLaws.{join_none, join-join, rows_end, rows_line, line_refused, line_taken}
use Rattle.scans.proofs.TokenLaws.{scanned_lines, no_four}

-- ---- a label
label_same : (a x : Scan) → eqb a.letter x.letter && same_bytes a.text x.text ≡ true → SameLabel a x
label_same a x e = go (eqb a.letter x.letter) refl (same_bytes a.text x.text) refl e
  where
    go : (t : Bool) → eqb a.letter x.letter ≡ t → (u : Bool) → same_bytes a.text x.text ≡ u → t && u ≡ true → SameLabel a x
    go true p true q e = (eqb-true _ _ p, same_equal _ _ q)
    go true p false q e = let z : ◌≡◌ {A = ℕ} 0 1 = cc in absurd (omega arith)
    go false p u q e = let z : ◌≡◌ {A = ℕ} 0 1 = cc in absurd (omega arith)

same_label : (a x : Scan) → SameLabel a x → eqb a.letter x.letter && same_bytes a.text x.text ≡ true
same_label a x h = simp (eq-eqb _ _ h.0, equal_same _ _ h.1)

-- where a line is not crossed
agrees : (before : Option Scan) (x : Scan) → repeats before x && differs before x ≡ false → Agrees before x
agrees none x e = tt
agrees (some a) x e = λ q.
    let label = eqb a.letter x.letter && same_bytes a.text x.text in
    go label refl (ap (λ (t : Bool). t && not label) (sym (eq-eqb a.sequence x.sequence q)) ∙ e)
  where
    go : (t : Bool) → eqb a.letter x.letter && same_bytes a.text x.text ≡ t → not t ≡ false → SameLabel a x
    go true p e = label_same a x p
    go false p e = let z : ◌≡◌ {A = ℕ} 0 1 = cc in absurd (omega arith)

no_conflict : (before : Option Scan) (x : Scan) → Agrees before x → repeats before x && differs before x ≡ false
no_conflict none x h = refl
no_conflict (some a) x h = go (eqb a.sequence x.sequence) refl
  where
    go : (t : Bool) → eqb a.sequence x.sequence ≡ t → t && not (eqb a.letter x.letter && same_bytes a.text x.text) ≡ false
    go true p = simp (same_label a x (h (eqb-true _ _ p)))
    go false p = refl

-- and where it is
conflict_told : (a x : Scan) → a.sequence ≡ x.sequence → (SameLabel a x → ⊥) → repeats (some a) x && differs (some a) x ≡ true
conflict_told a x e f = simp (eq-eqb _ _ e) (go (eqb a.letter x.letter && same_bytes a.text x.text) refl)
  where
    go : (t : Bool) → eqb a.letter x.letter && same_bytes a.text x.text ≡ t → not t ≡ true
    go true p = absurd (f (label_same a x p))
    go false p = refl

module _ (letters : List ℕ) (first : ℕ) (s : List ℕ) where
  -- ---- a file that gives tokens
  abbrev Whole : Option Scan → ℕ → List ℕ → Type 0
  Whole before at l =
      (lines : List Scan) × Each InForm lines × Sound letters before lines × (drop at s ≡ written lines) × (l ≡ ruled letters before lines)

  nothing_left : (before : Option Scan) (at : ℕ) (l : List ℕ) → length s ≤ at → tokens [] ≡ tokens l → Whole before at l
  nothing_left before at l h e = ([], tt, tt, drop_of_length-le s h, let f : [] ≡ l = cc in sym f)

  one_more : (before : Option Scan) (at : ℕ) (line : Line) (t : ℕ) (rest : Scanned) (l : List ℕ) → line_at s at ≡ parsed.Line line
      → Taken letters before (scan_of s line) t → join (t ∷ []) rest ≡ tokens l
      → ((m : List ℕ) → rest ≡ tokens m → Whole (some (scan_of s line)) (line.end + 1) m) → Whole before at l
  one_more before at line t (refused y) l q T e f = let z : ◌≡◌ {A = ℕ} 0 1 = cc in absurd (omega arith)
  one_more before at line t (tokens m) l q T e f =
      let R = f m refl in
      let W = line_written s at q T.numbered in
      let g : t ∷ m ≡ l = cc in (
        scan_of s line ∷ R.0,
        (W.0, R.1),
        ((agrees before (scan_of s line) T.agrees, T.coded), R.2),
        W.1 ∙ ap (λ (r : List ℕ). line_text (scan_of s line) ++ r) R.3,
        sym g ∙ ap₂ (λ (u : ℕ) (r : List ℕ). u ∷ r) T.token R.4,
      )

  lines_read : (k : ℕ) (before : Option Scan) (at : ℕ) (l : List ℕ) → length s ≤ at + k → tokens_of letters before (rows_from first s k at) ≡ tokens l → Whole before at l
  unfolding tokens_of rows_from
  lines_read zero before at l h e = nothing_left before at l (omega arith) e
  lines_read (suc k) before at l h e = go (ltb at (length s)) refl (line_at s at) refl (λ line m g. lines_read k (some (scan_of s line)) (line.end + 1) m g) e
    where
      judged_line : (line : Line) → line_at s at ≡ parsed.Line line
          → ((m : List ℕ) → length s ≤ line.end + 1 + k → tokens_of letters (some (scan_of s line)) (rows_from first s k (line.end + 1)) ≡ tokens m
          → Whole (some (scan_of s line)) (line.end + 1) m)
          → (j : Judged) → judge letters before (scan_of s line) ≡ j
          → on_judged j (λ t. join (t ∷ []) (tokens_of letters (some (scan_of s line)) (rows_from first s k (line.end + 1)))) (λ w. refused_at w (first + at)) ≡ tokens l
          → Whole before at l
      judged_line line q f (judged.Token t) j e =
          let w = line_in s at q in
          one_more before at line t _ l q (laws.token_tells letters before (scan_of s line) j) e (λ m g. f m (omega (arith, w.0, w.1.some_text, h)) g)
      judged_line line q f (judged.Refused w) j e = let z : ◌≡◌ {A = ℕ} 0 1 = cc in absurd (omega arith)

      go : (t : Bool) → ltb at (length s) ≡ t → (x : Parsed) → line_at s at ≡ x
          → ((line : Line) (m : List ℕ) → length s ≤ line.end + 1 + k → tokens_of letters (some (scan_of s line)) (rows_from first s k (line.end + 1)) ≡ tokens m
          → Whole (some (scan_of s line)) (line.end + 1) m)
          → tokens_of letters before (cond t (on_line x (λ line. scan (first + at) (scan_of s line) ∷ rows_from first s k (line.end + 1)) (broken (first + at) ∷ [])) []) ≡ tokens l
          → Whole before at l
      go true p (parsed.Line line) q f e = judged_line line q (f line) (judge letters before (scan_of s line)) refl e
      go true p parsed.Broken q f e = let z : ◌≡◌ {A = ℕ} 0 1 = cc in absurd (omega arith)
      go false p x q f e = nothing_left before at l (ltb-false _ _ p) e

  -- ---- lines that are written in a file
  -- one line
  pub record Next (at k : ℕ) (x : Scan) : Type 0 where
    pub fuel : ℕ
    pub enough : length s ≤ at + length (line_text x) + fuel
    pub rows : rows_from first s k at ≡ scan (first + at) x ∷ rows_from first s fuel (at + length (line_text x))

  pub next : (at k : ℕ) (x : Scan) (r : List ℕ) → InForm x → drop at s ≡ line_text x ++ r → length s ≤ at + k → Next at k x
  next at k x r F e h = go k h
    where
      inside : at < length s
      inside = omega (arith, ap length e, length-append (line_text x) r, length-drop at s, line_long x)

      R : Read s at x
      R = written_line s at x r F e

      go : (k : ℕ) → length s ≤ at + k → Next at k x
      go zero h = absurd (omega (arith, inside, h))
      go (suc k) h = record {
        fuel = k;
        enough = omega (arith, h, line_long x);
        rows =
            rows_line first s at inside k R.read
            ∙ ap₂ (λ (y : Scan) (n : ℕ). scan (first + at) y ∷ rows_from first s k n) R.says R.next;
      }

  -- sound lines
  record After (before : Option Scan) (at k : ℕ) (lines : List Scan) : Type 0 where
    fuel : ℕ
    enough : length s ≤ at + length (written lines) + fuel
    gives : tokens_of letters before (rows_from first s k at)
        ≡ join (ruled letters before lines) (tokens_of letters (last_of before lines) (rows_from first s fuel (at + length (written lines))))

  after : (lines : List Scan) (before : Option Scan) (at k : ℕ) (r : List ℕ) → Each InForm lines → Sound letters before lines
      → drop at s ≡ written lines ++ r → length s ≤ at + k → After before at k lines
  after [] before at k r F S e h = record {
    fuel = k;
    enough = omega (arith, h);
    gives = sym (join_none _ ∙ ap (λ (n : ℕ). tokens_of letters before (rows_from first s k n)) (omega arith));
  }
  after (x ∷ l) before at k r F S e h =
      let N = next at k x (written l ++ r) F.0 (e ∙ append_assoc (line_text x) (written l) r) h in
      let n = at + length (line_text x) in
      let d : drop n s ≡ written l ++ r = sym (drop-drop (length (line_text x)) at s) ∙ ap (drop (length (line_text x))) (e ∙ append_assoc (line_text x) (written l) r)
      ∙ drop-append_seam (line_text x) (written l ++ r) in
      let A = after l (some x) n N.fuel r F.1 S.1 d N.enough in
      let m : n + length (written l) ≡ at + length (line_text x ++ written l) = omega (arith, length-append (line_text x) (written l)) in
      let t = cond (repeats before x) 4 (code_of letters x.letter) in
      record {
        fuel = A.fuel;
        enough = omega (arith, A.enough, m);
        gives =
            ap (tokens_of letters before) N.rows
            ∙ line_taken letters before (first + at) x _ (laws.taken letters before x F.0.numbered (no_conflict before x S.0.0) S.0.1 refl)
            ∙ ap (join (t ∷ [])) A.gives
            ∙ join-join (t ∷ []) (ruled letters (some x) l) (tokens_of letters (last_of (some x) l) (rows_from first s A.fuel (n + length (written l))))
            ∙ ap (λ (n : ℕ). join (t ∷ ruled letters (some x) l) (tokens_of letters (last_of (some x) l) (rows_from first s A.fuel n))) m;
      }

module _ (letters : List ℕ) (first : ℕ) where
  read : (s l : List ℕ) → all_lines letters first s ≡ tokens l
      → (lines : List Scan) × Each InForm lines × Sound letters none lines × (s ≡ written lines) × (l ≡ ruled letters none lines)
  read s l e = lines_read letters first s (length s) none 0 l (omega arith) e

  few : (s l : List ℕ) → all_lines letters first s ≡ tokens l → length l * 6 ≤ length s
  few s l e =
      let R = read s l e in
      omega (arith, long none R.0 R.1, ap length R.3, ap length R.4)
    where
      long : (before : Option Scan) (lines : List Scan) → Each InForm lines → length (ruled letters before lines) * 6 ≤ length (written lines)
      long before [] F = omega arith
      long before (x ∷ m) F = omega (arith, long (some x) m F.1, six_bytes x F.0, length-append (line_text x) (written m))

  whole : (lines : List Scan) → Each InForm lines → Sound letters none lines → all_lines letters first (written lines) ≡ tokens (ruled letters none lines)
  unfolding tokens_of
  whole lines F S =
      let s = written lines in
      let A = after letters first s lines none 0 (length s) [] F S (sym (append-nil s)) (omega arith) in
      A.gives
      ∙ ap (λ (rows : List Row). join (ruled letters none lines) (tokens_of letters (last_of none lines) rows)) (rows_end first s (0 + length s) (omega arith) A.fuel)
      ∙ ap tokens (append-nil _)

  -- a line in form that is refused, after sound lines
  refused_after : (lines : List Scan) (x : Scan) (rest : List ℕ) → Each InForm lines → InForm x → Sound letters none lines
      → {k : Kind} → judge letters (last_of none lines) x ≡ judged.Refused k
      → all_lines letters first (written lines ++ (line_text x ++ rest)) ≡ refused_at k (first + length (written lines))
  refused_after lines x rest F X S {k} j =
      let s = written lines ++ (line_text x ++ rest) in
      let A = after letters first s lines none 0 (length s) (line_text x ++ rest) F S refl (omega arith) in
      let at = 0 + length (written lines) in
      let N = next letters first s at A.fuel x rest X (drop_at (written lines) (line_text x ++ rest) at (omega arith)) A.enough in
      A.gives
      ∙ ap (λ (rows : List Row). join (ruled letters none lines) (tokens_of letters (last_of none lines) rows)) N.rows
      ∙ ap (join (ruled letters none lines)) (line_refused letters (last_of none lines) (first + at) x _ j)
      ∙ ap (refused_at k) (omega arith)

  conflicting : (lines : List Scan) (before x : Scan) (rest : List ℕ) → Each InForm lines → InForm x → Sound letters none lines
      → last_of none lines ≡ some before → before.sequence ≡ x.sequence → (SameLabel before x → ⊥)
      → all_lines letters first (written lines ++ (line_text x ++ rest)) ≡ refused_at kind.ConflictingRepeat (first + length (written lines))
  conflicting lines before x rest F X S l e f =
      refused_after lines x rest F X S (ap (λ (b : Option Scan). judge letters b x) l ∙ laws.conflicting letters (some before) x X.numbered (conflict_told before x e f))

  undeclared : (lines : List Scan) (x : Scan) (rest : List ℕ) → Each InForm lines → InForm x → Sound letters none lines
      → Agrees (last_of none lines) x → code_of letters x.letter ≡ 0
      → all_lines letters first (written lines ++ (line_text x ++ rest)) ≡ refused_at kind.Undeclared (first + length (written lines))
  undeclared lines x rest F X S a z = refused_after lines x rest F X S (laws.undeclared letters (last_of none lines) x X.numbered (no_conflict (last_of none lines) x a) z)

  promise : Promise letters first
  promise = record { read = read; few = few; whole = whole; conflicting = conflicting; undeclared = undeclared }

pub scans_promise : ScansPromise
scans_promise = (promise, no_four)

-- a file of 65,536 bytes has at most 10,922 tokens
pub tokens_few : (letters s l : List ℕ) → scanned letters s ≡ tokens l → length l * 6 ≤ length s
tokens_few letters s l e = few letters 0 s l (scanned_lines letters s l e)
