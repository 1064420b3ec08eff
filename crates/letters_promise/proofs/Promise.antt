-- Sessions through a bank's own letters.
use Prim.Native.Nat.{ℕ, ◌-◌, ◌≤◌, ◌<◌}
use mathlib.Core.Path.{◌≡◌, refl, sym, ap, subst, ◌∙◌}
use mathlib.Core.Logic.{◌⊎◌, inl, inr}
use mathlib.Core.List.{List, [], ◌∷◌}
use mathlib.Core.Option.{Option, some, none}
use mathlib.Core.Bool.{Bool, true, false, cond, ◌&&◌, ◌||◌}
use native.Mathlib.Decide.{ℕ_discrete, dec_le}
use native.Mathlib.Omega.{arith}
use borrow.Author.Tests.{le-leb, lt-ltb, le-ltb, leb-true}
use lib.Dec.{leb, ltb}
use lib.ListN.{length}
use Rattle.fixpoint.specs.Each.{Each}
use Rattle.fixpoint.specs.declared.Found.{Found}
use Rattle.fixpoint.specs.Lowest.{Lowest, lowest, pick}
use Rattle.fixpoint.proofs.Tests.{map?, both?, either?, not?}
use Rattle.language.specs.Grammar.{Grammar, IsTerminal}
use Rattle.language.specs.Sentence.{In}
use Rattle.language.proofs.Member.{in_cons}
use Rattle.leftcorner.specs.Table.{Table}
use Rattle.range.proofs.TestLaws.{all_cond}
use Rattle.reply.specs.declared.Kind.TheVariants as kind
use Rattle.reply.specs.declared.Refusal.{Refusal}
use Rattle.table_lines.proofs.CapLaws.{at_most}
use Rattle.letters.specs.Shared.{Shared, some?, another?, shared?, lowest_shared, lowest_shared_lem}
use Rattle.letters.specs.Letters.{Letters, codes, letters_of}
use Rattle.letters.proofs.GoodLaws.{letters_good}
use Rattle.scan_lines.specs.Tokens.{Scan, code_of, repeats}
use Rattle.scans.specs.File.{Scanned, tokens, refused, refused_at, house, all_lines, scanned}
use Rattle.scans.specs.Promise.{InForm, written, ruled, Sound}
use Rattle.scans.specs.Renamed.{renamed_all, Renames}
use Rattle.scans.proofs.TokenLaws.{scanned_lines}
use Rattle.scans.proofs.Promise.{scans_promise, tokens_few}
use Rattle.scans.proofs.Renamed.{scanned_renamed, written_renamed}
use Rattle.lettered_scans.specs.Lettered.{by_letters, lettered, too_long}
use Rattle.table.specs.Book.{Reading, whole}
use Rattle.checker.specs.Checked.{checked_of, Accepts}
use Rattle.checker.proofs.Exactly.{exactly, accepts, accepted_sound}
use Rattle.session.specs.Session.{refused_by, session}
use Rattle.session.specs.Session as session
use Rattle.session.specs.Demand3.{Demanded}
use Rattle.session.proofs.Demand3.{demands}
use Rattle.scan_session.specs.ScanSession.{first_refusal, after_scans, scan_session, after_letters, lettered_session}
use Rattle.letters_promise.specs.Promise.{book_of, Sessions, LettersPromise}
use Rattle.letters_promise.proofs.Book.{book_short}
use Rattle.letters_promise.proofs.Book as book

-- ---- lengths
either_long : (book file : List ℕ) → (65536 < length book) ⊎ (65536 < length file) → too_long book file ≡ true
unfolding too_long
either_long book file (inl h) = simp (lt-ltb 65536 (length book) h)
either_long book file (inr h) = go (ltb 65536 (length book))
  where
    go : (b : Bool) → b || ltb 65536 (length file) ≡ true
    go true = refl
    go false = lt-ltb 65536 (length file) h

neither_long : (book file : List ℕ) → length book ≤ 65536 → length file ≤ 65536 → too_long book file ≡ false
unfolding too_long
neither_long book file h k = simp (le-ltb 65536 (length book) h, le-ltb 65536 (length file) k)

module _ (gs s book file : List ℕ) (n k : ℕ) where
  too_long_lem : (65536 < length book) ⊎ (65536 < length file) → lettered_session gs s book file n k ≡ session.refused_at n k kind.LimitExceeded 0
  unfolding lettered_session
  too_long_lem h = simp (either_long book file h)

  by_books : length book ≤ 65536 → length file ≤ 65536 → {x : Reading} → checked_of gs s ≡ x → lettered_session gs s book file n k ≡ after_letters n k gs s x book file
  unfolding lettered_session
  by_books h f {x} e =
      let a : lettered_session gs s book file n k ≡ after_letters n k gs s (checked_of gs s) book file = simp (neither_long book file h f) in
      a ∙ ap (λ (y : Reading). after_letters n k gs s y book file) e

-- ---- accepted books
module _ (gs s : List ℕ) (g : Grammar) (t : Table) (A : Accepts gs s g t) where
  read : checked_of gs s ≡ whole g t
  read = accepts gs s A

  module _ (book file : List ℕ) (n k : ℕ) (short : length book ≤ 65536) (fits : length file ≤ 65536) where
    by_letters_lem : {y : Letters} → letters_of g.terminals book ≡ y → lettered_session gs s book file n k ≡ after_scans n k gs s (by_letters y file)
    unfolding lettered
    by_letters_lem {y} e =
        let b : lettered g.terminals book file ≡ by_letters (letters_of g.terminals book) file = simp (le-leb (length file) 65536 fits) in
        by_books gs s book file n k short fits read ∙ ap (after_scans n k gs s) (b ∙ ap (λ (z : Letters). by_letters z file) e)

    refused_first : {x : Scanned} {why : Refusal} → x ≡ refused why → after_scans n k gs s x ≡ refused_by n k why
    refused_first {why = why} e = ap (after_scans n k gs s) e ∙ ap (λ (x : Reading). refused_by n k (first_refusal x why)) read

  module _ (book l file : List ℕ) (good : letters_of g.terminals book ≡ codes l) where
    book_fits : length book ≤ 65536
    book_fits = (letters_good g.terminals book good).short

    module _ (w : List ℕ) (e : scanned l file ≡ tokens w) where
      file_fits : length file ≤ 65536
      unfolding scanned
      file_fits = go (leb (length file) 65536) refl e
        where
          go : (b : Bool) → leb (length file) 65536 ≡ b → cond b (all_lines l 0 file) (refused_at kind.LimitExceeded 0) ≡ tokens w → length file ≤ 65536
          go true p q = leb-true _ _ p
          go false p q = let z : ◌≡◌ {A = ℕ} 0 1 = cc in absurd (omega arith)

      -- a token is a repeat, or the code of a letter that is used
      code_terminal : (b : ℕ) → (code_of l b ≡ 0 → ⊥) → IsTerminal g (code_of l b)
      unfolding code_of
      code_terminal b f = (
        omega (arith, f),
        all_cond (λ (c : ℕ). c ≤ g.terminals) (leb 65 b && leb b 90) (λ q. at_most g.terminals l (letters_good g.terminals book good).declared (b - 65)) (λ q. omega arith),
      )

      ruled_terminal : (before : Option Scan) (lines : List Scan) → Sound l before lines → (a : ℕ) → In a (ruled l before lines) → (a ≡ 4) ⊎ IsTerminal g a
      ruled_terminal before [] S a m = elim m [ ]
      ruled_terminal before (x ∷ lines) S a m = go (in_cons m) (repeats before x) refl (λ h. ruled_terminal (some x) lines S.1 a h)
        where
          go : (a ≡ cond (repeats before x) 4 (code_of l x.letter)) ⊎ In a (ruled l (some x) lines) → (b : Bool) → repeats before x ≡ b
              → (In a (ruled l (some x) lines) → (a ≡ 4) ⊎ IsTerminal g a) → (a ≡ 4) ⊎ IsTerminal g a
          go (inr h) b q rest = rest h
          go (inl h) true q rest = inl (h ∙ ap (λ (b : Bool). cond b 4 (code_of l x.letter)) q)
          go (inl h) false q rest =
              let c : a ≡ code_of l x.letter = h ∙ ap (λ (b : Bool). cond b 4 (code_of l x.letter)) q in
              inr (subst (IsTerminal g) (sym c) (code_terminal x.letter S.0.1))

      terminals : (4 ≤ g.terminals) ⊎ (In 4 w → ⊥) → (a : ℕ) → In a w → IsTerminal g a
      terminals four a m =
          let P = (scans_promise.0 l 0).read file w (scanned_lines l file w e) in
          go (ruled_terminal none P.0 P.2 a (subst (In a) P.4 m)) four
        where
          go : (a ≡ 4) ⊎ IsTerminal g a → (4 ≤ g.terminals) ⊎ (In 4 w → ⊥) → IsTerminal g a
          go (inr h) f = h
          go (inl q) (inl f) = (omega (arith, q), omega (arith, q, f))
          go (inl q) (inr f) = absurd (f (subst (λ (c : ℕ). In c w) q m))

      demanded : (4 ≤ g.terminals) ⊎ (In 4 w → ⊥) → Demanded gs s g t w
      demanded four = demands gs s A w (omega (arith, tokens_few l file w e, file_fits)) (terminals four)

  -- ---- the house letters
  module _ (seven : 7 ≤ g.terminals) (few : g.terminals ≤ 63) where
    house_good : letters_of g.terminals (book_of house) ≡ codes house
    unfolding lowest_shared lowest pick shared? map? both? either? not? some? another? ℕ_discrete
    house_good =
        (book.promise g.terminals (omega (arith, seven)) few).good house
        (record { long = refl; at_most = λ i h. omega (arith, at_most 7 house refl i, seven) })
        (λ i h S. subst (Lowest (Shared house) 0 26) unshared (lowest_shared_lem house) i (omega arith) h S)
      where
        unshared : lowest_shared house ≡ Found.Nothing
        unshared = refl

    house_letters : (file : List ℕ) (n k : ℕ) → lettered_session gs s (book_of house) file n k ≡ scan_session gs s file n k
    unfolding scan_session
    house_letters file n k = go (dec_le (length file) 65536)
      where
        go : Dec (length file ≤ 65536) → lettered_session gs s (book_of house) file n k ≡ scan_session gs s file n k
        go (yes h) = by_letters_lem (book_of house) file n k (book_short house refl) h house_good ∙ simp (le-ltb 65536 (length file) h)
        go (no h) = too_long_lem gs s (book_of house) file n k (inr (omega (arith, h))) ∙ simp (lt-ltb 65536 (length file) (omega (arith, h)))

  -- ---- renamed letters
  renamed_letters : (ρ : ℕ → ℕ) (l m : List ℕ) (lines : List Scan) (n k : ℕ) → Renames ρ l m → Each InForm lines
      → letters_of g.terminals (book_of l) ≡ codes l → letters_of g.terminals (book_of m) ≡ codes m
      → lettered_session gs s (book_of m) (written (renamed_all ρ lines)) n k ≡ lettered_session gs s (book_of l) (written lines) n k
  renamed_letters ρ l m lines n k R F a b = go (dec_le (length (written lines)) 65536)
    where
      go : Dec (length (written lines) ≤ 65536) → lettered_session gs s (book_of m) (written (renamed_all ρ lines)) n k ≡ lettered_session gs s (book_of l) (written lines) n k
      go (yes h) =
          by_letters_lem (book_of m) (written (renamed_all ρ lines)) n k (book_fits (book_of m) m [] b) (omega (arith, h, written_renamed ρ lines)) b
          ∙ (ap (after_scans n k gs s) (scanned_renamed ρ l m R lines F)
          ∙ sym (by_letters_lem (book_of l) (written lines) n k (book_fits (book_of l) l [] a) h a))
      go (no h) =
          too_long_lem gs s (book_of m) (written (renamed_all ρ lines)) n k (inr (omega (arith, h, written_renamed ρ lines)))
          ∙ sym (too_long_lem gs s (book_of l) (written lines) n k (inr (omega (arith, h))))

  sessions : Sessions gs s g t
  sessions = record {
    letters_first = λ book file n k why a b e. by_letters_lem book file n k a b e ∙ refused_first book file n k a b refl;
    scans_refused = λ book l file n k why b e f.
        let a = book_fits book l file e in
        by_letters_lem book file n k a b e ∙ refused_first book file n k a b f;
    tokens_walked = λ book l file w n k e f. by_letters_lem book file n k (book_fits book l file e) (file_fits book l file e w f) e ∙ ap (after_scans n k gs s) f;
    demand3 = λ book l file w e f. demanded book l file e w f;
    house_letters = λ file n k seven. house_letters seven (accepted_sound gs s (accepts gs s A)).formed.few_terminals file n k;
    renamed_letters = renamed_letters;
  }

pub letters_promise : LettersPromise
letters_promise = record {
  books = book.promise;
  too_long = too_long_lem;
  books_refused = λ gs s book file n k why a b e. by_books gs s book file n k a b e;
  accepted = λ gs s e. let h = (exactly gs s).0 e in (h.0, h.1, h.2, sessions gs s h.0 h.1 h.2);
}
