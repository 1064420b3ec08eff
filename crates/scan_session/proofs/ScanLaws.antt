-- What reading a scan file tells of the session over it.
use Prim.Native.Nat.{ℕ, ◌-◌, ◌≤◌, ◌<◌}
use native.Mathlib.Omega.{arith}
use mathlib.Core.Path.{◌≡◌, refl, sym, ap, subst, ◌∙◌}
use mathlib.Core.Bool.{Bool, cond}
use mathlib.Core.List.{List}
use lib.ListN.{length, take, replicate}
use lib.Seq.{take_at}
use Rattle.reply.specs.declared.Kind.TheVariants.{LimitExceeded}
use Rattle.reply.specs.declared.Refusal.{Refusal}
use Rattle.reply.specs.declared.Reply.{Reply}
use Rattle.reply.specs.declared.Reply.TheVariants as reply
use Rattle.scans.specs.File.{Scanned, tokens, house, scanned, outcome_of}
use Rattle.scans.proofs.Promise.{tokens_few}
use Rattle.scans.proofs.TokenLaws.{scans_listed, scans_refused}
use Rattle.lettered_scans.specs.Lettered.{lettered, too_long, terminals_in}
use Rattle.lettered_scans.proofs.LetteredLaws.{lettered_few}
use Rattle.table.specs.Book.{Reading, whole, rejected}
use Rattle.checker.specs.Checked.{checked_of}
use Rattle.walker.specs.Walked.{Walked}
use Rattle.session.specs.Session.{refused_by, refused_at, Tells}
use Rattle.session.specs.Read.{ReadIn, after_read}
use Rattle.session.proofs.BookLaws.{too_long_lem, not_long, not_many, books_read}
use Rattle.scan_session.specs.ScanSession.{first_refusal, after_scans, scan_session, after_letters, lettered_session}
use Rattle.scan_session.proofs.TerminalLaws.{terminals_in_lem}

-- ---- a scan file that came to x, and was read into a slice of 10,922 tokens
module _ (x : Scanned) (held : List ℕ) where
  -- its tokens stand in the slice
  pub scans_in : (r : Reply) → r ≡ (outcome_of x 10922).reply → length held ≡ 10922 → ReadIn r held
  scans_in (Reply.Accepted m) e h = omega (arith, (scans_listed x 10922 m (sym e)).fits, h)
  scans_in (Reply.Refused why) e h = tt

  pub scans_read : {m : ℕ} → reply.Accepted m ≡ (outcome_of x 10922).reply → held ≡ (outcome_of x 10922).tokens → x ≡ tokens (take m held)
  scans_read {m} e h =
      let L = scans_listed x 10922 m (sym e) in
      let front : take m held ≡ L.list = ap (take m) (h ∙ L.held) ∙ take_at L.list (replicate (10922 - m) 0) m L.counted in
      L.read ∙ ap tokens (sym front)

-- it has room for every file
pub house_few : (file : List ℕ) → length file ≤ 65536 → (l : List ℕ) → scanned house file ≡ tokens l → length l ≤ 10922
house_few file few l e = omega (arith, tokens_few house file l e, few)

-- ---- the session over it: the books, then what reading it came to
module _ (n k : ℕ) (gs s : List ℕ) (held : List ℕ) {a : Walked} {stack listing : List ℕ} where
  refused_over : (x : Reading) (why : Refusal) → Tells (after_read n k x (Reply.Refused why) held) a stack listing → Tells (refused_by n k (first_refusal x why)) a stack listing
  refused_over (whole g t) why T = T
  refused_over (rejected first) why T = T

  over : {x y : Scanned} → x ≡ y → Tells (after_scans n k gs s y) a stack listing → Tells (after_scans n k gs s x) a stack listing
  over e T = subst (λ (z : Scanned). Tells (after_scans n k gs s z) a stack listing) (sym e) T

  pub session_over : (x : Scanned) → ((l : List ℕ) → x ≡ tokens l → length l ≤ 10922) → (r : Reply) → r ≡ (outcome_of x 10922).reply → held ≡ (outcome_of x 10922).tokens
      → Tells (after_read n k (checked_of gs s) r held) a stack listing → Tells (after_scans n k gs s x) a stack listing
  session_over x few (Reply.Accepted m) e h T =
      let q = scans_read x held e h in
      over q (not_many gs s (take m held) n k (omega (arith, few (take m held) q)) (books_read n k (checked_of gs s) m held refl T))
  session_over x few (Reply.Refused why) e h T = over (scans_refused x 10922 few (sym e)) (refused_over (checked_of gs s) why T)

  -- with the letters of a bank, for the terminals that the grammar book's first line tells
  pub letters_over : (letters file : List ℕ) (r : Reply) → r ≡ (outcome_of (lettered (terminals_in gs) letters file) 10922).reply
      → held ≡ (outcome_of (lettered (terminals_in gs) letters file) 10922).tokens
      → Tells (after_read n k (checked_of gs s) r held) a stack listing → Tells (after_letters n k gs s (checked_of gs s) letters file) a stack listing
  letters_over letters file r e h T = go (checked_of gs s) refl T
    where
      go : (x : Reading) → checked_of gs s ≡ x → Tells (after_read n k x r held) a stack listing → Tells (after_letters n k gs s x letters file) a stack listing
      go (whole g t) q U =
          over (ap (λ (u : ℕ). lettered u letters file) (sym (terminals_in_lem gs s q)))
          (session_over (lettered (terminals_in gs) letters file) (lettered_few (terminals_in gs) letters file) r e h T)
      go (rejected first) q U = U

-- ---- its length comes first
module _ (gs s file : List ℕ) (n k : ℕ) {a : Walked} {stack listing : List ℕ} where
  pub file_refused : 65536 < length file → Tells (refused_at n k LimitExceeded 0) a stack listing → Tells (scan_session gs s file n k) a stack listing
  unfolding scan_session
  file_refused h T = too_long_lem 65536 file (refused_at n k LimitExceeded 0) (after_scans n k gs s (scanned house file)) h T

  pub file_walked : length file ≤ 65536 → Tells (after_scans n k gs s (scanned house file)) a stack listing → Tells (scan_session gs s file n k) a stack listing
  unfolding scan_session
  file_walked h T = not_long 65536 file (refused_at n k LimitExceeded 0) (after_scans n k gs s (scanned house file)) h T

-- ---- and so does that of a letters book
module _ (gs s letters file : List ℕ) (n k : ℕ) {a : Walked} {stack listing : List ℕ} where
  pub by_lengths_lem : (b : Bool) → too_long letters file ≡ b → Tells (cond b (refused_at n k LimitExceeded 0) (after_letters n k gs s (checked_of gs s) letters file)) a stack listing
      → Tells (lettered_session gs s letters file n k) a stack listing
  unfolding lettered_session
  by_lengths_lem b e T = subst (λ (y : Bool). Tells (cond y (refused_at n k LimitExceeded 0) (after_letters n k gs s (checked_of gs s) letters file)) a stack listing) (sym e) T
