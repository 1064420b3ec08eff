-- What reading a scan file tells of the answer over it.
use Prim.Native.Nat.{ℕ, ◌≤◌, ◌<◌}
use native.Mathlib.Omega.{arith}
use mathlib.Core.Path.{◌≡◌, refl, sym, ap}
use mathlib.Core.Bool.{Bool, cond}
use mathlib.Core.List.{List}
use borrow.Author.Tests.{lt-ltb, le-ltb}
use lib.ListN.{length, take}
use Rattle.reply.specs.declared.Kind.TheVariants.{LimitExceeded}
use Rattle.reply.specs.declared.Refusal.{Refusal}
use Rattle.reply.specs.declared.Reply.{Reply}
use Rattle.scans.specs.File.{Scanned, tokens, house, scanned, outcome_of}
use Rattle.scans.proofs.TokenLaws.{scans_refused}
use Rattle.lettered_scans.specs.Lettered.{lettered, too_long, terminals_in}
use Rattle.lettered_scans.proofs.LetteredLaws.{lettered_few}
use Rattle.table.specs.Book.{Reading, whole, rejected}
use Rattle.checker.specs.Checked.{checked_of}
use Rattle.scan_session.specs.ScanSession.{first_refusal}
use Rattle.scan_session.proofs.TerminalLaws.{terminals_in_lem}
use Rattle.scan_session.proofs.ScanLaws.{scans_read}
use Rattle.expected_trials.specs.Trials.{ExpectedReply, Expected, refused_by}
use Rattle.expected.specs.Expected.{Tells}
use Rattle.expected.specs.Read.{after_read}
use Rattle.expected.proofs.ListLaws.{tells_as, not_many, books_read}
use Rattle.expected_scans.specs.ExpectedScans.{after_scans, expected_scans, after_letters, expected_lettered}

-- the books, then what reading it came to
module _ (n k room : ℕ) (gs s held : List ℕ) {a : ExpectedReply} {stack listing codes : List ℕ} where
  refused_over : (x : Reading) (why : Refusal) → Tells n k (after_read n k room x (Reply.Refused why) held) a stack listing codes
      → Tells n k (refused_by room (first_refusal x why)) a stack listing codes
  refused_over (whole g t) why T = T
  refused_over (rejected first) why T = T

  over : {x y : Scanned} → x ≡ y → Tells n k (after_scans n k room gs s y) a stack listing codes → Tells n k (after_scans n k room gs s x) a stack listing codes
  over e T = tells_as refl refl (ap (after_scans n k room gs s) e) T

  pub answer_over : (x : Scanned) → ((l : List ℕ) → x ≡ tokens l → length l ≤ 10922) → (r : Reply) → r ≡ (outcome_of x 10922).reply → held ≡ (outcome_of x 10922).tokens
      → Tells n k (after_read n k room (checked_of gs s) r held) a stack listing codes → Tells n k (after_scans n k room gs s x) a stack listing codes
  answer_over x few (Reply.Accepted m) e h T =
      let q = scans_read x held e h in
      over q (not_many gs s (take m held) n k room (omega (arith, few (take m held) q)) (books_read n k room (checked_of gs s) m held refl T))
  answer_over x few (Reply.Refused why) e h T = over (scans_refused x 10922 few (sym e)) (refused_over (checked_of gs s) why T)

  -- with the letters of a bank, for the terminals that the grammar book's first line tells
  pub letters_over : (letters file : List ℕ) (r : Reply) → r ≡ (outcome_of (lettered (terminals_in gs) letters file) 10922).reply
      → held ≡ (outcome_of (lettered (terminals_in gs) letters file) 10922).tokens
      → Tells n k (after_read n k room (checked_of gs s) r held) a stack listing codes → Tells n k (after_letters n k room gs s (checked_of gs s) letters file) a stack listing codes
  letters_over letters file r e h T = go (checked_of gs s) refl T
    where
      go : (x : Reading) → checked_of gs s ≡ x → Tells n k (after_read n k room x r held) a stack listing codes → Tells n k (after_letters n k room gs s x letters file) a stack listing codes
      go (whole g t) q U =
          over (ap (λ (u : ℕ). lettered u letters file) (sym (terminals_in_lem gs s q)))
          (answer_over (lettered (terminals_in gs) letters file) (lettered_few (terminals_in gs) letters file) r e h T)
      go (rejected first) q U = U

-- the file's length comes first
module _ (gs s file : List ℕ) (n k room : ℕ) where
  abbrev by : Bool → Expected
  by b = cond b (refused_by room (record { kind = LimitExceeded; place = 0 })) (after_scans n k room gs s (scanned house file))

  pub too_long_lem : {a : ExpectedReply} {stack listing codes : List ℕ} → 65536 < length file
      → Tells n k (refused_by room (record { kind = LimitExceeded; place = 0 })) a stack listing codes → Tells n k (expected_scans gs s file n k room) a stack listing codes
  unfolding expected_scans
  too_long_lem h T = tells_as refl refl (ap by (lt-ltb 65536 (length file) h)) T

  pub not_long : {a : ExpectedReply} {stack listing codes : List ℕ} → length file ≤ 65536
      → Tells n k (after_scans n k room gs s (scanned house file)) a stack listing codes → Tells n k (expected_scans gs s file n k room) a stack listing codes
  unfolding expected_scans
  not_long h T = tells_as refl refl (ap by (le-ltb 65536 (length file) h)) T

-- and so does that of a letters book
module _ (gs s letters file : List ℕ) (n k room : ℕ) where
  abbrev by_lengths : Bool → Expected
  by_lengths b = cond b (refused_by room (record { kind = LimitExceeded; place = 0 })) (after_letters n k room gs s (checked_of gs s) letters file)

  pub by_lengths_lem : {a : ExpectedReply} {stack listing codes : List ℕ} (b : Bool) → too_long letters file ≡ b → Tells n k (by_lengths b) a stack listing codes
      → Tells n k (expected_lettered gs s letters file n k room) a stack listing codes
  unfolding expected_lettered
  by_lengths_lem b e T = tells_as refl refl (ap by_lengths e) T
