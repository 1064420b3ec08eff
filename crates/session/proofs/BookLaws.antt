-- What a session is by its books, and by the lengths that come before them.
use Prim.Native.Nat.{ℕ, ◌≤◌, ◌<◌}
use mathlib.Core.Path.{◌≡◌, sym, subst}
use mathlib.Core.Bool.{Bool, true, false, cond}
use mathlib.Core.List.{List}
use lib.Dec.{ltb}
use lib.ListN.{length, take}
use borrow.Author.Tests.{lt-ltb, le-ltb}
use Rattle.std.specs.Prelude.{Result, Err, Ok}
use Rattle.language.specs.Grammar.{Grammar}
use Rattle.leftcorner.specs.Table.{Table}
use Rattle.leftcorner.proofs.ReadOff.{clash}
use Rattle.reply.specs.declared.Kind.TheVariants.{LimitExceeded}
use Rattle.reply.specs.declared.Refusal.{Refusal}
use Rattle.reply.specs.declared.Reply.{Reply}
use Rattle.table.specs.Book.{Reading, whole, rejected}
use Rattle.walk_tables.specs.declared.Machine.{Machine}
use Rattle.machine.specs.Machine.{Drives, MachineIs}
use Rattle.checker.specs.Checked.{checked_of}
use Rattle.walker.specs.Walked.{Walked}
use Rattle.session.specs.Session.{Session, refused_by, refused_at, table_session, after_books, session, Tells}
use Rattle.session.specs.Read.{ReadIn, over_table, after_read}

-- tokens that are refused, or read
pub read_within : {v : Reply} {m : ℕ} (w : List ℕ) → v ≡ Reply.Accepted m → ReadIn v w → m ≤ length w
read_within w e h = subst (λ (x : Reply). ReadIn x w) e h

module _ (g : Grammar) (t : Table) (n k : ℕ) {v : Reply} (w : List ℕ) {a : Walked} {stack listing : List ℕ} where
  pub read_refused : {why : Refusal} → v ≡ Reply.Refused why → Tells (refused_by n k why) a stack listing → Tells (over_table n k g t v w) a stack listing
  read_refused e T = subst (λ (x : Reply). Tells (over_table n k g t x w) a stack listing) (sym e) T

  pub read_walked : {m : ℕ} → v ≡ Reply.Accepted m → Tells (table_session n k g t (take m w)) a stack listing → Tells (over_table n k g t v w) a stack listing
  read_walked e T = subst (λ (x : Reply). Tells (over_table n k g t x w) a stack listing) (sym e) T

-- books that are refused, or loaded
module _ (n k : ℕ) (v : Reply) (w : List ℕ) {r : Result (Unit {0}) Refusal} (mem : Machine) {a : Walked} {stack listing : List ℕ} where
  pub books_refused : (x : Reading) {why : Refusal} → MachineIs x r mem → r ≡ Err why → Tells (refused_by n k why) a stack listing
      → Tells (after_read n k x v w) a stack listing
  books_refused (whole g t) i e T = let f = i.0 in clash cc
  books_refused (rejected y) {why} i e T = subst (λ (z : Refusal). Tells (refused_by n k z) a stack listing) (let q : why ≡ y = cc in q) T

  pub books_walked : (x : Reading) {u : Unit {0}} → MachineIs x r mem → r ≡ Ok u
      → ((g : Grammar) (t : Table) → Drives g t mem → Tells (over_table n k g t v w) a stack listing) → Tells (after_read n k x v w) a stack listing
  books_walked (whole g t) i e T = T g t i.1
  books_walked (rejected y) i e T = clash cc

-- the first tokens of a slice
pub books_read : (n k : ℕ) (x : Reading) (m : ℕ) (w : List ℕ) {l : List ℕ} {a : Walked} {stack listing : List ℕ} → take m w ≡ l
    → Tells (after_read n k x (Reply.Accepted m) w) a stack listing → Tells (after_books n k x l) a stack listing
books_read n k (whole g t) m w {a = a} {stack = stack} {listing = listing} e T = subst (λ (v : List ℕ). Tells (table_session n k g t v) a stack listing) e T
books_read n k (rejected why) m w e T = T

-- a length that is too large, or not
module _ (most : ℕ) (l : List ℕ) (x y : Session) {a : Walked} {stack listing : List ℕ} where
  by_length : {b : Bool} → ltb most (length l) ≡ b → Tells (cond b x y) a stack listing → Tells (cond (ltb most (length l)) x y) a stack listing
  by_length e T = subst (λ (b : Bool). Tells (cond b x y) a stack listing) (sym e) T

  pub too_long_lem : most < length l → Tells x a stack listing → Tells (cond (ltb most (length l)) x y) a stack listing
  too_long_lem h T = by_length {b = true} (lt-ltb most (length l) h) T

  pub not_long : length l ≤ most → Tells y a stack listing → Tells (cond (ltb most (length l)) x y) a stack listing
  not_long h T = by_length {b = false} (le-ltb most (length l) h) T

-- the number of tokens comes first
module _ (gs s w : List ℕ) (n k : ℕ) {a : Walked} {stack listing : List ℕ} where
  pub too_many : 65535 < length w → Tells (refused_at n k LimitExceeded 0) a stack listing → Tells (session gs s w n k) a stack listing
  unfolding session
  too_many h T = too_long_lem 65535 w (refused_at n k LimitExceeded 0) (after_books n k (checked_of gs s) w) h T

  pub not_many : length w ≤ 65535 → Tells (after_books n k (checked_of gs s) w) a stack listing → Tells (session gs s w n k) a stack listing
  unfolding session
  not_many h T = not_long 65535 w (refused_at n k LimitExceeded 0) (after_books n k (checked_of gs s) w) h T
