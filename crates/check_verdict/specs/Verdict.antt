-- The verdict on a table: the replies 7 to 10 in order, each at its lowest state; accepted exactly when the table meets the
-- construction. Document 01, 'Replies': "then 7 to 10".
use Rattle.std.specs.Prelude.{ℕ, zero, suc, List}
use Rattle.std.proofs.Math.Option.{Option, some, none}
use Rattle.language.specs.Grammar.{Grammar}
use Rattle.leftcorner.specs.Table.{Table}
use Rattle.leftcorner.specs.Construction.{EntriesMeet, ItemsMeet, LookaheadsMeet, CellsAgree, CellsMeet}
use Rattle.reply.specs.declared.Kind.{Kind}
use Rattle.reply.specs.declared.Kind.TheVariants.{ItemMismatch, MissingLookahead, Conflict, CellMismatch}
use Rattle.reply.specs.declared.Reply.{Reply}
use Rattle.reply.specs.declared.Reply.TheVariants.{Accepted, Refused}

-- the lowest number below n of which Φ fails
module _ (Φ : ℕ → Type 0) (test : (q : ℕ) → Dec (Φ q)) where
  abbrev pub if_fails : (n : ℕ) → Option ℕ → Dec (Φ n) → Option ℕ
  if_fails n (some q) d = some q
  if_fails n none (yes p) = none
  if_fails n none (no f) = some n

  abbrev pub lowest : ℕ → Option ℕ
  lowest zero = none
  lowest (suc n) = if_fails n (lowest n) (test n)

abbrev pub refused : Kind → ℕ → Reply
refused kind place = Refused (record { kind = kind; place = place })

abbrev pub first_of : Kind → Option ℕ → Reply → Reply
first_of n (some q) r = refused n q
first_of n none r = r

abbrev pub or_else : {Φ : Type 0} → Dec Φ → Reply → Reply → Reply
or_else (yes p) x r = r
or_else (no f) x r = x

module _ (g : Grammar) (t : Table) (F : List ℕ → ℕ → ℕ → Type 0) (entries? : Dec (EntriesMeet g t)) (items? : (q : ℕ) → Dec (ItemsMeet g t q))
    (lookaheads? : (q : ℕ) → Dec (LookaheadsMeet g t F q)) (agree? : (q : ℕ) → Dec (CellsAgree g t F q)) (cells? : (q : ℕ) → Dec (CellsMeet g t F q)) where
  abbrev pub after_agree : Reply
  after_agree = first_of CellMismatch (lowest (CellsMeet g t F) cells? (suc t.states)) (Accepted 0)

  abbrev pub after_lookaheads : Reply
  after_lookaheads = first_of Conflict (lowest (CellsAgree g t F) agree? (suc t.states)) after_agree

  abbrev pub after_items : Reply
  after_items = first_of MissingLookahead (lowest (LookaheadsMeet g t F) lookaheads? (suc t.states)) after_lookaheads

  abbrev pub after_entries : Reply
  after_entries = first_of ItemMismatch (lowest (ItemsMeet g t) items? (suc t.states)) after_items

  unfoldable pub verdict : Reply
  verdict = or_else entries? (refused ItemMismatch 0) after_entries
