-- Tables that were read into slices with room are ready for the check, what the reply makes of them, and what a walk is promised.
use Prim.Native.Nat.{ℕ, suc, ◌+◌, ◌≤◌}
use native.Mathlib.Omega.{arith}
use mathlib.Core.Path.{◌≡◌, refl, sym, ap, subst, ◌∙◌}
use mathlib.Core.Bool.{true}
use mathlib.Core.List.{List}
use Rattle.language.specs.Grammar.{Grammar}
use Rattle.leftcorner.specs.Table.{Table}
use Rattle.check_entries.specs.Uses.{strings_of}
use Rattle.leftcorner.proofs.ReadOff.{clash}
use Rattle.reply.specs.declared.Refusal.{Refusal}
use Rattle.reply.specs.declared.Reply.{Reply}
use Rattle.reply.specs.declared.Reply.TheVariants.{Accepted, Refused}
use Rattle.table.specs.declared.Counts.{Counts}
use Rattle.table.specs.declared.TableReply.{TableReply}
use Rattle.table.specs.declared.TableReply.TheVariants as reply
use Rattle.table.specs.Book.{Reading, whole, rejected, tables_of, read_of}
use Rattle.table.specs.Memory.{counts_of, reply_of, as_reply, Slices, has_room, Holds}
use Rattle.table_facts.specs.Sound.{Sound}
use Rattle.table_facts.proofs.Sound.{tables_sound}
use Rattle.check_views.proofs.Views.{held, sized, given}
use Rattle.check_memory.specs.Accepts.{table_verdict}
use Rattle.check_memory.specs.Given.{TableRoom, Given}
use Rattle.checker.specs.Checked.{by_reply, checked, reply_to, checked_of}
use Rattle.checker.proofs.Exactly.{accepted, accepted_sound}
use Rattle.checker.specs.Loaded.{Loaded}

-- a grammar and its table are in the slices, by these figures
pub record BooksRead (gs s : List ℕ) (b a : Slices) (c : Counts) : Type 0 where
  pub grammar : Grammar
  pub table : Table
  pub reads : tables_of gs s ≡ whole grammar table
  pub counts_are : c ≡ counts_of grammar table
  pub holds : Holds (whole grammar table) b a

-- the reader's answer, for slices with room
pub with_room : {b a : Slices} {r : TableReply} (x : Reading) → has_room b ≡ true → (r ≡ reply_of (read_of (has_room b) x)) × Holds (read_of (has_room b) x) b a → (r ≡ reply_of x) × Holds x b a
with_room {b} {a} {r} x room h = go x (let k : (r ≡ reply_of (read_of true x)) × Holds (read_of true x) b a = rw (← room) h in k)
  where
    go : (y : Reading) → (r ≡ reply_of (read_of true y)) × Holds (read_of true y) b a → (r ≡ reply_of y) × Holds y b a
    go (whole g t) k = k
    go (rejected why) k = k

module _ (gs s : List ℕ) {r : TableReply} (answer : r ≡ reply_of (tables_of gs s)) where
  pub books_read : {b a : Slices} {c : Counts} → Holds (tables_of gs s) b a → r ≡ reply.Read c → BooksRead gs s b a c
  books_read {b} {a} {c} h e = go (tables_of gs s) refl answer h
    where
      go : (x : Reading) → tables_of gs s ≡ x → r ≡ reply_of x → Holds x b a → BooksRead gs s b a c
      go (whole g t) q k m = record { grammar = g; table = t; reads = q; counts_are = let z : c ≡ counts_of g t = cc in z; holds = m }
      go (rejected why) q k m = clash cc

  pub not_read : {why : Refusal} → r ≡ reply.Refused why → as_reply r ≡ reply_to (tables_of gs s)
  not_read {why} e = go (tables_of gs s) answer
    where
      go : (x : Reading) → r ≡ reply_of x → as_reply r ≡ reply_to x
      go (whole g t) k = clash cc
      go (rejected v) k = ap as_reply k

-- ---- what the reply makes of them
module _ (gs s : List ℕ) {v : Reply} (e : v ≡ reply_to (tables_of gs s)) where
  pub refused_by : {why : Refusal} → v ≡ Refused why → checked_of gs s ≡ rejected why
  unfolding checked_of
  refused_by {why} q = go (tables_of gs s) (sym e ∙ q)
    where
      go : (x : Reading) → reply_to x ≡ Refused why → checked x ≡ rejected why
      go (whole g t) k = ap (by_reply g t) k
      go (rejected w) k = let z : w ≡ why = cc in ap rejected z

  pub accepted_by : {n : ℕ} → v ≡ Accepted n → tables_of gs s ≡ checked_of gs s
  unfolding checked_of
  accepted_by {n} q = go (tables_of gs s) (sym e ∙ q)
    where
      go : (x : Reading) → reply_to x ≡ Accepted n → x ≡ checked x
      go (whole g t) k = sym (ap (by_reply g t) k)
      go (rejected w) k = clash cc

module _ {gs s : List ℕ} {b a : Slices} {c : Counts} (l : BooksRead gs s b a c) where
  read_sound : Sound l.grammar l.table
  read_sound = tables_sound gs s l.reads

  -- ---- what the check asks
  module _ (room : has_room b ≡ true) where
    pub read_sized : TableRoom a.items a.states a.kernels a.lookaheads a.kinds a.values a.gotos a.named
        (c.grammar.rules + c.entries) c.grammar.rules c.entries c.kernels
    read_sized = let S = read_sound in rw l.counts_are (sized l.holds room S.formed S.fits S.some_entry)

    pub read_given : Given l.grammar l.table a.items a.states a.kernels a.lookaheads a.kinds a.values a.gotos a.named c.grammar.rules c.entries
        c.kernels c.states (c.grammar.terminals + 1)
    read_given = let S = read_sound in rw (l.counts_are, add_one l.grammar.terminals) (given l.holds room S.formed S.fits)
      where
        add_one : (n : ℕ) → n + 1 ≡ suc n
        add_one n = omega arith

  pub read_low : (c.grammar.terminals ≤ 63) × (c.states ≤ 255)
  read_low = let S = read_sound in rw l.counts_are (S.formed.few_terminals, S.fits.few_states)

  pub read_goal : l.grammar.goal ≡ c.grammar.goal
  read_goal = rw l.counts_are refl

  pub read_checked : {v : Reply} → v ≡ table_verdict l.grammar l.table → v ≡ reply_to (tables_of gs s)
  read_checked e = e ∙ sym (ap reply_to l.reads)

-- ---- what a walk is promised, where the answer is that of books that are accepted
whole_of : (x : Reading) {r : TableReply} {c : Counts} → r ≡ reply_of x → r ≡ reply.Read c → (g : Grammar) × (t : Table) × (x ≡ whole g t) × (c ≡ counts_of g t)
whole_of (whole g t) {c = c} e f = (g, t, refl, (let q : c ≡ counts_of g t = cc in q))
whole_of (rejected why) e f = clash cc

module _ {gs s : List ℕ} {b a : Slices} (room : has_room b ≡ true) where
  loaded : {g : Grammar} {t : Table} → checked_of gs s ≡ whole g t → Holds (whole g t) b a → Loaded gs s a (counts_of g t)
  loaded {g} {t} q h =
      let S = accepted_sound gs s q in
      let M = held h room S.formed S.fits in
      let Z = sized h room S.formed S.fits S.some_entry in
      record {
        grammar = g;
        table = t;
        books = q;
        in_memory = record {
          meets = (accepted gs s q).meets;
          terminals_is = refl;
          holds_strings = strings_of M;
          holds_entries = M.holds_entries;
          holds_actions = M.holds_actions;
        };
        readable = record { shaped = Z.shaped; few_rules = Z.few_rules; few_strings = Z.few_strings; entries_room = Z.entries_room };
      }

  pub promised : {r : TableReply} → (r ≡ reply_of (checked_of gs s)) × Holds (checked_of gs s) b a
      → (r ≡ reply_of (checked_of gs s)) × (Holds (checked_of gs s) b a × ((c : Counts) → r ≡ reply.Read c → Loaded gs s a c))
  promised h = (
    h.0,
    (
      h.1,
      λ c e.
          let x = whole_of (checked_of gs s) h.0 e in
          subst (Loaded gs s a) (sym x.3) (loaded x.2 (subst (λ (y : Reading). Holds y b a) x.2 h.1)),
    ),
  )
