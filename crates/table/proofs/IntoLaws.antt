-- Both books: what comes of them, and what the slices hold.
use Prim.Native.Nat.{ℕ, ◌≤◌, ◌<◌}
use mathlib.Core.Path.{◌≡◌, refl, sym, ap, ◌∙◌}
use mathlib.Core.List.{List}
use mathlib.Core.Bool.{true, false}
use native.Mathlib.Omega.{arith}
use borrow.Author.Tests.{lt-ltb, le-ltb, le-leb, leb-true}
use lib.Dec.{leb}
use lib.ListN.{length, replicate}
use Rattle.language.proofs.TestLaws.{both_true}
use Rattle.language.specs.Grammar.{Grammar}
use Rattle.reply.specs.declared.Kind.TheVariants as kind
use Rattle.reply.specs.declared.Refusal.{Refusal}
use Rattle.items.specs.Layout.{layout}
use Rattle.grammar.specs.Book as grammar
use Rattle.grammar.proofs.IntoLaws.{cleared_length, zeros_again}
use Rattle.grammar.proofs.GrammarLaws.{accepted_reduced}
use Rattle.table.specs.declared.TableReply.{TableReply}
use Rattle.table.specs.declared.TableReply.TheVariants as reply
use Rattle.table.specs.declared.Counts.{Counts}
use Rattle.table.specs.Book.{Reading, whole, rejected, rejected_at, table_of, tables_of, read_of}
use Rattle.table_blocks.specs.Memory.{GrammarOnly}
use Rattle.table.specs.Memory.{reply_of, Slices, slices, room_for, has_room, SlicesRoom, ZeroSlices, Holds, Fills, filled_with, denied}

module _ (gs s : List ℕ) where
  pub too_long_lem : 65536 < length s → tables_of gs s ≡ rejected_at kind.LimitExceeded 0
  unfolding tables_of
  too_long_lem h = simp (lt-ltb 65536 (length s) h)

  module _ (h : length s ≤ 65536) where
    pub no_grammar : {why : Refusal} → grammar.grammar_of gs ≡ grammar.rejected why → tables_of gs s ≡ rejected why
    unfolding tables_of
    no_grammar e = simp (le-ltb 65536 (length s) h, e)

    pub with_grammar : {g : Grammar} → grammar.grammar_of gs ≡ grammar.accepted g → tables_of gs s ≡ table_of g s
    unfolding tables_of
    with_grammar e = simp (le-ltb 65536 (length s) h, e)

pub blank_now : (gs : List ℕ) {g : Grammar} {i j st ks ls c v o n : List ℕ} → grammar.grammar_of gs ≡ grammar.accepted g → ZeroSlices (slices i st ks ls c v o n)
    → j ≡ layout g (length j) → length j ≡ length i → GrammarOnly g (slices j st ks ls c v o n)
blank_now gs {g} a w e l = record {
  formed = (accepted_reduced gs g a).formed;
  items_are = e;
  cleared = record {
    states_none = w.cleared.states_none;
    kernels_none = w.cleared.kernels_none;
    lookaheads_none = w.cleared.lookaheads_none;
    kinds_none = w.cleared.kinds_none;
    values_none = w.cleared.values_none;
    gotos_none = w.cleared.gotos_none;
    named_none = w.cleared.named_none;
  };
  room = omega (arith, w.room, l);
}

-- ---- slices of the same lengths
pub record Alike (b c : Slices) : Type 0 where
  pub items_same : length b.items ≡ length c.items
  pub states_same : length b.states ≡ length c.states
  pub kernels_same : length b.kernels ≡ length c.kernels
  pub lookaheads_same : length b.lookaheads ≡ length c.lookaheads
  pub kinds_same : length b.kinds ≡ length c.kinds
  pub values_same : length b.values ≡ length c.values
  pub gotos_same : length b.gotos ≡ length c.gotos
  pub named_same : length b.named ≡ length c.named

alike_alike : {b c d : Slices} → Alike b c → Alike c d → Alike b d
alike_alike s t = record {
  items_same = s.items_same ∙ t.items_same;
  states_same = s.states_same ∙ t.states_same;
  kernels_same = s.kernels_same ∙ t.kernels_same;
  lookaheads_same = s.lookaheads_same ∙ t.lookaheads_same;
  kinds_same = s.kinds_same ∙ t.kinds_same;
  values_same = s.values_same ∙ t.values_same;
  gotos_same = s.gotos_same ∙ t.gotos_same;
  named_same = s.named_same ∙ t.named_same;
}

pub holds_alike : {x : Reading} {b c a : Slices} → Alike b c → Holds x b a → Holds x c a
holds_alike s h = record {
  items_are = rw (← s.items_same) h.items_are;
  states_are = rw (← s.states_same) h.states_are;
  kernels_are = rw (← s.kernels_same) h.kernels_are;
  lookaheads_are = rw (← s.lookaheads_same) h.lookaheads_are;
  kinds_are = rw (← s.kinds_same) h.kinds_are;
  values_are = rw (← s.values_same) h.values_are;
  gotos_are = rw (← s.gotos_same) h.gotos_are;
  named_are = rw (← s.named_same) h.named_are;
}

pub fills_alike : {b c a : Slices} {x : Reading} {r : TableReply} → Alike b c → Fills b a x r → Fills c a x r
fills_alike s (filled_with h) = filled_with (holds_alike s h)
fills_alike s denied = denied

-- ---- the answer
fills_refused : {b a : Slices} {x : Reading} {r : TableReply} {why : Refusal} → Fills b a x r → r ≡ reply.Refused why → x ≡ rejected why
fills_refused (filled_with h) e = let z : ◌≡◌ {A = ℕ} 0 1 = cc in absurd (omega arith)
fills_refused {why = why} (denied {why = v}) e = let q : v ≡ why = cc in ap rejected q

pub fills_reply : {b a : Slices} {x : Reading} {r : TableReply} → Fills b a x r → r ≡ reply_of x
fills_reply (filled_with h) = refl
fills_reply denied = refl

fills_read : {b a : Slices} {x : Reading} {r : TableReply} {k : Counts} → Fills b a x r → r ≡ reply.Read k → (r ≡ reply_of x) × Holds x b a
fills_read (filled_with h) e = (refl, h)
fills_read denied e = let z : ◌≡◌ {A = ℕ} 0 1 = cc in absurd (omega arith)

-- a refusal, with every slice zeros
pub record AllZero (b a : Slices) : Type 0 where
  pub items_zero : a.items ≡ replicate (length b.items) 0
  pub states_zero : a.states ≡ replicate (length b.states) 0
  pub kernels_zero : a.kernels ≡ replicate (length b.kernels) 0
  pub lookaheads_zero : a.lookaheads ≡ replicate (length b.lookaheads) 0
  pub kinds_zero : a.kinds ≡ replicate (length b.kinds) 0
  pub values_zero : a.values ≡ replicate (length b.values) 0
  pub gotos_zero : a.gotos ≡ replicate (length b.gotos) 0
  pub named_zero : a.named ≡ replicate (length b.named) 0

zero_same : {b a : Slices} → AllZero b a → Alike a b
zero_same {b} z = record {
  items_same = cleared_length (length b.items) z.items_zero;
  states_same = cleared_length (length b.states) z.states_zero;
  kernels_same = cleared_length (length b.kernels) z.kernels_zero;
  lookaheads_same = cleared_length (length b.lookaheads) z.lookaheads_zero;
  kinds_same = cleared_length (length b.kinds) z.kinds_zero;
  values_same = cleared_length (length b.values) z.values_zero;
  gotos_same = cleared_length (length b.gotos) z.gotos_zero;
  named_same = cleared_length (length b.named) z.named_zero;
}

zero_alike : {b c a : Slices} → Alike b c → AllZero b a → AllZero c a
zero_alike s z = record {
  items_zero = rw (← s.items_same) z.items_zero;
  states_zero = rw (← s.states_same) z.states_zero;
  kernels_zero = rw (← s.kernels_same) z.kernels_zero;
  lookaheads_zero = rw (← s.lookaheads_same) z.lookaheads_zero;
  kinds_zero = rw (← s.kinds_same) z.kinds_zero;
  values_zero = rw (← s.values_same) z.values_zero;
  gotos_zero = rw (← s.gotos_same) z.gotos_zero;
  named_zero = rw (← s.named_same) z.named_zero;
}

pub holds_zero : {x : Reading} {b a : Slices} {why : Refusal} → x ≡ rejected why → AllZero b a → (reply.Refused why ≡ reply_of x) × Holds x b a
holds_zero e z = rw e (
  refl,
  record {
    items_are = z.items_zero;
    states_are = z.states_zero;
    kernels_are = z.kernels_zero;
    lookaheads_are = z.lookaheads_zero;
    kinds_are = z.kinds_zero;
    values_are = z.values_zero;
    gotos_are = z.gotos_zero;
    named_are = z.named_zero;
  },
)

-- slices b, cleared to c and read into, are d: as they are where the books are read, and cleared once more where they are refused
pub cleared_read : {b c d : Slices} {x : Reading} {r : TableReply} {k : Counts} → Fills c d x r → r ≡ reply.Read k → AllZero b c → (r ≡ reply_of x) × Holds x b d
cleared_read f e z = let h = fills_read f e in (h.0, holds_alike (zero_same z) h.1)

pub cleared_refused : {b c d a : Slices} {x : Reading} {r : TableReply} {why : Refusal} → Fills c d x r → r ≡ reply.Refused why → AllZero b c → Alike d c → AllZero d a
    → (reply.Refused why ≡ reply_of x) × Holds x b a
cleared_refused f e z s y = holds_zero (fills_refused f e) (zero_alike (alike_alike s (zero_same z)) y)

-- ---- slices too short, or not
pub short_read : (x : Reading) {k : Counts} {r : TableReply} → r ≡ reply_of x → r ≡ reply.Read k → reply.Refused (record { kind = kind.BufferTooSmall; place = 0 }) ≡ reply_of (read_of false x)
short_read x {k} {r} e q = go x (sym e ∙ q)
  where
    go : (x : Reading) → reply_of x ≡ reply.Read k → reply.Refused (record { kind = kind.BufferTooSmall; place = 0 }) ≡ reply_of (read_of false x)
    go (whole g t) p = refl
    go (rejected why) p = let z : ◌≡◌ {A = ℕ} 0 1 = cc in absurd (omega arith)

pub short_refused : (x : Reading) {why : Refusal} {r : TableReply} → r ≡ reply_of x → r ≡ reply.Refused why → reply.Refused why ≡ reply_of (read_of false x)
short_refused x {why} {r} e q = go x (sym e ∙ q)
  where
    go : (x : Reading) → reply_of x ≡ reply.Refused why → reply.Refused why ≡ reply_of (read_of false x)
    go (whole g t) p = let z : ◌≡◌ {A = ℕ} 0 1 = cc in absurd (omega arith)
    go (rejected v) p = sym p

short_rejected : (x : Reading) → (why : Refusal) × (read_of false x ≡ rejected why)
short_rejected (whole g t) = (record { kind = kind.BufferTooSmall; place = 0 }, refl)
short_rejected (rejected why) = (why, refl)

pub short_holds : (x : Reading) {b a : Slices} {r : TableReply} → has_room b ≡ false → r ≡ reply_of (read_of false x) → AllZero b a
    → (r ≡ reply_of (read_of (has_room b) x)) × Holds (read_of (has_room b) x) b a
short_holds x e q z = rw e (q, (holds_zero (short_rejected x).1 z).1)

pub room_holds : (x : Reading) {b a : Slices} {r : TableReply} → has_room b ≡ true → (r ≡ reply_of x) × Holds x b a → (r ≡ reply_of (read_of (has_room b) x)) × Holds (read_of (has_room b) x) b a
room_holds x {b} {a} {r} e h = rw (e, same x) h
  where
    same : (x : Reading) → read_of true x ≡ x
    same (whole g t) = refl
    same (rejected why) = refl

pub rooms_tell : (b : Slices) → has_room b ≡ true → SlicesRoom b
unfolding room_for
rooms_tell b e =
    let a = both_true (leb 16640 (length b.items)) _ e in
    let s = both_true (leb 256 (length b.states)) _ a.1 in
    let k = both_true (leb 4096 (length b.kernels)) _ s.1 in
    let l = both_true (leb 65536 (length b.lookaheads)) _ k.1 in
    let c = both_true (leb 16640 (length b.kinds)) _ l.1 in
    let v = both_true (leb 16640 (length b.values)) _ c.1 in
    let g = both_true (leb 16640 (length b.gotos)) _ v.1 in
    record {
      items_room = leb-true 16640 (length b.items) a.0;
      states_room = leb-true 256 (length b.states) s.0;
      kernels_room = leb-true 4096 (length b.kernels) k.0;
      lookaheads_room = leb-true 65536 (length b.lookaheads) l.0;
      kinds_room = leb-true 16640 (length b.kinds) c.0;
      values_room = leb-true 16640 (length b.values) v.0;
      gotos_room = leb-true 16640 (length b.gotos) g.0;
      named_room = leb-true 256 (length b.named) g.1;
    }

pub has_room_lem : (b : Slices) → SlicesRoom b → has_room b ≡ true
unfolding room_for
has_room_lem b r =
    simp (
      le-leb 16640 (length b.items) r.items_room,
      le-leb 256 (length b.states) r.states_room,
      le-leb 4096 (length b.kernels) r.kernels_room,
      le-leb 65536 (length b.lookaheads) r.lookaheads_room,
      le-leb 16640 (length b.kinds) r.kinds_room,
      le-leb 16640 (length b.values) r.values_room,
      le-leb 16640 (length b.gotos) r.gotos_room,
      le-leb 256 (length b.named) r.named_room,
    )

-- cleared, they are ready for the books
pub wiped_now : (b : Slices) {c : Slices} → has_room b ≡ true → AllZero b c → ZeroSlices c
wiped_now b e z = let r = rooms_tell b e in
    let s = zero_same z in
    record {
      items_none = zeros_again (length b.items) z.items_zero;
      cleared = record {
        states_none = zeros_again (length b.states) z.states_zero;
        kernels_none = zeros_again (length b.kernels) z.kernels_zero;
        lookaheads_none = zeros_again (length b.lookaheads) z.lookaheads_zero;
        kinds_none = zeros_again (length b.kinds) z.kinds_zero;
        values_none = zeros_again (length b.values) z.values_zero;
        gotos_none = zeros_again (length b.gotos) z.gotos_zero;
        named_none = zeros_again (length b.named) z.named_zero;
      };
      room = omega (arith, r.items_room, s.items_same);
    }
