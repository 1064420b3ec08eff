-- The promise (specs/Promise.antt), proved: a book that was read is the text of its table, and records in order make one table.
use Prim.Native.Nat.{ℕ}
use mathlib.Core.Path.{◌≡◌, refl, sym, ap, subst, ◌∙◌}
use mathlib.Core.List.{List, ◌∷◌, ◌++◌, append_assoc}
use Rattle.language.specs.Grammar.{Grammar}
use Rattle.language.specs.Sentence.{here}
use Rattle.language.proofs.Member.{in_right}
use Rattle.leftcorner.specs.Table.{Table}
use Rattle.std.specs.Prelude.{◌↔◌}
use Rattle.reply.specs.declared.Reply.TheVariants.{Accepted}
use Rattle.grammar.specs.Book.{accepted, grammar_of}
use Rattle.table_order.specs.Order.{kernel_key, action_key, use_key}
use Rattle.table_order.proofs.OrderLaws.{true_below, RisingBy, rising_once}
use Rattle.table.specs.Book.{whole, tables_of}
use Rattle.table_facts.specs.Sound.{Sound}
use Rattle.table_facts.proofs.Sound.{tables_sound, tables_grammar}
use Rattle.build_book.specs.Text.{table_text}
use Rattle.checker.specs.Checked.{verdict_of, Accepts}
use Rattle.checker.proofs.Exactly.{exactly}
use Rattle.canonical.specs.Promise.{Rises, Ordered, SameRecords, OrderPromise}
use Rattle.canonical.proofs.Book.{reads_text}
use Rattle.canonical.proofs.Torn.{torn}
use Rattle.canonical.proofs.Same.{same_table}

-- ---- in order
rises : {A : Type 0} (key : A → List ℕ) {l : List A} → RisingBy key l → Rises key l
rises key r before between after x y e =
    true_below (key x) (key y)
    (rising_once key (before ++ x ∷ between) y after (subst (RisingBy key) (e ∙ sym (append_assoc before (x ∷ between) (y ∷ after))) r) x (in_right before here))

in_order : {g : Grammar} {t : Table} → Sound g t → Ordered g t
in_order {g} r = record {
  kernels = rises kernel_key r.kernels_rise;
  actions = rises action_key r.actions_rise;
  entries = rises (use_key g.rules) r.entries_follow;
}

-- ---- a book gives one table, whichever books the grammar was read from
module _ (gs hs s : List ℕ) {g : Grammar} {t u : Table} (e : tables_of gs s ≡ whole g t) (f : tables_of hs s ≡ whole g u) where
  one_table : t ≡ u
  unfolding tables_of
  one_table =
      let same : tables_of gs s ≡ tables_of hs s = simp (tables_grammar gs s e, tables_grammar hs s f) in
      let q : whole g t ≡ whole g u = sym e ∙ (same ∙ f) in cc

same_records : (t : Table) → SameRecords t t
same_records t = record { states = refl; entries = λ x. same; kernels = λ x. same; actions = λ x. same }
  where
    same : {A : Type 0} → A ↔ A
    same = (λ a. a, λ a. a)

-- what an accepted book holds, of the grammar that its grammar book gives
accepted_table : (gs s : List ℕ) {g : Grammar} → grammar_of gs ≡ accepted g → verdict_of gs s ≡ Accepted 0 → (t : Table) × Accepts gs s g t
accepted_table gs s {g} e v =
    let r = (exactly gs s).0 v in
    let same : r.0 ≡ g = same_grammar (sym (tables_grammar gs s r.2.reads) ∙ e) in
    (r.1, subst (λ (h : Grammar). Accepts gs s h r.1) same r.2)
  where
    same_grammar : {h g : Grammar} → accepted h ≡ accepted g → h ≡ g
    same_grammar z = cc

-- ---- the promise
same_bytes : (gs hs s w : List ℕ) {g : Grammar} {t u : Table} → Accepts gs s g t → Accepts hs w g u → SameRecords t u ↔ (s ≡ w)
same_bytes gs hs s w {g} {t} {u} a b = (
  λ h.
      let same = same_table (tables_sound gs s a.reads) (tables_sound hs w b.reads) h a.meets b.meets in
      reads_text gs s a.reads ∙ (ap table_text same ∙ sym (reads_text hs w b.reads)),
  λ q. subst (SameRecords t) (one_table gs hs s a.reads (subst (λ (x : List ℕ). tables_of hs x ≡ whole g u) (sym q) b.reads)) (same_records t),
)

pub order_promise : OrderPromise
order_promise = record {
  torn = torn;
  ordered = λ gs s g t e. in_order (tables_sound gs s e);
  written = λ gs s g t e. reads_text gs s e;
  same_bytes = λ g gs hs s w e f v r.
      let a = accepted_table gs s e v in
      let b = accepted_table hs w f r in
      (a.0, b.0, a.1, b.1, same_bytes gs hs s w a.1 b.1);
}
