-- What comes of an entry line, by how it is read and judged; and what a line that is taken tells.
use Prim.Native.Nat.{ℕ, zero, suc, ◌+◌, ◌≤◌, ◌<◌}
use mathlib.Core.Path.{◌≡◌, refl, ap, ◌∙◌}
use mathlib.Core.List.{List, [], ◌∷◌}
use mathlib.Core.Bool.{Bool, true, false, ◌&&◌, ◌||◌}
use native.Mathlib.Numerals.{add-one}
use native.Mathlib.Omega.{arith}
use borrow.Author.Tests.{leb-true, eqb-true}
use lib.Dec.{leb, eqb}
use lib.ListN.{length, get_or, drop, length-drop}
use Rattle.language.proofs.TestLaws.{both_true}
use Rattle.range.specs.Range.{within}
use Rattle.range.proofs.RangeLaws.{within-true}
use Rattle.reply.specs.declared.Kind.{Kind}
use Rattle.reply.specs.declared.Kind.TheVariants as kind
use Rattle.symbol.specs.Symbol.{is_terminal, is_nonterminal, is_declared}
use Rattle.language.specs.Grammar.{Rule}
use Rattle.leftcorner.specs.Table.{EntryLine, E, entry_from}
use Rattle.table_order.specs.Order.{entry_follows}
use Rattle.items.proofs.LayoutLaws.{Fits}
use Rattle.table_lines.specs.declared.Judgement.TheVariants.{Fine, Faulty}
use Rattle.table_lines.specs.Line.{whole, broken, line_at, all_at_most, capped}
use Rattle.table_lines.specs.Block.{takes, fault}
use Rattle.table_lines.proofs.BlockLaws.{judge_fine}
use Rattle.table_entries.specs.Entries.{all_declared, judge_entry, entry_next}
use Rattle.table_entries.proofs.StringLaws.{symbol_at_lem}
use Rattle.table_entries.proofs.CapLaws.{SmallGroups, Small, entry_capped}

module _ (s : List ℕ) (t n : ℕ) (rs : List Rule) (states at : ℕ) (l : List EntryLine) where
  pub entry_broken : line_at s at ≡ broken → entry_next s t n rs states at l ≡ fault kind.Malformed at
  unfolding entry_next
  entry_broken e = simp e

  pub entry_taken : {letter : ℕ} {ns : List ℕ} {next : ℕ} → line_at s at ≡ whole letter ns next → judge_entry t n rs states l letter ns ≡ Fine
      → entry_next s t n rs states at l ≡ takes (E (get_or ns 0 0) (drop 1 ns)) next
  unfolding entry_next
  entry_taken e j = simp (e, j)

  -- by the numbers as memory keeps them
  module _ (groups : SmallGroups rs) (small : Small l) {letter : ℕ} {ns : List ℕ} {next : ℕ} (e : capped (line_at s at) ≡ whole letter ns next) where
    pub entry_refused : {k : Kind} → judge_entry t n rs states l letter ns ≡ Faulty k → entry_next s t n rs states at l ≡ fault k at
    entry_refused j = entry_capped s t n rs states at l groups small ∙ simp (e, j)

    pub entry_kept : judge_entry t n rs states l letter ns ≡ Fine → entry_next s t n rs states at l ≡ takes (E (get_or ns 0 0) (drop 1 ns)) next
    entry_kept j = entry_capped s t n rs states at l groups small ∙ simp (e, j)

-- ---- a line that is fine
pub record EntryFine (t n : ℕ) (rs : List Rule) (states : ℕ) (l : List EntryLine) (ns : List ℕ) : Type 0 where
  pub long : 2 ≤ length ns
  pub new : entry_from 1 l (drop 1 ns) ≡ 0
  pub in_order : entry_follows rs l (drop 1 ns) ≡ true
  pub short : length ns ≤ 16
  pub some_state : 1 ≤ get_or ns 0 0
  pub few_states : get_or ns 0 0 ≤ states
  pub declared : all_declared t n (drop 1 ns) ≡ true

pub entry_fine : (t n : ℕ) (rs : List Rule) (states : ℕ) (l : List EntryLine) (letter : ℕ) (ns : List ℕ) → judge_entry t n rs states l letter ns ≡ Fine → EntryFine t n rs states l ns
unfolding judge_entry
entry_fine t n rs states l letter ns e =
    let new = eqb (entry_from 1 l (drop 1 ns)) 0 in
    let in_order = entry_follows rs l (drop 1 ns) in
    let j = judge_fine (eqb letter 69 && (leb 2 (length ns) && (new && in_order))) (all_at_most 65535 ns && leb (length ns) 16)
    (within 1 (get_or ns 0 0) states && all_declared t n (drop 1 ns)) e in
    let f = both_true (leb 2 (length ns)) (new && in_order) (both_true (eqb letter 69) (leb 2 (length ns) && (new && in_order)) j.0).1 in
    let o = both_true new in_order f.1 in
    let d = both_true (within 1 (get_or ns 0 0) states) (all_declared t n (drop 1 ns)) j.2 in
    let w = within-true 1 (get_or ns 0 0) states d.0 in
    record {
      long = leb-true 2 (length ns) f.0;
      new = eqb-true (entry_from 1 l (drop 1 ns)) 0 o.0;
      in_order = o.1;
      short = leb-true (length ns) 16 (both_true (all_at_most 65535 ns) (leb (length ns) 16) j.1).1;
      some_state = w.0;
      few_states = w.1;
      declared = d.1;
    }

-- declared symbols are below 128
module _ (t n : ℕ) (few : t ≤ 63) (small : n ≤ 64) where
  pub declared_low : (X : ℕ) → is_declared t n X ≡ true → X < 128
  unfolding is_declared
  declared_low X e = go (is_terminal t X) refl e
    where
      go : (b : Bool) → is_terminal t X ≡ b → b || is_nonterminal n X ≡ true → X < 128
      go true p q = omega (arith, within-true 1 X t p)
      go false p q = omega (arith, within-true 64 X (63 + n) q)

  pub all_low : (γ : List ℕ) → all_declared t n γ ≡ true → (k : ℕ) → get_or γ k 0 < 128
  all_low [] e k = omega arith
  all_low (X ∷ γ) e zero = declared_low X (both_true (is_declared t n X) (all_declared t n γ) e).0
  all_low (X ∷ γ) e (suc k) = all_low γ (both_true (is_declared t n X) (all_declared t n γ) e).1 k

  pub fine_fits : {rs : List Rule} {states : ℕ} {l : List EntryLine} {ns : List ℕ} → EntryFine t n rs states l ns → Fits (drop 1 ns)
  fine_fits {ns = ns} f = (omega (arith, f.short, length-drop 1 ns), all_low (drop 1 ns) f.declared)

  -- each of the line's numbers fits a byte
  pub fine_low : {rs : List Rule} {states : ℕ} {l : List EntryLine} {ns : List ℕ} → states ≤ 255 → EntryFine t n rs states l ns → (k : ℕ) → get_or ns k 0 < 256
  fine_low h f zero = omega (arith, h, f.few_states)
  fine_low {ns = ns} h f (suc k) = omega (arith, symbol_at_lem ns k, all_low (drop 1 ns) f.declared k, ap (λ (j : ℕ). get_or ns j 0) (add-one k))
