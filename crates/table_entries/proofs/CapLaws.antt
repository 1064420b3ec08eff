-- An entry line comes to the same by its numbers as memory keeps them.
use Prim.Native.Nat.{ℕ, zero, suc, ◌+◌, ◌≤◌, ◌<◌}
use mathlib.Core.Path.{◌≡◌, refl, ap, ap₂, subst}
use mathlib.Core.List.{List, [], ◌∷◌}
use mathlib.Core.Bool.{Bool, true, cond, not, ◌&&◌, ◌||◌}
use mathlib.Core.Option.{some}
use native.Mathlib.Omega.{arith}
use borrow.Author.Tests.{le-leb, leb-true}
use lib.Dec.{leb, ltb, eqb}
use lib.ListN.{length, get_or, drop}
use Rattle.language.proofs.TestLaws.{both_true}
use Rattle.range.specs.Range.{within}
use Rattle.reply.specs.declared.Kind.TheVariants as kind
use Rattle.language.specs.Grammar.{Rule, at}
use Rattle.language.specs.Sentence.{In, here, there}
use Rattle.leftcorner.specs.Table.{EntryLine, E, same_string, entry_from}
use Rattle.items.specs.Layout.{EntryIn, Shaped}
use Rattle.table_order.specs.Order.{follows, groups_in, use_from, group_lines, use_key, entry_follows}
use Rattle.table_lines.specs.Line.{line_at, on_line, all_at_most, caps, capped}
use Rattle.table_lines.specs.Block.{judged, fault}
use Rattle.table_lines.proofs.CapLaws.{caps-length, caps-drop, cap-eqb, judged-caps, line_caps}
use Rattle.table_entries.specs.Entries.{all_declared, judge_entry, entry_next}
use Rattle.table_entries.specs.Memory.{Rows}

-- the strings of earlier lines have no number above 65535
abbrev pub Small : List EntryLine → Type 0
Small [] = Unit {0}
Small (E s γ ∷ l) = (all_at_most 65535 γ ≡ true) × Small l

string_caps : (γ δ : List ℕ) → all_at_most 65535 γ ≡ true → same_string γ (caps δ) ≡ same_string γ δ
string_caps [] [] e = refl
string_caps [] (y ∷ δ) e = refl
string_caps (x ∷ γ) [] e = refl
string_caps (x ∷ γ) (y ∷ δ) e =
    let b = both_true (leb x 65535) (all_at_most 65535 γ) e in
    ap₂ (λ (p q : Bool). p && q) (cap-eqb x y (leb-true x 65535 b.0)) (string_caps γ δ b.1)

entry_caps : (k : ℕ) (l : List EntryLine) → Small l → (δ : List ℕ) → entry_from k l (caps δ) ≡ entry_from k l δ
entry_caps k [] h δ = refl
entry_caps k (E s γ ∷ l) h δ = ap₂ (λ (b : Bool) (n : ℕ). cond b k n) (string_caps γ δ h.0) (entry_caps (suc k) l h.1 δ)

-- the groups have none either
abbrev pub SmallGroups : List Rule → Type 0
SmallGroups rs = (δ : List ℕ) → In δ (groups_in rs) → all_at_most 65535 δ ≡ true

use_caps : (k : ℕ) (δs : List (List ℕ)) → ((δ : List ℕ) → In δ δs → all_at_most 65535 δ ≡ true) → (γ : List ℕ) → use_from k δs (caps γ) ≡ use_from k δs γ
use_caps k [] f γ = refl
use_caps k (δ ∷ δs) f γ =
    ap₂ (λ (b : Bool) (n : ℕ). cond b k n) (string_caps δ γ (f δ here)) (use_caps (suc k) δs (λ ε m. f ε (there m)) γ)

follows_caps : (rs : List Rule) (l : List EntryLine) → SmallGroups rs → (γ : List ℕ) → entry_follows rs l (caps γ) ≡ entry_follows rs l γ
follows_caps rs [] f γ = refl
follows_caps rs (x ∷ l) f γ = ap (λ (u : ℕ). not (ltb 0 u) || follows (use_key rs) (group_lines rs l) (u ∷ [])) (use_caps 1 (groups_in rs) f γ)

pub entry_capped : (s : List ℕ) (t n : ℕ) (rs : List Rule) (states at : ℕ) (l : List EntryLine) → SmallGroups rs → Small l
    → entry_next s t n rs states at l
    ≡ on_line (capped (line_at s at)) (λ letter ns next. judged (judge_entry t n rs states l letter ns) at (E (get_or ns 0 0) (drop 1 ns)) next) (fault kind.Malformed at)
unfolding entry_next judge_entry
entry_capped s t n rs states at l f h =
    line_caps (λ letter ns next. judged (judge_entry t n rs states l letter ns) at (E (get_or ns 0 0) (drop 1 ns)) next) (fault kind.Malformed at)
    (λ letter ns next. judged-caps
    (λ m. eqb letter 69 && (leb 2 (length m) && (eqb (entry_from 1 l (drop 1 m)) 0 && entry_follows rs l (drop 1 m))))
    (λ m. all_at_most 65535 m && leb (length m) 16)
    (λ m. within 1 (get_or m 0 0) states && all_declared t n (drop 1 m))
    (λ m e. simp e) (λ m. E (get_or m 0 0) (drop 1 m)) at next ns
    (simp (caps-length ns, caps-drop 1 ns, entry_caps 1 l h (drop 1 ns), follows_caps rs l f (drop 1 ns))))
    (line_at s at)

-- ---- the strings in memory are of symbols
pub all_low : (γ : List ℕ) → ((k : ℕ) → k < length γ → get_or γ k 0 ≤ 65535) → all_at_most 65535 γ ≡ true
all_low [] f = refl
all_low (x ∷ γ) f = simp (le-leb x 65535 (f zero (omega arith)), all_low γ (λ k l. f (suc k) (omega (arith, l))))

pub rows_small : {m : List ℕ} {rules : ℕ} {l : List EntryLine} → Rows m rules l → Shaped m (rules + length l) → Small l
rows_small {m} {rules} {l} r s = go 0 l (λ k q γ e. subst (λ (n : ℕ). EntryIn m n γ) (first k) (r.row_in k e)) (omega arith)
  where
    first : (k : ℕ) → suc (rules + k) ≡ suc (rules + (0 + k))
    first k = omega arith

    go : (j : ℕ) (es : List EntryLine) → ((k q : ℕ) (γ : List ℕ) → at es k ≡ some (E q γ) → EntryIn m (suc (rules + (j + k))) γ) → j + length es ≤ length l → Small es
    go j [] f b = tt
    go j (E q γ ∷ es) f b = (
      all_low γ (λ k h.
          let i = f zero q γ refl in
          let n = s.lengths (suc (rules + (j + zero))) (omega (arith, b)) in
          omega (arith, i.symbol_is k (omega (arith, h, n, i.length_is)), s.symbols (suc (rules + (j + zero))) k (omega (arith, b)) (omega (arith, h, n, i.length_is)))),
      go (suc j) es (λ k p δ e. subst (λ (n : ℕ). EntryIn m n δ) (next k) (f (suc k) p δ e)) (omega (arith, b)),
    )
      where
        next : (k : ℕ) → suc (rules + (j + suc k)) ≡ suc (rules + (suc j + k))
        next k = omega arith
