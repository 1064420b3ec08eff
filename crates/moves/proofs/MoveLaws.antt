-- What the tests of a move come to.
use Prim.Native.Nat.{ℕ, zero, suc, ◌+◌, ◌-◌, ◌*◌, ◌<◌, ◌≤◌}
use mathlib.Core.Path.{◌≡◌, refl, sym, ap, subst, ◌∙◌}
use mathlib.Core.Logic.{◌⊎◌, inl, inr, ⊎_elim}
use mathlib.Core.List.{List}
use native.Mathlib.Omega.{arith}
use borrow.Author.Tests.{lt-ltb, le-ltb, eq-eqb, ne_eqb}
use lib.ListN.{get_or, length, set, length-set}
use Rattle.items.specs.Layout.{length_at, mark_at, symbol_at}
use Rattle.fixpoint.specs.Flags.{On}
use Rattle.fixpoint.proofs.CountLaws.{on_set, only_set, keep_set}
use Rattle.memory.specs.Memory.{state_at, item_at, dot_at}
use Rattle.kernel_lines.specs.Lines.{LineAt}
use Rattle.moves.specs.Moves.{symbol_after, next_at, Present, HasAt, by_line, by_rule, MovedAt, moved, MovesOn, Flagged}

module _ (items : List ℕ) (i k : ℕ) where
  pub after_end : {n : ℕ} → n ≡ length_at items i → n ≤ k → 0 ≡ symbol_after items i k
  unfolding symbol_after
  after_end e l = simp (le-ltb k (length_at items i) (omega arith))

  pub after_mark : {n : ℕ} → k < length_at items i → n ≡ mark_at items i → n ≡ k → 0 ≡ symbol_after items i k
  unfolding symbol_after
  after_mark l e f = simp (lt-ltb k (length_at items i) l, eq-eqb (mark_at items i) k (sym e ∙ f))

  pub after_symbol : {n : ℕ} → k < length_at items i → n ≡ mark_at items i → (n ≡ k → ⊥) → symbol_at items i k ≡ symbol_after items i k
  unfolding symbol_after
  after_symbol l e f = simp (lt-ltb k (length_at items i) l, ne_eqb (mark_at items i) k (λ h. f (e ∙ h)))

module _ (kinds values gotos : List ℕ) (q X : ℕ) where
  pub next_goto : 64 ≤ X → get_or gotos (q * 64 + (X - 64)) 0 ≡ next_at kinds values gotos q X
  unfolding next_at
  next_goto l = simp (le-ltb X 64 l)

  pub next_none : X < 64 → (get_or kinds (q * 64 + X) 0 ≡ 1 → ⊥) → 0 ≡ next_at kinds values gotos q X
  unfolding next_at
  next_none l f = simp (lt-ltb X 64 l, ne_eqb (get_or kinds (q * 64 + X) 0) 1 f)

  pub next_shift : X < 64 → get_or kinds (q * 64 + X) 0 ≡ 1 → get_or values (q * 64 + X) 0 ≡ next_at kinds values gotos q X
  unfolding next_at
  next_shift l e = simp (lt-ltb X 64 l, eq-eqb (get_or kinds (q * 64 + X) 0) 1 e)

module _ (items kernels present : List ℕ) (rules lines : ℕ) where
  pub line_has : {q i k : ℕ} → LineAt kernels lines q i k → HasAt items kernels present rules lines q i k
  line_has l = by_line l

  pub rule_has : {q i k : ℕ} → k ≡ 0 → 1 ≤ i → i ≤ rules → Present items present i → HasAt items kernels present rules lines q i k
  rule_has {q} {i} e a b p = subst (λ (n : ℕ). HasAt items kernels present rules lines q i n) (sym e) (by_rule a b p)

  pub has_when : {q i k : ℕ} → HasAt items kernels present rules lines q i k → (LineAt kernels lines q i k → ⊥)
      → (k ≡ 0) × (1 ≤ i) × (i ≤ rules) × Present items present i
  has_when (by_line l) f = absurd (f l)
  has_when (by_rule a b p) f = (refl, a, b, p)

  one_less : (k : ℕ) → suc k - 1 ≡ k
  one_less k = omega arith

  pub came_yes : (q X i n : ℕ) → (n ≡ 0 → ⊥) → symbol_after items i (n - 1) ≡ X → HasAt items kernels present rules lines q i (n - 1)
      → MovedAt items kernels present rules lines q X i n
  came_yes q X i zero f a b = absurd (f refl)
  came_yes q X i (suc k) f a b =
      moved (subst (λ (m : ℕ). symbol_after items i m ≡ X) (one_less k) a) (subst (λ (m : ℕ). HasAt items kernels present rules lines q i m) (one_less k) b)

  pub came_more : {q X i n : ℕ} → MovedAt items kernels present rules lines q X i n → n ≡ 0 → ⊥
  came_more (moved a b) e = omega (arith, e)

  pub came_symbol : {q X i n : ℕ} → MovedAt items kernels present rules lines q X i n → symbol_after items i (n - 1) ≡ X
  came_symbol {X = X} {i = i} (moved {k = k} a b) = subst (λ (m : ℕ). symbol_after items i m ≡ X) (sym (one_less k)) a

  pub came_has : {q X i n : ℕ} → MovedAt items kernels present rules lines q X i n → HasAt items kernels present rules lines q i (n - 1)
  came_has {q = q} {i = i} (moved {k = k} a b) = subst (λ (m : ℕ). HasAt items kernels present rules lines q i m) (sym (one_less k)) b

  pub moved_to : {q X i j n m : ℕ} → i ≡ j → n ≡ m → MovedAt items kernels present rules lines q X i n → MovedAt items kernels present rules lines q X j m
  moved_to {q} {X} {i} {j} {n} {m} e f h =
      subst (λ (a : ℕ). MovedAt items kernels present rules lines q X a m) e (subst (λ (b : ℕ). MovedAt items kernels present rules lines q X i b) f h)

-- ---- flags
module _ {items kernels present : List ℕ} {rules lines q : ℕ} where
  pub flagged_start : {fs : List ℕ} → length fs ≡ 128 → Flagged items kernels present rules lines q fs fs
  flagged_start e = record { long = e; kept = λ X o. o; only = λ X o. inl o }

  pub flagged_more : {fs₀ fs fs' : List ℕ} {x : ℕ} → Flagged items kernels present rules lines q fs₀ fs → fs' ≡ set fs x 1 → x < 128
      → MovesOn items kernels present rules lines q x → Flagged items kernels present rules lines q fs₀ fs'
  flagged_more {fs₀} {fs} {fs'} {x} h e l m = subst (Flagged items kernels present rules lines q fs₀) (sym e) (record {
    long = length-set fs x 1 ∙ h.long;
    kept = λ X o. keep_set fs x (omega (arith, h.long)) X (h.kept X o);
    only = only_set (λ (X : ℕ). On fs₀ X ⊎ MovesOn items kernels present rules lines q X) fs x h.only (inr m);
  })

  pub flagged_join : {fs₀ fs fs' : List ℕ} → Flagged items kernels present rules lines q fs₀ fs → Flagged items kernels present rules lines q fs fs'
      → Flagged items kernels present rules lines q fs₀ fs'
  flagged_join {fs₀} h k = record
      { long = k.long; kept = λ X o. k.kept X (h.kept X o); only = λ X o. ⊎_elim (h.only X) inr (k.only X o) }

  pub line_moves : {l i k x : ℕ} → l < lines → state_at kernels l ≡ q → i ≡ item_at kernels l → k ≡ dot_at kernels l → x ≡ symbol_after items i k
      → MovesOn items kernels present rules lines q x
  line_moves {l} {i} {k} {x} lo e ei ek ex = record {
    item = i;
    dot = suc k;
    it_moves = moved (sym ex) (by_line (record { line = l; is_it = record { low = lo; state = e; item = sym ei; dot = sym ek } }));
  }

  pub rule_moves : {i x : ℕ} → 1 ≤ i → i ≤ rules → Present items present i → x ≡ symbol_after items i 0 → MovesOn items kernels present rules lines q x
  rule_moves {i} a b p ex = record { item = i; dot = 1; it_moves = moved (sym ex) (by_rule a b p) }

-- what was passed stays flagged
pub on_line : (items kernels fs : List ℕ) (l : ℕ) {i k x : ℕ} → length fs ≡ 128 → x < 128 → i ≡ item_at kernels l → k ≡ dot_at kernels l → x ≡ symbol_after items i k
    → On (set fs x 1) (symbol_after items (item_at kernels l) (dot_at kernels l))
on_line items kernels fs l {i} {k} {x} e b ei ek ex =
    subst (On (set fs x 1)) (ex ∙ (ap (λ (a : ℕ). symbol_after items a k) ei ∙ ap (symbol_after items (item_at kernels l)) ek)) (on_set fs x (omega arith))

pub on_rule : (items fs : List ℕ) (i : ℕ) {x : ℕ} → length fs ≡ 128 → x < 128 → x ≡ symbol_after items i 0 → On (set fs x 1) (symbol_after items i 0)
on_rule items fs i {x} e b ex = subst (On (set fs x 1)) ex (on_set fs x (omega arith))
