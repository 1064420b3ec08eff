-- What memory says of the items that a state has, and of those that move from it, is so.
use Prim.Native.Nat.{ℕ, ◌+◌, ◌-◌, ◌≤◌, ◌<◌}
use mathlib.Core.Path.{◌≡◌, ap, subst, ◌∙◌}
use mathlib.Core.Logic.{◌⊎◌, inl, inr}
use mathlib.Core.List.{List}
use mathlib.Core.Option.{some}
use native.Mathlib.Omega.{arith}
use lib.ListN.{replicate}
use Rattle.language.specs.Grammar.{Grammar, Rule, rule_at}
use Rattle.language.proofs.GrammarLaws.{rule_range, range_rule}
use Rattle.leftcorner.specs.Table.{Table}
use Rattle.leftcorner.specs.Construction.{Has, in_kernel, MovedBy}
use Rattle.leftcorner.specs.Construction as construction
use Rattle.items.specs.Layout.{left_at}
use Rattle.fixpoint.proofs.PassLaws.{all_off}
use Rattle.fixpoint.specs.Flags.{On}
use Rattle.memory.specs.Memory.{state_at, item_at, dot_at}
use Rattle.memory.specs.Held.{HoldsTable}
use Rattle.closure.specs.Expansion.{Expanded, HasBy, of_kernel, of_rule, has_by, by_has}
use Rattle.kernel_lines.specs.Lines.{LineAt}
use Rattle.kernel_lines.proofs.HeldLaws.{line_of, kernel_of}
use Rattle.moves.specs.Moves.{symbol_after, Present, HasAt, by_line, by_rule, MovedAt, moved, MovesOn, Flagged}
use Rattle.moves.specs.Flags.{HoldsPresent, HoldsMoves}
use Rattle.moves.proofs.MoveLaws.{flagged_join}
use Rattle.moves.proofs.RowLaws.{DeclaredItem, row_of, symbol_of_goes, goes_of_symbol}

module _ (g : Grammar) (t : Table) {items entries kernels lookaheads kinds values gotos : List ℕ} {rules strings lines : ℕ}
    (H : HoldsTable g t items entries kernels lookaheads kinds values gotos rules strings lines) where
  module _ {q : ℕ} {present : List ℕ} (P : HoldsPresent g t q present) where
    pub item_declared : {i k : ℕ} → Has g t q i k → DeclaredItem g t H i
    item_declared h = go (has_by g t h)
      where
        go : {i k : ℕ} → HasBy g t q i k → DeclaredItem g t H i
        go {i} (of_kernel {k = k} {σ = σ} m) = H.fits.form.item_declared q i k σ m
        go (of_rule {r = r} e x) = inl (r, e)

    present_at : {i : ℕ} {r : Rule} → rule_at g i ≡ some r → Expanded g t q r.left → Present items present i
    present_at {i} {r} e x =
        let w = (H.holds_items.rule_row i e).left_is in
        let f = (H.formed.formed i e).left_declared in
        let n = H.formed.few_nonterminals in
        let z : r.left ≡ 64 + (left_at items i - 64) = omega (arith, w, f.0) in
        record {
          nonterminal = omega (arith, w, f.0);
          flagged = P.every (left_at items i - 64) (omega (arith, w, f.1, n)) (subst (Expanded g t q) z x);
        }

    expanded_at : {i : ℕ} {r : Rule} → rule_at g i ≡ some r → Present items present i → Expanded g t q r.left
    expanded_at {i} {r} e p =
        let w = (H.holds_items.rule_row i e).left_is in
        let f = (H.formed.formed i e).left_declared in
        let n = H.formed.few_nonterminals in
        let z : 64 + (left_at items i - 64) ≡ r.left = omega (arith, w, f.0) in
        subst (Expanded g t q) z (P.only (left_at items i - 64) (omega (arith, w, f.1, n)) p.flagged)

    pub has_at : {i k : ℕ} → Has g t q i k → HasAt items kernels present rules lines q i k
    has_at h = go (has_by g t h)
      where
        go : {i k : ℕ} → HasBy g t q i k → HasAt items kernels present rules lines q i k
        go (of_kernel m) = by_line (line_of g t H.holds_kernels H.line_count m)
        go (of_rule e x) = let r = rule_range g _ e in by_rule r.0 (omega (arith, r.1, H.rule_count)) (present_at e x)

    pub has_of : {i k : ℕ} → HasAt items kernels present rules lines q i k → Has g t q i k
    has_of (by_line l) = in_kernel (kernel_of g t H.holds_kernels H.line_count l).1
    has_of {i} (by_rule a b p) = let r = range_rule g i a (omega (arith, H.rule_count)) in by_has g t (of_rule r.1 (expanded_at r.1 p))

    pub moved_at : {X i n : ℕ} → MovedBy g t q X i n → MovedAt items kernels present rules lines q X i n
    moved_at (construction.moved h go) = moved (symbol_of_goes g t H (row_of g t H (item_declared h)) go).0 (has_at h)

    pub moved_of : {X i n : ℕ} → (X ≡ 0 → ⊥) → MovedAt items kernels present rules lines q X i n → MovedBy g t q X i n
    moved_of f (moved {k = k} e h) = construction.moved (has_of h) (goes_of_symbol g t H k (row_of g t H (item_declared (has_of h))) e f).1

    -- the symbol that something moves on
    pub moved_low : {X i n : ℕ} → MovedBy g t q X i n → (1 ≤ X) × (X < 128)
    moved_low (construction.moved h go) = (symbol_of_goes g t H (row_of g t H (item_declared h)) go).1

    -- the flags of q's lines and rules, from none on, are those of what moves
    pub flags_hold : {fs₀ fs fs' : List ℕ} → fs₀ ≡ replicate 128 0 → Flagged items kernels present rules lines q fs₀ fs
        → ((l : ℕ) → l < lines → state_at kernels l ≡ q → On fs (symbol_after items (item_at kernels l) (dot_at kernels l)))
        → Flagged items kernels present rules lines q fs fs'
        → ((i : ℕ) → 1 ≤ i → i < rules + 1 → Present items present i → On fs' (symbol_after items i 0)) → HoldsMoves g t q fs'
    flags_hold {fs₀} {fs} {fs'} none a lines_on b rules-on = record { only = λ X l o. only_it X l ((flagged_join a b).only X o); every = λ X i n m. every_it (moved_at m) }
      where
        only_it : (X : ℕ) → 1 ≤ X → On fs₀ X ⊎ MovesOn items kernels present rules lines q X → (i : ℕ) × (n : ℕ) × MovedBy g t q X i n
        only_it X l (inl o) = all_off 128 none o
        only_it X l (inr m) = (m.item, m.dot, moved_of (λ e. omega (arith, e)) m.it_moves)

        from_line : {X i k : ℕ} → symbol_after items i k ≡ X → LineAt kernels lines q i k → On fs' X
        from_line {X} {i} {k} e l =
            b.kept X (subst (On fs) (ap (λ (j : ℕ). symbol_after items j (dot_at kernels l.line)) l.is_it.item ∙ (ap (symbol_after items i) l.is_it.dot ∙ e))
            (lines_on l.line l.is_it.low l.is_it.state))

        every_it : {X i n : ℕ} → MovedAt items kernels present rules lines q X i n → On fs' X
        every_it (moved e (by_line l)) = from_line e l
        every_it {i = i} (moved e (by_rule l h p)) = subst (On fs') e (rules-on i l (omega arith) p)
