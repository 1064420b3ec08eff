-- The rows of flags of a state's items are those of their lookaheads.
use Prim.Native.Nat.{ℕ, suc, ◌+◌, ◌*◌, ◌-◌, ◌≤◌, ◌<◌}
use mathlib.Core.Path.{◌≡◌, refl, sym, subst, subst₂}
use mathlib.Core.Logic.{inl}
use mathlib.Core.List.{List}
use mathlib.Core.Option.{some}
use native.Mathlib.Omega.{arith}
use Rattle.language.specs.Grammar.{Grammar, Rule, rule_at}
use Rattle.language.proofs.GrammarLaws.{rule_range, range_rule}
use Rattle.language.specs.WellFormed.{WellFormed}
use Rattle.leftcorner.specs.Table.{Table}
use Rattle.leftcorner.specs.Construction.{Carries}
use Rattle.leftcorner.proofs.Closure.{has_of}
use Rattle.items.specs.Layout.{left_at}
use Rattle.fixpoint.specs.Flags.{On}
use Rattle.memory.specs.Memory.{item_at, dot_at}
use Rattle.memory.specs.Held.{HoldsTable}
use Rattle.analysis.specs.FirstBy.{FirstBy, first_low}
use Rattle.closure.specs.Expansion.{Follows, CarriesBy, of_kernel, of_rule, carries_by, by_carries, HoldsClosure}
use Rattle.closure.specs.InMemory.{DeclaredItem, InMemory}
use Rattle.closure.proofs.ItemLaws.{line_of, line_at}
use Rattle.closure.proofs.ReachLaws.{carries_low}
use Rattle.closure.proofs.UseLaws.{in_memory}
use Rattle.item_first.specs.Rows.{RowOf}
use Rattle.item_first.specs.Rows as rows

-- a row of the item's lookaheads that has code d
pub record Carried (items kernels lookaheads present follow : List ℕ) (rules lines codes q i k d : ℕ) : Type 0 where
  pub from : List ℕ
  pub start : ℕ
  pub row : RowOf items kernels lookaheads present follow rules lines q i k from start
  pub low : d < codes
  pub on : On from (start + d)

-- ---- a grammar and kernel lines in memory
module _ (g : Grammar) (t : Table) {items kernels lookaheads : List ℕ} {rules lines codes : ℕ} (M : InMemory items kernels lookaheads rules lines codes g t) where
  pub row_item : {present follow from : List ℕ} {q i k start : ℕ} → RowOf items kernels lookaheads present follow rules lines q i k from start → DeclaredItem g t i
  row_item {q = q} (rows.of_line l low e) =
      let r = line_at g t M.holds_kernels M.line_count (record { within = low; state = e; item = refl; dot = refl }) in
      M.item_declared q (item_at kernels l) (dot_at kernels l) r.0 r.1
  row_item (rows.of_rule i a b p) = inl (range_rule g i a (omega (arith, M.rule_count)))

  module _ (W : WellFormed g) (few : codes ≤ 64) (nul fst : List ℕ) {q : ℕ} {present follow : List ℕ} (C : HoldsClosure g t (FirstBy codes nul fst) q present follow) where
    left_at_lem : (i : ℕ) {r : Rule} → rule_at g i ≡ some r → (64 ≤ left_at items i) × (left_at items i - 64 < 64) × (64 + (left_at items i - 64) ≡ r.left)
    left_at_lem i e =
        let w = (M.holds_items.rule_row i e).left_is in
        let f = (W.formed i e).left_declared in
        let n = W.few_nonterminals in
        (omega (arith, w, f.0), omega (arith, w, f.1, n), omega (arith, w, f.0))

    pub row_in : {i k start d : ℕ} {from : List ℕ} → RowOf items kernels lookaheads present follow rules lines q i k from start → d < codes → On from (start + d)
        → Carries g t (FirstBy codes nul fst) q i k d
    row_in {d = d} (rows.of_line l low e) ld on =
        let r = line_at g t M.holds_kernels M.line_count (record { within = low; state = e; item = refl; dot = refl }) in
        Carries.in_kernel r.1 (M.holds_kernels.on_code l q (item_at kernels l) (dot_at kernels l) d r.2 (omega (arith, few)) on)
    row_in {d = d} (rows.of_rule i a b p) ld on =
        let r = range_rule g i a (omega (arith, M.rule_count)) in
        let l = left_at_lem i r.1 in
        by_carries g t (FirstBy codes nul fst)
        (of_rule r.1
        (subst (λ (X : ℕ). Follows g t (FirstBy codes nul fst) q X d) l.2 (C.follow_only (left_at items i - 64) d l.1 (omega (arith, few)) on)))

    pub in_row : {i k d : ℕ} → Carries g t (FirstBy codes nul fst) q i k d → Carried items kernels lookaheads present follow rules lines codes q i k d
    in_row h = go (carries_low g t (FirstBy codes nul fst) codes M.code_low (λ β d c l f. first_low codes nul fst l f) h) (carries_by g t (FirstBy codes nul fst) h)
      where
        go : {i k d : ℕ} → d < codes → CarriesBy g t (FirstBy codes nul fst) q i k d → Carried items kernels lookaheads present follow rules lines codes q i k d
        go {i} {k} {d} low (of_kernel {σ = σ} m n) =
            let r = line_of g t M.holds_kernels M.line_count m in
            let l = r.1 in
            record {
              from = lookaheads;
              start = r.0 * 64;
              row = subst₂ (λ (j n : ℕ). RowOf items kernels lookaheads present follow rules lines q j n lookaheads (r.0 * 64)) l.item l.dot (rows.of_line r.0 l.within l.state);
              low = low;
              on = M.holds_kernels.code_on r.0 q i k d r.2 n;
            }
        go {i} {d = d} low (of_rule {r = r} e x) =
            let u = rule_range g i e in
            let l = left_at_lem i e in
            let x' : Follows g t (FirstBy codes nul fst) q (64 + (left_at items i - 64)) d = subst (λ (X : ℕ). Follows g t (FirstBy codes nul fst) q X d) (sym l.2) x in
            record {
              from = follow;
              start = (left_at items i - 64) * 64;
              row = rows.of_rule i u.0 (omega (arith, u.1, M.rule_count)) (record {
                nonterminal = l.0;
                flagged = C.present_every (left_at items i - 64) l.1 (record { item = x'.item; dot = x'.dot; rest = x'.rest; has = has_of g t x'.carries; goes = x'.goes });
              });
              low = low;
              on = C.follow_every (left_at items i - 64) d l.1 (omega (arith, few)) x';
            }

-- ---- both books in memory
module _ (g : Grammar) (t : Table) {items entries kernels lookaheads kinds values gotos : List ℕ} {rules strings lines : ℕ}
    (H : HoldsTable g t items entries kernels lookaheads kinds values gotos rules strings lines) where
  memory : (codes : ℕ) → codes ≡ suc g.terminals → InMemory items kernels lookaheads rules lines codes g t
  memory codes e = in_memory H.formed H.fits H.holds_items H.holds_kernels H.rule_count H.line_count (omega (arith, e))

  pub row_declared : {present follow from : List ℕ} {q i k start : ℕ} → RowOf items kernels lookaheads present follow rules lines q i k from start → DeclaredItem g t i
  row_declared R = row_item g t (memory (suc g.terminals) refl) R

  module _ {codes : ℕ} (nul fst : List ℕ) (count : codes ≡ suc g.terminals) where
    pub code_low : {q i k d : ℕ} → Carries g t (FirstBy codes nul fst) q i k d → d < codes
    code_low h = carries_low g t (FirstBy codes nul fst) codes (memory codes count).code_low (λ β d c l f. first_low codes nul fst l f) h

    few_codes : codes ≤ 64
    few_codes = omega (arith, H.formed.few_terminals)

    module _ {q : ℕ} {present follow : List ℕ} (C : HoldsClosure g t (FirstBy codes nul fst) q present follow) where
      pub row_carries : {i k start d : ℕ} {from : List ℕ} → RowOf items kernels lookaheads present follow rules lines q i k from start → d < codes → On from (start + d)
          → Carries g t (FirstBy codes nul fst) q i k d
      row_carries R ld on = row_in g t (memory codes count) H.formed few_codes nul fst C R ld on

      pub carries_row : {i k d : ℕ} → Carries g t (FirstBy codes nul fst) q i k d → Carried items kernels lookaheads present follow rules lines codes q i k d
      carries_row h = in_row g t (memory codes count) H.formed few_codes nul fst C h
