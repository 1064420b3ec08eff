-- All the items of a state, and their lookaheads, from its kernel lines and its closure in memory.
use Prim.Native.Nat.{ℕ, ◌+◌, ◌-◌, ◌≤◌, ◌<◌}
use native.Mathlib.Omega.{arith}
use mathlib.Core.Path.{◌≡◌, sym, subst, ◌∙◌}
use mathlib.Core.List.{List}
use mathlib.Core.Option.{some}
use lib.ListN.{length}
use Rattle.language.specs.Grammar.{Grammar, Rule, rule_at}
use Rattle.language.proofs.GrammarLaws.{rule_range, range_rule}
use Rattle.language.specs.WellFormed.{WellFormed}
use Rattle.leftcorner.specs.Table.{Table}
use Rattle.leftcorner.specs.Construction.{Has, Carries}
use Rattle.items.specs.Layout.{Shaped, left_at}
use Rattle.memory.specs.Memory.{HoldsItems, HoldsKernels}
use Rattle.memory.specs.Fits.{Fits}
use Rattle.closure.specs.Expansion.{Expanded, Follows, HasBy, of_kernel, of_rule, has_by, by_has, CarriesBy, carries_by, by_carries, HoldsClosure}
use Rattle.closure.specs.InMemory.{InMemory, HasIn, CarriesIn}
use Rattle.closure.proofs.ItemLaws.{line_of, line_at}
use Rattle.closure.proofs.ReachLaws.{carries_low}

-- what both readers promise is enough
pub in_memory : {m kernels lookaheads : List ℕ} {rules lines codes : ℕ} {g : Grammar} {t : Table} → WellFormed g → Fits g t → HoldsItems m g t
    → HoldsKernels kernels lookaheads t → length g.rules ≡ rules → length t.kernels ≡ lines → g.terminals < codes → InMemory m kernels lookaheads rules lines codes g t
in_memory w f i k er el lc = record {
  holds_items = i;
  holds_kernels = k;
  rule_count = er;
  line_count = el;
  left_kind = λ j e. (w.formed j e).left_declared.0;
  item_declared = f.form.item_declared;
  code_low = λ q j n d σ h p. omega (arith, f.code_declared q j n d σ h p);
}

module _ (m kernels lookaheads : List ℕ) (items rules lines codes q : ℕ) (shaped : Shaped m items) (fit : rules ≤ items) (few : codes ≤ 64)
    (g : Grammar) (t : Table) (H : InMemory m kernels lookaheads rules lines codes g t) where
  -- rule j in memory: nonterminal 64 + b is its left side
  rule_in : (j : ℕ) {r : Rule} → rule_at g j ≡ some r → (1 ≤ j) × (j ≤ rules) × (left_at m j ≡ 64 + (r.left - 64)) × (r.left - 64 < 64) × (r.left ≡ 64 + (r.left - 64))
  rule_in j {r = r} e =
      let u = rule_range g j e in
      let v : j ≤ rules = omega (arith, u.1, H.rule_count) in
      let w = (H.holds_items.rule_row j e).left_is in
      let k = H.left_kind j e in
      let z = shaped.lefts j (omega arith) in
      (u.0, v, omega arith, omega arith, omega arith)

  in_rule : (j b : ℕ) → 1 ≤ j → j ≤ rules → left_at m j ≡ 64 + b → (r : Rule) × (rule_at g j ≡ some r) × (64 + b ≡ r.left) × (b < 64)
  in_rule j b l u e =
      let r = range_rule g j l (omega (arith, H.rule_count)) in
      let z = shaped.lefts j (omega arith) in
      (r.0, r.1, sym e ∙ (H.holds_items.rule_row j r.1).left_is, omega arith)

  module _ (F : List ℕ → ℕ → ℕ → Type 0) {present follow : List ℕ} (C : HoldsClosure g t F q present follow) where
    pub has_in : {i k : ℕ} → Has g t q i k → HasIn m kernels present rules lines q i k
    has_in h = go (has_by g t h)
      where
        go : {i k : ℕ} → HasBy g t q i k → HasIn m kernels present rules lines q i k
        go (of_kernel p) = let l = line_of g t H.holds_kernels H.line_count p in HasIn.by_line l.0 l.1
        go {i = i} (of_rule {r = r} e x) =
            let u = rule_in i e in
            HasIn.by_rule (r.left - 64) u.0 u.1 u.2 (C.present_every (r.left - 64) u.3 (subst (Expanded g t q) u.4 x))

    pub in_has : {i k : ℕ} → HasIn m kernels present rules lines q i k → Has g t q i k
    in_has (HasIn.by_line l d) = Has.in_kernel (line_at g t H.holds_kernels H.line_count d).1
    in_has {i = i} (HasIn.by_rule b l u e on) =
        let r = in_rule i b l u e in
        by_has g t (of_rule r.1 (subst (Expanded g t q) r.2 (C.present_only b r.3 on)))

    module _ (first_below : (β : List ℕ) (d c : ℕ) → d < codes → F β d c → c < codes) where
      pub carries_in : {i k d : ℕ} → Carries g t F q i k d → CarriesIn m kernels lookaheads follow rules lines codes q i k d
      carries_in h = go (carries_by g t F h) (carries_low g t F codes H.code_low first_below h)
        where
          go : {i k d : ℕ} → CarriesBy g t F q i k d → d < codes → CarriesIn m kernels lookaheads follow rules lines codes q i k d
          go {i = i} {k = k} {d = d} (CarriesBy.of_kernel p n) ld =
              let l = line_of g t H.holds_kernels H.line_count p in
              CarriesIn.by_line l.0 l.1 ld (H.holds_kernels.code_on l.0 q i k d l.2 n)
          go {i = i} {d = d} (CarriesBy.of_rule {r = r} e x) ld =
              let u = rule_in i e in
              CarriesIn.by_rule (r.left - 64) u.0 u.1 u.2 ld
              (C.follow_every (r.left - 64) d u.3 (omega arith) (subst (λ (X : ℕ). Follows g t F q X d) u.4 x))

    pub in_carries : {i k d : ℕ} → CarriesIn m kernels lookaheads follow rules lines codes q i k d → Carries g t F q i k d
    in_carries {i = i} {k = k} {d = d} (CarriesIn.by_line l w ld on) =
        let p = line_at g t H.holds_kernels H.line_count w in
        Carries.in_kernel p.1 (H.holds_kernels.on_code l q i k d p.2 (omega arith) on)
    in_carries {i = i} {d = d} (CarriesIn.by_rule b l u e ld on) =
        let r = in_rule i b l u e in
        by_carries g t F (CarriesBy.of_rule r.1 (subst (λ (X : ℕ). Follows g t F q X d) r.2 (C.follow_only b d r.3 (omega arith) on)))
