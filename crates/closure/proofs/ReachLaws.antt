-- Closures in memory are those of the construction.
use Prim.Native.Nat.{ℕ, zero, ◌+◌, ◌*◌, ◌-◌, ◌≤◌, ◌<◌}
use native.Mathlib.Omega.{arith}
use mathlib.Core.Path.{◌≡◌, refl, sym, subst, subst₂, ◌∙◌}
use mathlib.Core.Logic.{◌⊎◌, inl, inr}
use mathlib.Core.List.{List}
use lib.ListN.{replicate}
use Rattle.language.specs.Grammar.{Grammar}
use Rattle.language.proofs.GrammarLaws.{rule_range}
use Rattle.language.specs.Sentence.{In}
use Rattle.leftcorner.specs.Table.{Table, Goes}
use Rattle.leftcorner.specs.Construction.{KernelAt, Carries}
use Rattle.items.specs.Layout.{Shaped}
use Rattle.memory.specs.Memory.{item_at, dot_at}
use Rattle.fixpoint.specs.Flags.{On, Marks}
use Rattle.fixpoint.specs.Least.{Clauses, Least, seed, by, Met, least_every, least_join}
use Rattle.fixpoint.proofs.PassLaws.{all_off}
use Rattle.closure.specs.Expansion.{Follows, HoldsClosure}
use Rattle.analysis.specs.FirstBy.{FirstBy, first_low}
use Rattle.analysis.specs.Rests.{rest_at}
use Rattle.analysis.specs.Adds.{Adds}
use Rattle.closure.specs.Prepared.{Prepared}
use Rattle.closure.specs.Kernel.{BeforeNonterminal, FollowsNonterminal, KernelBefore, KernelFollows}
use Rattle.closure.specs.Steps.{expansions, Gives, Following, followings, Covered}
use Rattle.closure.specs.InMemory.{InMemory, LineIs}
use Rattle.closure.proofs.ItemLaws.{ItemHeld, item_held, goes_before, line_of, line_at}
use Rattle.closure.proofs.ExpandLaws.{RulesIn, Seeds, goes_at, goes_to_lem, rule_in, in_rule, has_least, least_expanded}
use Rattle.closure.proofs.StepLaws.{next_low}

-- lookaheads stay below `codes` where those of kernel lines do
module _ (g : Grammar) (t : Table) (F : List ℕ → ℕ → ℕ → Type 0) (codes : ℕ)
    (kernel-low : (q i k d : ℕ) (σ : List ℕ) → KernelAt g t q i k σ → In d σ → d < codes)
    (first_below : (β : List ℕ) (d c : ℕ) → d < codes → F β d c → c < codes) where
  pub carries_low : {q i k d : ℕ} → Carries g t F q i k d → d < codes
  carries_low {q = q} {i = i} {k = k} {d = d} (Carries.in_kernel {σ = σ} h n) = kernel-low q i k d σ h n
  carries_low {d = c} (Carries.in_closure {d = d} j {β = β} h go e x f) = first_below β d c (carries_low h) f

-- ---- flags that are closed after seeds were put in

-- flags added to none
pub adds_marks : {P : ℕ → Type 0} {fs₀ fs : List ℕ} (n : ℕ) → fs₀ ≡ replicate n 0 → Adds P fs₀ fs → Marks P fs
adds_marks {P = P} {fs₀ = fs₀} n e a = record { only = λ y on. go y (a.only y on); every = a.every }
  where
    go : (y : ℕ) → On fs₀ y ⊎ P y → P y
    go y (inl on) = all_off n e on
    go y (inr p) = p

pub marks_least : {C : Type 0} {k : Clauses C ℕ} {S : ℕ → Type 0} {fs₀ fs : List ℕ} → Marks S fs₀ → Marks (Least k (On fs₀)) fs → Marks (Least k S) fs
marks_least {k = k} s w = record {
  only = λ y on. least_join k (λ x o. seed (s.only x o)) (w.only y on);
  every = λ y p. w.every y (least_join k (λ x q. seed (s.every x q)) p);
}

module _ (m kernels lookaheads nul fst : List ℕ) (rules lines codes q : ℕ) where
  -- what can be followed in the kernel is expanded, and stays so
  pub covered : {present₀ present follow : List ℕ} → codes ≤ 64 → Marks (KernelBefore m kernels lines q) present₀
      → Marks (Least (expansions m rules) (On present₀)) present → Marks (KernelFollows m codes nul fst kernels lookaheads lines q) follow
      → Covered m rules codes present follow
  covered {present₀ = present₀} {present = present} {follow = follow} few a b w = record {
    closed = λ s ok ns. b.every s.first (by s ok (λ x e. b.only x (ns x e)));
    seeded = λ n c l on. go n c l (w.only (n * 64 + c) on);
  }
    where
      go : (n c : ℕ) → c < codes → KernelFollows m codes nul fst kernels lookaheads lines q (n * 64 + c) → On present n
      go n c l p =
          let f = p.holds in
          let h = first_low codes nul fst f.low f.first in
          let e : f.base ≡ n = omega (arith, f.is, h, l, few) in
          subst (On present) e
          (b.every f.base (seed (a.every f.base (record { line = p.line; within = p.within; state = p.state; holds = f.stands }))))

module _ (m kernels lookaheads nul fst starts through : List ℕ) (items rules lines codes q : ℕ) where
  module _ (shaped : Shaped m items) (low : (l : ℕ) → l < lines → item_at kernels l ≤ items) (fit : rules ≤ items) (few : codes ≤ 64)
      (g : Grammar) (t : Table) (H : InMemory m kernels lookaheads rules lines codes g t) where
    -- ---- rules and lines

    held_line : {p i k l : ℕ} → LineIs kernels lines p i k l → ItemHeld m g t i
    held_line {p = p} {i = i} {k = k} {l = l} d =
        let r = line_at g t H.holds_kernels H.line_count d in
        item_held m g t H.holds_items i (H.item_declared p i k r.0 r.1) (shaped.lengths i (omega (arith, low l d.within, d.item)))

    rows : RulesIn m rules g t
    rows = record {
      holds_rules = λ j e. item_held m g t H.holds_items j (inl (_, e)) (shaped.lengths j (omega (arith, (rule_range g j e).1, H.rule_count)));
      rule_count = H.rule_count;
      left_is = λ j e. (H.holds_items.rule_row j e).left_is;
      left_kind = H.left_kind;
    }

    -- ---- what is expanded

    abbrev Present : ℕ → Type 0
    Present = Least (expansions m rules) (KernelBefore m kernels lines q)

    seeds : Seeds m rules g t q (KernelBefore m kernels lines q)
    seeds = record { held = λ i k σ h. held_line (line_of g t H.holds_kernels H.line_count h).1; seeded = seeded; seed_of = seed_of }
      where
        seeded : (i k b : ℕ) (σ : List ℕ) → KernelAt g t q i k σ → BeforeNonterminal m i k b → KernelBefore m kernels lines q b
        seeded i k b σ h s =
            let l = line_of g t H.holds_kernels H.line_count h in
            let d = l.1 in
            record {
              line = l.0;
              within = d.within;
              state = d.state;
              holds = subst₂ (λ (j n : ℕ). BeforeNonterminal m j n b) (sym d.item) (sym d.dot) s;
            }

        seed_of : (b : ℕ) → KernelBefore m kernels lines q b → (i : ℕ) × (k : ℕ) × (σ : List ℕ) × KernelAt g t q i k σ × BeforeNonterminal m i k b
        seed_of b w =
            let d : LineIs kernels lines q (item_at kernels w.line) (dot_at kernels w.line) w.line
            = record { within = w.within; state = w.state; item = refl; dot = refl } in
            let r = line_at g t H.holds_kernels H.line_count d in
            (item_at kernels w.line, dot_at kernels w.line, r.0, r.1, w.holds)

    -- ---- what can follow

    abbrev First : List ℕ → ℕ → ℕ → Type 0
    First = FirstBy codes nul fst

    abbrev Follow : ℕ → Type 0
    Follow = Least (followings m rules codes starts through) (KernelFollows m codes nul fst kernels lookaheads lines q)

    code_low : {i k d : ℕ} → Carries g t First q i k d → d < codes
    code_low h = carries_low g t First codes H.code_low (λ β d c l f. first_low codes nul fst l f) h

    module _ (P : Prepared m (rules + 1) codes nul fst starts through) where
      gives : (i d c : ℕ) → 1 ≤ i → i ≤ rules → d < codes → First (rest_at m i 1) d c → Gives codes starts through i d c
      gives i d c l u ld f = go (P.every i d c l (omega arith) f)
        where
          go : On starts (i * 64 + c) ⊎ (On through i × (c ≡ d)) → Gives codes starts through i d c
          go (inl on) = inl (first_low codes nul fst ld f, on)
          go (inr h) = inr h

      given : (i d c : ℕ) → 1 ≤ i → i ≤ rules → Gives codes starts through i d c → First (rest_at m i 1) d c
      given i d c l u (inl h) = P.starts_only i c l (omega arith) h.0 h.1 d
      given i d c l u (inr h) = subst (First (rest_at m i 1) d) (sym h.1) (P.through_only i l (omega arith) h.0 d)

      carries_least : {i k d : ℕ} → Carries g t First q i k d → (b c : ℕ) (β : List ℕ) → Goes g t i k (64 + b) β → First β d c → Follow (b * 64 + c)
      carries_least {i = i} {k = k} {d = d} (Carries.in_kernel {σ = σ} h n) b c β go f =
          let l = line_of g t H.holds_kernels H.line_count h in
          let w = l.1 in
          let v = goes_before m g t (held_line w) go in
          seed (record {
            line = l.0;
            within = w.within;
            state = w.state;
            holds = subst₂ (λ (j a : ℕ). FollowsNonterminal m codes nul fst lookaheads (l.0 * 64) j a (b * 64 + c)) (sym w.item) (sym w.dot)
                (record {
                  base = b;
                  stands = record { before = v.0; symbol = v.1 };
                  code = d;
                  low = H.code_low q i k d σ h n;
                  on = H.holds_kernels.code_on l.0 q i k d l.2 n;
                  next = c;
                  first = subst (λ (α : List ℕ). First α d c) (sym v.2) f;
                  is = refl;
                });
          })
      carries_least {d = d} (Carries.in_closure {d = a} {X = X} j {β = α} {r = r} h up e x y) b c β go f =
          let u = rule_in g t rows j e in
          let z : X ≡ 64 + (r.left - 64) = omega (arith, H.left_kind j e, x) in
          let v = goes_before m g t (rows.holds_rules j e) go in
          let ld = first_low codes nul fst (code_low h) y in
          by (record { rule = j; left = r.left - 64; first = b; code = d; next = c }) (
            record { above = u.0; below = u.1; left = u.2; stands = record { before = v.0; symbol = v.1 } },
            ld,
            gives j d c u.0 u.1 ld (subst (λ (γ : List ℕ). First γ d c) (sym v.2) f),
          )
          (λ s q. subst Follow (sym q) (carries_least h (r.left - 64) d α (goes_to_lem m g t z up) y))

      -- a place, and the nonterminal and code that stand there
      abbrev Placed : ℕ → Type 0
      Placed y = (b c : ℕ) → c < codes → y ≡ b * 64 + c → Follows g t First q (64 + b) c

      least_follows : {y : ℕ} → Follow y → Placed y
      least_follows p = least_every (followings m rules codes starts through) Placed seeds step p
        where
          seeds : (y : ℕ) → KernelFollows m codes nul fst kernels lookaheads lines q y → Placed y
          seeds y w b c l e =
              let f = w.holds in
              let n = first_low codes nul fst f.low f.first in
              let eb : f.base ≡ b = omega (arith, f.is) in
              let ec : f.next ≡ c = omega (arith, f.is) in
              let d : LineIs kernels lines q (item_at kernels w.line) (dot_at kernels w.line) w.line
              = record { within = w.within; state = w.state; item = refl; dot = refl } in
              let r = line_at g t H.holds_kernels H.line_count d in
              subst₂ (λ (x z : ℕ). Follows g t First q (64 + x) z) eb ec
              (record {
                item = item_at kernels w.line;
                dot = dot_at kernels w.line;
                code = f.code;
                rest = rest_at m (item_at kernels w.line) (dot_at kernels w.line + 1);
                carries = Carries.in_kernel r.1
                    (H.holds_kernels.on_code w.line q (item_at kernels w.line) (dot_at kernels w.line) f.code r.2 (omega (arith, f.low)) f.on);
                goes = goes_at m g t (held_line d) f.stands;
                first = f.first;
              })

          step : (s : Following) → Met (followings m rules codes starts through) Placed s
          step s ok ns b c l e =
              let n = next_low m rules codes starts through s ok.1 ok.2 in
              let eb : s.first ≡ b = omega arith in
              let ec : s.next ≡ c = omega arith in
              let r = in_rule g t rows s.rule ok.0.above ok.0.below in
              let x = ns (s.left * 64 + s.code) refl s.left s.code ok.1 refl in
              subst₂ (λ (a z : ℕ). Follows g t First q (64 + a) z) eb ec
              (record {
                item = s.rule;
                dot = zero;
                code = s.code;
                rest = rest_at m s.rule 1;
                carries = Carries.in_closure s.rule x.carries x.goes r.1 (sym r.2 ∙ ok.0.left) x.first;
                goes = goes_at m g t (rows.holds_rules s.rule r.1) ok.0.stands;
                first = given s.rule s.code s.next ok.0.above ok.0.below ok.2;
              })

      follows_low : {X c : ℕ} → Follows g t First q X c → c < codes
      follows_low w = first_low codes nul fst (code_low w.carries) w.first

      pub holds_closure : {present follow : List ℕ} → Marks Present present → Marks Follow follow → HoldsClosure g t First q present follow
      holds_closure {follow = follow} a w = record {
        present_only = λ b l on. least_expanded g t rows seeds (a.only b on);
        present_every = λ b l x. a.every b (has_least g t rows seeds x.has b x.rest x.goes);
        follow_only = λ b c lb lc on. least_follows (w.only (b * 64 + c) on) b c (low_code b c lc on) refl;
        follow_every = λ b c lb lc x. w.every (b * 64 + c) (carries_least x.carries b c x.rest x.goes x.first);
      }
        where
          low_place : {y : ℕ} → Follow y → (b c : ℕ) → c < 64 → y ≡ b * 64 + c → c < codes
          low_place p = least_every (followings m rules codes starts through) (λ (y : ℕ). (b c : ℕ) → c < 64 → y ≡ b * 64 + c → c < codes)
              (λ y v b c l e. let n = first_low codes nul fst v.holds.low v.holds.first in omega (arith, v.holds.is))
              (λ s ok ns b c l e. let n = next_low m rules codes starts through s ok.1 ok.2 in omega arith) p

          low_code : (b c : ℕ) → c < 64 → On follow (b * 64 + c) → c < codes
          low_code b c l on = low_place (w.only (b * 64 + c) on) b c l refl
