-- Nullable symbols, and first(β, {d}), computed.
use Prim.Native.Nat.{ℕ, zero, suc, ◌+◌, ◌*◌, ◌/◌, ◌%◌, ◌<◌}
use native.Mathlib.Omega.{arith}
use mathlib.Core.Path.{◌≡◌, refl, sym, ap, subst, ◌∙◌}
use mathlib.Core.Logic.{◌⊎◌, inl, inr}
use mathlib.Core.Bool.{Bool, true, false, not, ◌||◌, ◌&&◌}
use mathlib.Core.List.{List, [], ◌∷◌, ◌++◌, map}
use mathlib.Core.Option.{Option, some, none}
use borrow.Author.Tests.{eqb-true, eq-eqb}
use lib.Dec.{eqb}
use lib.ListN.{length, get_or}
use Rattle.language.specs.Grammar.{Grammar, Rule, rule_at, right, IsTerminal}
use Rattle.language.specs.Sentence.{In, here, there}
use Rattle.language.proofs.Member.{in_cons, in_left, in_right, in_map, in_either}
use Rattle.language.specs.Nullable.{Nullable, AllIn, Starts}
use Rattle.language.specs.WellFormed as grammar
use Rattle.leftcorner.proofs.ReadOff.{clash}
use Rattle.std.specs.Prelude.{◌↔◌}
use Rattle.fixpoint.specs.Least.{seed, least_every}
use Rattle.grammar_reduction.specs.Derives.{left_of, derive, derive_every}
use Rattle.grammar_reduction.specs.Reaches.{rule_of, symbol_of}
use Rattle.analysis.specs.ByRules.{Below, right_of, NullableByRules, Itself, BeginsByRules, starting, FirstByRules}
use Rattle.analysis.proofs.RuleSets.{place_starts, rules_nullable, nullable_rules, start, begins_terminal}
use Rattle.check_verdict.proofs.Closure.{image_in}
use Rattle.build_states.proofs.Distinct.{in_at, at_in}
use Rattle.build_states.specs.States.{range}
use Rattle.build_states.proofs.Lists.{in_range, range_in}
use Rattle.build_computed.proofs.Work.{push_if, member, push_in, push_here, push_there, or_true, or_left, or_right, member_in, in_member, work, work_only, Whole, work_whole}

pub and_true : (a b : Bool) → a && b ≡ true → (a ≡ true) × (b ≡ true)
and_true true b e = (refl, e)
and_true false b e = clash cc

pub and_both : (a b : Bool) → a ≡ true → b ≡ true → a && b ≡ true
and_both true b e f = f
and_both false b e f = clash cc

-- ---- nullable symbols

abbrev pub all_member : List ℕ → List ℕ → Bool
all_member nl [] = true
all_member nl (X ∷ β) = member X nl && all_member nl β

abbrev pub null_round : List ℕ → List Rule → List ℕ
null_round nl [] = nl
null_round nl (r ∷ rs) = push_if (all_member nl (right r) && not (member r.left nl)) r.left (null_round nl rs)

abbrev pub nulls : List Rule → ℕ → List ℕ
nulls rs zero = []
nulls rs (suc n) = null_round (nulls rs n) rs

-- one more round adds nothing
abbrev pub null_closed : List ℕ → List Rule → Bool
null_closed nl [] = true
null_closed nl (r ∷ rs) = (not (all_member nl (right r)) || member r.left nl) && null_closed nl rs

all_in : (nl β : List ℕ) → all_member nl β ≡ true → (a : ℕ) → In a β → In a nl
all_in nl (X ∷ β) e a here = member_in X nl (and_true (member X nl) (all_member nl β) e).0
all_in nl (X ∷ β) e a (there m) = all_in nl β (and_true (member X nl) (all_member nl β) e).1 a m
all_in nl [] e a m = elim m [ ]

in_all : (nl β : List ℕ) → ((a : ℕ) → In a β → In a nl) → all_member nl β ≡ true
in_all nl [] f = refl
in_all nl (X ∷ β) f = and_both (member X nl) (all_member nl β) (in_member (f X here)) (in_all nl β (λ a m. f a (there m)))

closed_at : (nl : List ℕ) (rs : List Rule) (r : Rule) → null_closed nl rs ≡ true → In r rs → all_member nl (right r) ≡ true → In r.left nl
closed_at nl (r ∷ rs) s e here a =
    go (or_true (not (all_member nl (right r))) (member r.left nl)
    (and_true (not (all_member nl (right r)) || member r.left nl) (null_closed nl rs) e).0)
  where
    go : (not (all_member nl (right r)) ≡ true) ⊎ (member r.left nl ≡ true) → In r.left nl
    go (inl h) = let z : not true ≡ true = sym (ap not a) ∙ h in clash cc
    go (inr h) = member_in r.left nl h
closed_at nl (q ∷ rs) r e (there m) a = closed_at nl rs r (and_true (not (all_member nl (right q)) || member q.left nl) (null_closed nl rs) e).1 m a
closed_at nl [] r e m a = elim m [ ]

-- ---- what begins a symbol, as X * 64 + c

-- X stands in β behind nullable symbols
abbrev pub reaches : List ℕ → List ℕ → ℕ → Bool
reaches nl [] X = false
reaches nl (Y ∷ β) X = eqb Y X || (member Y nl && reaches nl β X)

abbrev pub next_begins : List ℕ → List Rule → ℕ → List ℕ
next_begins nl [] x = []
next_begins nl (r ∷ rs) x = push_if (reaches nl (right r) (x / 64)) (r.left * 64 + x % 64) (next_begins nl rs x)

abbrev pub terminal_begins : ℕ → List ℕ
terminal_begins t = map (λ (a : ℕ). a * 64 + a) (range 1 t)

abbrev pub codes_of : ℕ → List ℕ → List ℕ
codes_of X [] = []
codes_of X (y ∷ fl) = push_if (eqb (y / 64) X) (y % 64) (codes_of X fl)

abbrev pub where_null : Bool → List ℕ → List ℕ
where_null true l = l
where_null false l = []

-- first(β, {d}), from the nullable symbols and what begins each
abbrev pub first_of : List ℕ → List ℕ → List ℕ → ℕ → List ℕ
first_of nl fl [] d = d ∷ []
first_of nl fl (X ∷ β) d = codes_of X fl ++ where_null (member X nl) (first_of nl fl β d)

codes_in_lem : (X : ℕ) (fl : List ℕ) (c : ℕ) → In c (codes_of X fl) → (y : ℕ) × In y fl × (y / 64 ≡ X) × (c ≡ y % 64)
codes_in_lem X [] c m = elim m [ ]
codes_in_lem X (y ∷ fl) c m = go (push_in (eqb (y / 64) X) (y % 64) (codes_of X fl) c m) (codes_in_lem X fl c)
  where
    go : ((eqb (y / 64) X ≡ true) × (c ≡ y % 64)) ⊎ In c (codes_of X fl) → (In c (codes_of X fl) → (z : ℕ) × In z fl × (z / 64 ≡ X) × (c ≡ z % 64))
        → (z : ℕ) × In z (y ∷ fl) × (z / 64 ≡ X) × (c ≡ z % 64)
    go (inl h) rec = (y, here, eqb-true (y / 64) X h.0, h.1)
    go (inr n) rec = let r = rec n in (r.0, there r.1, r.2, r.3)

in_codes : (X y c : ℕ) (fl : List ℕ) → In y fl → y / 64 ≡ X → y % 64 ≡ c → In c (codes_of X fl)
in_codes X y c (z ∷ fl) here e f =
    subst (λ (w : ℕ). In w (push_if (eqb (y / 64) X) (y % 64) (codes_of X fl))) f
    (push_here (eqb (y / 64) X) (y % 64) (codes_of X fl) (eq-eqb (y / 64) X e))
in_codes X y c (z ∷ fl) (there m) e f = push_there (eqb (z / 64) X) (z % 64) (in_codes X y c fl m e f)
in_codes X y c [] m e f = elim m [ ]

module _ (g : Grammar) (W : grammar.WellFormed g) where
  -- ---- the nullable symbols are those

  pub record NullableIs (nl : List ℕ) : Type 0 where
    pub only : (X : ℕ) → In X nl → Nullable g X
    pub every : (X : ℕ) → Nullable g X → In X nl

  round_only : (nl : List ℕ) (rs : List Rule) → ((r : Rule) → In r rs → In r g.rules) → ((X : ℕ) → In X nl → NullableByRules g X) → (X : ℕ)
      → In X (null_round nl rs) → NullableByRules g X
  round_only nl [] sub only X m = only X m
  round_only nl (r ∷ rs) sub only X m =
      go (push_in (all_member nl (right r) && not (member r.left nl)) r.left (null_round nl rs) X m)
      (round_only nl rs (λ s n. sub s (there n)) only X)
    where
      go : ((all_member nl (right r) && not (member r.left nl) ≡ true) × (X ≡ r.left)) ⊎ In X (null_round nl rs)
          → (In X (null_round nl rs) → NullableByRules g X) → NullableByRules g X
      go (inl h) rec =
          let i = in_at (sub r here) in
          let a = (and_true (all_member nl (right r)) (not (member r.left nl)) h.0).0 in
          subst (NullableByRules g) (sym h.1) (derive g (suc i.0) i.1 (λ b n. only b (all_in nl (right r) a b n)))
      go (inr n) rec = rec n

  nulls_only : (n X : ℕ) → In X (nulls g.rules n) → NullableByRules g X
  nulls_only zero X m = elim m [ ]
  nulls_only (suc n) X m = round_only (nulls g.rules n) g.rules (λ r k. k) (nulls_only n) X m

  pub nullable_is : (n : ℕ) → null_closed (nulls g.rules n) g.rules ≡ true → NullableIs (nulls g.rules n)
  nullable_is n e = record {
    only = λ X m. rules_nullable g (nulls_only n X m);
    every = λ X h. derive_every g (λ (x : ℕ). In x (nulls g.rules n)) (λ y s. absurd s) (λ i r q f. rule_closed i r q f) (nullable_rules g h);
  }
    where
      nl : List ℕ
      nl = nulls g.rules n

      rule_closed : (i : ℕ) (r : Rule) → rule_at g i ≡ some r → ((a : ℕ) → In a (right r) → In a nl) → In r.left nl
      rule_closed zero r q f = clash cc
      rule_closed (suc i) r q f = closed_at nl g.rules r e (at_in g.rules i r q) (in_all nl (right r) f)

  module _ (nl : List ℕ) (N : NullableIs nl) where
    -- ---- what begins a symbol

    reach_starts : (F : ℕ → Type 0) (β : List ℕ) (X : ℕ) → reaches nl β X ≡ true → F X → Starts (Nullable g) F β
    reach_starts F [] X e h = clash cc
    reach_starts F (Y ∷ β) X e h = go (or_true (eqb Y X) (member Y nl && reaches nl β X) e) (λ k. reach_starts F β X k h)
      where
        go : (eqb Y X ≡ true) ⊎ (member Y nl && reaches nl β X ≡ true) → (reaches nl β X ≡ true → Starts (Nullable g) F β)
            → F Y ⊎ (Nullable g Y × Starts (Nullable g) F β)
        go (inl k) rec = inl (subst F (sym (eqb-true Y X k)) h)
        go (inr k) rec = let b = and_true (member Y nl) (reaches nl β X) k in inr (N.only Y (member_in Y nl b.0), rec b.1)

    -- the symbol that begins, behind nullable ones, is reached
    starts_reach : (F : ℕ → Type 0) (β : List ℕ) → Starts (Nullable g) F β → (X : ℕ) × F X × (reaches nl β X ≡ true)
    starts_reach F [] h = absurd h
    starts_reach F (Y ∷ β) (inl f) = (Y, f, or_left (eqb Y Y) (member Y nl && reaches nl β Y) (eq-eqb Y Y refl))
    starts_reach F (Y ∷ β) (inr h) =
        let r = starts_reach F β h.1 in (
          r.0,
          r.1,
          or_right (eqb Y r.0) (member Y nl && reaches nl β r.0)
              (and_both (member Y nl) (reaches nl β r.0) (in_member (N.every Y h.0)) r.2),
        )

    pub record BeginsIs (fl : List ℕ) : Type 0 where
      pub only : (y : ℕ) → In y fl → BeginsByRules g (y / 64) (y % 64)
      pub every : (X c : ℕ) → BeginsByRules g X c → In (X * 64 + c) fl

    next_only : (x : ℕ) (rs : List Rule) → ((r : Rule) → In r rs → In r g.rules) → BeginsByRules g (x / 64) (x % 64) → (y : ℕ)
        → In y (next_begins nl rs x) → BeginsByRules g (y / 64) (y % 64)
    next_only x [] sub b y m = elim m [ ]
    next_only x (r ∷ rs) sub b y m =
        go (push_in (reaches nl (right r) (x / 64)) (r.left * 64 + x % 64) (next_begins nl rs x) y m) (next_only x rs (λ s n. sub s (there n)) b y)
      where
        go : ((reaches nl (right r) (x / 64) ≡ true) × (y ≡ r.left * 64 + x % 64)) ⊎ In y (next_begins nl rs x)
            → (In y (next_begins nl rs x) → BeginsByRules g (y / 64) (y % 64)) → BeginsByRules g (y / 64) (y % 64)
        go (inl h) rec =
            let i = in_at (sub r here) in
            let s = start g (Nullable g) (Itself g (x % 64)) (suc i.0) i.1
            (reach_starts (λ X. BeginsByRules g X (x % 64)) (right r) (x / 64) h.0 b) in
            let q : y / 64 ≡ r.left = omega (arith, h.1) in
            let d : y % 64 ≡ x % 64 = omega (arith, h.1) in
            subst (λ (z : ℕ). BeginsByRules g z (y % 64)) (sym q) (subst (λ (z : ℕ). BeginsByRules g r.left z) (sym d) s)
        go (inr n) rec = rec n

    in_next : (x : ℕ) (rs : List Rule) (r : Rule) → In r rs → reaches nl (right r) (x / 64) ≡ true → In (r.left * 64 + x % 64) (next_begins nl rs x)
    in_next x (r ∷ rs) s here e = push_here (reaches nl (right r) (x / 64)) (r.left * 64 + x % 64) (next_begins nl rs x) e
    in_next x (q ∷ rs) r (there m) e = push_there (reaches nl (right q) (x / 64)) (q.left * 64 + x % 64) (in_next x rs r m e)
    in_next x [] r m e = elim m [ ]

    pub begins_is : (f : ℕ) (fl : List ℕ) → work (next_begins nl g.rules) f (terminal_begins g.terminals) [] ≡ some fl → BeginsIs fl
    begins_is f fl e = record {
      only =
          work_only (next_begins nl g.rules) Begun (λ x y b m. next_only x g.rules (λ r n. n) b y m) f
          (terminal_begins g.terminals) [] fl e seeds_begun (λ x m. elim m [ ]);
      every =
          λ X c b. least_every (starting g (Nullable g)) (λ (x : ℕ). In (x * 64 + c) fl) (seeded c)
          (λ o ok ns. occurrence c (begins_terminal g b) (rule_of o) (symbol_of o) (rule_at g (rule_of o)) refl ok (ns _ refl)) b;
    }
      where
        Begun : ℕ → Type 0
        Begun x = BeginsByRules g (x / 64) (x % 64)

        w : Whole (next_begins nl g.rules) (terminal_begins g.terminals) [] fl
        w = work_whole (next_begins nl g.rules) f (terminal_begins g.terminals) [] fl e (λ x y m n. elim m [ ])

        seeds_begun : (x : ℕ) → In x (terminal_begins g.terminals) → Begun x
        seeds_begun x m =
            let a = in_map (λ (b : ℕ). b * 64 + b) (range 1 g.terminals) m in
            let r = range_in 1 g.terminals a.0 a.1 in
            let q : x / 64 ≡ a.0 = omega (arith, a.2, r.1, W.few_terminals) in
            let d : x % 64 ≡ a.0 = omega (arith, a.2, r.1, W.few_terminals) in
            seed (q ∙ sym d, (omega (arith, d, r.0), omega (arith, d, r.1)))

        seeded : (c y : ℕ) → Itself g c y → In (y * 64 + c) fl
        seeded c y s =
            subst (λ (z : ℕ). In (z * 64 + c) fl) (sym s.0)
            (w.did (c * 64 + c) (image_in (λ (b : ℕ). b * 64 + b) c (range 1 g.terminals)
            (in_range 1 g.terminals c s.1.0 (omega (arith, s.1.1)))))

        by_rule : (c : ℕ) → IsTerminal g c → (i : ℕ) (r : Rule) → rule_at g i ≡ some r → Starts (Nullable g) (λ X. In (X * 64 + c) fl) (right r)
            → In (r.left * 64 + c) fl
        by_rule c t zero r q s = clash cc
        by_rule c t (suc i) r q s =
            let h = starts_reach (λ X. In (X * 64 + c) fl) (right r) s in
            let x = h.0 * 64 + c in
            let a : x / 64 ≡ h.0 = omega (arith, t.1, W.few_terminals) in
            let d : x % 64 ≡ c = omega (arith, t.1, W.few_terminals) in
            let n = in_next x g.rules r (at_in g.rules i r q) (ap (reaches nl (right r)) a ∙ h.2) in
            w.closed x (r.left * 64 + c) h.1 (subst (λ (z : ℕ). In (r.left * 64 + z) (next_begins nl g.rules x)) d n)

        occurrence : (c : ℕ) → IsTerminal g c → (i k : ℕ) (o : Option Rule) → rule_at g i ≡ o
            → (k < length (right_of o)) × Below (Nullable g) (right_of o) k
            → In (get_or (right_of o) k 0 * 64 + c) fl → In (left_of o * 64 + c) fl
        occurrence c t i k none q ok b = absurd (omega (arith, ok.0))
        occurrence c t i k (some r) q ok b = by_rule c t i r q (place_starts (Nullable g) (λ X. In (X * 64 + c) fl) (right r) k ok.0 ok.1 b)

    -- ---- first

    module _ (fl : List ℕ) (B : BeginsIs fl) where
      first_to : (β : List ℕ) (d c : ℕ) → In c (first_of nl fl β d) → FirstByRules g β d c
      first_to [] d c m = go (in_cons m)
        where
          go : (c ≡ d) ⊎ In c [] → FirstByRules g [] d c
          go (inl e) = inr (tt, e)
          go (inr n) = elim n [ ]
      first_to (X ∷ β) d c m = go (in_either (codes_of X fl) m) (first_to β d c)
        where
          late : Nullable g X → FirstByRules g β d c → FirstByRules g (X ∷ β) d c
          late n (inl s) = inl (inr (n, s))
          late n (inr h) = inr ((n, h.0), h.1)

          on : (b : Bool) → member X nl ≡ b → In c (where_null b (first_of nl fl β d)) → (In c (first_of nl fl β d) → FirstByRules g β d c)
              → FirstByRules g (X ∷ β) d c
          on true e n rec = late (N.only X (member_in X nl e)) (rec n)
          on false e n rec = elim n [ ]

          go : In c (codes_of X fl) ⊎ In c (where_null (member X nl) (first_of nl fl β d)) → (In c (first_of nl fl β d) → FirstByRules g β d c)
              → FirstByRules g (X ∷ β) d c
          go (inl n) rec =
              let y = codes_in_lem X fl c n in
              inl (inl (subst (λ (z : ℕ). BeginsByRules g z c) y.2
              (subst (λ (z : ℕ). BeginsByRules g (y.0 / 64) z) (sym y.3) (B.only y.0 y.1))))
          go (inr n) rec = on (member X nl) refl n rec

      null_on : (X : ℕ) (l : List ℕ) {c : ℕ} → Nullable g X → In c l → In c (where_null (member X nl) l)
      null_on X l {c = c} n m = subst (λ (b : Bool). In c (where_null b l)) (sym (in_member (N.every X n))) m

      first_start : (β : List ℕ) (d c : ℕ) → Starts (Nullable g) (λ X. BeginsByRules g X c) β → In c (first_of nl fl β d)
      first_start [] d c h = absurd h
      first_start (X ∷ β) d c (inl b) =
          let t = begins_terminal g b in
          in_left (where_null (member X nl) (first_of nl fl β d))
          (in_codes X (X * 64 + c) c fl (B.every X c b) (omega (arith, t.1, W.few_terminals)) (omega (arith, t.1, W.few_terminals)))
      first_start (X ∷ β) d c (inr h) = in_right (codes_of X fl) (null_on X (first_of nl fl β d) h.0 (first_start β d c h.1))

      first_null : (β : List ℕ) (d : ℕ) → AllIn (Nullable g) β → In d (first_of nl fl β d)
      first_null [] d h = here
      first_null (X ∷ β) d h = in_right (codes_of X fl) (null_on X (first_of nl fl β d) h.0 (first_null β d h.1))

      first_from : (β : List ℕ) (d c : ℕ) → FirstByRules g β d c → In c (first_of nl fl β d)
      first_from β d c (inl s) = first_start β d c s
      first_from β d c (inr h) = subst (λ (z : ℕ). In z (first_of nl fl β d)) (sym h.1) (first_null β d h.0)

      pub first_is : (β : List ℕ) (d c : ℕ) → In c (first_of nl fl β d) ↔ FirstByRules g β d c
      first_is β d c = (first_to β d c, first_from β d c)
