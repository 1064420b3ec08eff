-- Least derivation heights: every declared symbol of a grammar whose nonterminals are productive has one, and it is at most the number of
-- nonterminals.
use Prim.Native.Nat.{ℕ, zero, suc, ◌+◌, ◌-◌, ◌≤◌, ◌<◌}
use mathlib.Core.Path.{◌≡◌, refl, sym, ap, subst, ◌∙◌}
use mathlib.Core.Logic.{◌⊎◌, inl, inr}
use mathlib.Core.Bool.{Bool, true, false, cond, ◌||◌}
use mathlib.Core.Option.{Option, some}
use native.Mathlib.Omega.{arith}
use native.Mathlib.Decide.{ℕ_discrete}
use Rattle.language.specs.Grammar.{Grammar, Rule, right, rule_at, IsTerminal, IsNonterminal}
use Rattle.language.specs.Sentence.{In, Productive, AllProductive}
use Rattle.language.specs.WellFormed.{WellFormed}
use Rattle.language.specs.Tests.{all, any}
use Rattle.grammar_reduction.specs.Derives.{derive_every, productive_rules}
use Rattle.symbol.specs.Symbol.{is_terminal}
use Rattle.symbol.proofs.KindLaws.{terminal_is}
use Rattle.generate_loads.specs.Load.{right_in, right_of, rules_of, IsSymbol, first, derives_within, height_from, height_of, shortest}
use Rattle.generate_loads.proofs.RuleLaws.{clash, nonterminal_false, all_in, in_all, in_any, any-first, rules_in, in_rules}

-- ---- counting what passes a test among k numbers from x on
abbrev one : Bool → ℕ
one true = 1
one false = 0

abbrev count : (ℕ → Bool) → ℕ → ℕ → ℕ
count p zero x = 0
count p (suc k) x = one (p x) + count p k (suc x)

one_le : (b : Bool) → one b ≤ 1
one_le true = omega arith
one_le false = omega arith

count_le : (p : ℕ → Bool) (k x : ℕ) → count p k x ≤ k
count_le p zero x = omega arith
count_le p (suc k) x = omega (arith, one_le (p x), count_le p k (suc x))

-- where q passes whatever p does it counts no less
one_more : (b c : Bool) → (b ≡ true → c ≡ true) → one b ≤ one c
one_more true c h = rw (h refl) (omega arith)
one_more false c h = omega arith

count_more : (p q : ℕ → Bool) → ((x : ℕ) → p x ≡ true → q x ≡ true) → (k x : ℕ) → count p k x ≤ count q k x
count_more p q h zero x = omega arith
count_more p q h (suc k) x = omega (arith, one_more (p x) (q x) (h x), count_more p q h k (suc x))

-- and where it counts the same it passes the same
one_same : (b c : Bool) → one b ≡ one c → c ≡ true → b ≡ true
one_same true c e h = refl
one_same false true e h = absurd (omega arith)
one_same false false e h = h

count_same : (p q : ℕ → Bool) → ((x : ℕ) → p x ≡ true → q x ≡ true) → (k x : ℕ) → count p k x ≡ count q k x → (y : ℕ) → x ≤ y → y < x + k → q y ≡ true → p y ≡ true
count_same p q h zero x e y l m r = absurd (omega arith)
count_same p q h (suc k) x e y l m r = go (ℕ_discrete y x) (λ n. count_same p q h k (suc x) rest y n (omega arith) r)
  where
    lows : one (p x) ≤ one (q x)
    lows = one_more (p x) (q x) (h x)

    rests : count p k (suc x) ≤ count q k (suc x)
    rests = count_more p q h k (suc x)

    rest : count p k (suc x) ≡ count q k (suc x)
    rest = omega (arith, lows, rests, e)

    go : Dec (y ≡ x) → (suc x ≤ y → p y ≡ true) → p y ≡ true
    go (yes f) k = rw f (one_same (p x) (q x) (omega (arith, lows, rests, e)) (rw f at r))
    go (no f) k = k (omega arith)

-- where all are counted all pass
count_full : (p : ℕ → Bool) (k x : ℕ) → k ≤ count p k x → (y : ℕ) → x ≤ y → y < x + k → p y ≡ true
count_full p k x h y l m = count_same p (λ _. true) (λ _ _. refl) k x (full k x (omega (arith, count_le p k x))) y l m refl
  where
    trues : (k x : ℕ) → count (λ _. true) k x ≡ k
    trues zero x = refl
    trues (suc k) x = omega (arith, trues k (suc x))

    full : (k x : ℕ) → count p k x ≡ k → count p k x ≡ count (λ _. true) k x
    full k x e = e ∙ sym (trues k x)

module _ (g : Grammar) where
  -- a rule whose right side is within h
  pub within_rule : (h i : ℕ) {r : Rule} → rule_at g i ≡ some r → ((a : ℕ) → In a (right r) → derives_within g h a ≡ true) → derives_within g (suc h) r.left ≡ true
  unfolding derives_within
  within_rule h i {r = r} e f = go (is_terminal g.terminals r.left)
    where
      whole : all (derives_within g h) (right_of g i) ≡ true
      whole = ap (λ (o : Option Rule). all (derives_within g h) (right_in o)) e ∙ in_all (derives_within g h) (right r) f

      go : (b : Bool) → b || any (λ j. all (derives_within g h) (right_of g j)) (rules_of g r.left) ≡ true
      go true = refl
      go false = in_any (λ j. all (derives_within g h) (right_of g j)) (rules_of g r.left) i (in_rules g r.left i e refl) whole

  -- and back, with the first such rule
  pub rule_within : (h X : ℕ) → is_terminal g.terminals X ≡ false → derives_within g (suc h) X ≡ true
      → In (first (λ i. all (derives_within g h) (right_of g i)) (rules_of g X)) (rules_of g X)
      × (all (derives_within g h) (right_of g (first (λ i. all (derives_within g h) (right_of g i)) (rules_of g X))) ≡ true)
  unfolding derives_within
  rule_within h X n e = any-first (λ i. all (derives_within g h) (right_of g i)) (rules_of g X) (rw n at e)

  pub within_terminal : (h X : ℕ) → is_terminal g.terminals X ≡ true → derives_within g h X ≡ true
  unfolding derives_within
  within_terminal zero X e = e
  within_terminal (suc h) X e = simp e

  pub within_zero : (X : ℕ) → derives_within g 0 X ≡ is_terminal g.terminals X
  unfolding derives_within
  within_zero X = refl

  -- more height derives no less
  pub within_suc : (h X : ℕ) → derives_within g h X ≡ true → derives_within g (suc h) X ≡ true
  within_suc zero X e = within_terminal 1 X (sym (within_zero X) ∙ e)
  within_suc (suc h) X e = go (is_terminal g.terminals X) refl (within_suc h)
    where
      go : (b : Bool) → is_terminal g.terminals X ≡ b → ((Y : ℕ) → derives_within g h Y ≡ true → derives_within g (suc h) Y ≡ true) → derives_within g (suc (suc h)) X ≡ true
      go true t up = within_terminal (suc (suc h)) X t
      go false t up =
          let f = rule_within h X t e in
          let i = first (λ j. all (derives_within g h) (right_of g j)) (rules_of g X) in
          let r = rules_in g X i f.0 in
          let same : right_of g i ≡ right r.0 = ap right_in r.1 in
          rw (← r.2) (within_rule (suc h) i r.1 (λ a m. up a (all_in (derives_within g h) (right_of g i) f.1 a (rw same m))))

  pub within_more : (k h X : ℕ) → derives_within g h X ≡ true → derives_within g (h + k) X ≡ true
  within_more zero h X e = rw (add_zero h) e
    where
      add_zero : (n : ℕ) → n + 0 ≡ n
      add_zero n = omega arith
  within_more (suc k) h X e = rw (next h k) (within_suc (h + k) X (within_more k h X e))
    where
      next : (m n : ℕ) → m + suc n ≡ suc (m + n)
      next m n = omega arith

  pub within_le : (h k X : ℕ) → h ≤ k → derives_within g h X ≡ true → derives_within g k X ≡ true
  within_le h k X l e = subst (λ (n : ℕ). derives_within g n X ≡ true) (sum h k l) (within_more (k - h) h X e)
    where
      sum : (h k : ℕ) → h ≤ k → h + (k - h) ≡ k
      sum h k l = omega arith

  -- ---- a round that adds no nonterminal is the last
  found : ℕ → ℕ
  found h = count (derives_within g h) g.nonterminals 64

  abbrev pub Stable : ℕ → Type 0
  Stable h = (Y : ℕ) → IsNonterminal g Y → derives_within g (suc h) Y ≡ true → derives_within g h Y ≡ true

  stands : (h : ℕ) → found h ≡ found (suc h) → Stable h
  unfolding found
  stands h e Y n = count_same (derives_within g h) (derives_within g (suc h)) (within_suc h) g.nonterminals 64 e Y n.0 (omega (arith, n.1))

  rounds : (h : ℕ) → ((j : ℕ) × (j ≤ h) × Stable j) ⊎ (h ≤ found h)
  unfolding found
  rounds zero = inr (omega arith)
  rounds (suc h) = go (rounds h)
    where
      next : h ≤ found h → Dec (found h ≡ found (suc h)) → ((j : ℕ) × (j ≤ suc h) × Stable j) ⊎ (suc h ≤ found (suc h))
      next l (yes e) = inl (h, omega arith, stands h e)
      next l (no d) = inr (omega (arith, l, d, count_more (derives_within g h) (derives_within g (suc h)) (within_suc h) g.nonterminals 64))

      go : ((j : ℕ) × (j ≤ h) × Stable j) ⊎ (h ≤ found h) → ((j : ℕ) × (j ≤ suc h) × Stable j) ⊎ (suc h ≤ found (suc h))
      go (inl s) = inl (s.0, omega (arith, s.1), s.2)
      go (inr l) = next l (ℕ_discrete (found h) (found (suc h)))

  module _ (w : WellFormed g) where
    -- a stable round holds every productive symbol
    pub closed : (h : ℕ) → Stable h → (X : ℕ) → Productive g X → derives_within g h X ≡ true
    closed h s X p =
        derive_every g (λ (a : ℕ). derives_within g h a ≡ true) (λ y t. within_terminal h y (terminal_is g y t))
        (λ i r e f. s r.left (w.formed i e).left_declared (within_rule h i e f)) (productive_rules g p)

    pub within_all : (X : ℕ) → IsNonterminal g X → Productive g X → derives_within g g.nonterminals X ≡ true
    unfolding found
    within_all X n p = go (rounds g.nonterminals)
      where
        go : ((j : ℕ) × (j ≤ g.nonterminals) × Stable j) ⊎ (g.nonterminals ≤ found g.nonterminals) → derives_within g g.nonterminals X ≡ true
        go (inl s) = within_le s.0 g.nonterminals X s.1 (closed s.0 s.2 X p)
        go (inr l) = count_full (derives_within g g.nonterminals) g.nonterminals 64 l X n.0 (omega (arith, n.1))

  -- ---- the least height
  pub record Height (X h : ℕ) : Type 0 where
    pub within : derives_within g h X ≡ true
    pub least : (j : ℕ) → derives_within g j X ≡ true → h ≤ j

  height_from_lem : (k h X : ℕ) → derives_within g (h + k) X ≡ true → ((j : ℕ) → derives_within g j X ≡ true → h ≤ j) → Height X (height_from g k h X) × (height_from g k h X ≤ h + k)
  unfolding height_from
  height_from_lem zero h X e l = (record { within = rw (add_zero h) at e; least = l }, omega arith)
    where
      add_zero : (n : ℕ) → n + 0 ≡ n
      add_zero n = omega arith
  height_from_lem (suc k) h X e l = go (derives_within g h X) refl (λ m. height_from_lem k (suc h) X (rw (next h k) at e) m)
    where
      next : (m n : ℕ) → m + suc n ≡ suc m + n
      next m n = omega arith

      above : derives_within g h X ≡ false → (j : ℕ) → derives_within g j X ≡ true → suc h ≤ j
      above f j t = pick (ℕ_discrete j h)
        where
          pick : Dec (j ≡ h) → suc h ≤ j
          pick (yes q) = clash (rw q at t) f
          pick (no q) = omega (arith, l j t, q)

      go : (b : Bool) → derives_within g h X ≡ b
          → (((j : ℕ) → derives_within g j X ≡ true → suc h ≤ j) → Height X (height_from g k (suc h) X) × (height_from g k (suc h) X ≤ suc h + k))
          → Height X (cond b h (height_from g k (suc h) X)) × (cond b h (height_from g k (suc h) X) ≤ h + suc k)
      go true q f = (record { within = q; least = l }, omega arith)
      go false q f = let r = f (above q) in (r.0, omega (arith, r.1))

  pub height_within : (X : ℕ) → derives_within g g.nonterminals X ≡ true → Height X (height_of g X) × (height_of g X ≤ g.nonterminals)
  unfolding height_of
  height_within X e = let r = height_from_lem g.nonterminals 0 X (rw (zero_and g.nonterminals) e) (λ j t. omega arith) in (r.0, omega (arith, r.1))
    where
      zero_and : (n : ℕ) → 0 + n ≡ n
      zero_and n = omega arith

  module _ (w : WellFormed g) (p : AllProductive g) where
    pub height_is : (X : ℕ) → IsSymbol g X → Height X (height_of g X) × (height_of g X ≤ g.nonterminals)
    height_is X (inl a) = height_within X (within_terminal g.nonterminals X (terminal_is g X a))
    height_is X (inr n) = height_within X (within_all w X n (p X n))

    pub height_terminal : (X : ℕ) → IsTerminal g X → height_of g X ≡ 0
    height_terminal X a = omega (arith, (height_is X (inl a)).0.least 0 (within_terminal 0 X (terminal_is g X a)))

    pub height_nonterminal : (X : ℕ) → IsNonterminal g X → 1 ≤ height_of g X
    height_nonterminal X n = go (height_of g X) (height_is X (inr n)).0.within
      where
        go : (h : ℕ) → derives_within g h X ≡ true → 1 ≤ h
        go zero e = clash (sym (within_zero X) ∙ e) (nonterminal_false g X w.few_terminals n)
        go (suc h) e = omega arith

    -- "the first rule of least derivation height" is a rule of X whose symbols are all lower
    pub record Shortest (X i : ℕ) : Type 0 where
      pub one_of : In i (rules_of g X)
      pub lower : (a : ℕ) → In a (right_of g i) → height_of g a < height_of g X

    pub shortest_is : (X : ℕ) → IsNonterminal g X → Shortest X (shortest g X)
    unfolding shortest
    shortest_is X n =
        let f = rule_within (height_of g X - 1) X (nonterminal_false g X w.few_terminals n) (rw (again (height_of g X) high) (height_is X (inr n)).0.within) in
        let i = first (λ j. all (derives_within g (height_of g X - 1)) (right_of g j)) (rules_of g X) in
        let r = rules_in g X i f.0 in
        record {
          one_of = f.0;
          lower = λ a m. omega (
            arith,
            (height_is a ((w.formed i r.1).declared a (subst (In a) (ap right_in r.1) m))).0.least (height_of g X - 1) (all_in (derives_within g (height_of g X - 1)) (right_of g i) f.1 a m),
            high,
          );
        }
      where
        high : 1 ≤ height_of g X
        high = height_nonterminal X n

        again : (h : ℕ) → 1 ≤ h → suc (h - 1) ≡ h
        again h l = omega arith
