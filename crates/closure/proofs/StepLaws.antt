-- Passes over the rules: when a rule's clauses are met, and what they add.
use Prim.Native.Nat.{ℕ, ◌+◌, ◌*◌, ◌≤◌, ◌<◌}
use native.Mathlib.Omega.{arith}
use mathlib.Core.Path.{◌≡◌, refl, sym, subst}
use mathlib.Core.Logic.{inl, inr}
use mathlib.Core.List.{List}
use Rattle.items.specs.Layout.{left_at}
use Rattle.fixpoint.specs.Flags.{On}
use Rattle.fixpoint.specs.Least.{Least, by, Met, least_every}
use Rattle.analysis.specs.Adds.{AnyIn}
use Rattle.closure.specs.Kernel.{BeforeNonterminal}
use Rattle.closure.specs.Steps.{Expands, Expansion, expansions, Gives, Following, followings, LeftIn, FirstIs, Fires, Covered}

same_first : {m : List ℕ} {i b x : ℕ} → BeforeNonterminal m i 0 b → BeforeNonterminal m i 0 x → b ≡ x
same_first p r = omega (arith, p.symbol, r.symbol)

same_left : {n a x : ℕ} → n ≡ 64 + a → n ≡ 64 + x → a ≡ x
same_left e f = omega arith

pub any_kept : {fs₀ fs : List ℕ} (start codes : ℕ) → ((y : ℕ) → On fs₀ y → On fs y) → AnyIn fs₀ start codes → AnyIn fs start codes
any_kept start codes kept a = record { code = a.code; low = a.low; on = kept (start + a.code) a.on }

-- ---- what is expanded

module _ (m : List ℕ) (rules : ℕ) where
  -- the clause of rule j is met
  abbrev pub ExpansionMet : ℕ → List ℕ → Type 0
  ExpansionMet j fs = (s : Expansion) → s.rule ≡ j → Met (expansions m rules) (On fs) s

  module _ {i : ℕ} {fs : List ℕ} where
    -- its left side is not expanded
    pub left_out : (LeftIn m i fs → ⊥) → ExpansionMet i fs
    left_out f s e ok ns = absurd (f (record { left = s.left; is = subst (λ (j : ℕ). left_at m j ≡ 64 + s.left) e ok.left; on = ns s.left refl }))

    -- it begins with no nonterminal
    pub first_out : {r : ℕ} → FirstIs m i r → 64 ≤ r → ExpansionMet i fs
    first_out w l s e ok ns = absurd (w.missing l s.first (subst (λ (j : ℕ). BeforeNonterminal m j 0 s.first) e ok.stands))

    -- what it begins with is expanded
    pub first_in : {r : ℕ} → BeforeNonterminal m i 0 r → On fs r → ExpansionMet i fs
    first_in p on s e ok ns = subst (On fs) (same_first p (subst (λ (j : ℕ). BeforeNonterminal m j 0 s.first) e ok.stands)) on

  pub expand : {i r : ℕ} {S : ℕ → Type 0} {fs : List ℕ} → 1 ≤ i → i ≤ rules → LeftIn m i fs → BeforeNonterminal m i 0 r
      → ((y : ℕ) → On fs y → Least (expansions m rules) S y) → Least (expansions m rules) S r
  expand {i = i} {r = r} {S = S} l u h p only =
      by (record { rule = i; left = h.left; first = r }) (record { above = l; below = u; left = h.is; stands = p })
      (λ a e. subst (Least (expansions m rules) S) (sym e) (only h.left h.on))

  pub all_expanded : {fs : List ℕ} → ((j : ℕ) → 1 ≤ j → j ≤ rules → ExpansionMet j fs) → (s : Expansion) → Met (expansions m rules) (On fs) s
  all_expanded h s ok ns = h s.rule ok.above ok.below s refl ok ns

-- ---- what can follow

module _ (m : List ℕ) (rules codes : ℕ) (starts through : List ℕ) where
  -- the clauses of rule j are met; those of them that give code c
  abbrev pub FollowingMet : ℕ → List ℕ → Type 0
  FollowingMet j fs = (s : Following) → s.rule ≡ j → Met (followings m rules codes starts through) (On fs) s

  abbrev pub CodeMet : ℕ → ℕ → List ℕ → Type 0
  CodeMet j c fs = (s : Following) → s.rule ≡ j → s.next ≡ c → Met (followings m rules codes starts through) (On fs) s

  pub next_low : (s : Following) → s.code < codes → Gives codes starts through s.rule s.code s.next → s.next < codes
  next_low s l (inl h) = h.0
  next_low s l (inr h) = omega (arith, h.1)

  -- what can be followed is expanded, throughout
  pub covered_least : {present fs : List ℕ} → codes ≤ 64 → Covered m rules codes present fs → {y : ℕ} → Least (followings m rules codes starts through) (On fs) y
      → (b c : ℕ) → c < codes → y ≡ b * 64 + c → On present b
  covered_least {present = present} {fs = fs} few v p =
      least_every (followings m rules codes starts through) (λ (y : ℕ). (b c : ℕ) → c < codes → y ≡ b * 64 + c → On present b)
      (λ y on b c l e. v.seeded b c l (subst (On fs) e on)) step p
    where
      step : (s : Following) → Met (followings m rules codes starts through) (λ (y : ℕ). (b c : ℕ) → c < codes → y ≡ b * 64 + c → On present b) s
      step s ok ns b c l e =
          let n = next_low s ok.1 ok.2 in
          let q : s.first ≡ b = omega arith in
          subst (On present) q
          (v.closed (record { rule = s.rule; left = s.left; first = s.first }) ok.0
          (λ a h. subst (On present) (sym h) (ns (s.left * 64 + s.code) refl s.left s.code ok.1 refl)))

  left_of : {i : ℕ} (s : Following) → s.rule ≡ i → Expands m rules s.rule s.left s.first → left_at m i ≡ 64 + s.left
  left_of s e ok = subst (λ (j : ℕ). left_at m j ≡ 64 + s.left) e ok.left

  first_of : {i : ℕ} (s : Following) → s.rule ≡ i → Expands m rules s.rule s.left s.first → BeforeNonterminal m i 0 s.first
  first_of s e ok = subst (λ (j : ℕ). BeforeNonterminal m j 0 s.first) e ok.stands

  is_left : {i : ℕ} (a : ℕ) → left_at m i ≡ 64 + a → (s : Following) → s.rule ≡ i → Expands m rules s.rule s.left s.first → s.left ≡ a
  is_left a el s e ok = same_left (left_of s e ok) el

  module _ {i : ℕ} {fs : List ℕ} where
    -- its left side is not expanded, so nothing can follow it
    pub absent : {present : List ℕ} → ((b c : ℕ) → c < codes → On fs (b * 64 + c) → On present b) → (LeftIn m i present → ⊥) → FollowingMet i fs
    absent v f s e ok ns =
        absurd (f (record { left = s.left; is = left_of s e ok.0; on = v s.left s.code ok.1 (ns (s.left * 64 + s.code) refl) }))

    -- it begins with no nonterminal
    pub first_none : {r : ℕ} → FirstIs m i r → 64 ≤ r → FollowingMet i fs
    first_none w l s e ok ns = absurd (w.missing l s.first (first_of s e ok.0))

    module _ (a : ℕ) (el : left_at m i ≡ 64 + a) where
      -- nothing can follow its left side
      pub codeless : (AnyIn fs (a * 64) codes → ⊥) → FollowingMet i fs
      codeless f s e ok ns =
          absurd (f (record { code = s.code; low = ok.1; on = subst (λ (k : ℕ). On fs (k * 64 + s.code)) (is_left a el s e ok.0) (ns (s.left * 64 + s.code) refl) }))

      module _ {r : ℕ} (p : BeforeNonterminal m i 0 r) where
        -- code c follows already
        pub code_in : {c : ℕ} → On fs (r * 64 + c) → CodeMet i c fs
        code_in {c = c} on s e n ok ns =
            let q : r * 64 + c ≡ s.first * 64 + s.next = omega (arith, same_first p (first_of s e ok.0)) in
            subst (On fs) q on

        -- no clause gives code c
        pub code_out : {c : ℕ} → (Fires starts through fs i a c → ⊥) → CodeMet i c fs
        code_out {c = c} f s e n ok ns = absurd (f (go ok.2))
          where
            go : Gives codes starts through s.rule s.code s.next → Fires starts through fs i a c
            go (inl h) = let q : s.rule * 64 + s.next ≡ i * 64 + c = omega arith in inl (subst (On starts) q h.1)
            go (inr h) =
                let q : s.left * 64 + s.code ≡ a * 64 + c = omega (arith, is_left a el s e ok.0, h.1) in
                inr (subst (On through) e h.0, subst (On fs) q (ns (s.left * 64 + s.code) refl))

        -- a code that a clause gives
        pub code_fired : {S : ℕ → Type 0} {c : ℕ} → 1 ≤ i → i ≤ rules → c < codes → AnyIn fs (a * 64) codes
            → ((y : ℕ) → On fs y → Least (followings m rules codes starts through) S y) → Fires starts through fs i a c
            → Least (followings m rules codes starts through) S (r * 64 + c)
        code_fired {S = S} {c = c} l u lc any only f = go f
          where
            ex' : Expands m rules i a r
            ex' = record { above = l; below = u; left = el; stands = p }

            fire : (d : ℕ) → d < codes → On fs (a * 64 + d) → Gives codes starts through i d c → Least (followings m rules codes starts through) S (r * 64 + c)
            fire d ld on g =
                by (record { rule = i; left = a; first = r; code = d; next = c }) (ex', ld, g)
                (λ y q. subst (Least (followings m rules codes starts through) S) (sym q) (only (a * 64 + d) on))

            go : Fires starts through fs i a c → Least (followings m rules codes starts through) S (r * 64 + c)
            go (inl on) = fire any.code any.low any.on (inl (lc, on))
            go (inr h) = fire c lc h.1 (inr (h.0, refl))

    pub all_codes : ((c : ℕ) → c < codes → CodeMet i c fs) → FollowingMet i fs
    all_codes h s e ok ns = h s.next (next_low s ok.1 ok.2) s e refl ok ns

  pub all_follow : {fs : List ℕ} → ((j : ℕ) → 1 ≤ j → j ≤ rules → FollowingMet j fs) → (s : Following) → Met (followings m rules codes starts through) (On fs) s
  all_follow h s ok ns = h s.rule ok.0.above ok.0.below s refl ok ns
