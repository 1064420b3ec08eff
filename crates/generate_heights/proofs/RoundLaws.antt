-- A round of heights, rule by rule. One list is enough: what the round itself sets is not lower than its number.
use Prim.Native.Nat.{ℕ, suc, ◌≤◌, ◌<◌}
use mathlib.Core.Path.{◌≡◌, refl, sym, ap, subst, ◌∙◌}
use mathlib.Core.Logic.{◌⊎◌, inl, inr}
use mathlib.Core.Bool.{Bool, true, false, cond}
use mathlib.Core.List.{List}
use mathlib.Core.Option.{some}
use native.Mathlib.Omega.{arith}
use native.Mathlib.Decide.{ℕ_discrete, dec_le}
use lib.ListN.{length, get_or, set}
use lib.Seq.{get_or-set_same, get_or-set_other}
use borrow.Author.Tests.{lt-ltb, le-ltb, le-leb, lt-leb}
use Rattle.language.specs.Grammar.{Grammar, Rule, right, rule_at}
use Rattle.language.specs.Sentence.{In}
use Rattle.language.specs.Tests.{all}
use Rattle.language.proofs.GrammarLaws.{range_rule, rule_range}
use Rattle.symbol.specs.Symbol.{is_terminal}
use Rattle.symbol.proofs.KindLaws.{terminal_is}
use Rattle.items.specs.Layout.{left_at}
use Rattle.generate_loads.specs.Load.{right_in, right_of, rules_of, IsSymbol, first, derives_within, height_of}
use Rattle.generate_loads.proofs.RuleLaws.{clash, nonterminal_false, all_in, in_all, rules_in}
use Rattle.generate_loads.proofs.HeightLaws.{within_zero, within_terminal, within_suc, within_le, within_rule, rule_within, height_is, height_terminal, Stable, closed}
use Rattle.generate_heights.specs.Heights.{Source, HoldsHeights, is_lower, lower_in, Started, Reached}
use Rattle.generate_heights.proofs.SymbolLaws.{lower_rule}

same_rule : (s r : Rule) → some s ≡ some r → s ≡ r
same_rule s r e = cc

-- round h, behind round p, with the rules below i done
pub record Round (g : Grammar) (p h i : ℕ) (heights : List ℕ) : Type 0 where
  pub kept : (X : ℕ) → IsSymbol g X → derives_within g p X ≡ true → get_or heights X 0 ≡ height_of g X
  pub fresh : (X : ℕ) → IsSymbol g X → derives_within g p X ≡ false → (get_or heights X 0 ≡ 255) ⊎ ((get_or heights X 0 ≡ h) × (derives_within g h X ≡ true))
  pub done : (j : ℕ) (r : Rule) → j < i → rule_at g j ≡ some r → ((a : ℕ) → In a (right r) → derives_within g p a ≡ true) → get_or heights r.left 0 ≡ 255 → ⊥

module _ (items : List ℕ) (rules : ℕ) (g : Grammar) (e : Source items rules g) (p h : ℕ) (step : h ≡ suc p) (low : h < 255) where
  few : (X : ℕ) → IsSymbol g X → height_of g X ≤ 64
  few X d = omega (arith, (height_is g e.formed e.productive X d).1, e.formed.few_nonterminals)

  pub round_start : (heights : List ℕ) → Reached g p heights → Round g p h 1 heights
  round_start heights f = record {
    kept = λ X d t. f.height X d ∙ simp t;
    fresh = λ X d t. inl (f.height X d ∙ simp t);
    done = λ j r l q. absurd (omega (arith, l, (rule_range g j q).0));
  }

  module _ (heights : List ℕ) (i : ℕ) (R : Round g p h i heights) where
    -- what is lower than h is what derives within p
    lower_round : (a : ℕ) → IsSymbol g a → is_lower heights h a ≡ derives_within g p a
    lower_round a d = go (derives_within g p a) refl
      where
        other : (get_or heights a 0 ≡ 255) ⊎ ((get_or heights a 0 ≡ h) × (derives_within g h a ≡ true)) → h ≤ get_or heights a 0
        other (inl q) = omega (arith, q, low)
        other (inr q) = omega (arith, q.0)

        go : (b : Bool) → derives_within g p a ≡ b → is_lower heights h a ≡ b
        go true t = lt-ltb (get_or heights a 0) h (omega (arith, R.kept a d t, (height_is g e.formed e.productive a d).0.least p t, step))
        go false t = le-ltb (get_or heights a 0) h (other (R.fresh a d t))

    lower_all : (r : Rule) → rule_at g i ≡ some r → lower_in items heights h i ≡ all (derives_within g p) (right r)
    lower_all r q =
        let f = e.formed.formed i q in
        lower_rule items heights h i r (e.holds.rule_in i q) f.short (derives_within g p) (λ a u. lower_round a (f.declared a u))

    -- with rule i done as well
    widen : {k : ℕ} (r : Rule) → k ≡ suc i → rule_at g i ≡ some r → (((a : ℕ) → In a (right r) → derives_within g p a ≡ true) → get_or heights r.left 0 ≡ 255 → ⊥) → Round g p h k heights
    widen {k} r u q f = record { kept = R.kept; fresh = R.fresh; done = λ j s l t. pick (ℕ_discrete j i) s l t }
      where
        pick : {j : ℕ} → Dec (j ≡ i) → (s : Rule) → j < k → rule_at g j ≡ some s → ((a : ℕ) → In a (right s) → derives_within g p a ≡ true) → get_or heights s.left 0 ≡ 255 → ⊥
        pick (yes v) s l t = let same : s ≡ r = same_rule s r (sym t ∙ (ap (rule_at g) v ∙ q)) in rw same f
        pick {j} (no v) s l t = R.done j s (omega (arith, l, u, v)) t

    the_rule : 1 ≤ i → i ≤ rules → (r : Rule) × (rule_at g i ≡ some r)
    the_rule l u = range_rule g i l (omega (arith, e.holds.count))

    -- the left side has a height
    pub round_known : {k x : ℕ} → 1 ≤ i → i ≤ rules → k ≡ suc i → x ≡ left_at items i → (get_or heights x 0 ≡ 255 → ⊥) → Round g p h k heights
    round_known {k} {x} l u v q f =
        let r = the_rule l u in
        let same : x ≡ r.0.left = q ∙ (e.holds.rule_in i r.1).left_is in
        widen r.0 v r.1 (λ _. rw same at f)

    -- some symbol is not lower
    pub round_high : {k : ℕ} → 1 ≤ i → i ≤ rules → k ≡ suc i → lower_in items heights h i ≡ false → Round g p h k heights
    round_high l u v f =
        let r = the_rule l u in
        widen r.0 v r.1 (λ w. clash (lower_all r.0 r.1 ∙ in_all (derives_within g p) (right r.0) w) f)

    -- the left side gets its height
    pub round_add : {k x : ℕ} → 1 ≤ i → i ≤ rules → k ≡ suc i → x ≡ left_at items i → x < length heights → get_or heights x 0 ≡ 255 → lower_in items heights h i ≡ true → Round g p h k (set heights x h)
    round_add {k} {x} l u v q b unset f =
        let r = the_rule l u in
        let same : r.0.left ≡ x = sym (q ∙ (e.holds.rule_in i r.1).left_is) in
        let here : get_or (set heights x h) x 0 ≡ h = get_or-set_same heights x h 0 b in
        let within : derives_within g h x ≡ true
        = rw (step, ← same) (within_rule g p i r.1 (all_in (derives_within g p) (right r.0) (sym (lower_all r.0 r.1) ∙ f))) in
        record {
          kept = λ X d t. get_or-set_other heights x X h 0 (λ (y : X ≡ x). absurd (omega (arith, few X d, R.kept X d t, ap (λ (z : ℕ). get_or heights z 0) y, unset))) ∙ R.kept X d t;
          fresh = λ X d t. at_x X here within (ℕ_discrete X x) (R.fresh X d t);
          done = λ j s y t w. past j s here (ℕ_discrete s.left x) (λ z o. elsewhere j s y t w same z o);
        }
      where
        at_x : (X : ℕ) → get_or (set heights x h) x 0 ≡ h → derives_within g h x ≡ true → Dec (X ≡ x) → (get_or heights X 0 ≡ 255) ⊎ ((get_or heights X 0 ≡ h) × (derives_within g h X ≡ true))
            → (get_or (set heights x h) X 0 ≡ 255) ⊎ ((get_or (set heights x h) X 0 ≡ h) × (derives_within g h X ≡ true))
        at_x X o w (yes y) z = inr (rw y (o, w))
        at_x X o w (no y) z = rw (get_or-set_other heights x X h 0 y) z

        past : (j : ℕ) (s : Rule) → get_or (set heights x h) x 0 ≡ h → Dec (s.left ≡ x) → ((s.left ≡ x → ⊥) → get_or heights s.left 0 ≡ 255 → ⊥) → get_or (set heights x h) s.left 0 ≡ 255 → ⊥
        past j s o (yes y) z t = omega (arith, o, low, ap (λ (n : ℕ). get_or (set heights x h) n 0) y, t)
        past j s o (no y) z t = z y (sym (get_or-set_other heights x s.left h 0 y) ∙ t)

        elsewhere : (j : ℕ) (s : Rule) → j < k → rule_at g j ≡ some s → ((a : ℕ) → In a (right s) → derives_within g p a ≡ true) → (the_rule l u).0.left ≡ x
            → (s.left ≡ x → ⊥) → get_or heights s.left 0 ≡ 255 → ⊥
        elsewhere j s y t w same z o = go (ℕ_discrete j i)
          where
            go : Dec (j ≡ i) → ⊥
            go (yes c) = z (ap (λ (n : Rule). n.left) (same_rule s (the_rule l u).0 (sym t ∙ (ap (rule_at g) c ∙ (the_rule l u).1))) ∙ same)
            go (no c) = R.done j s (omega (arith, y, v, c)) t w o

    -- all rules are done
    pub round_end : rules < i → Reached g h heights
    round_end l = record { height = λ X d. go X d (derives_within g p X) refl }
      where
        at_h : (X : ℕ) → IsSymbol g X → derives_within g p X ≡ false → derives_within g h X ≡ true → height_of g X ≡ h
        at_h X d f t =
            let H = (height_is g e.formed e.productive X d).0 in
            let above : suc p ≤ height_of g X = higher (dec_le (suc p) (height_of g X)) H.within in
            omega (arith, H.least h t, above, step)
          where
            higher : Dec (suc p ≤ height_of g X) → derives_within g (height_of g X) X ≡ true → suc p ≤ height_of g X
            higher (yes y) w = y
            higher (no y) w = clash (within_le g (height_of g X) p X (omega (arith, y)) w) f

        not_terminal : (X : ℕ) → derives_within g p X ≡ false → is_terminal g.terminals X ≡ false
        not_terminal X f = pick (is_terminal g.terminals X) refl
          where
            pick : (b : Bool) → is_terminal g.terminals X ≡ b → b ≡ false
            pick true t = clash (within_terminal g p X t) f
            pick false t = refl

        found : (X : ℕ) → derives_within g p X ≡ false → derives_within g h X ≡ true → get_or heights X 0 ≡ 255 → ⊥
        found X f t =
            let w = rule_within g p X (not_terminal X f) (rw step at t) in
            let j = first (λ k. all (derives_within g p) (right_of g k)) (rules_of g X) in
            let r = rules_in g X j w.0 in
            let within : (a : ℕ) → In a (right r.0) → derives_within g p a ≡ true
            = λ a n. all_in (derives_within g p) (right_of g j) w.1 a (subst (In a) (sym (ap right_in r.1)) n) in
            rw r.2 at (R.done j r.0 (omega (arith, l, (rule_range g j r.1).1, e.holds.count)) r.1 within)

        rest : (X : ℕ) → IsSymbol g X → derives_within g p X ≡ false → (b : Bool) → derives_within g h X ≡ b
            → (get_or heights X 0 ≡ 255) ⊎ ((get_or heights X 0 ≡ h) × (derives_within g h X ≡ true)) → get_or heights X 0 ≡ cond b (height_of g X) 255
        rest X d f true t (inl y) = absurd (found X f t y)
        rest X d f true t (inr y) = y.0 ∙ sym (at_h X d f t)
        rest X d f false t (inl y) = y
        rest X d f false t (inr y) = clash y.1 t

        go : (X : ℕ) → IsSymbol g X → (b : Bool) → derives_within g p X ≡ b → get_or heights X 0 ≡ cond (derives_within g h X) (height_of g X) 255
        go X d true t =
            let up : derives_within g h X ≡ true = rw step (within_suc g p X t) in
            R.kept X d t ∙ sym (simp up)
        go X d false t = rest X d t (derives_within g h X) refl (R.fresh X d t)

-- ---- before the first round and behind the last
pub heights_start : (items : List ℕ) (rules : ℕ) (g : Grammar) → Source items rules g → (heights : List ℕ) → Started g.terminals 128 heights → Reached g 0 heights
heights_start items rules g e heights s = record { height = go }
  where
    go : (X : ℕ) → IsSymbol g X → get_or heights X 0 ≡ cond (derives_within g 0 X) (height_of g X) 255
    go X (inl a) =
        let t : derives_within g 0 X ≡ true = within_zero g X ∙ terminal_is g X a in
        let l : get_or heights X 0 ≡ 0 = s X (omega (arith, a.1, e.formed.few_terminals)) ∙ simp (le-leb X g.terminals a.1) in
        l ∙ sym (simp t (height_terminal g e.formed e.productive X a))
    go X (inr n) =
        let t : derives_within g 0 X ≡ false = within_zero g X ∙ nonterminal_false g X e.formed.few_terminals n in
        let l : get_or heights X 0 ≡ 255 = s X (omega (arith, n.1, e.formed.few_nonterminals)) ∙ simp (lt-leb X g.terminals (omega (arith, n.0, e.formed.few_terminals))) in
        l ∙ sym (simp t)

pub heights_end : (items : List ℕ) (rules : ℕ) (g : Grammar) → Source items rules g → (heights : List ℕ) → Reached g g.nonterminals heights → HoldsHeights g heights
heights_end items rules g e heights f = record {
  height_is = λ X d.
      let H = height_is g e.formed e.productive X d in
      let t : derives_within g g.nonterminals X ≡ true = within_le g (height_of g X) g.nonterminals X H.1 H.0.within in
      f.height X d ∙ simp t;
}

-- a round that adds none is the last
pub heights_stable : (items : List ℕ) (rules : ℕ) (g : Grammar) → Source items rules g → (p : ℕ) (heights : List ℕ) → Reached g p heights → Reached g (suc p) heights
    → HoldsHeights g heights
heights_stable items rules g e p heights a b = record { height_is = λ X d. a.height X d ∙ simp (all_within X d) }
  where
    stable : Stable g p
    stable Y n t = pick (derives_within g p Y) refl
      where
        pick : (b : Bool) → derives_within g p Y ≡ b → b ≡ true
        pick true q = refl
        pick false q =
            let unset : get_or heights Y 0 ≡ 255 = a.height Y (inr n) ∙ simp q in
            let set_to : get_or heights Y 0 ≡ height_of g Y = b.height Y (inr n) ∙ simp t in
            absurd (omega (arith, unset, set_to, (height_is g e.formed e.productive Y (inr n)).1, e.formed.few_nonterminals))

    all_within : (X : ℕ) → IsSymbol g X → derives_within g p X ≡ true
    all_within X (inl t) = within_terminal g p X (terminal_is g X t)
    all_within X (inr n) = closed g e.formed p stable X (e.productive X n)
