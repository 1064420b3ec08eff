-- Two machines that make the same steps walk alike.
use mathlib.Core.Path.{◌≡◌, refl, ap, ap₂, ◌∙◌}
use mathlib.Core.Logic.{◌⊎◌, inl, inr}
use mathlib.Core.Bool.{cond, ◌&&◌}
use mathlib.Core.List.{List, [], ◌∷◌, ◌++◌}
use Prim.Native.Nat.{ℕ, zero, suc, ◌+◌}
use lib.Dec.{leb}
use lib.ListN.{length}
use Rattle.language.specs.Grammar.{Grammar, rule_at}
use Rattle.language.specs.First.{next}
use Rattle.language.specs.Listing.{units_in, is_unit}
use Rattle.language.specs.Sentence.{In, here, there}
use Rattle.leftcorner.specs.Machine.{Automaton, Event, shifted, announced, closed, Outcome, on, whole, wrong, rules_of, to_come, taken, step, start, Verdict, short_at, proceed, walk_for, enough_steps, walk}

-- unit rules of the same numbers count alike
pub units_agree : (g h : Grammar) → ((i : ℕ) → is_unit (rule_at g i) ≡ is_unit (rule_at h i)) → (l : List ℕ) → units_in g l ≡ units_in h l
units_agree g h same [] = refl
units_agree g h same (i ∷ l) = ap₂ ◌+◌ (same i) (units_agree g h same l)

-- the end of the tokens, or one of them
abbrev pub CodeOf : List ℕ → ℕ → Type 0
CodeOf w c = (c ≡ 0) ⊎ In c w

next_of : (w v : List ℕ) → ((c : ℕ) → In c v → In c w) → CodeOf w (next v 0)
next_of w [] part = inl refl
next_of w (a ∷ v) part = inr (part a here)

in_rest : (e : Event) (v : List ℕ) (c : ℕ) → In c (to_come e v) → In c v
in_rest (shifted a) [] c i = i
in_rest (shifted a) (x ∷ v) c i = there i
in_rest (announced r) v c i = i
in_rest closed v c i = i

module _ (g h : Grammar) (m o : Automaton) (w : List ℕ) (Kept : List ℕ → Type 0)
    (kept_on : (S U : List ℕ) (c : ℕ) (e : Event) → Kept S → CodeOf w c → step g m S c ≡ on e U → Kept U)
    (same : (S : List ℕ) (c : ℕ) → Kept S → CodeOf w c → step g m S c ≡ step h o S c) where
  module _ (n k : ℕ) where
    for_agree : (f : ℕ) (S v : List ℕ) (p : ℕ) (l : List ℕ) → Kept S → ((c : ℕ) → In c v → In c w) → walk_for g m n k f S v p l ≡ walk_for h o n k f S v p l
    for_agree zero S v p l s part = refl
    for_agree (suc f) S v p l s part =
        after (step g m S (next v 0))
        (λ U e q. for_agree f U (to_come e v) (taken e p) (l ++ rules_of e) (kept_on S U (next v 0) e s (next_of w v part) q) (λ c i. part c (in_rest e v c i)))
        ∙ ap (λ (y : Outcome). proceed h o n k y v p l (walk_for h o n k f)) (same S (next v 0) s (next_of w v part))
      where
        after : (x : Outcome) → ((U : List ℕ) (e : Event) → x ≡ on e U
            → walk_for g m n k f U (to_come e v) (taken e p) (l ++ rules_of e) ≡ walk_for h o n k f U (to_come e v) (taken e p) (l ++ rules_of e))
            → proceed g m n k x v p l (walk_for g m n k f) ≡ proceed h o n k x v p l (walk_for h o n k f)
        after (on e U) again = ap (λ (y : Verdict). cond (leb (length U) n && leb (length (l ++ rules_of e)) k) y (short_at p)) (again U e refl)
        after whole again = refl
        after wrong again = refl

    -- the same start, and the same step from every stack that is kept, on 0 and on every token
    pub walk_agree : m.enter 1 ≡ o.enter 1 → Kept (start g m) → walk g m n k w ≡ walk h o n k w
    walk_agree e first =
        ap (λ (y : Verdict). cond (leb 1 n && leb 0 k) y (short_at 0)) (for_agree (enough_steps g m n k w) (start g m) w 0 [] first (λ c i. i))
        ∙ ap (λ (q : ℕ). cond (leb 1 n && leb 0 k) (walk_for h o n k (enough_steps g m n k w) (q ∷ []) w 0 []) (short_at 0)) e
