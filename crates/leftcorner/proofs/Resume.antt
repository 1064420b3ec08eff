-- The walk from any position goes on step by step, whatever bound on its steps it is written with; the walk from the start is the walk
-- from wherever it has come to.
use Prim.Native.Nat.{ℕ, zero, suc, ◌+◌, ◌≤◌, ◌<◌}
use native.Mathlib.Omega.{arith}
use native.Mathlib.Decide.{dec_le}
use mathlib.Core.Path.{◌≡◌, refl, sym, ap, ◌∙◌}
use mathlib.Core.Logic.{◌⊎◌, inl, inr}
use mathlib.Core.Bool.{Bool, true, false, cond, ◌&&◌}
use mathlib.Core.List.{List, [], ◌++◌}
use lib.Dec.{leb}
use lib.ListN.{length}
use Rattle.language.specs.Grammar.{Grammar}
use Rattle.language.specs.First.{next}
use Rattle.leftcorner.specs.Machine.{Automaton, Event, Outcome, on, whole, wrong, rules_of, to_come, taken, step, start, Verdict, whole_at, wrong_at, short_at, fits, proceed, walk_for, enough_steps, walk}
use Rattle.leftcorner.specs.Claim.{Within, begins, steps, Outgrows, at_start, at_step}
use Rattle.leftcorner.specs.Resume.{steps_from, resume}
use Rattle.leftcorner.proofs.Progress.{PopsSome, progress}
use Rattle.leftcorner.proofs.Bounded.{fits_yes, fits_no, Enough, enough_on, enough_at_start, no_fuel}

-- the place that a walk ends at
abbrev pub end_place : Verdict → ℕ
end_place (whole_at p l) = p
end_place (wrong_at p) = p
end_place (short_at p) = p

module _ (g : Grammar) (m : Automaton) (n k : ℕ) where
  -- two ways on that agree where a step fits make the same of it
  proceed_alike : (o : Outcome) (w : List ℕ) (p : ℕ) (l : List ℕ) (again other : List ℕ → List ℕ → ℕ → List ℕ → Verdict)
      → ((e : Event) (U : List ℕ) → o ≡ on e U → length U ≤ n → length (l ++ rules_of e) ≤ k
      → again U (to_come e w) (taken e p) (l ++ rules_of e) ≡ other U (to_come e w) (taken e p) (l ++ rules_of e))
      → proceed g m n k o w p l again ≡ proceed g m n k o w p l other
  proceed_alike whole w p l again other h = refl
  proceed_alike wrong w p l again other h = refl
  proceed_alike (on e U) w p l again other h = go (dec_le (length U) n) (dec_le (length (l ++ rules_of e)) k)
    where
      after : List ℕ
      after = l ++ rules_of e

      short : (n < length U) ⊎ (k < length after) → fits g m n k p U after (again U (to_come e w) (taken e p) after) ≡ fits g m n k p U after (other U (to_come e w) (taken e p) after)
      short z = fits_no g m n k p U after _ z ∙ sym (fits_no g m n k p U after _ z)

      go : Dec (length U ≤ n) → Dec (length after ≤ k) → fits g m n k p U after (again U (to_come e w) (taken e p) after) ≡ fits g m n k p U after (other U (to_come e w) (taken e p) after)
      go (yes a) (yes b) = ap (fits g m n k p U after) (h e U refl a b)
      go (yes a) (no b) = short (inr (omega (arith, b)))
      go (no a) d = short (inl (omega (arith, a)))

  module _ (least : PopsSome m) where
    more_steps : (f h : ℕ) (S w : List ℕ) (p : ℕ) (l : List ℕ) → Enough g m n k S w l f → Enough g m n k S w l h
        → walk_for g m n k f S w p l ≡ walk_for g m n k h S w p l
    more_steps zero h S w p l x y = no_fuel g m n k x
    more_steps (suc f) zero S w p l x y = no_fuel g m n k y
    more_steps (suc f) (suc h) S w p l x y =
        proceed_alike (step g m S (next w 0)) w p l (walk_for g m n k f) (walk_for g m n k h)
        (λ e U eq a b. more_steps f h U (to_come e w) (taken e p) (l ++ rules_of e)
        (enough_on g m n k x (progress g m least S w e U eq) a b) (enough_on g m n k y (progress g m least S w e U eq) a b))

    enough_from : (S w l : List ℕ) → Enough g m n k S w l (suc (steps_from g m n k S w))
    enough_from S w l = record { left = k + length w; covers = omega arith; fuel = omega arith }

    -- the walk goes on by one step
    pub resume-step : (S w : List ℕ) (p : ℕ) (l : List ℕ) → resume g m n k S w p l ≡ proceed g m n k (step g m S (next w 0)) w p l (resume g m n k)
    unfolding resume
    resume-step S w p l =
        proceed_alike (step g m S (next w 0)) w p l (walk_for g m n k (steps_from g m n k S w)) (resume g m n k)
        (λ e U eq a b. more_steps (steps_from g m n k S w) (suc (steps_from g m n k U (to_come e w))) U (to_come e w) (taken e p) (l ++ rules_of e)
        (enough_on g m n k (enough_from S w l) (progress g m least S w e U eq) a b) (enough_from U (to_come e w) (l ++ rules_of e)))

    -- by a step whose outcome is known
    pub resume_on : {o : Outcome} (S w : List ℕ) (p : ℕ) (l : List ℕ) → step g m S (next w 0) ≡ o → resume g m n k S w p l ≡ proceed g m n k o w p l (resume g m n k)
    resume_on S w p l h = resume-step S w p l ∙ ap (λ (o : Outcome). proceed g m n k o w p l (resume g m n k)) h

    -- the walk from the start, where its first state fits
    pub resume-start : (w : List ℕ) → 1 ≤ n → walk g m n k w ≡ resume g m n k (start g m) w 0 []
    unfolding resume
    resume-start w le =
        fits_yes g m n k 0 (start g m) [] _ le (omega arith)
        ∙ more_steps (enough_steps g m n k w) (suc (steps_from g m n k (start g m) w)) (start g m) w 0 [] (enough_at_start g m n k w le) (enough_from (start g m) w [])

    -- the walk from the start is the walk from wherever it has come to
    pub within_resume : {w S v l : List ℕ} {p : ℕ} → Within g m n k w S v p l → walk g m n k w ≡ resume g m n k S v p l
    within_resume {w} (begins le) = resume-start w le
    within_resume (steps {S = S} {U = U} {v = v} {l = l} {e = e} {p = p} x h a b) =
        within_resume x ∙ resume_on S v p l h ∙ fits_yes g m n k p U (l ++ rules_of e) _ a b

    -- a walk that outgrows what is lent is short there, and so at one place only
    pub outgrows_short : {w : List ℕ} {p : ℕ} → Outgrows g m n k w p → walk g m n k w ≡ short_at p
    outgrows_short (at_start h) = fits_no g m n k 0 (start g m) [] _ (inl h)
    outgrows_short (at_step {S = S} {U = U} {v = v} {l = l} {e = e} {p = p} x h z) =
        within_resume x ∙ resume_on S v p l h ∙ fits_no g m n k p U (l ++ rules_of e) _ z

    -- as many tokens are taken as are not to come
    within_place : {w S v l : List ℕ} {p : ℕ} → Within g m n k w S v p l → p + length v ≡ length w
    within_place (begins le) = omega arith
    within_place (steps {S = S} {U = U} {v = v} {e = e} {p = p} x h a b) = omega (arith, within_place x, (progress g m least S v e U h).count p)

    pub outgrows_within : {w : List ℕ} {p : ℕ} → Outgrows g m n k w p → p ≤ length w
    outgrows_within (at_start h) = omega arith
    outgrows_within (at_step x h z) = omega (arith, within_place x)

    -- no walk ends past its tokens
    for_place : (f : ℕ) (S w : List ℕ) (p : ℕ) (l : List ℕ) → end_place (walk_for g m n k f S w p l) ≤ p + length w
    for_place zero S w p l = omega arith
    for_place (suc f) S w p l = after (step g m S (next w 0)) refl (λ e U. for_place f U (to_come e w) (taken e p) (l ++ rules_of e))
      where
        after : (o : Outcome) → step g m S (next w 0) ≡ o
            → ((e : Event) (U : List ℕ) → end_place (walk_for g m n k f U (to_come e w) (taken e p) (l ++ rules_of e)) ≤ taken e p + length (to_come e w))
            → end_place (proceed g m n k o w p l (walk_for g m n k f)) ≤ p + length w
        after whole h again = omega arith
        after wrong h again = omega arith
        after (on e U) h again = go (leb (length U) n && leb (length (l ++ rules_of e)) k)
          where
            go : (b : Bool) → end_place (cond b (walk_for g m n k f U (to_come e w) (taken e p) (l ++ rules_of e)) (short_at p)) ≤ p + length w
            go true = omega (arith, again e U, (progress g m least S w e U h).count p)
            go false = omega arith

    pub walk_place : (w : List ℕ) → end_place (walk g m n k w) ≤ length w
    walk_place w = go (leb 1 n && leb 0 k)
      where
        go : (b : Bool) → end_place (cond b (walk_for g m n k (enough_steps g m n k w) (start g m) w 0 []) (short_at 0)) ≤ length w
        go true = omega (arith, for_place (enough_steps g m n k w) (start g m) w 0 [])
        go false = omega arith
