-- first by flags is first by rules.
use Prim.Native.Nat.{ℕ, suc, ◌+◌, ◌*◌, ◌≤◌}
use native.Mathlib.Omega.{arith}
use mathlib.Core.Path.{◌≡◌, refl, sym, subst}
use mathlib.Core.Logic.{inl, inr}
use mathlib.Core.List.{List, [], ◌∷◌}
use Rattle.language.specs.Grammar.{Grammar}
use Rattle.language.specs.Nullable.{Nullable, AllIn, Starts}
use Rattle.std.specs.Prelude.{◌↔◌}
use Rattle.fixpoint.specs.Rows.{to_row, from_row}
use Rattle.analysis.specs.ByRules.{BeginsByRules, FirstByRules}
use Rattle.analysis.proofs.RuleSets.{begins_terminal}
use Rattle.analysis.specs.InMemory.{SetsOf}
use Rattle.analysis.specs.FirstBy.{FirstBy, follows, begins, skips}

module _ (g : Grammar) (few : g.terminals ≤ 63) {codes : ℕ} (count : codes ≡ suc g.terminals) {nul fst : List ℕ} (S : SetsOf g nul fst) where
  to_rules : {β : List ℕ} {d c : ℕ} → FirstBy codes nul fst β d c → FirstByRules g β d c
  to_rules follows = inr (tt, refl)
  to_rules (begins {X = X} {c = c} l on) = inl (inl (from_row (BeginsByRules g) X c (omega (arith, l, count, few)) (S.first_marks.only _ on)))
  to_rules (skips {X = X} {d = d} {c = c} {β = β} on f) = go X β d c (S.nullable_marks.only X on) (to_rules f)
    where
      go : (X : ℕ) (β : List ℕ) (d c : ℕ) → Nullable g X → FirstByRules g β d c → FirstByRules g (X ∷ β) d c
      go X β d c n (inl h) = inl (inr (n, h))
      go X β d c n (inr h) = inr ((n, h.0), h.1)

  by_start : (β : List ℕ) {d c : ℕ} → Starts (Nullable g) (λ X. BeginsByRules g X c) β → FirstBy codes nul fst β d c
  by_start [] h = absurd h
  by_start (X ∷ β) {d} {c} (inl h) =
      let b = (begins_terminal g h).1 in
      begins {c = c} (omega (arith, b, count)) (S.first_marks.every (X * 64 + c) (to_row (BeginsByRules g) X c (omega (arith, b, few)) h))
  by_start (X ∷ β) (inr h) = skips (S.nullable_marks.every X h.0) (by_start β h.1)

  by_end : (β : List ℕ) {d : ℕ} → AllIn (Nullable g) β → FirstBy codes nul fst β d d
  by_end [] h = follows
  by_end (X ∷ β) h = skips (S.nullable_marks.every X h.0) (by_end β h.1)

  from_rules : (β : List ℕ) {d c : ℕ} → FirstByRules g β d c → FirstBy codes nul fst β d c
  from_rules β (inl h) = by_start β h
  from_rules β {d} {c} (inr h) = subst (λ (x : ℕ). FirstBy codes nul fst β d x) (sym h.1) (by_end β h.0)

  pub first_flags : (β : List ℕ) (d c : ℕ) → FirstBy codes nul fst β d c ↔ FirstByRules g β d c
  first_flags β d c = (to_rules, from_rules β)
