-- A fault named shows that the list of entries is not the construction's.
use Prim.Native.Nat.{ℕ, ◌≤◌, ◌<◌}
use mathlib.Core.Path.{◌≡◌, refl, sym, subst}
use native.Mathlib.Omega.{arith}
use Rattle.language.specs.Grammar.{Grammar}
use Rattle.language.specs.Sentence.{In, here}
use Rattle.language.proofs.Member.{in_right}
use Rattle.leftcorner.specs.Table.{Table}
use Rattle.leftcorner.specs.Construction.{of_group, EntriesMeet}
use Rattle.check_entries.specs.declared.EntryFault.{EntryFault}
use Rattle.check_entries.specs.Faults.{NamedIs, EntryFaultIs, InRange}

clash : {A : Type 0} → ◌≡◌ {A = ℕ} 0 1 → A
clash z = absurd (omega (arith, z))

module _ {g : Grammar} {t : Table} where
  pub fine : {Fine : Type 0} {x : EntryFault} → EntryFaultIs g t Fine x → x ≡ EntryFault.Nothing → Fine
  fine {Fine} f e = subst (NamedIs g t Fine) e f.is

  -- what is named is so, whatever is asked besides
  pub still : {A B : Type 0} (x : EntryFault) → (x ≡ EntryFault.Nothing → ⊥) → EntryFaultIs g t A x → EntryFaultIs g t B x
  still EntryFault.NotGoal n f = record { is = f.is }
  still (EntryFault.Bare i from to) n f = record { is = f.is }
  still (EntryFault.Unwanted k) n f = record { is = f.is }
  still EntryFault.Nothing n f = absurd (n refl)

  pub refutes : {Fine : Type 0} (x : EntryFault) → (x ≡ EntryFault.Nothing → ⊥) → EntryFaultIs g t Fine x → EntriesMeet g t → ⊥
  refutes EntryFault.NotGoal n f m = f.is m.goal_first.0 m.goal_first.1
  refutes (EntryFault.Bare i from to) n f m =
      let b = f.is in
      let e = m.all_wanted b.group (of_group i b.is_rule (subst (In b.group) (sym b.split) (in_right b.earlier here))) in
      b.none e.0 e.1 e.2
  refutes (EntryFault.Unwanted k) n f m = let u = f.is in u.unwanted (m.only_wanted k u.state u.string u.is_entry)
  refutes EntryFault.Nothing n f m = n refl

  -- where the entries are the construction's, nothing is named
  pub met : {Fine : Type 0} (x : EntryFault) → EntryFaultIs g t Fine x → EntriesMeet g t → Fine
  met EntryFault.Nothing f m = f.is
  met EntryFault.NotGoal f m = absurd (refutes EntryFault.NotGoal (λ e. clash cc) f m)
  met (EntryFault.Bare i from to) f m = absurd (refutes (EntryFault.Bare i from to) (λ e. clash cc) f m)
  met (EntryFault.Unwanted k) f m = absurd (refutes (EntryFault.Unwanted k) (λ e. clash cc) f m)

module _ {rules strings : ℕ} where
  pub range_group : {i from to : ℕ} → 1 ≤ i → i ≤ rules → from < to → to ≤ 15 → InRange rules strings (EntryFault.Bare i from to)
  range_group {i} {from} {to} a b c d = record { group = λ j p q e. same j p q e; entry = λ k e. clash cc }
    where
      same : (j p q : ℕ) → EntryFault.Bare i from to ≡ EntryFault.Bare j p q → (1 ≤ j) × (j ≤ rules) × (p < q) × (q ≤ 15)
      same j p q e =
          let x : i ≡ j = cc in
          let y : from ≡ p = cc in
          let z : to ≡ q = cc in
          (omega (arith, a, x), omega (arith, b, x), omega (arith, c, y, z), omega (arith, d, z))

  pub range_entry : {k : ℕ} → 2 ≤ k → k ≤ strings → InRange rules strings (EntryFault.Unwanted k)
  range_entry {k} a b = record { group = λ j p q e. clash cc; entry = λ j e. let x : k ≡ j = cc in (omega (arith, a, x), omega (arith, b, x)) }

  pub range_goal : InRange rules strings EntryFault.NotGoal
  range_goal = record { group = λ j p q e. clash cc; entry = λ k e. clash cc }

  pub range_none : InRange rules strings EntryFault.Nothing
  range_none = record { group = λ j p q e. clash cc; entry = λ k e. clash cc }
