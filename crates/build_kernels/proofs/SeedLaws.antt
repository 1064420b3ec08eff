-- The entries' kernel sets, stored one by one.
use Prim.Native.Nat.{ℕ, suc, ◌+◌, ◌*◌, ◌-◌, ◌≤◌, ◌<◌}
use native.Mathlib.Decide.{ℕ_discrete}
use native.Mathlib.Omega.{arith}
use mathlib.Core.Path.{◌≡◌, sym, ap, ap₂, subst, ◌∙◌}
use mathlib.Core.List.{List, [], ◌∷◌}
use lib.ListN.{length, get_or, set, take, drop, length-set}
use lib.Seq.{drop-cons, ext_get_or, get_or-take, get_or-set_same, get_or-set_other, length-take-le}
use Rattle.language.specs.Grammar.{Grammar}
use Rattle.language.proofs.GrammarLaws.{in_index}
use Rattle.build_states.specs.Strings.{entry_strings}
use Rattle.build_states.proofs.StateLaws.{kernels_length, kernel_at, first_kernels}
use Rattle.build_kernel_sets.specs.Sets.{part, sets_in}
use Rattle.build_kernels.specs.Exploring.{Seeded}
use Rattle.build_kernel_sets.proofs.SetLaws.{sets-length, sets_at}

-- the first j
pub record Seeding (rules : ℕ) (sets starts : List ℕ) (j : ℕ) : Type 0 where
  pub number : (p : ℕ) → p < j → get_or sets p 0 ≡ (rules + 1 + p) * 16
  pub start : (p : ℕ) → p < j → get_or starts p 0 ≡ p

-- and the end of the last
pub seeded : {rules strings : ℕ} {sets starts : List ℕ} {j : ℕ} → j ≤ strings → strings ≤ j → Seeding rules sets starts j → strings ≤ length sets → strings < length starts
    → Seeded rules strings sets (set starts strings strings)
seeded {rules} {strings} {sets} {starts} {j} lo hi S room index = record {
  bounds = record {
    first = start 0 (omega arith);
    rise = λ p l. omega (arith, start p (omega arith), start (p + 1) (omega arith));
    last = start strings (omega arith);
    room = room;
    index = omega (arith, index, length-set starts strings strings);
  };
  sets_are = λ g er es. ext_get_or [] (sets_in sets ends strings) (first_kernels g) (long g es) (λ p l. same g er es p (omega (arith, l, sets-length sets ends strings)));
  numbered = λ x m. numbers x (in_index m);
}
  where
    ends : List ℕ
    ends = set starts strings strings

    start : (p : ℕ) → p ≤ strings → get_or (set starts strings strings) p 0 ≡ p
    start p l = go (ℕ_discrete p strings)
      where
        go : Dec (p ≡ strings) → get_or (set starts strings strings) p 0 ≡ p
        go (yes e) = subst (λ (n : ℕ). get_or (set starts strings strings) n 0 ≡ n) (sym e) (get_or-set_same starts strings strings 0 index)
        go (no f) = get_or-set_other starts strings p strings 0 f ∙ S.start p (omega arith)

    one : (p : ℕ) → p < strings → part sets p (p + 1) ≡ (rules + 1 + p) * 16 ∷ []
    one p l =
        let z : p + 1 - p ≡ 1 = omega arith in
        ap (λ (n : ℕ). take n (drop p sets)) z ∙ ap (take 1) (drop-cons sets p 0 (omega arith)) ∙ ap (λ (n : ℕ). n ∷ []) (S.number p (omega arith))

    long : (g : Grammar) → length (entry_strings g) ≡ strings → length (sets_in sets ends strings) ≡ length (first_kernels g)
    long g es = sets-length sets ends strings ∙ sym (kernels_length g (suc (length g.rules)) (entry_strings g) ∙ es)

    same : (g : Grammar) → length g.rules ≡ rules → length (entry_strings g) ≡ strings → (p : ℕ) → p < strings → get_or (sets_in sets ends strings) p [] ≡ get_or (first_kernels g) p []
    same g er es p l =
        let z : rules + 1 + p ≡ suc (length g.rules) + p = omega arith in
        sets_at sets ends strings p l ∙ ap₂ (part sets) (start p (omega arith)) (start (p + 1) (omega arith)) ∙ one p l
        ∙ ap (λ (n : ℕ). n * 16 ∷ []) z ∙ sym (kernel_at g (suc (length g.rules)) (entry_strings g) p (omega arith))

    numbers : (x : ℕ) → (p : ℕ) × (p < length (take strings sets)) × (get_or (take strings sets) p 0 ≡ x) → (16 ≤ x) × (x < (rules + strings) * 16 + 16)
    numbers x (p, l, e) =
        let h : p < strings = omega (arith, l, length-take-le strings sets room) in
        let w : x ≡ (rules + 1 + p) * 16 = sym e ∙ get_or-take strings sets p 0 h ∙ S.number p (omega arith) in
        (omega arith, omega arith)
