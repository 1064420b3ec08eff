-- The pass over the states, and what it finds in the end.
use Prim.Native.Nat.{ℕ, suc, ◌+◌, ◌-◌, ◌≤◌, ◌<◌}
use native.Mathlib.Omega.{arith}
use mathlib.Core.Path.{◌≡◌, sym, subst}
use mathlib.Core.Bool.{Bool}
use mathlib.Core.List.{List}
use lib.ListN.{replicate}
use Rattle.language.specs.Grammar.{Grammar}
use Rattle.leftcorner.specs.Table.{Table}
use Rattle.leftcorner.specs.Construction.{EntriesMeet, LookaheadsMeet}
use Rattle.items.specs.Layout.{Shaped, Holds}
use Rattle.fixpoint.specs.Flags.{Off}
use Rattle.analysis.specs.InMemory.{SetsOf}
use Rattle.analysis.specs.FirstBy.{FirstBy}
use Rattle.analysis.specs.Adds.{Adds}
use Rattle.check_lookaheads.specs.Narrow.{Narrows}
use Rattle.check_lookaheads.specs.Memory.{StateCovers, GoalAsks}
use Rattle.check_lookaheads.proofs.MeetLaws.{narrows_all}
use Rattle.check_entries.proofs.ListLaws.{zeros_of}
use Rattle.memory.specs.Held.{HoldsTable}
use Rattle.check_memory.specs.Accepts.{table_verdict}
use Rattle.check_memory.specs.Faults.{Fault, noted, answer_of, StateChecked, Found}
use Rattle.check_memory.specs.Given.{Given}
use Rattle.check_memory.proofs.FaultLaws.{found_more, narrow_fault}
use Rattle.check_memory.proofs.VerdictLaws.{found_verdict}

module _ (g : Grammar) (t : Table) (F : List ℕ → ℕ → ℕ → Type 0) {kernels : List ℕ} {lines codes : ℕ} where
  pub found_noted : {q items agree cells x y z : ℕ} {a b c : Bool} {included₀ included : List ℕ} → 1 ≤ q → x ≡ noted items a q → y ≡ noted agree b q → z ≡ noted cells c q
      → Found g t F kernels lines codes q items agree cells included₀ → StateChecked g t F kernels lines codes q a b c included₀ included → Found g t F kernels lines codes (q + 1) x y z included
  found_noted {q} {items} {agree} {cells} {x} {y} {z} {a} {b} {c} {included = included} one ex ey ez f s =
      subst (λ (n : ℕ). Found g t F kernels lines codes (q + 1) x y n included) (sym ez)
      (subst (λ (n : ℕ). Found g t F kernels lines codes (q + 1) x n (noted cells c q) included) (sym ey)
      (subst (λ (n : ℕ). Found g t F kernels lines codes (q + 1) n (noted agree b q) (noted cells c q) included) (sym ex) (found_more g t F kernels lines codes one f s)))

  pub found_end : {q n x y z : ℕ} {included : List ℕ} → q ≤ n + 1 → n < q → Found g t F kernels lines codes q x y z included → Found g t F kernels lines codes (n + 1) x y z included
  found_end {q} {n} {x} {y} {z} {included} a b f = subst (λ (m : ℕ). Found g t F kernels lines codes m x y z included) (let e : q ≡ n + 1 = omega (arith, a, b) in e) f

pub few_codes_of : {n : ℕ} → n ≤ 63 → n + 1 ≤ 64
few_codes_of a = omega (arith, a)

-- fewer items
pub shaped_less : {m : List ℕ} {rules count : ℕ} → rules ≤ count → Shaped m count → Shaped m rules
shaped_less few S = record {
  room = omega (arith, few, S.room);
  lengths = λ i l. S.lengths i (omega (arith, few, l));
  lefts = λ i l. S.lefts i (omega (arith, few, l));
  symbols = λ i k l h. S.symbols i k (omega (arith, few, l)) h;
}

pub holds_of : {g : Grammar} {t : Table} {items entries kernels lookaheads kinds values gotos : List ℕ} {rules strings lines : ℕ}
    → HoldsTable g t items entries kernels lookaheads kinds values gotos rules strings lines → Holds items rules g
holds_of H = record { count = H.rule_count; rule_in = H.holds_items.rule_row }

pub terminals_are : {n m : ℕ} → n ≡ suc m → m ≡ n - 1
terminals_are e = omega (arith, e)

-- the reply to what the pass found, and to what the goal asks besides
pub pass_verdict : (g : Grammar) (t : Table) {items entries kernels lookaheads kinds values gotos named nul fst included₀ included none narrow : List ℕ} {rules strings lines states codes : ℕ}
    → Given g t items entries kernels lookaheads kinds values gotos named rules strings lines states codes → 1 ≤ strings → EntriesMeet g t → SetsOf g nul fst
    → (a b c d : ℕ) → Found g t (FirstBy codes nul fst) kernels lines codes (states + 1) a c d included₀ → Adds (GoalAsks kernels entries rules lines) included₀ included
    → (n : ℕ) → none ≡ replicate n 0 → Narrows (StateCovers kernels included lookaheads lines codes) none narrow → Fault (Off narrow) (states + 1) b
    → answer_of a b c d ≡ table_verdict g t
pass_verdict g t {kernels = kernels} {nul = nul} {fst = fst} {included₀ = included₀} {lines = lines} {states = states} {codes = codes} G some_entry E S a b c d f asks n z w l =
    let H = G.held in
    let F : List ℕ → ℕ → ℕ → Type 0 = FirstBy codes nul fst in
    let e : states + 1 ≡ suc t.states = omega (arith, G.state_count) in
    let narrows = narrows_all g t H nul fst G.code_count f.asked asks H.fits.form (omega (arith, G.state_count)) some_entry w in
    found_verdict g t H.formed H.fits.form E G.code_count S a b c d
    (subst (λ (k : ℕ). Found g t F kernels lines codes k a c d included₀) e f)
    (subst (λ (k : ℕ). Fault (LookaheadsMeet g t F) k b) e (narrow_fault (zeros_of n z) narrows l))
