-- The reply to the lowest faults is the verdict.
use Prim.Native.Nat.{ℕ, zero, suc, ◌<◌}
use native.Mathlib.Omega.{arith}
use mathlib.Core.Path.{◌≡◌, refl, sym}
use mathlib.Core.List.{List}
use Rattle.language.specs.Grammar.{Grammar}
use Rattle.language.specs.Sentence.{Declared}
use Rattle.language.proofs.Strings.{AllDeclared}
use Rattle.language.specs.WellFormed as language
use Rattle.leftcorner.specs.Table.{Table}
use Rattle.leftcorner.specs.Construction.{WellFormed, EntriesMeet, ItemsMeet, LookaheadsMeet, CellsAgree, CellsMeet}
use Rattle.std.specs.Prelude.{◌↔◌}
use Rattle.leftcorner.proofs.Swap.{flip, lookaheads_over, agree_over, cells_over}
use Rattle.analysis.specs.ByRules.{FirstByRules}
use Rattle.analysis.specs.InMemory.{SetsOf}
use Rattle.analysis.specs.FirstBy.{FirstBy}
use Rattle.reply.specs.declared.Kind.TheVariants.{ItemMismatch}
use Rattle.check_verdict.specs.Verdict.{refused, verdict}
use Rattle.check_verdict.proofs.VerdictLaws.{Outside, off_items, off_lookaheads, off_agree, off_cells, All, Fails, is_list, is_seven, is_eight, is_nine, is_ten, is_zero}
use Rattle.check_memory.specs.Accepts.{table_verdict}
use Rattle.check_memory.specs.Faults.{Fault, answer_of, Found}
use Rattle.analysis.proofs.FirstLaws.{first_flags}
use Rattle.check_memory.proofs.FaultLaws.{fault_map}

module _ (g : Grammar) (t : Table) (F : List ℕ → ℕ → ℕ → Type 0) (e? : Dec (EntriesMeet g t)) (i? : (q : ℕ) → Dec (ItemsMeet g t q))
    (l? : (q : ℕ) → Dec (LookaheadsMeet g t F q)) (a? : (q : ℕ) → Dec (CellsAgree g t F q)) (c? : (q : ℕ) → Dec (CellsMeet g t F q))
    (W : WellFormed g t) (E : EntriesMeet g t) where
  all_of : (Φ : ℕ → Type 0) → ((q : ℕ) → Outside g t F e? i? l? a? c? W q → Φ q) → Fault Φ (suc t.states) 0 → All g t F e? i? l? a? c? Φ
  all_of Φ off f zero l = off zero (λ a b. omega (arith, a))
  all_of Φ off f (suc q) l = f.none refl (suc q) (omega arith) l

  fails_of : (Φ : ℕ → Type 0) → ((q : ℕ) → Outside g t F e? i? l? a? c? W q → Φ q) → {at : ℕ} → Fault Φ (suc t.states) (suc at) → Fails g t F e? i? l? a? c? Φ (suc at)
  fails_of Φ off {at} f = record { low = omega (arith, f.low); below = below; fails = f.fails (omega arith) }
    where
      below : (k : ℕ) → k < suc at → Φ k
      below zero l = off zero (λ a b. omega (arith, a))
      below (suc k) l = f.before (suc k) (omega arith) l

  pub answer_verdict : (a b c d : ℕ) → Fault (ItemsMeet g t) (suc t.states) a → Fault (LookaheadsMeet g t F) (suc t.states) b
      → Fault (CellsAgree g t F) (suc t.states) c → (c ≡ 0 → Fault (CellsMeet g t F) (suc t.states) d) → answer_of a b c d ≡ verdict g t F e? i? l? a? c?
  answer_verdict (suc a) b c d fa fb fc fd = sym (is_seven g t F e? i? l? a? c? (suc a) E (fails_of _ (off_items g t F e? i? l? a? c? W) fa))
  answer_verdict zero (suc b) c d fa fb fc fd =
      sym (is_eight g t F e? i? l? a? c? (suc b) E (all_of _ (off_items g t F e? i? l? a? c? W) fa) (fails_of _ (off_lookaheads g t F e? i? l? a? c? W) fb))
  answer_verdict zero zero (suc c) d fa fb fc fd =
      sym (is_nine g t F e? i? l? a? c? (suc c) E (all_of _ (off_items g t F e? i? l? a? c? W) fa) (all_of _ (off_lookaheads g t F e? i? l? a? c? W) fb)
      (fails_of _ (off_agree g t F e? i? l? a? c? W) fc))
  answer_verdict zero zero zero (suc d) fa fb fc fd =
      sym (is_ten g t F e? i? l? a? c? (suc d) E (all_of _ (off_items g t F e? i? l? a? c? W) fa) (all_of _ (off_lookaheads g t F e? i? l? a? c? W) fb)
      (all_of _ (off_agree g t F e? i? l? a? c? W) fc) (fails_of _ (off_cells g t F e? i? l? a? c? W) (fd refl)))
  answer_verdict zero zero zero zero fa fb fc fd =
      sym (is_zero g t F e? i? l? a? c? E (all_of _ (off_items g t F e? i? l? a? c? W) fa) (all_of _ (off_lookaheads g t F e? i? l? a? c? W) fb)
      (all_of _ (off_agree g t F e? i? l? a? c? W) fc) (all_of _ (off_cells g t F e? i? l? a? c? W) (fd refl)))

-- the entry list fails
pub list_verdict : (g : Grammar) (t : Table) → (EntriesMeet g t → ⊥) → refused ItemMismatch 0 ≡ table_verdict g t
unfolding table_verdict
list_verdict g t f = sym (is_list g t (FirstByRules g) _ _ _ _ _ f)

-- what the flags tell is the verdict
pub found_verdict : (g : Grammar) (t : Table) → language.WellFormed g → WellFormed g t → EntriesMeet g t → {n : ℕ} {nul fst : List ℕ} → n ≡ suc g.terminals → SetsOf g nul fst
    → (a b c d : ℕ) {kernels included : List ℕ} {lines : ℕ} → Found g t (FirstBy n nul fst) kernels lines n (suc t.states) a c d included → Fault (LookaheadsMeet g t (FirstBy n nul fst)) (suc t.states) b
    → answer_of a b c d ≡ table_verdict g t
unfolding table_verdict
found_verdict g t w W E {n} {nul} {fst} count S a b c d f fb =
    answer_verdict g t (FirstByRules g) _ _ _ _ _ W E a b c d f.items_fault
    (fault_map (lookaheads_over g t D E By Rules to) (lookaheads_over g t D E Rules By from) fb)
    (fault_map (agree_over g t D E By Rules to) (agree_over g t D E Rules By from) f.agree_fault)
    (λ z. fault_map (cells_over g t D E By Rules to) (cells_over g t D E Rules By from) (f.cells_fault z))
  where
    By : List ℕ → ℕ → ℕ → Type 0
    By = FirstBy n nul fst

    Rules : List ℕ → ℕ → ℕ → Type 0
    Rules = FirstByRules g

    D : Declared g
    D = language.declared_of w

    to : (β : List ℕ) → AllDeclared g β → (x y : ℕ) → FirstBy n nul fst β x y ↔ FirstByRules g β x y
    to β al x y = first_flags g w.few_terminals count S β x y

    from : (β : List ℕ) → AllDeclared g β → (x y : ℕ) → FirstByRules g β x y ↔ FirstBy n nul fst β x y
    from β al x y = flip (to β al x y)
