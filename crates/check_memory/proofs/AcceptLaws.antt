-- The verdict's meaning (specs/Accepts.antt): accepted exactly when the table meets the construction.
use Prim.Native.Nat.{ℕ}
use mathlib.Core.Path.{◌≡◌}
use mathlib.Core.List.{List}
use Rattle.language.specs.Grammar.{Grammar}
use Rattle.language.specs.First.{First}
use Rattle.language.specs.Sentence.{Declared, AllProductive}
use Rattle.language.proofs.Strings.{AllDeclared, symbol_derives}
use Rattle.language.specs.Nullable.{RightProductive}
use Rattle.std.specs.Prelude.{◌↔◌}
use Rattle.leftcorner.specs.Table.{Table}
use Rattle.leftcorner.specs.Construction.{WellFormed, Meets}
use Rattle.leftcorner.proofs.Swap.{swap}
use Rattle.analysis.specs.ByRules.{FirstByRules}
use Rattle.analysis.proofs.RuleSets.{first_rules, rules_first}
use Rattle.analysis.proofs.Decided.{first?}
use Rattle.reply.specs.declared.Reply.TheVariants.{Accepted}
use Rattle.check_verdict.proofs.ItemsDecided.{items?}
use Rattle.check_verdict.proofs.EntriesDecided.{entries?}
use Rattle.check_verdict.proofs.LookaheadsDecided.{lookaheads?}
use Rattle.check_verdict.proofs.CellsDecided.{agree?, cells?}
use Rattle.check_verdict.proofs.VerdictLaws as verdict
use Rattle.check_verdict.proofs.VerdictLaws.{meets, accepts}
use Rattle.check_memory.specs.Accepts.{codes, code_in, table_verdict}

module _ (g : Grammar) where
  pub accepted_zero : (t : Table) {n : ℕ} → table_verdict g t ≡ Accepted n → n ≡ 0
  unfolding table_verdict
  accepted_zero t e = verdict.accepted_zero g t (FirstByRules g) _ _ _ _ _ e

  -- first by rules is first, for strings of declared symbols
  module _ (P : AllProductive g) (R : RightProductive g) where
    pub first_same : (β : List ℕ) → AllDeclared g β → (d c : ℕ) → FirstByRules g β d c ↔ First g β d c
    first_same β all d c = (λ h. rules_first g R (λ a m. symbol_derives g P a (all a m)) h, λ h. first_rules g h)

    pub accepted_exactly : Declared g → (t : Table) → WellFormed g t → (table_verdict g t ≡ Accepted 0) ↔ Meets g t
    unfolding table_verdict
    accepted_exactly D t W =
        let s = swap g t D (FirstByRules g) (First g) first_same in (
          λ e. s.0 (meets g t (FirstByRules g) (entries? g t) (items? g t) (lookaheads? g t (FirstByRules g) (first? g) (codes g) (code_in g))
              (agree? g t (FirstByRules g) (first? g) (codes g) (code_in g)) (cells? g t (FirstByRules g) (first? g) (codes g) (code_in g)) W e),
          λ M. accepts g t (FirstByRules g) (entries? g t) (items? g t) (lookaheads? g t (FirstByRules g) (first? g) (codes g) (code_in g))
              (agree? g t (FirstByRules g) (first? g) (codes g) (code_in g)) (cells? g t (FirstByRules g) (first? g) (codes g) (code_in g)) (s.1 M),
        )
