-- The verdict on a table that was read.
use Rattle.std.specs.Prelude.{ℕ, suc, ◌≡◌, ◌⊎◌, List}
use Rattle.std.proofs.Common.{arith, inl, inr}
use Rattle.language.specs.Grammar.{Grammar}
use Rattle.language.specs.Sentence.{In}
use Rattle.leftcorner.specs.Table.{Table}
use Rattle.analysis.specs.ByRules.{FirstByRules}
use Rattle.analysis.proofs.RuleSets.{starts_terminal}
use Rattle.analysis.proofs.Decided.{first?}
use Rattle.reply.specs.declared.Reply.{Reply}
use Rattle.check_verdict.proofs.Closure.{upto, in_upto}
use Rattle.check_verdict.proofs.ItemsDecided.{items?}
use Rattle.check_verdict.proofs.EntriesDecided.{entries?}
use Rattle.check_verdict.proofs.LookaheadsDecided.{lookaheads?}
use Rattle.check_verdict.proofs.CellsDecided.{agree?, cells?}
use Rattle.check_verdict.specs.Verdict.{verdict}

module _ (g : Grammar) where
  -- the codes that first can give of itself
  abbrev pub codes : List ℕ
  codes = upto (suc g.terminals)

  pub code_in : (β : List ℕ) (d c : ℕ) → FirstByRules g β d c → (c ≡ d) ⊎ In c codes
  code_in β d c (inl h) = inr (in_upto (suc g.terminals) c (omega (arith, (starts_terminal g β c h).1)))
  code_in β d c (inr h) = inl h.1

  -- the replies 7 to 10 of a table, or none
  unfoldable pub table_verdict : Table → Reply
  table_verdict t =
      verdict g t (FirstByRules g) (entries? g t) (items? g t) (lookaheads? g t (FirstByRules g) (first? g) codes code_in)
      (agree? g t (FirstByRules g) (first? g) codes code_in) (cells? g t (FirstByRules g) (first? g) codes code_in)
