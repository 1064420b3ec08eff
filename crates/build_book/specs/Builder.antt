-- The builder: its table, reply and slice, with first by rules.
use Rattle.std.specs.Prelude.{ℕ, List}
use Rattle.language.specs.Grammar.{Grammar}
use Rattle.leftcorner.specs.Table.{Table}
use Rattle.analysis.specs.ByRules.{FirstByRules}
use Rattle.analysis.proofs.Decided.{first?}
use Rattle.reply.specs.declared.Reply.{Reply}
use Rattle.build_book.specs.Built.{built}
use Rattle.build_book.specs.Book.{build_reply, build_slice}
use Rattle.build_states.specs.Lookaheads.{terminal_codes}
use Rattle.build_states.proofs.CodeLaws.{first_in}

module _ (g : Grammar) where
  unfoldable pub builder_table : Table
  builder_table = built g (FirstByRules g) (first? g) (terminal_codes g) (first_in g)

  unfoldable pub builder_reply : ℕ → Reply
  builder_reply room = build_reply g (FirstByRules g) (first? g) (terminal_codes g) (first_in g) room

  unfoldable pub builder_slice : ℕ → List ℕ
  builder_slice room = build_slice g (FirstByRules g) (first? g) (terminal_codes g) (first_in g) room
