-- Books are accepted exactly when they are those of a grammar and a table, no nonterminal is barren or cut off, and the table meets
-- the construction. Of the checker, this is all that a walk has to know.
use Rattle.std.specs.Prelude.{ℕ, ◌≡◌, List}
use Rattle.language.specs.Grammar.{Grammar}
use Rattle.std.specs.Prelude.{◌↔◌}
use Rattle.leftcorner.specs.Table.{Table}
use Rattle.reply.specs.declared.Reply.TheVariants.{Accepted}
use Rattle.checker.specs.Checked.{verdict_of, Accepts}

-- reply 0
abbrev pub Exactly : Type 0
Exactly = (gs s : List ℕ) → (verdict_of gs s ≡ Accepted 0) ↔ ((g : Grammar) × (t : Table) × Accepts gs s g t)
