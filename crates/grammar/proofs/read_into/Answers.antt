use Prim.Native.Nat.{ℕ}
use mathlib.Core.Path.{◌≡◌, ap, ◌∙◌}
use lib.ListN.{length, replicate}
use Rattle.grammar.proofs.IntoLaws.{cleared_length, laid_again, rejected_cleared, lines_rejected, grammar, ready, grammar_rejected, grammar_accepted}
use borrow.Author.Rules.{rules}
use Rattle.grammar.proofs.read_into.Goals as goal

pub returns-in-Refused : goal.returns-in-Refused
returns-in-Refused c =
    let k = length c.args.m.now in
    let e : length c.read_lines-lines.new.m ≡ k = search rules in
    rejected_cleared (lines_rejected _ c.read_lines-lines.ensures.answered c.in-Refused.is) k
    (c.clear-in-Refused.ensures ∙ ap (λ (j : ℕ). replicate {A = ℕ} j 0) e)

pub check_reduced-reduced-requires : goal.check_reduced-reduced-requires
check_reduced-reduced-requires c =
    let k = length c.args.m.now in
    let w = laid_again (cleared_length k c.clear.ensures) c.read_lines-lines.ensures.stored in
    record {
      grammar = grammar _ c.read_lines-lines.ensures.answered c.in-Read.is w;
      ready = ready _ c.read_lines-lines.ensures.answered c.in-Read.is w c.requires;
    }

pub returns-in-Read-reduced : goal.returns-in-Read-reduced
returns-in-Read-reduced c =
    let k = length c.args.m.now in
    let w = laid_again (cleared_length k c.clear.ensures) c.read_lines-lines.ensures.stored in
    let r = ready _ c.read_lines-lines.ensures.answered c.in-Read.is w c.requires in
    grammar_accepted _ c.read_lines-lines.ensures.answered c.in-Read.is w
    (c.check_reduced-reduced.ensures _ r) c.in-Read-reduced.is

pub returns-in-Refused-reduced : goal.returns-in-Refused-reduced
returns-in-Refused-reduced c =
    let k = length c.args.m.now in
    let w = laid_again (cleared_length k c.clear.ensures) c.read_lines-lines.ensures.stored in
    let r = ready _ c.read_lines-lines.ensures.answered c.in-Read.is w c.requires in
    let e : length c.read_lines-lines.new.m ≡ k = search rules in
    rejected_cleared (grammar_rejected _ c.read_lines-lines.ensures.answered c.in-Read.is w
    (c.check_reduced-reduced.ensures _ r) c.in-Refused-reduced.is)
    k (c.clear-in-Refused-reduced.ensures ∙ ap (λ (j : ℕ). replicate {A = ℕ} j 0) e)
