-- The choices are those of the grammar in memory, so the goal is expanded; what is written stands before zeros, or all is cleared.
use Prim.Native.Nat.{ℕ}
use mathlib.Core.Path.{refl, sym, ap, ◌∙◌}
use native.Mathlib.Omega.{arith}
use lib.ListN.{length, replicate}
use lib.Seq.{length-take-le}
use borrow.Author.Rules.{rules}
use Rattle.grammar.proofs.ReducedLaws.{ready_shaped, ready_holds, few_rules, ready_ranges, terminals_is, nonterminals_is, goal_is}
use Rattle.generate_loads.specs.Load.{grown}
use Rattle.generator.proofs.PutLaws.{fitted, writes_as}
use Rattle.generator.proofs.LoadLaws.{load_written, load_short, whole_length, load_tells, goal_symbol, source_of}
use Rattle.generator.proofs.write_load.Goals as goal

pub find_choices-requires : goal.find_choices-requires
find_choices-requires c =
    let H = c.requires.holds_grammar.1 in
    record { shaped = (ready_shaped H, few_rules H); nonterminals_bound = (ready_ranges H).0.1; in_bounds = search rules }

pub slice_bounds-expand-end-3 : goal.slice_bounds-expand-end-3
slice_bounds-expand-end-3 c = sym (length-take-le c.capped-end.result c.args.tokens.now c.capped-end.ensures.0)

pub expand-requires : goal.expand-requires
expand-requires c =
    let g = c.requires.holds_grammar.0 in
    let H = c.requires.holds_grammar.1 in
    let p = c.requires.holds_grammar.2 in record {
      expandable = record {
        shaped = ready_shaped H;
        grammar = g;
        holds = ready_holds H;
        holds_choices = c.find_choices.ensures g (source_of H p) (terminals_is H) (nonterminals_is H);
        symbol = goal_symbol H;
      };
      inside = (omega arith, omega arith);
    }

pub returns-in_default : goal.returns-in_default
returns-in_default c =
    let zeros = c.requires.tokens_value in
    let n = length c.args.tokens.now in
    let k = length c.args.listing.now in
    λ g H p.
    let T = (grown g c.args.depth c.args.heading.goal c.args.seed).tree in
    let choices = c.find_choices.ensures g (source_of H p) (terminals_is H) (nonterminals_is H) in
    let w = writes_as c.in_default.is (c.expand.ensures.expands g (ready_holds H) choices (goal_symbol H)) in
    let whole = whole_length g T c.capped-end.result n k zeros.0 zeros.1 c.capped-end.ensures.0 c.expand.new.tokens c.expand.auto.tokens in
    load_tells g c.args.seed c.args.depth n k (goal_is H)
    (load_short g T c.capped-end.result n k zeros.0 zeros.1 c.capped-end.ensures.0 c.capped-end.ensures.2 refl refl w c.refuse.ensures
    (c.clear.ensures ∙ ap (λ (i : ℕ). replicate {A = ℕ} i 0) whole)
    (c.clear-in_default.ensures ∙ ap (λ (i : ℕ). replicate {A = ℕ} i 0) c.expand.auto.listing))

pub returns : goal.returns
returns c =
    let zeros = c.requires.tokens_value in
    let n = length c.args.tokens.now in
    let k = length c.args.listing.now in
    λ g H p.
    let T = (grown g c.args.depth c.args.heading.goal c.args.seed).tree in
    let choices = c.find_choices.ensures g (source_of H p) (terminals_is H) (nonterminals_is H) in
    let w = fitted (writes_as c.in-Fits.is (c.expand.ensures.expands g (ready_holds H) choices (goal_symbol H))) in
    load_tells g c.args.seed c.args.depth n k (goal_is H)
    (load_written g T c.capped-end.result n k zeros.0 zeros.1 c.capped-end.ensures.0 c.capped-end.ensures.1 w.0 w.1)
