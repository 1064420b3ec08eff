use Prim.Native.Nat.{◌<◌}
use mathlib.Core.Path.{refl, sym, subst, ◌∙◌}
use native.Mathlib.Omega.{arith}
use native.Mathlib.Numerals.{add-one}
use lib.ListN.{length}
use Rattle.generate_loads.specs.Load.{IsSymbol, right_of}
use Rattle.generate_steps.specs.declared.Step.{Step}
use Rattle.generate_steps.specs.Put.{PutsRule, at_mark}
use Rattle.generator.specs.Written.{StaysIn}
use Rattle.generator.proofs.PutLaws.{writes_stays, writes_as, rule_writes, token_writes}
use Rattle.generator.proofs.NodeLaws.{sofar_none, sofar_marked, sofar_grown, full_mark, full_child, sofar_end}
use Rattle.generator.proofs.RowLaws.{nonterminal, terminal, row_of, falls_below, leaf_written, node_written}
use Rattle.generator.proofs.+expand.Goals as goal

pub returns-then-x-lt64 : goal.returns-then-x-lt64
returns-then-x-lt64 t c =
    let w = token_writes c.args.listing.now c.put_token.result c.put_token.ensures c.requires.inside.1 in
    record { stays_in = writes_stays w; expands = λ g h H d. leaf_written c.args.depth c.args.x H (terminal g c.args.x c.if-x-lt64.true d) w }

pub choose-chosen-requires : goal.choose-chosen-requires
choose-chosen-requires t c =
    let W = c.requires.expandable in
    (W.grammar, W.holds_choices, nonterminal W.holds_choices.formed c.args.x c.if-x-lt64.false W.symbol)

pub length_of-n-requires : goal.length_of-n-requires
length_of-n-requires t c =
    let W = c.requires.expandable in
    let n = nonterminal W.holds_choices.formed c.args.x c.if-x-lt64.false W.symbol in
    let q = c.choose-chosen.ensures W.grammar W.holds_choices n in
    let R = row_of W.holds W.holds_choices c.args.depth c.args.x c.args.from.state n q.0 in
    record { shaped = W.shaped; i_le = R.known }

pub mark_of-mark-requires : goal.mark_of-mark-requires
mark_of-mark-requires t c =
    let W = c.requires.expandable in
    let n = nonterminal W.holds_choices.formed c.args.x c.if-x-lt64.false W.symbol in
    let q = c.choose-chosen.ensures W.grammar W.holds_choices n in
    let R = row_of W.holds W.holds_choices c.args.depth c.args.x c.args.from.state n q.0 in
    record { shaped = W.shaped; i_le = R.known }

pub loop-k-init : goal.loop-k-init
loop-k-init t c =
    (c.requires.inside.0, c.requires.inside.1, λ g h H n. sofar_none g c.requires.inside)

pub put_rule-requires : goal.put_rule-requires
put_rule-requires t c =
    let W = c.requires.expandable in
    let n = nonterminal W.holds_choices.formed c.args.x c.if-x-lt64.false W.symbol in
    let q = c.choose-chosen.ensures W.grammar W.holds_choices n in
    let R = row_of W.holds W.holds_choices c.args.depth c.args.x c.args.from.state n q.0 in
    record { i_bound = R.few; rules_in_bounds = c.loop-k.invariant.1 }

pub returns-in_default : goal.returns-in_default
returns-in_default t c =
    let i = c.choose-chosen.result.rule in
    let x = subst (λ (z : Step). PutsRule (at_mark i c.loop-k.k c.mark_of-mark.result) c.loop-k.at c.loop-k.listing c.put_rule.new.listing z) c.in_default.is c.put_rule.ensures in record {
      stays_in = tt;
      expands = λ g h H d.
          let n = nonterminal H.formed c.args.x c.if-x-lt64.false d in
          let q = c.choose-chosen.ensures g H n in
          let R = row_of h H c.args.depth c.args.x c.args.from.state n q.0 in
          node_written c.args.depth c.one_less-below.result c.args.x i _ c.args.from H n c.one_less-below.ensures q refl refl
          (full_mark g R.is _ (omega (arith, c.loop-k.auto.k-end, c.length_of-n.ensures.0, R.length_is)) (c.loop-k.invariant.2 g h H n) x);
    }

pub symbol_of-y-requires : goal.symbol_of-y-requires
symbol_of-y-requires t c =
    let W = c.requires.expandable in
    let n = nonterminal W.holds_choices.formed c.args.x c.if-x-lt64.false W.symbol in
    let q = c.choose-chosen.ensures W.grammar W.holds_choices n in
    let R = row_of W.holds W.holds_choices c.args.depth c.args.x c.args.from.state n q.0 in
    record { shaped = W.shaped; i_le = R.known; k_bound = omega (arith, c.loop-k-test.true, c.length_of-n.ensures.1) }

pub expand-requires : goal.expand-requires
expand-requires t c =
    let i = c.choose-chosen.result.rule in
    let W = c.requires.expandable in
    let n = nonterminal W.holds_choices.formed c.args.x c.if-x-lt64.false W.symbol in
    let q = c.choose-chosen.ensures W.grammar W.holds_choices n in
    let R = row_of W.holds W.holds_choices c.args.depth c.args.x c.args.from.state n q.0 in
    let x = subst (λ (z : Step). PutsRule (at_mark i c.loop-k.k c.mark_of-mark.result) c.loop-k.at c.loop-k.listing c.put_rule.new.listing z) c.in-Fits.is c.put_rule.ensures in
    let lt : c.loop-k.k < length (right_of W.grammar i) = omega (arith, c.loop-k-test.true, c.length_of-n.ensures.0, R.length_is) in
    let y-is = c.symbol_of-y.ensures.0 ∙ R.symbol_is c.loop-k.k lt in
    let falls = falls_below W.holds W.holds_choices c.args.depth c.args.x c.args.from.state c.loop-k.k n q.0 lt y-is in (
      rw (← c.decreases, c.one_less-below.ensures) falls,
      (
        record {
          shaped = W.shaped;
          grammar = W.grammar;
          holds = W.holds;
          holds_choices = W.holds_choices;
          symbol = subst (IsSymbol W.grammar) (sym y-is) (R.declared c.loop-k.k lt);
        },
        writes_stays (rule_writes c.loop-k.tokens (Step.Fits _) x c.loop-k.invariant.0),
      ),
    )

pub returns-in_default-expand : goal.returns-in_default-expand
returns-in_default-expand t c =
    let i = c.choose-chosen.result.rule in
    let x = subst (λ (z : Step). PutsRule (at_mark i c.loop-k.k c.mark_of-mark.result) c.loop-k.at c.loop-k.listing c.put_rule.new.listing z) c.in-Fits.is c.put_rule.ensures in record {
      stays_in = tt;
      expands = λ g h H d.
          let n = nonterminal H.formed c.args.x c.if-x-lt64.false d in
          let q = c.choose-chosen.ensures g H n in
          let R = row_of h H c.args.depth c.args.x c.args.from.state n q.0 in
          let lt : c.loop-k.k < length (right_of g i) = omega (arith, c.loop-k-test.true, c.length_of-n.ensures.0, R.length_is) in
          let y-is = c.symbol_of-y.ensures.0 ∙ R.symbol_is c.loop-k.k lt in
          let m = sofar_marked g (omega arith) (c.loop-k.invariant.2 g h H n) x in
          let v = writes_as c.in_default-expand.is (c.expand.ensures.expands g h H (subst (IsSymbol g) (sym y-is) (R.declared c.loop-k.k lt))) in
          node_written c.args.depth c.one_less-below.result c.args.x i _ c.args.from H n c.one_less-below.ensures q refl refl
          (full_child g R.is _ c.symbol_of-y.result lt y-is m v);
    }

pub loop-k-preserved : goal.loop-k-preserved
loop-k-preserved t c =
    let i = c.choose-chosen.result.rule in
    let x = subst (λ (z : Step). PutsRule (at_mark i c.loop-k.k c.mark_of-mark.result) c.loop-k.at c.loop-k.listing c.put_rule.new.listing z) c.in-Fits.is c.put_rule.ensures in
    let in_both = subst (λ (z : Step). StaysIn c.expand.new.tokens c.expand.new.listing z) c.in-Fits-expand.is c.expand.ensures.stays_in in (
      in_both.0,
      in_both.1,
      λ g h H n.
          let q = c.choose-chosen.ensures g H n in
          let R = row_of h H c.args.depth c.args.x c.args.from.state n q.0 in
          let lt : c.loop-k.k < length (right_of g i) = omega (arith, c.loop-k-test.true, c.length_of-n.ensures.0, R.length_is) in
          let y-is = c.symbol_of-y.ensures.0 ∙ R.symbol_is c.loop-k.k lt in
          let m = sofar_marked g (omega arith) (c.loop-k.invariant.2 g h H n) x in
          let v = writes_as c.in-Fits-expand.is (c.expand.ensures.expands g h H (subst (IsSymbol g) (sym y-is) (R.declared c.loop-k.k lt))) in
          sofar_grown g c.symbol_of-y.result lt y-is (add-one c.loop-k.k) m v,
    )

pub put_rule-requires-2 : goal.put_rule-requires-2
put_rule-requires-2 t c =
    let W = c.requires.expandable in
    let n = nonterminal W.holds_choices.formed c.args.x c.if-x-lt64.false W.symbol in
    let q = c.choose-chosen.ensures W.grammar W.holds_choices n in
    let R = row_of W.holds W.holds_choices c.args.depth c.args.x c.args.from.state n q.0 in
    record { i_bound = R.few; rules_in_bounds = c.loop-k.invariant.1 }

pub returns : goal.returns
returns t c =
    let i = c.choose-chosen.result.rule in
    let w = rule_writes c.loop-k.tokens c.put_rule-2.result c.put_rule-2.ensures c.loop-k.invariant.0 in record {
      stays_in = writes_stays w;
      expands = λ g h H d.
          let n = nonterminal H.formed c.args.x c.if-x-lt64.false d in
          let q = c.choose-chosen.ensures g H n in
          let R = row_of h H c.args.depth c.args.x c.args.from.state n q.0 in
          node_written c.args.depth c.one_less-below.result c.args.x i _ c.args.from H n c.one_less-below.ensures q refl refl
          (sofar_end g R.is c.length_of-n.result c.put_rule-2.result c.loop-k.auto.k-end c.loop-k-test.false (c.length_of-n.ensures.0 ∙ R.length_is) (c.mark_of-mark.ensures.0 ∙ R.mark_is)
          (omega (arith, c.mark_of-mark.ensures.0, R.mark_in, c.length_of-n.ensures.0, R.length_is)) (c.loop-k.invariant.2 g h H n) c.put_rule-2.ensures);
    }
